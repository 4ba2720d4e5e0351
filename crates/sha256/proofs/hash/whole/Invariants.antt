use Rattle.std.proofs.Common.{◌≡◌}
use Rattle.sha256.specs.Hash.{hash_value}
use Rattle.sha256.specs.Pad.{pad}
use Rattle.sha256.proofs.hash.whole.Given as goal

abbrev pub invariant-loop-b : goal.invariant-loop-b
invariant-loop-b l = l.h ≡ hash_value (pad l.m) l.b-index
