use Rattle.std.proofs.Common.{◌≡◌}
use Rattle.sha256.specs.Hash.{hash_value}
use Rattle.sha256.specs.Pad.{pad}
use Rattle.sha256.proofs.hash.hash.Given as goal

abbrev pub invariant-loop-k : goal.invariant-loop-k
invariant-loop-k l = l.h ≡ hash_value (pad l.m) l.k
