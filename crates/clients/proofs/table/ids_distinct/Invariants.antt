use Rattle.std.proofs.Common.{drop, false, ◌+◌, ◌≡◌}
use Rattle.clients.specs.Sound.{same_id}
use Rattle.octets.specs.Lists.{some, apart}
use Rattle.clients.proofs.table.ids_distinct.Given as goal

abbrev pub invariant-loop-d : goal.invariant-loop-d
invariant-loop-d l = (l.clash ≡ false) × (some (same_id l.c) (drop (l.i + 1) l.entries) ≡ some (same_id l.c) (drop (l.i + 1 + l.d-index) l.entries))

abbrev pub invariant-search : goal.invariant-search
invariant-search l = (l.clash ≡ false) × (apart same_id l.entries ≡ apart same_id (drop l.i l.entries))
