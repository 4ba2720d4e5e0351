use Rattle.std.proofs.Common.{drop, false, ◌+◌, ◌≡◌}
use Rattle.ledger.specs.Sound.{same_grant}
use Rattle.octets.specs.Lists.{some, apart}
use Rattle.soundness.proofs.pool.grants_apart.Given as goal

abbrev pub invariant-loop-s : goal.invariant-loop-s
invariant-loop-s l = record {
  unclashed : l.clash ≡ false;
  left : some (same_grant l.r) (drop (l.i + 1) l.records) ≡ some (same_grant l.r) (drop (l.i + 1 + l.s-index) l.records);
}

abbrev pub invariant-search : goal.invariant-search
invariant-search l = record { unclashed : l.clash ≡ false; left : apart same_grant l.records ≡ apart same_grant (drop l.i l.records) }
