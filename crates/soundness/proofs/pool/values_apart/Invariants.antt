use Rattle.std.proofs.Common.{drop, false, ◌+◌, ◌≡◌}
use Rattle.ledger.specs.Sound.{meets}
use Rattle.octets.specs.Lists.{some, apart}
use Rattle.soundness.proofs.pool.values_apart.Given as goal

abbrev pub invariant-loop-s : goal.invariant-loop-s
invariant-loop-s l = record {
  unclashed : l.clash ≡ false;
  left : some (meets l.held.r.now) (drop (l.i + 1) l.records) ≡ some (meets l.held.r.now) (drop (l.i + 1 + l.s-index) l.records);
}

abbrev pub invariant-search : goal.invariant-search
invariant-search l = record { unclashed : l.clash ≡ false; left : apart meets l.records ≡ apart meets (drop l.i l.records) }
