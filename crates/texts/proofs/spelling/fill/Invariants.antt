use Rattle.std.proofs.Common.{ℕ, ◌<◌, get_or}
use Rattle.texts.proofs.spelling.fill.Given as goal

abbrev pub invariant-loop-i : goal.invariant-loop-i
invariant-loop-i g l = (k : ℕ) → k < l.i → goal.F-post g l.rule k (get_or l.out k 0)
