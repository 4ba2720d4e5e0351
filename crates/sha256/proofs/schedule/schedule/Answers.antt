use Rattle.std.proofs.Common.{arith, length-set, rules, sym, take_all, ◌∙◌, ◌≡◌}
use Rattle.sha256.specs.Schedule.{words, schedule}
use Rattle.sha256.proofs.Words.{grow_words}
use Rattle.sha256.proofs.schedule.schedule.Goals as goal

pub loop-t-init : goal.loop-t-init
unfolding words
loop-t-init c = (search rules, c.first_words-w.ensures)

pub loop-t-preserved : goal.loop-t-preserved
loop-t-preserved c =
    let i = c.loop-t in
    (simp length-set i.invariant.0, rw c.next.ensures (grow_words _ i.w i.t (omega arith) (omega arith) i.invariant.1))

pub returns : goal.returns
unfolding schedule
returns c = let i = c.loop-t in let e : i.t ≡ 64 = omega arith in sym (take_all 64 i.w (omega arith)) ∙ (rw e at i.invariant.1)
