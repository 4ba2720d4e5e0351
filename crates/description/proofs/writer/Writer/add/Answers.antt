use Rattle.std.proofs.Common.{arith, sym, ◌-◌, ◌∙◌}
use Rattle.description.proofs.Behind.{wrote_none, then}
use Rattle.description.proofs.Names.{added_clear, added_set, first_name, later_name}
use Rattle.description.specs.Scope.{scope_name}
use Rattle.description.proofs.writer.Writer.add.Goals as goal
use Rattle.description.proofs.writer.Writer.add.Goals.{then-self-from, else-self-from}

pub returns-then-not-is_set : goal.returns-then-not-is_set
returns-then-not-is_set c = rw (added_clear _ _ _ (sym c.is_set.ensures ∙ c.if-not-is_set.true)) (wrote_none _)

pub returns : goal.returns
returns c =
    let a = c.args in
    let n = a.self.now.at - a.from in
    rw (added_set a.scope n a.i (sym c.is_set.ensures ∙ c.if-not-is_set.false))
    (elim c.if-self-from.branch [
      | then-self-from w ↦ rw (later_name n (scope_name a.i) (λ e. w.if-self-from.true (omega arith))) (then w.text.ensures (rw w.self-is at c.name.ensures))
      | else-self-from w ↦ rw (first_name n (scope_name a.i) (omega (arith, w.if-self-from.false))) (rw w.self-is at c.name.ensures)
    ])
