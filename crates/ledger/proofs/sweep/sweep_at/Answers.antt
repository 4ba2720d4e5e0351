use Rattle.std.proofs.Common.{arith, sym, ◌∙◌}
use Rattle.ledger.proofs.Records.{lent_within, lent_out, lent_back}
use Rattle.ledger.proofs.Swept.{swept_kept, swept_freed}
use Rattle.ledger.proofs.sweep.sweep_at.Goals as goal

pub overflow_add-a : goal.overflow_add-a
overflow_add-a c =
    omega (arith, lent_within c.args.l.now c.args.k c.address-a.result c.requires (omega arith) c.address-a.ensures)

pub slice_bounds-clear-end : goal.slice_bounds-clear-end
slice_bounds-clear-end c =
    lent_within c.args.l.now c.args.k c.address-a.result c.requires (omega arith) c.address-a.ensures

pub returns-then-is_due : goal.returns-then-is_due
returns-then-is_due c =
    let a = c.args in
    lent_back a.l.now a.k c.address-a.result c.requires (omega arith) c.address-a.ensures c.clear.new.s
    ∙ swept_freed a.time a.l.now a.k _ _ c.requires
    (rw c.at.ensures at (sym c.is_due.ensures ∙ c.if-is_due.true))
    (lent_out a.l.now a.k c.address-a.result c.requires (omega arith) c.address-a.ensures)
    c.clear.ensures

pub returns-else-is_due : goal.returns-else-is_due
returns-else-is_due c =
    let a = c.args in
    swept_kept a.time a.l.now a.k (rw c.at.ensures at (sym c.is_due.ensures ∙ c.if-is_due.false))
