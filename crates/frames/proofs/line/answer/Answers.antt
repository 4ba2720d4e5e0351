use Rattle.std.proofs.Common.{arith, ◌∙◌}
use Rattle.std.proofs.lemmas.Bool.{false≢true}
use Rattle.frames.proofs.Fitting.{fitting_of, misfit_used, misfit_ledger, misfit_table, misfit_out, served_in, told}
use Rattle.frames.proofs.line.answer.Goals as goal

pub returns-in_default-clause-out_after : goal.returns-in_default-clause-out_after
returns-in_default-clause-out_after c =
    let a = c.args in
    let q = c.with.ensures in
    misfit_used a.n a.m a.ledger.now a.table.now a.out.now a.line.now (λ h. absurd (false≢true (c.in_default.ensures.fits.1 h))) q.0 q.1.0 q.1.1

pub returns-in_default-as_mut_array-clause-out_after : goal.returns-in_default-as_mut_array-clause-out_after
returns-in_default-as_mut_array-clause-out_after c =
    let a = c.args in
    let q = c.with-in_default-as_mut_array.ensures in
    misfit_ledger a.n a.m a.ledger.now a.table.now a.out.now a.line.now c.in_default-as_mut_array.ensures.cases q.0 q.1.0 q.1.1

pub returns-in_default-as_mut_array-2-clause-out_after : goal.returns-in_default-as_mut_array-2-clause-out_after
returns-in_default-as_mut_array-2-clause-out_after c =
    let a = c.args in
    let q = c.with-in_default-as_mut_array-2.ensures in
    rw c.in-Some-as_mut_array.ensures.cases.same
    (misfit_table a.n a.m a.ledger.now a.table.now a.out.now a.line.now c.in_default-as_mut_array-2.ensures.cases q.0 q.1.0 q.1.1)

pub returns-then-out-lt-LINE-clause-out_after : goal.returns-then-out-lt-LINE-clause-out_after
returns-then-out-lt-LINE-clause-out_after c =
    let a = c.args in
    let q = c.with-then-out-lt-LINE.ensures in
    rw (c.in-Some-as_mut_array.ensures.cases.same, c.in-Some-as_mut_array-2.ensures.cases.same)
    (misfit_out a.n a.m a.ledger.now a.table.now a.out.now a.line.now c.if-out-lt-LINE.true q.0 q.1.0 q.1.1)

pub returns-clause-out_after : goal.returns-clause-out_after
returns-clause-out_after c =
    let a = c.args in
    let u = c.in-Some.ensures.value in
    let l = c.in-Some-as_mut_array.ensures.cases in
    let t = c.in-Some-as_mut_array-2.ensures.cases in
    let s = c.serve_line-answer in
    let q = c.with-2.ensures in
    served_in a.n a.m a.ledger.now a.table.now a.out.now a.line.now
    (fitting_of a.n a.m a.ledger.now a.table.now a.out.now (omega arith) (omega arith) l.long t.long c.if-out-lt-LINE.false) u.0 u.1 l.same t.same
    (told _ s.result a.out.now s.ensures c.write_line-count.ensures.out_after q.0 q.1.0 (q.1.1 ∙ c.write_line-count.ensures.count_value))
