use Rattle.std.proofs.Common.{arith}
use Rattle.perdigolh.proofs.Reading.{sofar_none, sofar_more, runs_end, front_end, front_out}
use Rattle.perdigolh.proofs.Desk.run.Goals as goal

pub loop-init : goal.loop-init
loop-init g c = sofar_none _ _ _ (omega arith)

pub loop-preserved : goal.loop-preserved
loop-preserved g c =
    let e = c.in_ok-serve_some.ensures in
    let i = c.in-Some.is in
    sofar_more _ _ _ _ _ _ c.loop.invariant _ _ (rw i at e.leaves_as) _ _ (rw i at e.read) (rw i at e.written)

pub returns-in_default : goal.returns-in_default
returns-in_default g c =
    let e = c.in_ok-serve_some.ensures in
    let i = c.in_default.is in
    let t = rw i at e.at_end in
    let r = runs_end _ _ _ _ _ _ c.loop.invariant _ (rw i at e.ends_as) _ _ t.0 (rw i at e.last) in
    record { runs_as = λ x. r.runs; runs_on = λ x. r; at_end = λ x k. t.1 (omega arith); front = front_end _ _ _ _ _ _ c.loop.invariant _ _ _ (λ k. omega arith) _ _ e.front }

pub returns-in_err-serve_some-clause-front : goal.returns-in_err-serve_some-clause-front
returns-in_err-serve_some-clause-front g c = front_end _ _ _ _ _ _ c.loop.invariant _ _ _ (λ k. omega arith) _ _ c.serve_some.ensures.front

pub returns-clause-front : goal.returns-clause-front
returns-clause-front g c = front_out _ _ _ _ _ _ c.loop.invariant _
