use Rattle.std.proofs.Common.{arith, rules, length, ◌<◌}
use Rattle.perdigolh.proofs.Bytes.{appends_kept, partly_more, partly_front, on_err}
use Rattle.perdigolh.proofs.write_whole.Goals as goal

pub loop-rest-preserved : goal.loop-rest-preserved
loop-rest-preserved g c = partly_more _ _ _ _ _ c.in_ok-n.n c.loop-rest.invariant c.in_ok-n.ensures.bound c.in_ok-n.ensures.bytes

pub returns-in-0-clause-front : goal.returns-in-0-clause-front
returns-in-0-clause-front g c =
    let k : 0 < length c.loop-rest.rest.now = grind arith in
    let p = partly_front _ _ _ _ _ c.loop-rest.invariant k (rw c.in-0.is at c.in_ok-n.ensures.bytes) in search (rules, p)

pub returns-in_err-n-clause-front : goal.returns-in_err-n-clause-front
returns-in_err-n-clause-front g c =
    let k : 0 < length c.loop-rest.rest.now = grind arith in
    on_err _ (partly_front _ _ _ _ _ c.loop-rest.invariant k (appends_kept _ _ c.in_err-n.ensures.bytes))
