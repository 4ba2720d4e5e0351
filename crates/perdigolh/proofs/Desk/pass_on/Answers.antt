use Rattle.std.proofs.Common.{◌≡◌, ◌-◌, ◌<◌, arith, length}
use Rattle.perdigolh.proofs.Passing.{going_first, going_on, going_end, going_begun, none_left, no_call}
use Rattle.perdigolh.proofs.Desk.pass_on.Goals as goal

pub loop-init : goal.loop-init
loop-init g c = going_first _ _ _ _ (omega arith) (omega arith)

pub loop-preserved : goal.loop-preserved
loop-preserved g c =
    let l = c.loop in
    let p = c.pass in
    let k : 0 < length l.rest.now = grind arith in
    going_on _ _ _ _ _ _ _ _ (omega arith) k l.invariant _ _ p.ensures.out_after c.in_ok-taken.ensures.taken _ c.in_ok-taken.ensures.written

pub returns-then-is_empty : goal.returns-then-is_empty
returns-then-is_empty g c =
    let l = c.loop in
    let z : length l.rest.now ≡ 0 = grind arith in
    let e = going_end _ _ _ _ _ _ _ (none_left _ _ _ _ z) l.invariant in
    record { leaves_as = e.0; written = e.1; front = e.2 }

pub returns-after-loop : goal.returns-after-loop
returns-after-loop g c =
    let l = c.loop in
    let z : length c.args.chunk.now - l.counter ≡ 0 = omega arith in
    let e = going_end _ _ _ _ _ _ _ (no_call _ _ _ _ z) l.invariant in
    record { leaves_as = e.0; written = e.1; front = e.2 }

pub returns-in_err-taken-clause-front : goal.returns-in_err-taken-clause-front
returns-in_err-taken-clause-front g c =
    let l = c.loop in
    let k : 0 < length l.rest.now = grind arith in
    going_begun _ _ _ _ _ _ _ (omega arith) k l.invariant _ c.pass.ensures.front
