use Rattle.std.proofs.Common.{arith}
use Rattle.desk.proofs.Written.{push_written}
use Rattle.ledger.proofs.Records.{lent_within}
use Rattle.push.proofs.push_at.Goals as goal

pub overflow_add-a : goal.overflow_add-a
overflow_add-a c =
    omega (arith, lent_within c.args.ledger.now c.args.k c.address-a.result c.requires.0 (omega arith) c.address-a.ensures)

pub slice_bounds-push_record-end : goal.slice_bounds-push_record-end
slice_bounds-push_record-end c =
    lent_within c.args.ledger.now c.args.k c.address-a.result c.requires.0 (omega arith) c.address-a.ensures

pub returns : goal.returns
returns c =
    push_written c.args.ledger.now c.args.time c.args.k c.address-a.result c.requires.0 (omega arith) c.address-a.ensures _ _ _ _ _ _ _ _ _ _ _ c.push_record-answer.ensures.0 c.push_record-answer.ensures.1 c.set_next.ensures c.set_clock.ensures
