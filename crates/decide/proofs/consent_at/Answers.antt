use Rattle.std.proofs.Common.{arith}
use Rattle.desk.proofs.Written.{consent_written}
use Rattle.ledger.proofs.Records.{lent_within}
use Rattle.decide.proofs.consent_at.Goals as goal

pub overflow_add-a : goal.overflow_add-a
overflow_add-a c = omega (arith, lent_within c.args.ledger.now c.args.k c.address-a.result c.requires.0 (omega arith) c.address-a.ensures)

pub slice_bounds-redirect_length-end : goal.slice_bounds-redirect_length-end
slice_bounds-redirect_length-end c = lent_within c.args.ledger.now c.args.k c.address-a.result c.requires.0 (omega arith) c.address-a.ensures

pub overflow_add-a-2 : goal.overflow_add-a-2
overflow_add-a-2 c = omega (arith, lent_within c.args.ledger.now c.args.k c.address-a.result c.requires.0 (omega arith) c.address-a.ensures)

pub slice_bounds-hand_out-end : goal.slice_bounds-hand_out-end
slice_bounds-hand_out-end c = lent_within c.args.ledger.now c.args.k c.address-a.result c.requires.0 (omega arith) c.address-a.ensures

pub overflow_add-a-3 : goal.overflow_add-a-3
overflow_add-a-3 c = omega (arith, lent_within c.args.ledger.now c.args.k c.address-a.result c.requires.0 (omega arith) c.address-a.ensures)

pub slice_bounds-consent_record-end : goal.slice_bounds-consent_record-end
slice_bounds-consent_record-end c = lent_within c.args.ledger.now c.args.k c.address-a.result c.requires.0 (omega arith) c.address-a.ensures

pub returns : goal.returns
returns c =
    consent_written c.args.ledger.now c.args.time c.args.k c.address-a.result c.requires.0 (omega arith) c.address-a.ensures c.args.holder c.args.fresh.now c.args.out.now _ _ _ _ _ _ c.redirect_length-length.ensures c.hand_out.ensures c.consent_record-answer.ensures.0 c.consent_record-answer.ensures.1 c.set_clock.ensures c.with.ensures
