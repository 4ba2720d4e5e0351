use Rattle.std.proofs.Common.{arith}
use Rattle.desk.proofs.Written.{end_written}
use Rattle.ledger.proofs.Records.{lent_within}
use Rattle.token.proofs.end_at.Goals as goal

pub overflow_add-a : goal.overflow_add-a
overflow_add-a c =
    omega (arith, lent_within c.args.ledger.now c.args.k c.address-a.result c.requires (omega arith) c.address-a.ensures)

pub slice_bounds-clear-end : goal.slice_bounds-clear-end
slice_bounds-clear-end c =
    lent_within c.args.ledger.now c.args.k c.address-a.result c.requires (omega arith) c.address-a.ensures

pub returns : goal.returns
returns c =
    end_written c.args.ledger.now c.args.time c.args.k c.address-a.result c.requires (omega arith) c.address-a.ensures _ _ c.clear.ensures c.set_clock.ensures
