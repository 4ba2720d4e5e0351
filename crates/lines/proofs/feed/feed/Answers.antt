use Rattle.std.proofs.Common.{sym, ◌∙◌}
use Rattle.lines.proofs.Feeding.{to_fits}
use Rattle.lines.proofs.Going.{going_none, going_more, going_all, going_full, unfed}
use Rattle.lines.specs.Turn.{held}
use Rattle.lines.proofs.feed.feed.Goals as goal

pub returns-then-not-fits-clause-out_after : goal.returns-then-not-fits-clause-out_after
returns-then-not-fits-clause-out_after c =
    let kept = held c.args.s c.args.line.now c.args.ledger.now c.args.table.now in
    let n = c.nothing.ensures in
    unfed kept c.args.out.now n.0 n.1.0 n.1.1 c.args.input.now (sym c.fits.ensures ∙ c.if-not-fits.true)

pub loop-taken-init : goal.loop-taken-init
loop-taken-init c =
    let kept = held c.args.s c.args.line.now c.args.ledger.now c.args.table.now in
    going_none kept c.args.out.now c.args.input.now (sym c.fits.ensures ∙ c.if-not-fits.false)

pub turn-filled-requires : goal.turn-filled-requires
turn-filled-requires c = (to_fits _ c.loop-taken.invariant.fit, c.if-out-filled.false)

pub loop-taken-preserved : goal.loop-taken-preserved
loop-taken-preserved c = going_more _ _ _ _ _ _ _ c.loop-taken.invariant c.loop-taken-test.true c.if-out-filled.false c.turn-filled.ensures

pub returns-then-out-filled-clause-out_after : goal.returns-then-out-filled-clause-out_after
returns-then-out-filled-clause-out_after c = going_full _ _ _ _ _ _ _ c.loop-taken.invariant c.if-out-filled.true

pub returns-clause-out_after : goal.returns-clause-out_after
returns-clause-out_after c = going_all _ _ _ _ _ _ _ c.loop-taken.invariant c.loop-taken-test.false
