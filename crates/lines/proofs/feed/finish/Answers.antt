use Rattle.std.proofs.Common.{sym, ◌∙◌}
use Rattle.lines.proofs.Going.{unfitting, unbegun, roomless, finished}
use Rattle.lines.specs.Turn.{held}
use Rattle.lines.proofs.feed.finish.Goals.{then-not-fits-via-then-not-fits, then-not-fits-via-else-not-fits+then-s-eq0, then-not-fits-via-else-not-fits+else-s-eq0+then-out-lt-LINE}
use Rattle.lines.proofs.feed.finish.Goals as goal

pub returns-then-not-fits-clause-out_after : goal.returns-then-not-fits-clause-out_after
returns-then-not-fits-clause-out_after c =
    let kept = held c.args.s c.args.line.now c.args.ledger.now c.args.table.now in
    let n = c.nothing.ensures in
    elim c.then-not-fits.branch [
      | then-not-fits-via-then-not-fits w ↦ unfitting kept c.args.out.now n.0 n.1.0 n.1.1 (sym c.fits.ensures ∙ w.if-not-fits.true)
      | then-not-fits-via-else-not-fits+then-s-eq0 w ↦ unbegun kept c.args.out.now n.0 n.1.0 n.1.1 w.if-s-eq0.true
      | then-not-fits-via-else-not-fits+else-s-eq0+then-out-lt-LINE w ↦ roomless kept c.args.out.now n.0 n.1.0 n.1.1 w.if-out-lt-LINE.true
    ]

pub returns : goal.returns
returns c =
    let kept = held c.args.s c.args.line.now c.args.ledger.now c.args.table.now in
    let u = finished kept c.args.out.now (sym c.fits.ensures ∙ c.if-not-fits.false) c.if-s-eq0.false c.if-out-lt-LINE.false c.turn-filled.ensures in
    record { out_after = u.0; filled_in_bounds = u.1 }
