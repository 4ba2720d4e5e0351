use Rattle.std.proofs.Common.{arith}
use Rattle.lines.proofs.Feeding.{of_fits}
use Rattle.lines.proofs.Turning.{turned_end, turned_full, turned_more}
use Rattle.lines.specs.Turn.{held}
use Rattle.lines.proofs.feed.turn.Goals as goal

pub returns-then-c-eq-END : goal.returns-then-c-eq-END
returns-then-c-eq-END c =
    let kept = held c.args.state.now c.args.line.now c.args.ledger.now c.args.table.now in
    turned_end kept c.args.c c.args.filled c.args.out.now c.if-c-eq-END.true c.end_line.ensures

pub returns-then-state-ge-KEPT : goal.returns-then-state-ge-KEPT
returns-then-state-ge-KEPT c =
    let kept = held c.args.state.now c.args.line.now c.args.ledger.now c.args.table.now in
    turned_full kept c.args.c c.args.filled c.args.out.now c.if-c-eq-END.false c.if-state-ge-KEPT.true

pub bounds-line-state : goal.bounds-line-state
bounds-line-state c =
    let kept = held c.args.state.now c.args.line.now c.args.ledger.now c.args.table.now in
    let e = (of_fits kept c.requires.0).line in
    omega arith

pub returns : goal.returns
returns c =
    let kept = held c.args.state.now c.args.line.now c.args.ledger.now c.args.table.now in
    turned_more kept c.args.c c.args.filled c.args.out.now c.if-c-eq-END.false c.if-state-ge-KEPT.false
