use Rattle.std.proofs.Common.{sym}
use Rattle.lines.proofs.Feeding.{of_fits, line_length}
use Rattle.lines.proofs.Turning.{told}
use Rattle.lines.specs.Turn.{held}
use Rattle.lines.proofs.feed.end_line.Goals as goal

pub slice_bounds-answer-end : goal.slice_bounds-answer-end
slice_bounds-answer-end c =
    let kept = held c.args.state.now c.args.line.now c.args.ledger.now c.args.table.now in
    sym (line_length kept (of_fits kept c.requires.0))

pub returns : goal.returns
returns c =
    let kept = held c.args.state.now c.args.line.now c.args.ledger.now c.args.table.now in
    told kept c.args.filled c.args.out.now c.requires.0 c.requires.1 c.answer-r.ensures.out_after
