use Rattle.std.proofs.Common.{ap, arith, length, length-append, ◌≤◌, ◌∙◌}
use Rattle.wire.proofs.Answers.{answer_length}
use Rattle.frames.proofs.Answers.{part_most, redirected}
use Rattle.frames.proofs.answer.Bytes.decided.Goals as goal

pub append-requires : goal.append-requires
append-requires c = let n = ap length c.answer-out.ensures ∙ answer_length c.args.d.answer in omega arith

pub append-requires-2 : goal.append-requires-2
append-requires-2 c =
    let n = ap length c.answer-out.ensures ∙ answer_length c.args.d.answer in
    let m = ap length c.append.ensures ∙ length-append c.answer-out.result _ in
    let h : length c.cut.result.now ≤ length c.args.redirect.now = part_most c.args.redirect.now 0 c.from.result _ c.cut.ensures in
    omega arith

pub returns : goal.returns
returns c = redirected _ _ c.answer-out.ensures c.append.ensures c.from.ensures c.cut.ensures c.append-2.ensures
