use Rattle.std.proofs.Common.{List, ap, arith, length, length-take-le, ℕ, ◌++◌, ◌∙◌}
use Rattle.wire.proofs.Answers.{put_front}
use Rattle.frames.proofs.answer.Bytes.append.Goals as goal

pub returns : goal.returns
returns c =
    let b = c.self.inside in
    let n = length-take-le b.count b.buffer (omega arith) in
    let m = ap length c.self.view_is in
    put_front b.buffer b.count c.args.xs.now _ (omega arith) c.put.ensures ∙ ap (λ (v : List ℕ). v ++ c.args.xs.now) c.self.view_is
