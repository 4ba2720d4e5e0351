use Rattle.std.proofs.Common.{arith, refl, ◌∙◌}
use Rattle.octets.proofs.Tabulate.{filled_none, filled_more}
use Rattle.sha256.proofs.Words.{chunk_word}
use Rattle.sha256.proofs.schedule.first_words.Goals as goal

pub loop-t-init : goal.loop-t-init
loop-t-init c = filled_none _ 64 _ refl

pub loop-t-preserved : goal.loop-t-preserved
loop-t-preserved c =
    let i = c.loop-t in
    filled_more _ 64 i.w i.t _ i.invariant (omega arith)
    (c.from_be_bytes.ensures ∙ chunk_word c.args.b.now c.as_chunks.result.0.now i.t c.as_chunks.ensures.front c.told-b (omega arith))
