use Rattle.std.proofs.Common.{refl, replicate}
use Rattle.wire.proofs.Answers.{answered}
use Rattle.wire.specs.Answers.{answer_size}
use Rattle.wire.proofs.answer.bytes.Goals as goal

pub returns : goal.returns
returns c =
    answered _ (replicate answer_size 0) refl c.put.ensures c.bytes.ensures c.put-2.ensures c.bytes-2.ensures c.put-3.ensures c.bytes-3.ensures
    c.put-4.ensures c.bytes-4.ensures c.put-5.ensures
