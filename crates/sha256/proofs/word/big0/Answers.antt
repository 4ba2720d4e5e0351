use Rattle.sha256.specs.Word.{Σ0}
use Rattle.sha256.proofs.word.big0.Goals as goal

pub returns : goal.returns
unfolding Σ0
returns c = cc
