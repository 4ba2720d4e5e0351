use Rattle.sha256.specs.Word.{Σ1}
use Rattle.sha256.proofs.word.big1.Goals as goal

pub returns : goal.returns
unfolding Σ1
returns c = cc
