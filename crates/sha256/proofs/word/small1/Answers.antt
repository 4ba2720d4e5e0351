use Rattle.sha256.specs.Word.{σ1}
use Rattle.sha256.proofs.word.small1.Goals as goal

pub returns : goal.returns
unfolding σ1
returns c = cc
