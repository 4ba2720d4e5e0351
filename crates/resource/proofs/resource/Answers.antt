use Rattle.desk.specs.Resource.{resource}
use Rattle.resource.proofs.resource.Goals as goal

pub returns : goal.returns
unfolding resource
returns c = cc
