use Rattle.perdigolh.proofs.Bytes.{begins_either}
use Rattle.perdigolh.proofs.hand.Goals as goal

pub returns-clause-front : goal.returns-clause-front
returns-clause-front g c = begins_either c.write_whole.result _ _ _ c.write_whole.ensures.whole c.write_whole.ensures.front
