use Rattle.ledger.specs.Write.{free}
use Rattle.decide.proofs.decline_record.Goals as goal

pub returns : goal.returns
unfolding free
returns c = (cc, cc)
