use Rattle.std.proofs.Common.{◌∙◌}
use Rattle.ledger.proofs.Records.{records_cut}
use Rattle.ledger.proofs.record.records.Goals as goal

pub returns : goal.returns
returns c = rw c.from.ensures at c.as_chunks.ensures.front ∙ records_cut c.args.l.now
