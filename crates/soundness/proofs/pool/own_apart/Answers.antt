use Rattle.std.proofs.Common.{rules}
use Rattle.ledger.specs.Sound.{own_apart}
use Rattle.octets.proofs.Lists.{every_all}
use Rattle.soundness.proofs.pool.own_apart.Goals as goal

pub returns : goal.returns
returns c = every_all own_apart c.args.records.now c.all.result (search rules)
