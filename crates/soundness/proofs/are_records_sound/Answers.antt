use Rattle.std.proofs.Common.{rules}
use Rattle.ledger.specs.Sound.{record_sound}
use Rattle.octets.proofs.Lists.{every_all}
use Rattle.soundness.proofs.are_records_sound.Goals as goal

pub returns : goal.returns
returns c = every_all (record_sound c.args.next) c.args.records.now c.all.result (search rules)
