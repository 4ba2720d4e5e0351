use Rattle.std.proofs.Common.{rules}
use Rattle.octets.proofs.Lists.{every_all}
use Rattle.clients.specs.Sound.{sound_record}
use Rattle.clients.proofs.table.sound_records.Goals as goal

pub returns : goal.returns
returns c = every_all sound_record c.args.entries.now c.all.result (search rules)
