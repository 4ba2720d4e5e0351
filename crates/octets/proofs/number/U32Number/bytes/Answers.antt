use Rattle.std.proofs.Common.{◌∙◌}
use Rattle.octets.proofs.Numbers.{digits32}
use Rattle.octets.proofs.number.U32Number.bytes.Goals as goal

pub returns : goal.returns
returns c = c.to_be_bytes.ensures ∙ digits32 c.args.self c.ranges.self.fits
