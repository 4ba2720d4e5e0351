use Rattle.std.proofs.Common.{◌∙◌}
use Rattle.octets.proofs.Numbers.{digits16}
use Rattle.octets.proofs.number.U16Number.bytes.Goals as goal

pub returns : goal.returns
returns c = c.to_be_bytes.ensures ∙ digits16 c.args.self c.ranges.self.fits
