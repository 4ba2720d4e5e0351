use Rattle.std.proofs.Common.{◌∙◌}
use Rattle.octets.proofs.Numbers.{digits64}
use Rattle.octets.proofs.number.U64Number.bytes.Goals as goal

pub returns : goal.returns
returns c = c.to_be_bytes.ensures ∙ digits64 c.args.self c.ranges.self.fits
