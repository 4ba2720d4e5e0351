use Rattle.std.proofs.Common.{◌∙◌}
use Rattle.octets.proofs.Parts.{pointwise_same}
use Rattle.octets.proofs.part.same.Goals as goal

pub returns : goal.returns
returns c = c.eq.ensures ∙ pointwise_same c.args.a.now c.args.b.now
