use Rattle.std.proofs.Common.{arith, rules, sym, ◌≡◌, ◌∙◌}
use Rattle.octets.specs.Parts.{put}
use Rattle.texts.proofs.Hexes.{length_decoded, decoded_at}
use Rattle.texts.specs.Hex.{decoded, pair_at}
use Rattle.texts.proofs.hex.read.Goals as goal

pub returns : goal.returns
unfolding put
returns c =
    let t = c.args.text.now in
    c.lay.ensures (decoded t) record { sized = length_decoded t; tells = λ i x h k. let f : x ≡ pair_at t i = search rules in f ∙ sym (decoded_at t i (omega arith)) }
