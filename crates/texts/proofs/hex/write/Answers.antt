use Rattle.std.proofs.Common.{rules, sym, ◌≡◌, ◌∙◌}
use Rattle.texts.specs.Hex.{glyph_at}
use Rattle.texts.proofs.Hexes.{length_hex, hex_at}
use Rattle.texts.proofs.hex.write.Goals as goal

pub returns : goal.returns
returns c =
    let b = c.args.bytes.now in
    let e = length_hex b in
    (sym e, c.lay.ensures _ record { sized = e; tells = λ j x h k. let f : x ≡ glyph_at b j = search rules in f ∙ sym (hex_at b j h) })
