use Rattle.std.proofs.Common.{arith, rules, sym, ◌≡◌, ◌∙◌}
use Rattle.texts.specs.Base64url.{character_at}
use Rattle.texts.proofs.Letters.{length_base64url, base64url_at}
use Rattle.texts.proofs.base64url.write.Goals as goal

pub returns : goal.returns
returns c =
    let b = c.args.bytes.now in
    let e = sym (c.characters_of-n.ensures ∙ sym (length_base64url b)) in
    (sym e, c.lay.ensures _ record { sized = e; tells = λ j x h k. let f : x ≡ character_at b j = search rules in f ∙ sym (base64url_at b j (omega arith)) })
