use Rattle.std.proofs.Common.{refl, rules, ◌∙◌}
use Rattle.description.proofs.Behind.{then, at_front}
use Rattle.description.proofs.Lengths.{live_pieces}
use Rattle.description.specs.Description.{telling}
use Rattle.description.proofs.spell.Goals as goal

pub returns : goal.returns
returns c =
    let a = c.args in
    let t =
    at_front refl
    (then c.text.ensures
    (then c.hex.ensures.wrote
    (then c.text-2.ensures
    (then c.decimal.ensures.wrote
    (then c.text-3.ensures
    (then c.decimal-2.ensures.wrote
    (then c.text-4.ensures (then c.scope.ensures.wrote (then c.text-5.ensures (then c.base64url.ensures.wrote c.text-6.ensures))))))))))
    in
    rw (live_pieces (telling a.d)) (t.0, search rules ∙ t.1)
