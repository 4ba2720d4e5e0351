use Rattle.std.proofs.Common.{rules, arith, sym, ext_get_or, ◌≡◌, ◌<◌, ◌∙◌, get_or}
use Rattle.octets.proofs.Tabulate.{length_tabulate, get_d_tabulate}
use Rattle.vectors.specs.Messages.{pattern_at, pattern}
use Rattle.vectors.proofs.messages.pattern.Goals as goal

pub returns : goal.returns
unfolding pattern
returns c =
    let made = c.from_fn.ensures.items in
    ext_get_or 0 _ _ (made.long ∙ sym (length_tabulate pattern_at 130))
    (λ i h.
    let k : i < 130 = omega (arith, made.long) in
    let called = made.at i 0 k in
    let e : get_or c.from_fn.result i 0 ≡ pattern_at i = search rules in
    e ∙ sym (get_d_tabulate pattern_at 0 130 i k))
