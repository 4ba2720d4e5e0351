use Rattle.std.proofs.Common.{rules, refl, ◌≡◌, ap, sym, ◌∙◌, ◌&&◌}
use Rattle.octets.specs.Lists.{every}
use Rattle.forms.proofs.Passing.{every_push}
use Rattle.std.proofs.lemmas.Fn.{fold_over, slice_gives, fronts}
use Rattle.forms.proofs.class.all.Goals as goal

pub returns : goal.returns
returns g c q d =
    fold_over fronts (λ y. y.now) _ (λ ys b. b ≡ every q ys) _
    (λ ys a x b f' j k. let e : b ≡ (a && q x.now) = search rules in (e ∙ ap (λ t. t && q x.now) j ∙ sym (every_push q ys x.now), search rules))
    _ _ _ _ (slice_gives _) refl c.fold.ensures.ran
    ∙ ap (every q) c.iter.ensures.rest
