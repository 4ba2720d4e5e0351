use Rattle.std.proofs.Common.{◌≡◌, ℕ, Bool, true, false, cond, refl, ap, ◌∙◌, Some, None}
use Rattle.std.specs.Bool.{then_some}
use Rattle.desk.specs.Tests.{scope_decision}
use Rattle.desk.proofs.check.granted.Goals as goal

some_if : (b : Bool) (n : ℕ) → then_some b n ≡ cond b (Some n) None
some_if true n = refl
some_if false n = refl

pub returns : goal.returns
unfolding scope_decision
returns c = c.then_some.ensures ∙ ap (λ (b : Bool). then_some b c.args.asked) c.fits.ensures ∙ some_if _ _
