-- What std says of a fold over every byte and of a text's beginning, in the words of Forms.
use Rattle.std.proofs.Common.{◌≡◌, ℕ, Bool, ◌&&◌, List, [], ◌∷◌, ◌++◌, length, take, eqb, arith, refl, sym}
use Rattle.std.proofs.lemmas.Bool.Decides.{nat_tests}
use Rattle.std.specs.Cmp.Lexicographic.{pointwise}
use mathlib.Core.Bool.{and_assoc, and-true}
use Rattle.octets.specs.Lists.{every}
use Rattle.octets.specs.Parts.{same}
use Rattle.forms.specs.Limits.{redirect_prefix}
use Rattle.forms.specs.Forms.{begins}

-- one more byte
pub every_push : (q : ℕ → Bool) (l : List ℕ) (x : ℕ) → every q (l ++ (x ∷ [])) ≡ (every q l && q x)
every_push q [] x = and-true (q x)
every_push q (y ∷ ys) x = rw (every_push q ys x) (sym (and_assoc (q y) (every q ys) (q x)))

eqb_sym : (x y : ℕ) → eqb x y ≡ eqb y x
eqb_sym x y = grind (arith, nat_tests)

pointwise_same : (p s : List ℕ) → pointwise eqb p s ≡ same s p
unfolding same
pointwise_same [] [] = refl
pointwise_same [] (y ∷ s) = refl
pointwise_same (x ∷ p) [] = refl
pointwise_same (x ∷ p) (y ∷ s) = rw (pointwise_same p s, eqb_sym x y)

pub starts_so : (s : List ℕ) → pointwise eqb (0x68 ∷ 0x74 ∷ 0x74 ∷ 0x70 ∷ 0x73 ∷ 0x3A ∷ 0x2F ∷ 0x2F ∷ []) (take 8 s) ≡ begins redirect_prefix s
unfolding redirect_prefix
starts_so s = pointwise_same redirect_prefix (take (length redirect_prefix) s)
