-- Texts one behind the other are told apart: by their length, or by a character that the first does not have.
use Prim.Native.Nat.{ℕ}
use native.Mathlib.Omega.{arith}
use mathlib.Core.Path.{◌≡◌, refl, sym, ap, ap₂, ◌∙◌}
use mathlib.Core.Bool.{Bool, true, false, true≢false}
use mathlib.Core.List.{List, [], ◌∷◌, ◌++◌}
use lib.ListN.{length, get_or, drop}
use Rattle.octets.specs.Lists.{every}
use Rattle.octets.proofs.Tests.{both}

head_same : {x y : ℕ} {xs ys : List ℕ} → x ∷ xs ≡ y ∷ ys → x ≡ y
head_same e = ap (λ (l : List ℕ). get_or l 0 0) e

tail_same : {x y : ℕ} {xs ys : List ℕ} → x ∷ xs ≡ y ∷ ys → xs ≡ ys
tail_same e = ap (drop 1) e

pub by_length : (xs ys s t : List ℕ) → length xs ≡ length ys → xs ++ s ≡ ys ++ t → (xs ≡ ys) × (s ≡ t)
by_length [] [] s t n e = (refl, e)
by_length [] (y ∷ ys) s t n e = absurd (omega arith)
by_length (x ∷ xs) [] s t n e = absurd (omega arith)
by_length (x ∷ xs) (y ∷ ys) s t n e =
    let r = by_length xs ys s t (omega arith) (tail_same e) in
    (ap₂ (λ (a : ℕ) (l : List ℕ). a ∷ l) (head_same e) r.0, r.1)

-- the characters of both pass a test that the one behind each does not
pub by_end : (q : ℕ → Bool) (xs ys : List ℕ) (c d : ℕ) (s t : List ℕ) → every q xs ≡ true → every q ys ≡ true → q c ≡ false → q d ≡ false
    → xs ++ (c ∷ s) ≡ ys ++ (d ∷ t) → (xs ≡ ys) × (s ≡ t)
by_end q [] [] c d s t p r f g e = (refl, tail_same e)
by_end q [] (y ∷ ys) c d s t p r f g e = absurd (true≢false (sym (both (q y) (every q ys) r).0 ∙ ap q (sym (head_same e)) ∙ f))
by_end q (x ∷ xs) [] c d s t p r f g e = absurd (true≢false (sym (both (q x) (every q xs) p).0 ∙ ap q (head_same e) ∙ g))
by_end q (x ∷ xs) (y ∷ ys) c d s t p r f g e =
    let b = by_end q xs ys c d s t (both (q x) (every q xs) p).1 (both (q y) (every q ys) r).1 f g (tail_same e) in
    (ap₂ (λ (a : ℕ) (l : List ℕ). a ∷ l) (head_same e) b.0, b.1)
