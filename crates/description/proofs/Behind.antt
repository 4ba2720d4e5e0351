-- Texts that are laid over an output one behind the other are laid as one text.
use Prim.Native.Nat.{ℕ, zero, suc, ◌+◌}
use native.Mathlib.Omega.{arith}
use mathlib.Core.Path.{◌≡◌, refl, sym, ap, ◌∙◌}
use mathlib.Core.List.{List, [], ◌∷◌, ◌++◌}
use lib.ListN.{length, length-append}
use Rattle.octets.specs.Parts.{laid, put}
use Rattle.octets.proofs.Parts.{put_end}
use Rattle.description.specs.Writer.{Wrote}
use Rattle.description.specs.declared.writer.Writer.{Writer}

put_nil : (a : ℕ) (xs : List ℕ) → put [] a xs ≡ []
put_nil a xs = put_end [] a xs (omega arith)

laid_none : (l : List ℕ) → laid [] l ≡ l
unfolding laid
laid_none [] = refl
laid_none (y ∷ l) = refl

laid_behind : (l xs ys : List ℕ) → put (laid xs l) (length xs) ys ≡ laid (xs ++ ys) l
unfolding put laid
laid_behind l [] ys = ap (λ (t : List ℕ). put t 0 ys) (laid_none l)
laid_behind [] (x ∷ xs) ys = put_nil (length (x ∷ xs)) ys
laid_behind (y ∷ l) (x ∷ xs) ys = ap (λ (t : List ℕ). x ∷ t) (laid_behind l xs ys)

pub put_append : (l : List ℕ) (a : ℕ) (xs ys : List ℕ) → put (put l a xs) (a + length xs) ys ≡ put l a (xs ++ ys)
unfolding put
put_append [] a xs ys = rw (put_nil a xs, put_nil a (xs ++ ys)) (put_nil (a + length xs) ys)
put_append (y ∷ l) zero xs ys = let e : 0 + length xs ≡ length xs = omega arith in rw e (laid_behind (y ∷ l) xs ys)
put_append (y ∷ l) (suc a) xs ys = let e : suc a + length xs ≡ suc (a + length xs) = omega arith in rw e (ap (λ (t : List ℕ). y ∷ t) (put_append l a xs ys))

pub put_none : (l : List ℕ) (a : ℕ) → put l a [] ≡ l
unfolding put
put_none [] a = put_nil a []
put_none (y ∷ l) zero = laid_none (y ∷ l)
put_none (y ∷ l) (suc a) = ap (λ (t : List ℕ). y ∷ t) (put_none l a)

-- ---- one text behind another

pub wrote_none : (v : Writer) → Wrote v v []
wrote_none v = record { same = refl; behind = omega arith; bytes = sym (put_none v.out.now v.at) }

module _ {v w x : Writer} {xs ys : List ℕ} where
  pub then : Wrote v w xs → Wrote w x ys → Wrote v x (xs ++ ys)
  then p q =
      let e = p.behind in
      let f = q.behind in
      let g = length-append xs ys in
      record {
        same = q.same ∙ p.same;
        behind = omega arith;
        bytes = q.bytes ∙ ap (λ (z : List ℕ). put z w.at ys) p.bytes ∙ ap (λ (j : ℕ). put (put v.out.now v.at xs) j ys) e ∙ put_append v.out.now v.at xs ys;
      }

pub at_front : {v w : Writer} {xs : List ℕ} → v.at ≡ 0 → Wrote v w xs → (w.at ≡ length xs) × (w.out.now ≡ put v.out.now 0 xs)
at_front {v} {w} {xs} z p = let e = p.behind in (omega arith, p.bytes ∙ ap (λ (j : ℕ). put v.out.now j xs) z)
