-- Laws of the questions on a list: what a loop keeps, and what the answer says of the elements.
use Prim.Native.Nat.{ℕ, zero, suc, ◌+◌, ◌<◌}
use native.Mathlib.Numerals.{add-one}
use native.Mathlib.Omega.{arith}
use mathlib.Core.Path.{◌≡◌, refl, sym, ap, ◌∙◌}
use mathlib.Core.Bool.{Bool, true, false, not, ◌&&◌, ◌||◌, cond, false≢true, true≢false}
use mathlib.Core.List.{List, [], ◌∷◌, ◌++◌}
use lib.ListN.{length, get_or, drop, set}
use lib.Seq.{drop-cons}
use borrow.Author.Tests.{not-true}
use Rattle.octets.specs.Lists.{bit, every, some, count, place, apart}
use Rattle.std.proofs.lemmas.List.{get_or_default}
use Rattle.std.proofs.lemmas.List.Sums.{sum_by-cons}
use Rattle.std.proofs.Common.{ltb, lt-ltb, le-ltb}
use Rattle.std.specs.Prelude.{All, Any, IsTrue, ◌↔◌, position, Some, None}
use Rattle.std.specs.List.{position_or_len, count_by}
use mathlib.Core.Logic.{⊎_elim}
use Rattle.octets.proofs.Tests.{both, swap_and, false_of, lt_or_le}

-- ---- a loop over the pairs of elements

module _ {A : Type 0} (clash : A → A → Bool) (l : List A) (d : A) (i : ℕ) where
  pub apart_miss : i < length l → some (clash (get_or l i d)) (drop (i + 1) l) ≡ false → apart clash (drop i l) ≡ apart clash (drop (i + 1) l)
  apart_miss h e = let f = rw add-one at e in rw (add-one, drop-cons l i d h, f)

-- ---- what the answers say

module _ {A : Type 0} (q : A → Bool) where
  -- all pass: each one does
  pub every_at : (l : List A) (d : A) → every q l ≡ true → (i : ℕ) → i < length l → q (get_or l i d) ≡ true
  every_at [] d e i h = absurd (omega arith)
  every_at (x ∷ xs) d e zero h = (both (q x) (every q xs) e).0
  every_at (x ∷ xs) d e (suc i) h = every_at xs d (both (q x) (every q xs) e).1 i (omega arith)

  pub every_of : (l : List A) (d : A) → ((i : ℕ) → i < length l → q (get_or l i d) ≡ true) → every q l ≡ true
  every_of [] d f = refl
  every_of (x ∷ xs) d f = rw (f 0 (omega arith), every_of xs d (λ i h. f (suc i) (omega arith)))

  -- two tests pass of all where their conjunction does
  pub every_and : (p r : A → Bool) → ((x : A) → q x ≡ (p x && r x)) → (l : List A) → every q l ≡ (every p l && every r l)
  every_and p r f [] = refl
  every_and p r f (x ∷ xs) = rw (f x, every_and p r f xs) (swap_and (p x) (r x) (every p xs) (every r xs))

  -- some passes: the first is inside, passes, and none before it does
  pub place_lt : (l : List A) → some q l ≡ true → place q l < length l
  place_lt [] e = absurd (false≢true e)
  place_lt (x ∷ xs) e =
      (elim (q x) as (λ (b : Bool). (b || some q xs) ≡ true → cond b 0 (suc (place q xs)) < suc (length xs))
      [ true ↦ λ e'. omega arith | false ↦ λ e'. omega (arith, place_lt xs e') ])
      e

  pub place_some : (l : List A) → place q l < length l → some q l ≡ true
  place_some [] h = absurd (omega arith)
  place_some (x ∷ xs) h =
      (elim (q x) as (λ (b : Bool). cond b 0 (suc (place q xs)) < suc (length xs) → (b || some q xs) ≡ true)
      [ true ↦ λ h'. refl | false ↦ λ h'. place_some xs (omega arith) ])
      h

  pub place_ok : (l : List A) (d : A) → some q l ≡ true → q (get_or l (place q l) d) ≡ true
  place_ok [] d e = absurd (false≢true e)
  place_ok (x ∷ xs) d e = go (q x) refl (place_ok xs d)
    where
      go : (b : Bool) → q x ≡ b → (some q xs ≡ true → q (get_or xs (place q xs) d) ≡ true) → q (get_or (x ∷ xs) (place q (x ∷ xs)) d) ≡ true
      go true p ih = rw p p
      go false p ih = rw p (ih (rw p at e))

  pub place_first : (l : List A) (d : A) (j : ℕ) → j < place q l → q (get_or l j d) ≡ false
  place_first [] d j h = absurd (omega arith)
  place_first (x ∷ xs) d j h = go (q x) refl j h (place_first xs d)
    where
      go : (b : Bool) → q x ≡ b → (j : ℕ) → j < cond b 0 (suc (place q xs)) → ((i : ℕ) → i < place q xs → q (get_or xs i d) ≡ false) → q (get_or (x ∷ xs) j d) ≡ false
      go true p j h ih = absurd (omega arith)
      go false p zero h ih = p
      go false p (suc j) h ih = ih j (omega arith)

-- ---- at the places inside a list, whatever the default

module _ {A : Type 0} (q : A → Bool) (d : A) where
  pub some_inside : (l : List A) (j : ℕ) → j < length l → q (get_or l j d) ≡ true → some q l ≡ true
  some_inside [] j h e = absurd (omega arith)
  some_inside (x ∷ xs) zero h e = rw e
  some_inside (x ∷ xs) (suc j) h e =
      elim (q x) as (λ (b : Bool). (b || some q xs) ≡ true) [ true ↦ refl | false ↦ some_inside xs j (omega arith) e ]

  pub none_inside : (l : List A) → some q l ≡ false → (j : ℕ) → j < length l → q (get_or l j d) ≡ false
  none_inside l e j h = false_of _ (λ t. true≢false (sym (some_inside l j h t) ∙ e))

  pub none_of_inside : (l : List A) → ((j : ℕ) → j < length l → q (get_or l j d) ≡ false) → some q l ≡ false
  none_of_inside [] f = refl
  none_of_inside (x ∷ xs) f = rw (f 0 (omega arith), none_of_inside xs (λ j h. f (suc j) (omega arith)))

  -- the place that passes while none before it does
  pub place_is : (l : List A) (k : ℕ) → k < length l → q (get_or l k d) ≡ true → ((j : ℕ) → j < k → q (get_or l j d) ≡ false) → place q l ≡ k
  place_is [] k h e f = absurd (omega arith)
  place_is (x ∷ xs) zero h e f = rw e
  place_is (x ∷ xs) (suc k) h e f =
      rw (f 0 (omega arith)) (ap suc (place_is xs k (omega arith) e (λ j i. f (suc j) (omega arith))))

-- ---- counts

module _ {A : Type 0} (q : A → Bool) where
  pub count_set : (l : List A) (i : ℕ) (a d : A) → i < length l → count q (set l i a) + bit (q (get_or l i d)) ≡ count q l + bit (q a)
  count_set [] i a d h = omega arith
  count_set (x ∷ xs) zero a d h = omega arith
  count_set (x ∷ xs) (suc i) a d h = omega (arith, count_set xs i a d (omega arith))

  pub count_append : (l m : List A) → count q (l ++ m) ≡ count q l + count q m
  count_append [] m = omega arith
  count_append (x ∷ xs) m = omega (arith, count_append xs m)

-- ---- no two clash

module _ {A : Type 0} (clash : A → A → Bool) (d : A) where
  -- any two places are apart
  pub apart_inside : (l : List A) → apart clash l ≡ true → (i j : ℕ) → i < j → j < length l → clash (get_or l i d) (get_or l j d) ≡ false
  apart_inside [] e i j h k = absurd (omega arith)
  apart_inside (x ∷ xs) e i zero h k = absurd (omega arith)
  apart_inside (x ∷ xs) e zero (suc j) h k =
      none_inside (clash x) d xs (not-true _ (both (not (some (clash x) xs)) (apart clash xs) e).0) j (omega arith)
  apart_inside (x ∷ xs) e (suc i) (suc j) h k =
      apart_inside xs (both (not (some (clash x) xs)) (apart clash xs) e).1 i j (omega arith) (omega arith)

  pub apart_of_inside : (l : List A) → ((i j : ℕ) → i < j → j < length l → clash (get_or l i d) (get_or l j d) ≡ false) → apart clash l ≡ true
  apart_of_inside [] f = refl
  apart_of_inside (x ∷ xs) f =
      rw (
        none_of_inside (clash x) d xs (λ j h. f 0 (suc j) (omega arith) (omega arith)),
        apart_of_inside xs (λ i j h k. f (suc i) (suc j) (omega arith) (omega arith)),
      )

  -- the same under a default that clashes with nothing
  pub apart_at : (l : List A) → ((x : A) → clash x d ≡ false) → apart clash l ≡ true → (i j : ℕ) → i < j → j < length l → clash (get_or l i d) (get_or l j d) ≡ false
  apart_at l z = apart_inside l

  pub apart_of : (l : List A) → ((x : A) → clash x d ≡ false) → ((i j : ℕ) → i < j → j < length l → clash (get_or l i d) (get_or l j d) ≡ false) → apart clash l ≡ true
  apart_of l z = apart_of_inside l

-- ---- what std's all, any, count and position answer, in the words of the questions

pub every_all : {A : Type 0} (q : A → Bool) (l : List A) (b : Bool) → IsTrue b ↔ All (λ x. q x ≡ true) l → b ≡ every q l
every_all q [] b h = h.1 (λ k d i. absurd (omega arith))
every_all q (x ∷ xs) true h = sym (every_of q (x ∷ xs) x (λ k i. h.0 refl k x i))
every_all q (x ∷ xs) false h = sym (false_of _ (λ e. false≢true (h.1 (λ k d i. every_at q (x ∷ xs) d e k i))))

pub some_any : {A : Type 0} (q : A → Bool) (l : List A) (b : Bool) → IsTrue b ↔ Any (λ x. q x ≡ true) l → b ≡ some q l
some_any q l true h = let (k, x, i, e, p) = h.0 refl in sym (some_inside q x l k i (ap q e ∙ p))
some_any q [] false h = refl
some_any q (x ∷ xs) false h =
    sym (none_of_inside q x (x ∷ xs) (λ j i. false_of _ (λ e. false≢true (h.1 (j, get_or (x ∷ xs) j x, i, get_or_default (x ∷ xs) j _ x i, e)))))

pub count_is : {A : Type 0} (q : A → Bool) (l : List A) → count_by q l ≡ count q l
count_is q [] = refl
count_is q (x ∷ xs) =
    sum_by-cons (λ y. cond (q y) 1 0) x xs
    ∙ (elim (q x) as (λ (b : Bool). cond b 1 0 + count_by q xs ≡ bit b + count q xs) [ true ↦ omega (arith, count_is q xs) | false ↦ omega (arith, count_is q xs) ])

module _ {A : Type 0} (q : A → Bool) where
  position_place : (l : List A) → position_or_len q l ≡ place q l
  position_place [] = refl
  position_place (x ∷ xs) =
      elim (q x) as (λ (b : Bool). cond (not b) (1 + position_or_len q xs) 0 ≡ cond b 0 (suc (place q xs)))
      [ true ↦ refl | false ↦ omega (arith, position_place xs) ]

  some_place : (l : List A) (b : Bool) → some q l ≡ b → ltb (place q l) (length l) ≡ b
  some_place l true e = lt-ltb _ _ (place_lt q l e)
  some_place l false e = le-ltb _ _ (⊎_elim (λ h. absurd (false≢true (sym e ∙ place_some q l h))) (λ h. h) (lt_or_le (place q l) (length l)))

  pub position_is : (l : List A) → position q l ≡ cond (some q l) (Some (place q l)) None
  position_is l = rw (position_place l, some_place l (some q l) refl)
