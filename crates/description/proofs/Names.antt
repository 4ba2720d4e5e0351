-- Laws of the names of a scope: one name more, and how long they are together.
use Prim.Native.Nat.{ℕ, zero, suc, ◌+◌, ◌-◌, ◌*◌, ◌≤◌, ◌<◌}
use native.Mathlib.Omega.{arith}
use native.Mathlib.Numerals.{add-one}
use mathlib.Core.Logic.{⊎_elim}
use mathlib.Core.Path.{◌≡◌, refl, sym, ap, ◌∙◌}
use mathlib.Core.Bool.{Bool, true, false, cond}
use mathlib.Core.List.{List, [], ◌∷◌, ◌++◌, map, append_assoc, append-nil}
use lib.ListN.{length, length-append}
use Rattle.std.proofs.lemmas.List.{map-append}
use borrow.Author.Tests.{eq-eqb, ne_eqb}
use Rattle.octets.proofs.Tests.{lt_or_le}
use Rattle.texts.proofs.Decimals.{most_in}
use Rattle.description.proofs.Behind.{wrote_none, then}
use Rattle.description.specs.Writer.{Wrote}
use Rattle.description.specs.declared.writer.Writer.{Writer}
use Rattle.description.specs.Scope.{scope_width, scope_name, is_set, bits_below, spaced, one_more, added, names_below, scope_names, scope_most}

-- ---- laying one text behind another

-- one word more
spaced_more : (v : List ℕ) (ws : List (List ℕ)) (w : List ℕ) → spaced ((v ∷ ws) ++ (w ∷ [])) ≡ spaced (v ∷ ws) ++ (32 ∷ w)
unfolding spaced
spaced_more v [] w = refl
spaced_more v (u ∷ ws) w = ap (λ (t : List ℕ). v ++ (32 ∷ t)) (spaced_more u ws w) ∙ sym (append_assoc v _ _)

pub length_name : (i : ℕ) → 1 ≤ length (scope_name i)
unfolding scope_name
length_name i = omega arith

length_spaced : (v : List ℕ) (ws : List (List ℕ)) → length v ≤ length (spaced (v ∷ ws))
unfolding spaced
length_spaced v [] = omega arith
length_spaced v (u ∷ ws) = let e = length-append v (32 ∷ spaced (u ∷ ws)) in omega arith

add_word : (bits : List ℕ) (i : ℕ) → spaced (map scope_name (bits ++ (i ∷ []))) ≡ spaced (map scope_name bits) ++ one_more (length (spaced (map scope_name bits))) (scope_name i)
unfolding spaced one_more
add_word [] i = refl
add_word (b ∷ bits) i =
    let ws = map scope_name bits in
    let l = length_spaced (scope_name b) ws in
    let k = length_name b in
    let n : length (spaced (scope_name b ∷ ws)) ≡ 0 → ⊥ = λ e. omega arith in
    ap spaced (map-append scope_name (b ∷ bits) (i ∷ [])) ∙ spaced_more (scope_name b) ws (scope_name i) ∙ rw (ne_eqb (length (spaced (scope_name b ∷ ws))) 0 n)

pub bits_set : (s i : ℕ) → is_set s i ≡ true → bits_below s (suc i) ≡ bits_below s i ++ (i ∷ [])
unfolding bits_below
bits_set s i e = rw e

pub bits_clear : (s i : ℕ) → is_set s i ≡ false → bits_below s (suc i) ≡ bits_below s i
unfolding bits_below
bits_clear s i e = rw e

pub names_set : (s i : ℕ) → is_set s i ≡ true → names_below s (suc i) ≡ names_below s i ++ one_more (length (names_below s i)) (scope_name i)
unfolding names_below
names_set s i e = ap (λ (bits : List ℕ). spaced (map scope_name bits)) (bits_set s i e) ∙ add_word (bits_below s i) i

pub names_clear : (s i : ℕ) → is_set s i ≡ false → names_below s (suc i) ≡ names_below s i
unfolding names_below
names_clear s i e = ap (λ (bits : List ℕ). spaced (map scope_name bits)) (bits_clear s i e)

pub added_clear : (s n i : ℕ) → is_set s i ≡ false → added s n i ≡ []
unfolding added
added_clear s n i e = rw e

pub added_set : (s n i : ℕ) → is_set s i ≡ true → added s n i ≡ one_more n (scope_name i)
unfolding added
added_set s n i e = rw e

-- ---- how long they are

pub first_name : (n : ℕ) (w : List ℕ) → n ≡ 0 → one_more n w ≡ w
unfolding one_more
first_name n w e = rw (eq-eqb n 0 e)

pub later_name : (n : ℕ) (w : List ℕ) → (n ≡ 0 → ⊥) → one_more n w ≡ 32 ∷ w
unfolding one_more
later_name n w e = rw (ne_eqb n 0 e)

-- one digit below 10, two below 100
name_long : (i : ℕ) → i < 100 → length (scope_name i) + (i - 10) ≤ 2 + (suc i - 10)
unfolding scope_name
name_long i h = ⊎_elim (λ k. omega (arith, most_in 0 i k)) (λ k. omega (arith, most_in 1 i h)) (lt_or_le i 10)

names_none : (s : ℕ) → length (names_below s 0) ≤ 0
unfolding names_below bits_below spaced
names_none s = omega arith

-- three characters more a name, four from the tenth bit on, and no blank before the first
pub names_long : (s n : ℕ) → n ≤ 100 → length (names_below s n) ≤ (3 * n - 1) + (n - 10)
names_long s zero h = omega (arith, names_none s)
names_long s (suc n) h = by (is_set s n) refl (names_long s n (omega arith))
  where
    by : (b : Bool) → is_set s n ≡ b → length (names_below s n) ≤ (3 * n - 1) + (n - 10) → length (names_below s (suc n)) ≤ (3 * suc n - 1) + (suc n - 10)
    by false e i = rw (names_clear s n e) (omega arith)
    by true e i =
        let k = length (names_below s n) in
        let w = scope_name n in
        let l = name_long n (omega arith) in
        rw (names_set s n e, length-append (names_below s n) (one_more k w))
        (⊎_elim (λ z. let f = ap length (first_name k w (omega arith)) in omega arith) (λ z. let f = ap length (later_name k w (λ y. omega arith)) in omega arith) (lt_or_le k 1))

pub length_names : (s : ℕ) → length (scope_names s) ≤ scope_most
unfolding scope_names
length_names s = names_long s scope_width (omega arith)

-- ---- a loop that writes them

module _ (s n i : ℕ) (sized : n ≡ length (names_below s i)) where
  names_added : names_below s (suc i) ≡ names_below s i ++ added s n i
  unfolding added
  names_added = by (is_set s i) refl
    where
      by : (b : Bool) → is_set s i ≡ b → names_below s (suc i) ≡ names_below s i ++ cond b (one_more n (scope_name i)) []
      by true e = rw sized (names_set s i e)
      by false e = names_clear s i e ∙ sym (append-nil (names_below s i))

-- a writer has written the names of the bits below i
pub named_none : (v : Writer) (s : ℕ) → Wrote v v (names_below s 0)
unfolding names_below bits_below spaced
named_none v s = wrote_none v

pub named_most : {v w : Writer} (s i : ℕ) → Wrote v w (names_below s i) → i ≤ scope_width → (v.at ≤ w.at) × (w.at ≤ v.at + scope_most)
named_most s i p h = let e = p.behind in (omega arith, omega (arith, names_long s i (omega arith)))

pub named_more : {v w x : Writer} (s i : ℕ) → Wrote v w (names_below s i) → Wrote w x (added s (w.at - v.at) i) → Wrote v x (names_below s (i + 1))
named_more {v} {w} s i p q =
    let e = p.behind in
    rw (add-one, names_added s (w.at - v.at) i (omega arith)) (then p q)

pub named_all : {v w : Writer} (s i : ℕ) → Wrote v w (names_below s i) → i ≡ scope_width → Wrote v w (scope_names s)
unfolding scope_names
named_all s i p e = rw (← e) p
