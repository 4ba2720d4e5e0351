-- Laws of the list f 0, f 1, .., f (n - 1), and of a loop that fills an array from the front.
use Prim.Native.Nat.{ℕ, zero, suc, ◌+◌, ◌<◌, ◌≤◌}
use mathlib.Core.Path.{◌≡◌, refl, ap, sym, ◌∙◌}
use mathlib.Core.List.{List, [], ◌∷◌, ◌++◌}
use mathlib.Core.Logic.{⊎_elim}
use native.Mathlib.Nat.{eq-or-lt_of_le, zero-add}
use native.Mathlib.Numerals.{add-one}
use native.Mathlib.Omega.{arith}
use lib.ListN.{length, get_or, take, drop, set, length-append, length-drop, length-set, get_or-append}
use lib.Seq.{take_all, take-suc, take-suc-set, get_or_at, get_or-drop}
use Rattle.octets.specs.Lists.{tabulate}

module _ {ℓ} {A : Type ℓ} where
  pub length_tabulate : (f : ℕ → A) (n : ℕ) → length (tabulate f n) ≡ n
  unfolding tabulate
  length_tabulate f zero = refl
  length_tabulate f (suc n) = rw (length-append, length_tabulate f n) (omega arith)

  pub get_d_tabulate : (f : ℕ → A) (d : A) (n i : ℕ) → i < n → get_or (tabulate f n) i d ≡ f i
  unfolding tabulate
  get_d_tabulate f d zero i h = absurd (omega arith)
  get_d_tabulate f d (suc n) i h =
      ⊎_elim (λ e. rw e (get_or_at (tabulate f n) (f n) [] d n (length_tabulate f n)))
      (λ k. get_or-append (tabulate f n) _ d i (rw length_tabulate k) ∙ get_d_tabulate f d n i k)
      (eq-or-lt_of_le (omega arith))

  -- two functions that agree below n
  pub tabulate_same : (f g : ℕ → A) (n : ℕ) → ((i : ℕ) → i < n → f i ≡ g i) → tabulate f n ≡ tabulate g n
  unfolding tabulate
  tabulate_same f g zero h = refl
  tabulate_same f g (suc n) h = rw (tabulate_same f g n (λ i k. h i (omega arith)), h n (omega arith))

  -- a part of a list, by its elements
  pub tabulate_part : (l : List A) (d : A) (a n : ℕ) → a + n ≤ length l → tabulate (λ i. get_or l (a + i) d) n ≡ take n (drop a l)
  unfolding tabulate
  tabulate_part l d a zero h = refl
  tabulate_part l d a (suc n) h =
      let short : n < length (drop a l) = simp length-drop (omega arith) in
      rw (tabulate_part l d a n (omega arith), take-suc (drop a l) n d short, get_or-drop a l n d)

  -- a list, by its elements
  pub tabulate_all : (l : List A) (d : A) → tabulate (λ i. get_or l i d) (length l) ≡ l
  tabulate_all l d =
      tabulate_same _ _ (length l) (λ i h. ap (λ j. get_or l j d) (sym (zero-add i)))
      ∙ tabulate_part l d 0 (length l) (omega arith) ∙ take_all (length l) l (omega arith)

  -- one more element, at the end of what is filled
  pub grow : {xs : List A} (l : List A) (n : ℕ) (v : A) → take n l ≡ xs → n < length l → take (n + 1) (set l n v) ≡ xs ++ (v ∷ [])
  grow l n v h k = rw (add-one, take-suc-set) (ap (λ ys. ys ++ (v ∷ [])) h)

  pub grow_tabulate : (f : ℕ → A) (l : List A) (n : ℕ) (v : A) → take n l ≡ tabulate f n → n < length l → v ≡ f n
      → take (n + 1) (set l n v) ≡ tabulate f (n + 1)
  unfolding tabulate
  grow_tabulate f l n v h k e = grow l n v h k ∙ rw (add-one, e)

-- a list of the given size whose first n elements are f 0, .., f (n - 1): what a loop that fills an array keeps
pub record Filled {ℓ} {A : Type ℓ} (f : ℕ → A) (size : ℕ) (l : List A) (n : ℕ) : Type ℓ where
  pub within : n ≤ size
  pub sized : length l ≡ size
  pub front : take n l ≡ tabulate f n

module _ {ℓ} {A : Type ℓ} where
  pub filled_none : (f : ℕ → A) (size : ℕ) (l : List A) → length l ≡ size → Filled f size l 0
  unfolding tabulate
  filled_none f size l h = record { within = omega arith; sized = h; front = refl }

  pub filled_more : (f : ℕ → A) (size : ℕ) (l : List A) (n : ℕ) (v : A) → Filled f size l n → n < size → v ≡ f n
      → Filled f size (set l n v) (n + 1)
  filled_more f size l n v h k e =
      record {
        within = omega arith;
        sized = simp length-set h.sized;
        front = grow_tabulate f l n v h.front (omega arith) e;
      }
