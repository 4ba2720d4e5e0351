-- What a search of the records says: the first such record and none before it; in a sound ledger, the only one.
use Rattle.std.specs.Prelude.{Some, None}
use Prim.Native.Nat.{ℕ, zero, suc, ◌<◌}
use native.Mathlib.Omega.{arith}
use native.Mathlib.Decide.{ℕ_discrete, dec_lt}
use mathlib.Core.Path.{◌≡◌, refl, sym, ◌∙◌}
use mathlib.Core.Logic.{◌≢◌, ◌↔◌, ◌⊎◌, inl, inr, ⊎_elim}
use mathlib.Core.Bool.{Bool, true, false, ◌||◌, true≢false, or-true}
use mathlib.Core.List.{List, [], ◌∷◌}
use lib.ListN.{length, get_or}
use borrow.Author.Tests.{eqb-true, eq-eqb}
use Rattle.octets.specs.Lists.{some, place}
use Rattle.octets.specs.Parts.{zeros, same}
use Rattle.octets.proofs.Tests.{both, both_true, false_of}
use Rattle.octets.proofs.Lists.{place_lt, place_ok, place_first}
use Rattle.octets.proofs.Parts.{same_eq, same_refl}
use Rattle.ledger.specs.Fields.{rec, slots, records, state, state_number, in_state, client, value, token}
use Rattle.ledger.specs.Sound.{holds, sound}
use Rattle.ledger.specs.Checks.{taken, found, is_free, is_with, is_reference, is_code, is_token}
use Rattle.ledger.specs.Write.{free}
use Rattle.ledger.specs.declared.state.State.TheVariants.{Free, Pushed, Consented, Redeemed}
use Rattle.ledger.proofs.Records.{length_records, records_at, rec_length}
use Rattle.ledger_laws.proofs.Says.{either, neither, SoundRecord, SoundRecords, Of, holds_says, free_is, of_sound}

-- record k is the first that passes
pub record First (q : List ℕ → Bool) (l : List ℕ) (k : ℕ) : Type 0 where
  pub inside : k < slots l
  pub passes : q (rec l k) ≡ true
  pub before : (j : ℕ) → j < k → q (rec l j) ≡ false

module _ (q : List ℕ → Bool) (l : List ℕ) where
  -- one that passes is found
  pub some_in : (k : ℕ) → k < slots l → q (rec l k) ≡ true → some q (records l) ≡ true
  some_in k h e = among (records l) k (rw (length_records l) h) (rw (records_at l k h) e)
    where
      among : (rs : List (List ℕ)) (k : ℕ) → k < length rs → q (get_or rs k []) ≡ true → some q rs ≡ true
      among [] k h e = absurd (omega arith)
      among (r ∷ rs) zero h e = rw e
      among (r ∷ rs) (suc k) h e =
          elim (q r) as (λ (b : Bool). (b || some q rs) ≡ true) [ true ↦ refl | false ↦ among rs k (omega arith) e ]

  pub none_in : some q (records l) ≡ false → (k : ℕ) → k < slots l → q (rec l k) ≡ false
  none_in e k h = false_of _ (λ p. true≢false (sym (some_in k h p) ∙ e))

  pub first_in : some q (records l) ≡ true → First q l (place q (records l))
  first_in e =
      let h : place q (records l) < slots l = rw (length_records l) at (place_lt q (records l) e) in
      record {
        inside = h;
        passes = rw (← records_at l (place q (records l)) h) (place_ok q (records l) [] e);
        before = λ j m. rw (← records_at l j (omega arith)) (place_first q (records l) [] j m);
      }

  pub none_found : ((k : ℕ) → k < slots l → q (rec l k) ≡ false) → some q (records l) ≡ false
  none_found f = false_of _ (λ e. true≢false (sym (first_in e).passes ∙ f _ (first_in e).inside))

  -- there is one first record at most
  pub first_place : (i k : ℕ) → First q l i → First q l k → i ≡ k
  first_place i k a b = go (dec_lt i k) (dec_lt k i)
    where
      go : Dec (i < k) → Dec (k < i) → i ≡ k
      go (yes h) d = absurd (true≢false (sym a.passes ∙ b.before i h))
      go (no h) (yes m) = absurd (true≢false (sym b.passes ∙ a.before k m))
      go (no h) (no m) = omega (arith, h, m)

  pub found_first : (k : ℕ) → found q l ≡ Some k → First q l k
  unfolding found
  found_first k e = go (some q (records l)) refl
    where
      go : (b : Bool) → some q (records l) ≡ b → First q l k
      go true s =
          let f : Some (place q (records l)) ≡ Some k = rw s at e in
          let p : place q (records l) ≡ k = cc in
          rw (← p) (first_in s)
      go false s = let n : None ≡ Some k = rw s at e in let z : ◌≡◌ {A = ℕ} 0 1 = cc in absurd (omega arith)

  pub found_none : found q l ≡ None → (k : ℕ) → k < slots l → q (rec l k) ≡ false
  unfolding found
  found_none e k h = go (some q (records l)) refl
    where
      go : (b : Bool) → some q (records l) ≡ b → q (rec l k) ≡ false
      go true s = let n : Some (place q (records l)) ≡ None = rw s at e in let z : ◌≡◌ {A = ℕ} 0 1 = cc in absurd (omega arith)
      go false s = none_in s k h

-- ---- what is asked of a record

pub free_says : (r : List ℕ) → (is_free r ≡ true) ↔ (state r ≡ state_number Free)
unfolding is_free
free_says r = (eqb-true (state r) 0, eq-eqb (state r) 0)

with_says : (v c r : List ℕ) → (is_with v c r ≡ true) ↔ ((value r ≡ v) × (client r ≡ c))
unfolding is_with
with_says v c r = (
  λ e.
      let (a, b) = both (same (value r) v) (same (client r) c) e in
      (same_eq (value r) v a, same_eq (client r) c b),
  λ f. rw (f.0, f.1, same_refl v) (same_refl c),
)

pub reference_says : (v c r : List ℕ) → (is_reference v c r ≡ true) ↔ ((state r ≡ state_number Pushed) × ((value r ≡ v) × (client r ≡ c)))
unfolding is_reference
reference_says v c r = (
  λ e.
      let (a, b) = both (in_state Pushed r) (is_with v c r) e in
      (eqb-true (state r) 1 a, (with_says v c r).0 b),
  λ f. rw (eq-eqb (state r) 1 f.0) ((with_says v c r).1 f.1),
)

pub code_says : (v c r : List ℕ)
    → (is_code v c r ≡ true)
    ↔ (((state r ≡ state_number Consented) ⊎ (state r ≡ state_number Redeemed)) × ((value r ≡ v) × (client r ≡ c)))
unfolding is_code
code_says v c r = (
  λ e.
      let (a, b) = both (in_state Consented r || in_state Redeemed r) (is_with v c r) e in (
        ⊎_elim {C = (state r ≡ 2) ⊎ (state r ≡ 3)} (λ p. inl (eqb-true (state r) 2 p)) (λ p. inr (eqb-true (state r) 3 p)) (either (in_state Consented r) (in_state Redeemed r) a),
        (with_says v c r).0 b,
      ),
  λ f.
      both_true (in_state Consented r || in_state Redeemed r) (is_with v c r)
      (⊎_elim (λ p. rw (eq-eqb (state r) 2 p)) (λ p. rw (eq-eqb (state r) 3 p) (or-true (in_state Consented r))) f.0) ((with_says v c r).1 f.1),
)

pub token_says : (v r : List ℕ) → (is_token v r ≡ true) ↔ ((state r ≡ state_number Redeemed) × (token r ≡ v))
unfolding is_token
token_says v r = (
  λ e.
      let (a, b) = both (in_state Redeemed r) (same (token r) v) e in
      (eqb-true (state r) 3 a, same_eq (token r) v b),
  λ f. rw (eq-eqb (state r) 3 f.0, f.1) (same_refl v),
)

-- ---- a fresh value

pub record FreshIn (l v : List ℕ) : Type 0 where
  pub nonzero : zeros v ≡ false
  pub new : (k : ℕ) → k < slots l → Of v (rec l k) → ⊥

pub fresh_in : (l v : List ℕ) → taken l v ≡ false → FreshIn l v
unfolding taken
fresh_in l v e =
    let (a, b) = neither (zeros v) (some (holds v) (records l)) e in
    record { nonzero = a; new = λ k h o. true≢false (sym ((holds_says v (rec l k)).1 (a, o)) ∙ none_in (holds v) l b k h) }

pub fresh_taken : (l v : List ℕ) → FreshIn l v → taken l v ≡ false
unfolding taken
fresh_taken l v f =
    rw f.nonzero (none_found (holds v) l (λ k h. false_of _ (λ e. f.new k h ((holds_says v (rec l k)).0 e).1)))

-- ---- in a sound ledger: a free record is all zeros, and what is found is the only one

pub free_found : (l : List ℕ) → sound l ≡ true → (k : ℕ) → k < slots l → is_free (rec l k) ≡ true → rec l k ≡ free
unfolding is_free
free_found l s k h e = free_is (rec l k) (rec_length l k h) (((of_sound l s).within.each k h).when_free (eqb-true (state (rec l k)) 0 e))

-- a value stands in one record
pub alone : (next : ℕ) (l : List ℕ) → SoundRecords next l → (v : List ℕ) (i j : ℕ) → i < slots l → j < slots l
    → holds v (rec l i) ≡ true → holds v (rec l j) ≡ true → i ≡ j
alone next l s v i j h m a b = go (ℕ_discrete i j)
  where
    go : Dec (i ≡ j) → i ≡ j
    go (yes e) = e
    go (no n) =
        let p = (holds_says v (rec l i)).0 a in
        let q = (holds_says v (rec l j)).0 b in
        absurd (s.pool i j h m n (record { v = v; nonzero = p.0; left = p.1; right = q.1 }))

-- what is asked for by its reference, code or token holds it
module _ (next : ℕ) (r : List ℕ) (s : SoundRecord next r) where
  by_value : (v : List ℕ) → state r ≢ state_number Free → value r ≡ v → holds v r ≡ true
  by_value v u e = (holds_says v r).1 (rw (← e) (s.when_used u).value_set, inl (sym e))

  pub reference_holds : (v c : List ℕ) → is_reference v c r ≡ true → holds v r ≡ true
  reference_holds v c e =
      let f = (reference_says v c r).0 e in
      let p = f.0 in
      by_value v (λ z. absurd (omega arith)) f.1.0

  pub code_holds : (v c : List ℕ) → is_code v c r ≡ true → holds v r ≡ true
  code_holds v c e =
      let f = (code_says v c r).0 e in
      ⊎_elim (λ p. by_value v (λ z. absurd (omega arith)) f.1.0) (λ p. by_value v (λ z. absurd (omega arith)) f.1.0) f.0

  pub token_holds : (v : List ℕ) → is_token v r ≡ true → holds v r ≡ true
  token_holds v e =
      let (p, q) = (token_says v r).0 e in
      let u = s.when_used (λ z. absurd (omega arith)) in
      (holds_says v r).1 (rw (← q) (u.token_set p), inr (sym q))

-- a test that only a holder of v passes is passed by one record at most, and no other record holds v
module _ (q : List ℕ → Bool) (v : List ℕ) (l : List ℕ) (s : sound l ≡ true)
    (bears : (k : ℕ) → k < slots l → q (rec l k) ≡ true → holds v (rec l k) ≡ true) where
  pub only_holder : (k : ℕ) → k < slots l → q (rec l k) ≡ true → (j : ℕ) → j < slots l → holds v (rec l j) ≡ true → j ≡ k
  only_holder k h e j m f = alone _ l (of_sound l s).within v j k m h f (bears k h e)

  pub only_first : (k : ℕ) → k < slots l → q (rec l k) ≡ true → First q l k
  only_first k h e =
      record {
        inside = h;
        passes = e;
        before = λ j m.
            false_of _
            (λ f. let z : j ≡ k = only_holder k h e j (omega arith) (bears j (omega arith) f) in absurd (omega arith));
      }

module _ (l : List ℕ) (s : sound l ≡ true) (v : List ℕ) where
  -- 10: the record with this reference
  pub reference_only : (c : List ℕ) (k : ℕ) → k < slots l → is_reference v c (rec l k) ≡ true
      → (j : ℕ) → j < slots l → holds v (rec l j) ≡ true → j ≡ k
  reference_only c = only_holder (is_reference v c) v l s (λ k h. reference_holds _ (rec l k) ((of_sound l s).within.each k h) v c)

  pub reference_first : (c : List ℕ) (k : ℕ) → k < slots l → is_reference v c (rec l k) ≡ true → First (is_reference v c) l k
  reference_first c = only_first (is_reference v c) v l s (λ k h. reference_holds _ (rec l k) ((of_sound l s).within.each k h) v c)

  -- 14: with this code
  pub code_only : (c : List ℕ) (k : ℕ) → k < slots l → is_code v c (rec l k) ≡ true
      → (j : ℕ) → j < slots l → holds v (rec l j) ≡ true → j ≡ k
  code_only c = only_holder (is_code v c) v l s (λ k h. code_holds _ (rec l k) ((of_sound l s).within.each k h) v c)

  pub code_first : (c : List ℕ) (k : ℕ) → k < slots l → is_code v c (rec l k) ≡ true → First (is_code v c) l k
  code_first c = only_first (is_code v c) v l s (λ k h. code_holds _ (rec l k) ((of_sound l s).within.each k h) v c)

  -- 17: with this token
  pub token_only : (k : ℕ) → k < slots l → is_token v (rec l k) ≡ true → (j : ℕ) → j < slots l → holds v (rec l j) ≡ true → j ≡ k
  token_only = only_holder (is_token v) v l s (λ k h. token_holds _ (rec l k) ((of_sound l s).within.each k h) v)

  pub token_first : (k : ℕ) → k < slots l → is_token v (rec l k) ≡ true → First (is_token v) l k
  token_first = only_first (is_token v) v l s (λ k h. token_holds _ (rec l k) ((of_sound l s).within.each k h) v)
