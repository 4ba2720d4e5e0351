-- What the definitions of the client table say of its records, in both directions.
use Rattle.std.specs.Prelude.{Some, None}
use Prim.Native.Nat.{ℕ, ◌*◌, ◌<◌, ◌≤◌}
use native.Mathlib.Omega.{arith}
use mathlib.Core.Path.{◌≡◌, refl, sym, ap, ◌∙◌}
use mathlib.Core.Logic.{◌≢◌, ◌↔◌, ◌⊎◌, inl, inr}
use mathlib.Core.Bool.{Bool, true, false}
use mathlib.Core.List.{List, []}
use lib.Dec.{eqb, leb, ltb}
use lib.ListN.{length}
use borrow.Author.Tests.{eqb-true, leb-true, ltb-true, ltb-false, eq-eqb, le-leb}
use Rattle.octets.specs.Lists.{some}
use Rattle.octets.specs.Parts.{blank, zeros}
use Rattle.octets.proofs.Lists.{place_lt, place_ok, place_first, place_is, none_inside, apart_inside, apart_of_inside}
use Rattle.octets.proofs.Parts.{zeros_eq, zeros_blank, same_eq, same_of, differ_is, differ_of, given_is, given_of}
use Rattle.octets.proofs.Tests.{both, both_true}
use Rattle.clients.specs.Limits.{clients_least, clients_most, client_size, lifetime_most}
use Rattle.clients.specs.Fields.{clients, client, entries, id_span, id, auth_key_span, auth_key, lifetime_said, rest_span}
use Rattle.clients.specs.Sound.{length_right, id_given, ids_given, key_given, keys_given, same_id, ids_distinct, lifetime_fits, lifetimes_fit, rest_zero, rests_zero, sound}
use Rattle.clients.specs.Plain.{SoundTable}
use Rattle.clients.specs.Known.{has_id, has_key, place_of, at_if, is_known, known}
use Rattle.clients.proofs.Entries.{length_entries, entry_at, field_length, at_each, of_each}
use Rattle.clients.proofs.Checks.{id_nowhere, id_somewhere, key_agrees}

-- ---- check 3

-- any two places have different ids
pub distinct_of : (t : List ℕ) → ((i j : ℕ) → i < clients t → j < clients t → id (client t i) ≡ id (client t j) → i ≡ j) → ids_distinct t ≡ true
unfolding ids_distinct same_id
distinct_of t f =
    apart_of_inside same_id [] (entries t) (λ i j h k.
    let b : j < clients t = rw (length_entries t) at k in
    let a : i < clients t = omega arith in
    rw (entry_at t i a, entry_at t j b) (differ_of _ _ (λ e. omega (arith, f i j a b e))))

distinct_before : (t : List ℕ) → ids_distinct t ≡ true → (i j : ℕ) → i < j → j < clients t → id (client t i) ≢ id (client t j)
unfolding ids_distinct same_id
distinct_before t e i j h b =
    let a : i < clients t = omega arith in
    differ_is _ _ (rw (entry_at t i a, entry_at t j b) at (apart_inside same_id [] (entries t) e i j h (rw (length_entries t) b)))

pub distinct_is : (t : List ℕ) → ids_distinct t ≡ true → (i j : ℕ) → i < clients t → j < clients t → id (client t i) ≡ id (client t j) → i ≡ j
distinct_is t e i j a b s = by (ltb i j) refl (ltb j i) refl
  where
    by : (p : Bool) → ltb i j ≡ p → (q : Bool) → ltb j i ≡ q → i ≡ j
    by true x q y = absurd (distinct_before t e i j (ltb-true i j x) b s)
    by false x true y = absurd (distinct_before t e j i (ltb-true j i y) a (sym s))
    by false x false y = omega (arith, ltb-false i j x, ltb-false j i y)

module _ (t : List ℕ) where
  pub of_sound : sound t ≡ true → SoundTable t
  unfolding sound length_right ids_given id_given keys_given key_given lifetimes_fit lifetime_fits rests_zero rest_zero
  of_sound e =
      let r = both (length_right t) _ e in
      let w = both (eqb (length t) (client_size * clients t)) _ r.0 in
      let n = both (leb clients_least (clients t)) _ w.1 in
      let i = both (ids_given t) _ r.1 in
      let k = both (keys_given t) _ i.1 in
      let d = both (ids_distinct t) _ k.1 in
      let s = both (lifetimes_fit t) _ d.1 in
      record {
        whole = eqb-true _ _ w.0;
        least = leb-true _ _ n.0;
        most = leb-true _ _ n.1;
        ids = λ j h. given_is _ id_span.width (at_each t id_given i.0 j h);
        keys = λ j h. given_is _ auth_key_span.width (at_each t key_given k.0 j h);
        distinct = distinct_is t d.0;
        lifetimes = λ j h. leb-true _ _ (at_each t lifetime_fits s.0 j h);
        rests = λ j h. zeros_eq _ (at_each t rest_zero s.1 j h) ∙ ap blank (field_length t j h rest_span (omega arith));
      }

  pub to_sound : SoundTable t → sound t ≡ true
  unfolding sound length_right ids_given id_given keys_given key_given lifetimes_fit lifetime_fits rests_zero rest_zero
  to_sound s =
      let w = eq-eqb (length t) (client_size * clients t) s.whole in
      let l = le-leb clients_least (clients t) s.least in
      let m = le-leb (clients t) clients_most s.most in
      let i = of_each t id_given (λ k h. given_of _ id_span.width (field_length t k h id_span (omega arith)) (s.ids k h)) in
      let k = of_each t key_given (λ k h. given_of _ auth_key_span.width (field_length t k h auth_key_span (omega arith)) (s.keys k h)) in
      let d = distinct_of t s.distinct in
      let f = of_each t lifetime_fits (λ k h. le-leb (lifetime_said (client t k)) lifetime_most (s.lifetimes k h)) in
      let r = of_each t rest_zero (λ k h. ap zeros (s.rests k h) ∙ zeros_blank rest_span.width) in
      both_true _ _ (both_true _ _ w (both_true _ _ l m)) (both_true _ _ i (both_true _ _ k (both_true _ _ d (both_true _ _ f r))))

  pub table_says : (sound t ≡ true) ↔ SoundTable t
  table_says = (of_sound, to_sound)

-- ---- check 4

-- record k is the first with this id
pub record First (t v : List ℕ) (k : ℕ) : Type 0 where
  pub inside : k < clients t
  pub has : id (client t k) ≡ v
  pub before : (j : ℕ) → j < k → id (client t j) ≢ v

module _ (t v : List ℕ) where
  first_of : place_of t v < clients t → First t v (place_of t v)
  unfolding place_of has_id
  first_of h =
      record {
        inside = h;
        has = same_eq _ _ (ap (has_id v) (sym (entry_at t _ h)) ∙ place_ok (has_id v) (entries t) [] (id_somewhere t v h));
        before = λ j l. let g : j < clients t = omega arith in differ_is _ _ (ap (has_id v) (sym (entry_at t j g)) ∙ place_first (has_id v) (entries t) [] j l);
      }

  first_is : (k : ℕ) → First t v k → place_of t v ≡ k
  unfolding place_of has_id
  first_is k f =
      place_is (has_id v) [] (entries t) k (rw (length_entries t) f.inside)
      (ap (has_id v) (entry_at t k f.inside) ∙ same_of _ _ f.has)
      (λ j l. let g : j < clients t = omega (arith, f.inside) in ap (has_id v) (entry_at t j g) ∙ differ_of _ _ (f.before j l))

  none_of : clients t ≤ place_of t v → (j : ℕ) → j < clients t → id (client t j) ≢ v
  unfolding has_id
  none_of h j g = differ_is _ _ (ap (has_id v) (sym (entry_at t j g)) ∙ none_inside (has_id v) [] (entries t) (id_nowhere t v h) j (rw (length_entries t) g))

-- the place answered, and that one was answered
at_is : (b : Bool) (p k : ℕ) → at_if b p ≡ Some k → (b ≡ true) × (p ≡ k)
at_is true p k e = (refl, cc)
at_is false p k e = let z : ◌≡◌ {A = ℕ} 0 1 = cc in absurd (omega arith)

module _ (t v key : List ℕ) where
  -- found: the first record with this id, and it has this key
  pub known_at : (k : ℕ) → known t v key ≡ Some k → First t v k × (auth_key (client t k) ≡ key)
  unfolding known is_known has_key place_of
  known_at k e =
      let r = at_is _ _ k e in
      let b = both (some (has_id v) (entries t)) _ r.0 in
      let h : place_of t v < clients t = rw (length_entries t) at (place_lt (has_id v) (entries t) b.0) in
      (rw r.1 at (first_of t v h), rw r.1 at (same_eq _ _ b.1))

  pub at_known : (k : ℕ) → First t v k → auth_key (client t k) ≡ key → known t v key ≡ Some k
  unfolding has_key
  at_known k f e =
      let p = first_is t v k f in
      key_agrees t v key (rw p f.inside) (rw p (same_of _ _ e)) ∙ ap Some p

  -- in a sound table no other record has this id
  pub known_only : (k : ℕ) → sound t ≡ true → known t v key ≡ Some k → (j : ℕ) → j < clients t → id (client t j) ≡ v → j ≡ k
  known_only k s e j h i =
      let f = (known_at k e).0 in
      (of_sound t s).distinct j k h f.inside (i ∙ sym f.has)

  -- and any record with this id and key is found
  pub known_sound : (k : ℕ) → sound t ≡ true → k < clients t → id (client t k) ≡ v → auth_key (client t k) ≡ key → known t v key ≡ Some k
  known_sound k s h i e =
      at_known k
      record { inside = h; has = i; before = λ j l z. omega (arith, (of_sound t s).distinct j k (omega arith) h (z ∙ sym i)) }
      e

  -- not found: no record has this id, or the first that has it has another key
  pub unknown : known t v key ≡ None → ((j : ℕ) → j < clients t → id (client t j) ≢ v) ⊎ ((k : ℕ) × First t v k × (auth_key (client t k) ≢ key))
  unknown e = by (ltb (place_of t v) (clients t)) refl
    where
      by : (b : Bool) → ltb (place_of t v) (clients t) ≡ b → ((j : ℕ) → j < clients t → id (client t j) ≢ v) ⊎ ((k : ℕ) × First t v k × (auth_key (client t k) ≢ key))
      by false p = inl (none_of t v (ltb-false _ _ p))
      by true p =
          let f = first_of t v (ltb-true _ _ p) in
          inr (place_of t v, f, λ k. let z : Some (place_of t v) ≡ None = sym (at_known (place_of t v) f k) ∙ e in let y : ◌≡◌ {A = ℕ} 0 1 = cc in absurd (omega arith))
