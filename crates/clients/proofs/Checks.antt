-- Laws by which the code's order of checks 3 and 4 gives their definitions.
use Rattle.std.specs.Prelude.{Option, Some, None, position, unwrap_or}
use Rattle.std.specs.Option.{is_some}
use Rattle.std.specs.Bool.{then_some}
use Prim.Native.Nat.{ℕ, ◌<◌, ◌≤◌}
use native.Mathlib.Omega.{arith}
use mathlib.Core.Path.{◌≡◌, refl, ap, sym, ◌∙◌}
use mathlib.Core.Bool.{Bool, true, false, ◌&&◌, cond, true≢false, false≢true}
use mathlib.Core.List.{List}
use Rattle.octets.specs.Lists.{every, some, place}
use Rattle.octets.proofs.Lists.{every_and, place_lt, place_some, position_is}
use Rattle.octets.proofs.Tests.{false_of}
use Rattle.clients.specs.Fields.{clients, client, entries}
use Rattle.clients.specs.Sound.{length_right, id_given, ids_given, key_given, keys_given, ids_distinct, lifetime_fits, lifetimes_fit, rest_zero, rests_zero, sound, sound_record}
use Rattle.clients.specs.Known.{has_id, has_key, place_of, is_known, known}
use Rattle.clients.proofs.Entries.{length_entries}

-- ---- check 3: the rules of one record in one pass, the pairs last

-- the lifetime and the bytes behind it
last_rules : List ℕ → Bool
last_rules c = lifetime_fits c && rest_zero c

record_rules : (l : List (List ℕ)) → every sound_record l ≡ (every id_given l && (every key_given l && (every lifetime_fits l && every rest_zero l)))
unfolding sound_record last_rules
record_rules l =
    every_and sound_record id_given (λ (c : List ℕ). key_given c && last_rules c) (λ c. refl) l
    ∙ ap (λ (b : Bool). every id_given l && b)
    (every_and (λ (c : List ℕ). key_given c && last_rules c) key_given last_rules (λ c. refl) l
    ∙ ap (λ (b : Bool). every key_given l && b) (every_and last_rules lifetime_fits rest_zero (λ c. refl) l))

pairs_last : (a b c d : Bool) → (a && (b && (c && d))) ≡ ((a && (b && d)) && c)
pairs_last false b c d = refl
pairs_last true false c d = refl
pairs_last true true true true = refl
pairs_last true true true false = refl
pairs_last true true false true = refl
pairs_last true true false false = refl

pub sound_order : (t : List ℕ) → sound t ≡ (length_right t && (every sound_record (entries t) && ids_distinct t))
unfolding sound ids_given keys_given lifetimes_fit rests_zero
sound_order t =
    rw (record_rules (entries t))
    (ap (λ (b : Bool). length_right t && b) (pairs_last (every id_given (entries t)) (every key_given (entries t)) (ids_distinct t) (every lifetime_fits (entries t) && every rest_zero (entries t))))

-- ---- check 4: the id first, then the key

module _ (t v : List ℕ) where
  pub id_nowhere : clients t ≤ place_of t v → some (has_id v) (entries t) ≡ false
  unfolding place_of
  id_nowhere h = false_of _ (λ e. omega (arith, length_entries t, place_lt (has_id v) (entries t) e))

  pub id_somewhere : place_of t v < clients t → some (has_id v) (entries t) ≡ true
  unfolding place_of
  id_somewhere h = place_some (has_id v) (entries t) (rw (length_entries t) h)

  pub key_agrees : (key : List ℕ) → place_of t v < clients t → has_key key (client t (place_of t v)) ≡ true → known t v key ≡ Some (place_of t v)
  unfolding known is_known
  key_agrees key h e = rw (id_somewhere h, e)

module _ (t v key : List ℕ) where
  -- by what the search for the id answers
  known_by : (o : Option ℕ) (b : Bool) → some (has_id v) (entries t) ≡ b → cond b (Some (place (has_id v) (entries t))) None ≡ o
      → known t v key ≡ elim o [ None ↦ None | Some k ↦ then_some (has_key key (client t k)) k ]
  unfolding known is_known place_of
  known_by (Some k) true e f = let g : place (has_id v) (entries t) ≡ k = ap (λ o. unwrap_or o 0) f in rw (e, g)
  known_by None true e f = absurd (true≢false (ap is_some f))
  known_by (Some k) false e f = absurd (false≢true (ap is_some f))
  known_by None false e f = rw e

  pub known_none : position (has_id v) (entries t) ≡ None → known t v key ≡ None
  known_none e = known_by None _ refl (sym (position_is (has_id v) (entries t)) ∙ e)

  pub known_some : (k : ℕ) → position (has_id v) (entries t) ≡ Some k → known t v key ≡ then_some (has_key key (client t k)) k
  known_some k e = known_by (Some k) _ refl (sym (position_is (has_id v) (entries t)) ∙ e)
