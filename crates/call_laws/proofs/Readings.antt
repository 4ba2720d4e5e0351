-- What the tests of the checks say in plain words, both ways: the parts of specs/Accepted.
use Rattle.std.specs.Prelude.{Some}
use Prim.Native.Nat.{ℕ, ◌≤◌, ◌<◌}
use native.Mathlib.Omega.{arith}
use native.Mathlib.Decide.{dec_lt}
use mathlib.Core.Path.{◌≡◌, refl, sym, ap, ◌∙◌}
use mathlib.Core.Logic.{inl, inr, ⊎_elim, ◌↔◌}
use mathlib.Core.Bool.{Bool, true, false, not, cond, true≢false}
use mathlib.Core.List.{List}
use lib.Bits.{bit_and}
use lib.Dec.{eqb, ltb, leb}
use borrow.Author.Tests.{ltb-false, le-ltb, leb-false, lt-leb, eqb-true, eqb-false, eq-eqb, ne_eqb, not-true}
use Rattle.octets.specs.Lists.{some, place}
use Rattle.octets.proofs.Tests.{both, both_true, false_of}
use Rattle.octets.proofs.Bytes.{nonzero_says}
use Rattle.octets.proofs.Parts.{same_eq, same_of}
use Rattle.sha256.specs.Hash.{sha256}
use Rattle.texts.specs.Base64url.{base64url}
use Rattle.s256.specs.Rule.{matches}
use Rattle.ledger.specs.Limits.{clock_limit}
use Rattle.ledger.specs.Fields.{clock, rec, slots, records, state, state_number, in_state, expiry, client, value}
use Rattle.ledger.specs.Sound.{sound}
use Rattle.ledger.specs.Checks.{untimely, is_free, is_reference, is_code, is_token, expired, taken}
use Rattle.ledger.specs.declared.state.State.TheVariants.{Pushed, Consented, Redeemed}
use Rattle.ledger_laws.proofs.Says.{neither}
use Rattle.ledger_laws.proofs.Searches.{First, some_in, first_in, first_place, free_says, reference_says, code_says, token_says, token_first, fresh_in, fresh_taken}
use Rattle.clients.specs.Known.{is_known, place_of, known}
use Rattle.clients.specs.Sound.{sound as table_sound}
use Rattle.clients.specs.Plain.{KnownAt}
use Rattle.clients.proofs.Laws.{known_at, known_sound}
use Rattle.description.specs.Description.{live_text, inactive_text}
use Rattle.desk.specs.Checks.{scope_fits, within}
use Rattle.desk.specs.Introspect.{describes, shown, is_live, text_for}
use Rattle.desk.proofs.Tests.{known_told, known_place}
use Rattle.call_laws.specs.Conditions.{InTime, ScopeWithin, FreshValue, FirstFree, StandsAt, TokenAt, TextFor}

-- ---- what several calls ask

pub time_says : (l : List ℕ) (t : ℕ) → (untimely l t ≡ false) ↔ InTime l t
unfolding untimely
time_says l t = (
  λ e.
      let (a, b) = neither (ltb t (clock l)) (leb clock_limit t) e in
      record { clock_reached = ltb-false t (clock l) a; below_limit = leb-false clock_limit t b },
  λ i. rw (le-ltb t (clock l) i.clock_reached) (lt-leb clock_limit t i.below_limit),
)

pub known_is : (table v key : List ℕ) → is_known table v key ≡ true → KnownAt table v key (place_of table v)
unfolding known
known_is table v key e =
    let at : known table v key ≡ Some (place_of table v) = rw e in
    let (f, x) = known_at table v key (place_of table v) at in
    record { inside = f.inside; id_is = f.has; key_is = x }

pub is_known_lem : (table v key : List ℕ) (k : ℕ) → table_sound table ≡ true → KnownAt table v key k → (is_known table v key ≡ true) × (place_of table v ≡ k)
is_known_lem table v key k s c =
    let e = known_sound table v key k s c.inside c.id_is c.key_is in
    (known_told table v key (Some k) e, known_place table v key k e)

pub scope_says : (asked given : ℕ) → (scope_fits asked given ≡ true) ↔ ScopeWithin asked given
unfolding scope_fits
scope_says asked given = (
  λ e.
      let (a, b) = both (not (eqb asked 0)) (within asked given) e in
      record { nonzero = eqb-false asked 0 (not-true (eqb asked 0) a); within_bits = eqb-true (bit_and asked given) asked b },
  λ w.
      both_true (not (eqb asked 0)) (within asked given) (ap not (ne_eqb asked 0 w.nonzero)) (eq-eqb (bit_and asked given) asked w.within_bits),
)

pub fresh_says : (l v : List ℕ) → (taken l v ≡ false) ↔ FreshValue l v
fresh_says l v = (
  λ e.
      let f = fresh_in l v e in
      record { nonzero = (nonzero_says v).0 f.nonzero; no_value = λ j h x. f.new j h (inl (sym x)); no_token = λ j h x. f.new j h (inr (sym x)) },
  λ w.
      fresh_taken l v
      (record { nonzero = (nonzero_says v).1 w.nonzero; new = λ j h o. ⊎_elim (λ x. w.no_value j h (sym x)) (λ x. w.no_token j h (sym x)) o }),
)

-- 16: the two texts are equal
pub match_says : (verifier challenge : List ℕ) → (matches verifier challenge ≡ true) ↔ (base64url (sha256 verifier) ≡ challenge)
unfolding matches
match_says verifier challenge = (same_eq (base64url (sha256 verifier)) challenge, same_of (base64url (sha256 verifier)) challenge)

pub alive_says : (t : ℕ) (r : List ℕ) → (expired t r ≡ false) ↔ (t < expiry r)
alive_says t r = (leb-false (expiry r) t, lt-leb (expiry r) t)

-- ---- the record that a call asks for

-- the first record that passes is the one named
pub place_named : (q : List ℕ → Bool) (l : List ℕ) (k : ℕ) → First q l k → place q (records l) ≡ k
place_named q l k f = first_place q l (place q (records l)) k (first_in q l (some_in q l k f.inside f.passes)) f

-- a code that waits
pub code_waits : (v c r : List ℕ) → is_code v c r ≡ true → in_state Redeemed r ≡ false → (state r ≡ state_number Consented) × ((value r ≡ v) × (client r ≡ c))
code_waits v c r e n =
    let f = (code_says v c r).0 e in
    (⊎_elim {C = state r ≡ 2} (λ s. s) (λ s. absurd (true≢false (sym (eq-eqb (state r) 3 s) ∙ n))) f.0, f.1)

waits_code : (v c r : List ℕ) → state r ≡ state_number Consented → value r ≡ v → client r ≡ c → (is_code v c r ≡ true) × (in_state Redeemed r ≡ false)
waits_code v c r s x y = ((code_says v c r).1 (inl s, (x, y)), ne_eqb (state r) 3 (λ e. omega arith))

-- 8
pub free_stands : (l : List ℕ) (k : ℕ) → First is_free l k ↔ FirstFree l k
free_stands l k = (
  λ f.
      record {
        inside = f.inside;
        is_free = (free_says (rec l k)).0 f.passes;
        before = λ j h e. true≢false (sym ((free_says (rec l j)).1 e) ∙ f.before j h);
      },
  λ f.
      record {
        inside = f.inside;
        passes = (free_says (rec l k)).1 f.is_free;
        before = λ j h. false_of (is_free (rec l j)) (λ e. f.before j h ((free_says (rec l j)).0 e));
      },
)

-- 10
pub reference_stands : (l v c : List ℕ) (k : ℕ) → k < slots l → (is_reference v c (rec l k) ≡ true) ↔ StandsAt Pushed l v c k
reference_stands l v c k h = (
  λ e.
      let (a, (b, d)) = (reference_says v c (rec l k)).0 e in
      record { inside = h; state_is = a; value_is = b; client_is = d },
  λ w. (reference_says v c (rec l k)).1 (w.state_is, (w.value_is, w.client_is)),
)

-- 14 and 15 together: a code that waits
pub code_stands : (l v c : List ℕ) (k : ℕ) → k < slots l
    → ((is_code v c (rec l k) ≡ true) × (in_state Redeemed (rec l k) ≡ false)) ↔ StandsAt Consented l v c k
code_stands l v c k h = (
  λ e.
      let (a, (b, d)) = code_waits v c (rec l k) e.0 e.1 in
      record { inside = h; state_is = a; value_is = b; client_is = d },
  λ w. waits_code v c (rec l k) w.state_is w.value_is w.client_is,
)

-- 15: a code that was redeemed
pub redeemed_stands : (l v c : List ℕ) (k : ℕ) → k < slots l
    → ((is_code v c (rec l k) ≡ true) × (in_state Redeemed (rec l k) ≡ true)) ↔ StandsAt Redeemed l v c k
redeemed_stands l v c k h = (
  λ e.
      let f = (code_says v c (rec l k)).0 e.0 in
      record { inside = h; state_is = eqb-true (state (rec l k)) 3 e.1; value_is = f.1.0; client_is = f.1.1 },
  λ w. ((code_says v c (rec l k)).1 (inr w.state_is, (w.value_is, w.client_is)), eq-eqb (state (rec l k)) 3 w.state_is),
)

-- 17
pub token_stands : (l v : List ℕ) (k : ℕ) → k < slots l → (is_token v (rec l k) ≡ true) ↔ TokenAt l v k
token_stands l v k h = (
  λ e.
      let (a, b) = (token_says v (rec l k)).0 e in
      record { inside = h; state_is = a; token_is = b },
  λ w. (token_says v (rec l k)).1 (w.state_is, w.token_is),
)

-- ---- the text for a token at a time

module _ (l : List ℕ) (t : ℕ) (v : List ℕ) where
  abbrev at_place : ℕ
  at_place = place (is_token v) (records l)

  -- a live token's record
  pub live_at : is_live l t v ≡ true → TokenAt l v at_place × (t < expiry (shown l v))
  unfolding is_live
  live_at e =
      let (a, b) = both (some (is_token v) (records l)) (not (expired t (shown l v))) e in
      let f = first_in (is_token v) l a in
      ((token_stands l v at_place f.inside).0 f.passes, (alive_says t (shown l v)).0 (not-true (expired t (shown l v)) b))

  pub place_at : sound l ≡ true → (k : ℕ) → TokenAt l v k → at_place ≡ k
  place_at ok k x = place_named (is_token v) l k (token_first l ok v k x.inside ((token_stands l v k x.inside).1 x))

  pub at_live : sound l ≡ true → (k : ℕ) → TokenAt l v k → t < expiry (rec l k) → is_live l t v ≡ true
  unfolding is_live
  at_live ok k x h =
      both_true (some (is_token v) (records l)) (not (expired t (shown l v)))
      (some_in (is_token v) l k x.inside ((token_stands l v k x.inside).1 x))
      (ap (λ (j : ℕ). not (expired t (rec l j))) (place_at ok k x) ∙ ap not ((alive_says t (rec l k)).1 h))

  at_expired : sound l ≡ true → is_live l t v ≡ false → (k : ℕ) → TokenAt l v k → expiry (rec l k) ≤ t
  at_expired ok n k x = go (dec_lt t (expiry (rec l k)))
    where
      go : Dec (t < expiry (rec l k)) → expiry (rec l k) ≤ t
      go (yes h) = absurd (true≢false (sym (at_live ok k x h) ∙ n))
      go (no h) = omega (arith, h)

  pub text_by : (b : Bool) → is_live l t v ≡ b → text_for l t v ≡ cond b (live_text (describes (shown l v))) inactive_text
  unfolding text_for
  text_by b e = rw e

  pub text_so : sound l ≡ true → TextFor l t v (text_for l t v)
  text_so ok =
      record {
        when_live = λ k x h. text_by true (at_live ok k x h) ∙ ap (λ (j : ℕ). live_text (describes (rec l j))) (place_at ok k x);
        when_not = λ f.
            text_by false
            (false_of (is_live l t v) (λ e. let (x, h) = live_at e in let g = f at_place x in omega (arith, g, h)));
      }

  -- there is no other
  pub text_only : sound l ≡ true → (text : List ℕ) → TextFor l t v text → text_for l t v ≡ text
  text_only ok text w = go (is_live l t v) refl
    where
      go : (b : Bool) → is_live l t v ≡ b → text_for l t v ≡ text
      go true e = let (x, h) = live_at e in text_by true e ∙ sym (w.when_live at_place x h)
      go false e = text_by false e ∙ sym (w.when_not (at_expired ok e))
