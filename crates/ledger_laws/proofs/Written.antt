-- What a record says after a push, a consent or a token: each writer is one of slots.
use Prim.Native.Nat.{ℕ, ◌≤◌, ◌<◌, ◌^◌}
use native.Mathlib.Omega.{arith}
use mathlib.Core.Path.{◌≡◌, refl, sym, ap, ap₂, ◌∙◌}
use mathlib.Core.Bool.{Bool, true, ◌&&◌}
use mathlib.Core.List.{List, [], ◌∷◌, ◌++◌}
use lib.Dec.{lit≤}
use lib.ListN.{length, get_or, take, drop, length-append, length-drop}
use lib.Seq.{take_all}
use Rattle.octets.specs.Lists.{every}
use Rattle.octets.specs.Numbers.{num, digits}
use Rattle.octets.specs.declared.span.Span.{Span}
use Rattle.octets.proofs.Lists.{every_at}
use Rattle.octets.proofs.Tests.{both}
use Rattle.octets.proofs.Parts.{part_length}
use Rattle.octets.proofs.Numbers.{num_digits}
use Rattle.ledger.specs.Limits.{record_size}
use Rattle.ledger.specs.Fields.{state_span, redirect_length_span, gap_one_span, scope_span, grant_span, expiry_span, holder_span, client_span, challenge_span, gap_two_span, value_span, token_span, bound_key_span, redirect_span, with_redirect, state, state_number, redirect_length, gap_one, gap_two, scope, grant, expiry, holder, client, challenge, value, token, bound_key, redirect_field, redirect, behind_redirect}
use Rattle.ledger.specs.Write.{pushed, consented, redeemed}
use Rattle.ledger.specs.declared.state.State.TheVariants.{Pushed, Consented, Redeemed}
use Rattle.ledger_laws.proofs.Slots.{Slot, slot_of, pushed_slot, consented_slot, redeemed_slot}
use Rattle.ledger_laws.proofs.Puts.{put_wide, byte_at, Store, of_number, of_bytes, stored, clean, spared, reads, length_stored, stored_reads, stored_spared}

-- the record s says x, and its zero fields say what those of r do
pub record Wrote (r s : List ℕ) (x : Slot) : Type 0 where
  pub long : length s ≡ record_size
  pub gap_one_lem : gap_one s ≡ gap_one r
  pub gap_two_lem : gap_two s ≡ gap_two r
  pub state_is : state s ≡ x.state
  pub length_is : redirect_length s ≡ x.redirect_length
  pub scope_is : scope s ≡ x.scope
  pub grant_is : grant s ≡ x.grant
  pub expiry_is : expiry s ≡ x.expiry
  pub holder_is : holder s ≡ x.holder
  pub client_is : client s ≡ x.client
  pub challenge_is : challenge s ≡ x.challenge
  pub value_is : value s ≡ x.value
  pub token_is : token s ≡ x.token
  pub key_is : bound_key s ≡ x.bound_key
  pub field_is : redirect_field s ≡ x.redirect_field

-- the redirect is the front of its field: nothing stands behind the field
pub redirect_front : (s : List ℕ) → length s ≡ record_size → redirect s ≡ take (redirect_length s) (redirect_field s)
redirect_front s h =
    let a = redirect_span.place in
    let p : length (drop a s) ≤ redirect_span.width = simp length-drop (omega arith) in
    ap (take (redirect_length s)) (sym (take_all redirect_span.width (drop a s) p))

pub wrote_redirect : (r s : List ℕ) (x : Slot) → Wrote r s x → redirect s ≡ take x.redirect_length x.redirect_field
wrote_redirect r s x f = redirect_front s f.long ∙ ap₂ take f.length_is f.field_is

pub wrote_behind : (r s : List ℕ) (x : Slot) → Wrote r s x → behind_redirect s ≡ drop x.redirect_length x.redirect_field
wrote_behind r s x f = ap₂ drop f.length_is f.field_is

-- ---- fields stored in a record: what it says then

-- the fields of a slot
abbrev spans : List Span
spans =
    state_span ∷ redirect_length_span ∷ scope_span ∷ grant_span ∷ expiry_span ∷ holder_span ∷ client_span ∷ challenge_span ∷ value_span ∷ token_span ∷ bound_key_span ∷ redirect_span ∷ []

-- whole fields are stored, and no zero field
abbrev tidy : List Store → Bool
tidy ws = every (clean ws) spans && (spared ws gap_one_span && spared ws gap_two_span)

abbrev read_slot : List Store → List ℕ → Slot
read_slot ws r =
    record {
      state = get_or (reads ws r state_span) 0 0;
      redirect_length = get_or (reads ws r redirect_length_span) 0 0;
      scope = num (reads ws r scope_span);
      grant = num (reads ws r grant_span);
      expiry = num (reads ws r expiry_span);
      holder = num (reads ws r holder_span);
      client = reads ws r client_span;
      challenge = reads ws r challenge_span;
      value = reads ws r value_span;
      token = reads ws r token_span;
      bound_key = reads ws r bound_key_span;
      redirect_field = reads ws r redirect_span;
    }

wrote : (ws : List Store) (r : List ℕ) → length r ≡ record_size → tidy ws ≡ true → Wrote r (stored ws r) (read_slot ws r)
wrote ws r h t =
    let (c, g) = both (every (clean ws) spans) (spared ws gap_one_span && spared ws gap_two_span) t in
    let (g₁, g₂) = both (spared ws gap_one_span) (spared ws gap_two_span) g in
    let at = every_at (clean ws) spans state_span c in
    record {
      long = length_stored ws r ∙ h;
      gap_one_lem = stored_spared ws r h gap_one_span g₁;
      gap_two_lem = stored_spared ws r h gap_two_span g₂;
      state_is = byte_at (stored ws r) state_span.place ∙ ap (λ (xs : List ℕ). get_or xs 0 0) (stored_reads ws r h state_span (at 0 (lit≤ tt)));
      length_is = byte_at (stored ws r) redirect_length_span.place ∙ ap (λ (xs : List ℕ). get_or xs 0 0) (stored_reads ws r h redirect_length_span (at 1 (lit≤ tt)));
      scope_is = ap num (stored_reads ws r h scope_span (at 2 (lit≤ tt)));
      grant_is = ap num (stored_reads ws r h grant_span (at 3 (lit≤ tt)));
      expiry_is = ap num (stored_reads ws r h expiry_span (at 4 (lit≤ tt)));
      holder_is = ap num (stored_reads ws r h holder_span (at 5 (lit≤ tt)));
      client_is = stored_reads ws r h client_span (at 6 (lit≤ tt));
      challenge_is = stored_reads ws r h challenge_span (at 7 (lit≤ tt));
      value_is = stored_reads ws r h value_span (at 8 (lit≤ tt));
      token_is = stored_reads ws r h token_span (at 9 (lit≤ tt));
      key_is = stored_reads ws r h bound_key_span (at 10 (lit≤ tt));
      field_is = stored_reads ws r h redirect_span (at 11 (lit≤ tt));
    }

-- ---- push

byte_digit : (n : ℕ) → n < 256 → get_or (digits 1 n) 0 0 ≡ n
unfolding digits
byte_digit n h = omega arith

module _
    (bits number until : ℕ)
    (id text fresh target r : List ℕ)
    (a : bits < 2 ^ 32)
    (b : number < 2 ^ 64)
    (c : until < 2 ^ 64)
    (i : length id ≡ client_span.width)
    (t : length text ≡ challenge_span.width)
    (v : length fresh ≡ value_span.width)
    (u : length target ≤ redirect_span.width)
    (long : length r ≡ record_size)
  where
    abbrev first_stores : List Store
    first_stores =
        of_bytes value_span fresh v (lit≤ tt)
        ∷ of_bytes challenge_span text t (lit≤ tt)
        ∷ of_bytes client_span id i (lit≤ tt)
        ∷ of_number expiry_span until (lit≤ tt)
        ∷ of_number grant_span number (lit≤ tt)
        ∷ of_number scope_span bits (lit≤ tt)
        ∷ of_number redirect_length_span (length target) (lit≤ tt)
        ∷ of_bytes state_span (state_number Pushed ∷ []) refl (lit≤ tt)
        ∷ []

    -- the redirect with what stays behind it
    abbrev whole_field : List ℕ
    whole_field = target ++ drop (length target) (redirect_field r)

    field_long : length whole_field ≡ redirect_span.width
    field_long =
        let e = part_length r redirect_span.place redirect_span.width (omega arith) in
        simp (length-append, length-drop) (omega arith)

    abbrev push_stores : List Store
    push_stores = of_bytes redirect_span whole_field field_long (lit≤ tt) ∷ first_stores

    push_stored : pushed bits number until id text fresh target r ≡ stored push_stores r
    unfolding pushed
    push_stored =
        put_wide (stored first_stores r) redirect_span.place redirect_span.width target u (sym (length_stored first_stores r ∙ long))
        ∙ ap (λ (xs : List ℕ). with_redirect (target ++ drop (length target) xs) (stored first_stores r)) (stored_spared first_stores r long redirect_span refl)

    push_slot : read_slot push_stores r ≡ pushed_slot bits number until id text fresh target (slot_of r)
    unfolding slot_of
    push_slot = rw (byte_digit (length target) (omega arith), num_digits 4 bits a, num_digits 8 number b, num_digits 8 until c)

    pub pushed_wrote : Wrote r (pushed bits number until id text fresh target r) (pushed_slot bits number until id text fresh target (slot_of r))
    pushed_wrote = rw (push_stored, ← push_slot) (wrote push_stores r long refl)

-- ---- decide, yes

module _ (until who : ℕ) (fresh r : List ℕ) (c : until < 2 ^ 64) (w : who < 2 ^ 64) (v : length fresh ≡ value_span.width) (long : length r ≡ record_size) where
  abbrev consent_stores : List Store
  consent_stores =
      of_bytes value_span fresh v (lit≤ tt)
      ∷ of_number holder_span who (lit≤ tt)
      ∷ of_number expiry_span until (lit≤ tt)
      ∷ of_bytes state_span (state_number Consented ∷ []) refl (lit≤ tt)
      ∷ []

  consent_slot : read_slot consent_stores r ≡ consented_slot until who fresh (slot_of r)
  unfolding slot_of
  consent_slot = rw (← byte_at r 1, num_digits 8 until c, num_digits 8 who w)

  pub consented_wrote : Wrote r (consented until who fresh r) (consented_slot until who fresh (slot_of r))
  unfolding consented
  consented_wrote = rw (← consent_slot) (wrote consent_stores r long refl)

-- ---- token

module _ (until : ℕ) (fresh key r : List ℕ) (c : until < 2 ^ 64) (v : length fresh ≡ token_span.width) (w : length key ≡ bound_key_span.width) (long : length r ≡ record_size) where
  abbrev token_stores : List Store
  token_stores =
      of_bytes bound_key_span key w (lit≤ tt)
      ∷ of_bytes token_span fresh v (lit≤ tt)
      ∷ of_number expiry_span until (lit≤ tt)
      ∷ of_bytes state_span (state_number Redeemed ∷ []) refl (lit≤ tt)
      ∷ []

  token_slot : read_slot token_stores r ≡ redeemed_slot until fresh key (slot_of r)
  unfolding slot_of
  token_slot = rw (← byte_at r 1, num_digits 8 until c)

  pub redeemed_wrote : Wrote r (redeemed until fresh key r) (redeemed_slot until fresh key (slot_of r))
  unfolding redeemed
  redeemed_wrote = rw (← token_slot) (wrote token_stores r long refl)
