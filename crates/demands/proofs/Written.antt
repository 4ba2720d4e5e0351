-- The bytes of a record after a push, a consent or a token, field by field.
use Prim.Native.Nat.{ℕ, ◌+◌, ◌-◌, ◌≤◌}
use native.Mathlib.Omega.{arith}
use mathlib.Core.Path.{◌≡◌, refl, sym, ap, ◌∙◌}
use mathlib.Core.Bool.{true}
use mathlib.Core.List.{List, [], ◌∷◌, ◌++◌}
use lib.Dec.{lit≤}
use lib.ListN.{length, drop, length-append, length-drop}
use Rattle.octets.specs.Parts.{put, blank, zeros}
use Rattle.octets.specs.Spans.{field}
use Rattle.octets.specs.declared.span.Span.{Span}
use Rattle.octets.proofs.Parts.{part_length, zeros_eq}
use Rattle.octets.proofs.Bytes.{zeros_part, zeros_drop}
use Rattle.forms.specs.Limits.{redirect_most}
use Rattle.ledger.specs.Limits.{code_lifetime, token_lifetime}
use Rattle.ledger.specs.Fields.{next_number, state_span, redirect_length_span, gap_one_span, scope_span, grant_span, expiry_span, holder_span, client_span, challenge_span, gap_two_span, value_span, token_span, bound_key_span, redirect_span, redirect_field}
use Rattle.ledger.specs.Write.{pushed, consented, redeemed}
use Rattle.clients.specs.Lifetime.{lifetime_of}
use Rattle.ledger_laws.proofs.Puts.{put_wide, Store, of_number, of_bytes, stored, clean, reads, length_stored, stored_reads, stored_spared}
use Rattle.desk.specs.Requests.{PushRequest, DecideRequest, TokenRequest}
use Rattle.demands.specs.Afterwards.{Entered, Consenting, Redeeming}

-- ---- push

module _
    (l : List ℕ)
    (t : ℕ)
    (client : List ℕ)
    (p : PushRequest)
    (r : List ℕ)
    (i : length p.client ≡ 16)
    (c : length p.challenge ≡ 43)
    (v : length p.fresh ≡ 32)
    (u : length p.redirect ≤ 64)
    (long : length r ≡ 256)
    (free : zeros r ≡ true)
  where
    abbrev first_stores : List Store
    first_stores =
        of_bytes value_span p.fresh v (lit≤ tt)
        ∷ of_bytes challenge_span p.challenge c (lit≤ tt)
        ∷ of_bytes client_span p.client i (lit≤ tt)
        ∷ of_number expiry_span (t + lifetime_of client) (lit≤ tt)
        ∷ of_number grant_span (next_number l) (lit≤ tt)
        ∷ of_number scope_span p.scope (lit≤ tt)
        ∷ of_number redirect_length_span (length p.redirect) (lit≤ tt)
        ∷ of_bytes state_span (1 ∷ []) refl (lit≤ tt)
        ∷ []

    -- the redirect with what stays behind it
    abbrev whole_field : List ℕ
    whole_field = p.redirect ++ drop (length p.redirect) (redirect_field r)

    field_long : length whole_field ≡ 64
    field_long =
        let e = part_length r 192 64 (omega arith) in
        simp (length-append, length-drop) (omega arith)

    -- zeros, as all of the record was
    behind_is : whole_field ≡ p.redirect ++ blank (redirect_most - length p.redirect)
    behind_is =
        let e = part_length r 192 64 (omega arith) in
        let z = zeros_drop (length p.redirect) (redirect_field r) (zeros_part r 192 64 free) in
        let n : length (drop (length p.redirect) (redirect_field r)) ≡ redirect_most - length p.redirect = simp length-drop (omega arith) in
        ap (λ (xs : List ℕ). p.redirect ++ xs) (zeros_eq (drop (length p.redirect) (redirect_field r)) z ∙ ap blank n)

    abbrev push_stores : List Store
    push_stores = of_bytes redirect_span whole_field field_long (lit≤ tt) ∷ first_stores

    abbrev the_pushed : List ℕ
    the_pushed = pushed p.scope (next_number l) (t + lifetime_of client) p.client p.challenge p.fresh p.redirect r

    push_stored : the_pushed ≡ stored push_stores r
    unfolding pushed
    push_stored =
        put_wide (stored first_stores r) 192 64 p.redirect u (sym (length_stored first_stores r ∙ long))
        ∙ ap (λ (xs : List ℕ). put (stored first_stores r) 192 (p.redirect ++ drop (length p.redirect) xs)) (stored_spared first_stores r long redirect_span refl)

    push_at_lem : (s : Span) → clean push_stores s ≡ true → field s the_pushed ≡ reads push_stores r s
    push_at_lem s e = ap (field s) push_stored ∙ stored_reads push_stores r long s e

    pub entered : Entered l t client p r the_pushed
    entered =
        record {
          state_is = push_at_lem state_span refl;
          length_is = push_at_lem redirect_length_span refl;
          gap_one_stays = push_at_lem gap_one_span refl;
          scope_is = push_at_lem scope_span refl;
          grant_is = push_at_lem grant_span refl;
          expiry_is = push_at_lem expiry_span refl;
          holder_stays = push_at_lem holder_span refl;
          client_is = push_at_lem client_span refl;
          challenge_is = push_at_lem challenge_span refl;
          gap_two_stays = push_at_lem gap_two_span refl;
          value_is = push_at_lem value_span refl;
          token_stays = push_at_lem token_span refl;
          key_stays = push_at_lem bound_key_span refl;
          redirect_is = push_at_lem redirect_span refl ∙ behind_is;
        }

-- ---- decide, yes

module _ (t : ℕ) (d : DecideRequest) (r : List ℕ) (v : length d.fresh ≡ 32) (long : length r ≡ 256) where
  abbrev consent_stores : List Store
  consent_stores =
      of_bytes value_span d.fresh v (lit≤ tt)
      ∷ of_number holder_span d.holder (lit≤ tt)
      ∷ of_number expiry_span (t + code_lifetime) (lit≤ tt)
      ∷ of_bytes state_span (2 ∷ []) refl (lit≤ tt)
      ∷ []

  abbrev the_consented : List ℕ
  the_consented = consented (t + code_lifetime) d.holder d.fresh r

  consent_at_lem : (s : Span) → clean consent_stores s ≡ true → field s the_consented ≡ reads consent_stores r s
  unfolding consented
  consent_at_lem s e = stored_reads consent_stores r long s e

  pub consenting : Consenting t d r the_consented
  consenting =
      record {
        state_is = consent_at_lem state_span refl;
        length_stays = consent_at_lem redirect_length_span refl;
        gap_one_stays = consent_at_lem gap_one_span refl;
        scope_stays = consent_at_lem scope_span refl;
        grant_stays = consent_at_lem grant_span refl;
        expiry_is = consent_at_lem expiry_span refl;
        holder_is = consent_at_lem holder_span refl;
        client_stays = consent_at_lem client_span refl;
        challenge_stays = consent_at_lem challenge_span refl;
        gap_two_stays = consent_at_lem gap_two_span refl;
        value_is = consent_at_lem value_span refl;
        token_stays = consent_at_lem token_span refl;
        key_stays = consent_at_lem bound_key_span refl;
        redirect_stays = consent_at_lem redirect_span refl;
      }

-- ---- token

module _ (t : ℕ) (q : TokenRequest) (r : List ℕ) (v : length q.fresh ≡ 32) (w : length q.presented ≡ 32) (long : length r ≡ 256) where
  abbrev token_stores : List Store
  token_stores =
      of_bytes bound_key_span q.presented w (lit≤ tt)
      ∷ of_bytes token_span q.fresh v (lit≤ tt)
      ∷ of_number expiry_span (t + token_lifetime) (lit≤ tt)
      ∷ of_bytes state_span (3 ∷ []) refl (lit≤ tt)
      ∷ []

  abbrev the_redeemed : List ℕ
  the_redeemed = redeemed (t + token_lifetime) q.fresh q.presented r

  token_at_lem : (s : Span) → clean token_stores s ≡ true → field s the_redeemed ≡ reads token_stores r s
  unfolding redeemed
  token_at_lem s e = stored_reads token_stores r long s e

  pub redeeming : Redeeming t q r the_redeemed
  redeeming =
      record {
        state_is = token_at_lem state_span refl;
        length_stays = token_at_lem redirect_length_span refl;
        gap_one_stays = token_at_lem gap_one_span refl;
        scope_stays = token_at_lem scope_span refl;
        grant_stays = token_at_lem grant_span refl;
        expiry_is = token_at_lem expiry_span refl;
        holder_stays = token_at_lem holder_span refl;
        client_stays = token_at_lem client_span refl;
        challenge_stays = token_at_lem challenge_span refl;
        gap_two_stays = token_at_lem gap_two_span refl;
        value_stays = token_at_lem value_span refl;
        token_is = token_at_lem token_span refl;
        key_is = token_at_lem bound_key_span refl;
        redirect_stays = token_at_lem redirect_span refl;
      }
