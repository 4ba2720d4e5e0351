-- What pending shows is what decide allows.
use Prim.Native.Nat.{ℕ, ◌+◌, ◌≤◌}
use native.Mathlib.Omega.{arith}
use mathlib.Core.Path.{◌≡◌, refl, sym, ap, ◌∙◌}
use mathlib.Core.Bool.{Bool, true}
use mathlib.Core.List.{List, [], ◌∷◌}
use lib.Dec.{lit≤}
use lib.ListN.{length, take, drop, length-take}
use lib.Seq.{take-add, drop_at}
use borrow.Author.Tests.{ltb-false}
use Rattle.octets.specs.Numbers.{num}
use Rattle.octets.specs.Parts.{part, put}
use Rattle.octets.specs.Spans.{field}
use Rattle.octets.specs.declared.span.Span.{Span}
use Rattle.octets.proofs.Parts.{length_put, put_same, part_length}
use Rattle.ledger.specs.Limits.{record_size}
use Rattle.ledger.specs.Fields.{rec, state_number, state_span, scope_span, scope, grant_span, grant, expiry_span, holder_span, value_span, redirect_field}
use Rattle.ledger.specs.Checks.{is_reference}
use Rattle.ledger.specs.Write.{consented}
use Rattle.ledger.specs.declared.state.State.TheVariants.{Consented}
use Rattle.ledger.proofs.Records.{rec_length}
use Rattle.ledger_laws.proofs.Puts.{take_put, Store, of_number, of_bytes, stored, spared, length_stored, stored_spared}
use Rattle.ledger_laws.proofs.Searches.{first_in}
use Rattle.desk.specs.Limits.{output_least}
use Rattle.desk.specs.Outcome.{Outcome}
use Rattle.desk.specs.Requests.{PendingRequest}
use Rattle.desk.specs.Decide.{handed_out, consent_record, consent_at, decline_at, decide_at, decide}
use Rattle.desk.specs.Pending.{pending_place, pending_at, pending}
use Rattle.desk.specs.declared.answer.Decided.{Decided}
use Rattle.desk.proofs.Turns.{number_refused}
use Rattle.call_laws.specs.Shown.{deciding, Accepted, SameGrant, Shown}
use Rattle.call_laws.proofs.Rows.{decide_cases, pending_cases}
use Rattle.call_laws.proofs.Facts.{PendingFacts, pending_facts, decide_facts}
use Rattle.call_laws.proofs.Accepting.{decide_accepted, pending_accepted}
use Rattle.call_laws.proofs.Alone.{either_way, pending_ledger}

-- ---- a consent spares the fields before it, however long the fresh value is

before_put : (r : List ℕ) (a : ℕ) (xs : List ℕ) (b m : ℕ) → b + m ≤ a → b + m ≤ length r → part (put r a xs) b m ≡ part r b m
before_put r a xs b m h w =
    let e = length_put r a xs in
    front (put r a xs) (omega arith) ∙ ap (drop b) (take_put r a xs (b + m) h) ∙ sym (front r w)
  where
    front : (s : List ℕ) → b + m ≤ length s → part s b m ≡ drop b (take (b + m) s)
    front s k =
        let n : length (take b s) ≡ b = simp length-take (omega arith) in
        sym (ap (drop b) (take-add b m s) ∙ drop_at (take b s) (take m (drop b s)) b n)

module _ (until who : ℕ) (fresh r : List ℕ) (long : length r ≡ record_size) where
  abbrev stores : List Store
  stores =
      of_number holder_span who (lit≤ tt)
      ∷ of_number expiry_span until (lit≤ tt)
      ∷ of_bytes state_span (state_number Consented ∷ []) refl (lit≤ tt)
      ∷ []

  consent_spares : (s : Span) → spared stores s ≡ true → s.place + s.width ≤ value_span.place → field s (consented until who fresh r) ≡ field s r
  unfolding consented
  consent_spares s e h =
      let n = length_stored stores r in
      before_put (stored stores r) value_span.place fresh s.place s.width h (omega arith) ∙ stored_spared stores r long s e

  consent_grant : grant (consented until who fresh r) ≡ grant r
  consent_grant = ap num (consent_spares grant_span refl (lit≤ tt))

  consent_scope : scope (consented until who fresh r) ≡ scope r
  consent_scope = ap num (consent_spares scope_span refl (lit≤ tt))

-- ---- the record that is shown is the one that is decided on

front_out : (r out : List ℕ) → length r ≡ record_size → output_least ≤ length out → take output_least (handed_out r out) ≡ redirect_field r
front_out r out long h =
    let w : length (redirect_field r) ≡ output_least = part_length r 192 64 (omega arith) in
    put_same out 0 output_least (redirect_field r) w h

module _ (l : List ℕ) (t : ℕ) (p : PendingRequest) (seen : List ℕ) where
  abbrev place : ℕ
  place = pending_place l p

  shown_long : PendingFacts l t p seen → length (rec l place) ≡ record_size
  shown_long f = rec_length l place (first_in (is_reference p.reference p.client) l f.there).inside

  -- what holds of the request shown holds of an accepted pending
  shown_at : (P : Outcome Decided → Type 0) → (PendingFacts l t p seen → P (pending_at l seen place)) → Accepted (pending l t p seen) → P (pending l t p seen)
  unfolding pending_at
  shown_at P f =
      pending_cases l t p seen (λ (o : Outcome Decided). Accepted o → P o) (λ why u e. absurd (number_refused why e)) (λ ok e. f (pending_facts l t p seen ok))

  module _ (u : ℕ) (who : ℕ) (fresh out : List ℕ) where
    decided_grant : (choice : Bool) → Accepted (pending l t p seen) → Accepted (decide l u (deciding p choice who fresh) out)
        → SameGrant (pending l t p seen) (decide l u (deciding p choice who fresh) out)
    unfolding pending_at consent_at decline_at consent_record
    decided_grant choice =
        shown_at (λ (s : Outcome Decided). Accepted (decide l u (deciding p choice who fresh) out) → SameGrant s (decide l u (deciding p choice who fresh) out))
        (λ f.
        let n = shown_long f in
        decide_cases l u (deciding p choice who fresh) out (λ (o : Outcome Decided). Accepted o → SameGrant (pending_at l seen place) o)
        (λ why x e. absurd (number_refused why e))
        (λ ok.
        let g = decide_facts l u (deciding p choice who fresh) out ok in
        let same : take output_least (handed_out (rec l place) out) ≡ take output_least (handed_out (rec l place) seen)
        = front_out (rec l place) out n (ltb-false (length out) output_least g.output_long)
        ∙ sym (front_out (rec l place) seen n (ltb-false (length seen) output_least f.output_long)) in
        either_way l u (deciding p choice who fresh) out (λ (o : Outcome Decided). Accepted o → SameGrant (pending_at l seen place) o)
        (λ e. record { grant_is = consent_grant _ who fresh (rec l place) n; length_is = refl; redirect_is = same })
        (λ e. record { grant_is = refl; length_is = refl; redirect_is = same })))

    decided_scope : Accepted (pending l t p seen) → Accepted (decide l u (deciding p true who fresh) out)
        → (decide l u (deciding p true who fresh) out).answer.answer.scope ≡ (pending l t p seen).answer.answer.scope
    unfolding pending_at decide_at consent_at consent_record
    decided_scope =
        shown_at
        (λ (s : Outcome Decided). Accepted (decide l u (deciding p true who fresh) out)
        → (decide l u (deciding p true who fresh) out).answer.answer.scope ≡ s.answer.answer.scope)
        (λ f.
        decide_cases l u (deciding p true who fresh) out (λ (o : Outcome Decided). Accepted o → o.answer.answer.scope ≡ scope (rec l place))
        (λ why x e. absurd (number_refused why e)) (λ ok e. consent_scope _ who fresh (rec l place) (shown_long f)))

-- ---- the same conditions, but for 12 and 7

pub shown : Shown
shown =
    record {
      ledger_stays = pending_ledger;
      grant_shown = λ l t u p choice who fresh seen out. decided_grant l t p seen u who fresh out choice;
      scope_shown = λ l t u p who fresh seen out. decided_scope l t p seen u who fresh out;
      can_be_allowed = λ l t p who fresh seen out e room given new.
          let w = (pending_accepted l t p seen).0 e in
          (decide_accepted l t (deciding p true who fresh) out).1
          (record {
            ledger_sound = w.ledger_sound;
            in_time = w.in_time;
            output_room = room;
            k = w.k;
            waits = w.waits;
            alive = w.alive;
            holder_given = given;
            fresh_new = λ y. new;
          });
      can_be_shown = λ l t p choice who fresh seen out e room.
          let w = (decide_accepted l t (deciding p choice who fresh) out).0 e in
          (pending_accepted l t p seen).1
          (record { ledger_sound = w.ledger_sound; in_time = w.in_time; output_room = room; k = w.k; waits = w.waits; alive = w.alive });
    }
