-- A call keeps the length of the ledger, and a frame keeps ledger and table within the largest size.
use Rattle.std.specs.Prelude.{Result, Ok, Err}
use Prim.Native.Nat.{ℕ, zero, suc, ◌+◌, ◌*◌, ◌≤◌, ◌<◌}
use native.Mathlib.Omega.{arith}
use mathlib.Core.Path.{◌≡◌, refl, sym, ap, ◌∙◌}
use mathlib.Core.Bool.{Bool, true, false, not, cond, false≢true}
use mathlib.Core.List.{List, [], ◌∷◌, ◌++◌}
use lib.Dec.{eqb, leb}
use lib.ListN.{length, get_or, take, length-append, length-take, length-drop}
use Rattle.std.proofs.Common.{Option, None, Some}
use borrow.Author.Tests.{not-false, leb-true, eqb-true, eq-eqb}
use Rattle.octets.specs.Lists.{some, every, place}
use Rattle.octets.specs.Parts.{part}
use Rattle.octets.proofs.Lists.{place_lt}
use Rattle.octets.proofs.Tests.{both}
use Rattle.octets.proofs.Parts.{length_put}
use Rattle.ledger.specs.Fields.{records, rec, slots}
use Rattle.ledger.specs.Checks.{is_free, is_reference, is_code}
use Rattle.ledger.specs.Write.{pushed, consented, redeemed, free}
use Rattle.ledger.specs.Sweep.{swept}
use Rattle.ledger.proofs.Records.{length_records, rec_length, length_with}
use Rattle.ledger.proofs.Swept.{length_free, length_to}
use Rattle.desk.specs.declared.answer.Answer.{Answer}
use Rattle.desk.specs.declared.answer.Refusal.{Refusal}
use Rattle.desk.specs.declared.answer.Refusal.TheVariants.{LedgerUnsound, CodeRedeemed}
use Rattle.desk.specs.Answers.{number_of}
use Rattle.desk.specs.Checks.{Check, ◌when◌, Verdict, accepted, stopped, first}
use Rattle.desk.specs.Requests.{PushRequest, DecideRequest, TokenRequest, ResourceRequest}
use Rattle.desk.specs.Outcome.{Outcome, concludes}
use Rattle.desk.specs.Push.{push, push_leaves, push_checks, push_at, push_record}
use Rattle.desk.specs.Decide.{decide, decide_leaves, decide_checks, decide_at, consent_at, decline_at, consent_record, reference_place}
use Rattle.desk.specs.Token.{token, token_checks, token_at, ended, token_leaves, token_record, code_place}
use Rattle.desk.specs.Resource.{resource, resource_by, look}
use Rattle.desk.specs.Sweep.{sweep, sweep_checks, sweep_leaves}
use Rattle.wire.specs.declared.kind.Kind.{Kind}
use Rattle.wire.specs.declared.kind.Kind.TheVariants.{Start, Push, Decide, Token, Resource, Sweep, Client}
use Rattle.frames.specs.Limits.{ledger_most, table_most}
use Rattle.texts.specs.Hex.{between}
use Rattle.wire.specs.Calls.{slot_count}
use Rattle.frames.specs.Serve as serving
use Rattle.wire.specs.Answers.{number_bytes}
use Rattle.frames.specs.Serve.{Desk, Served, Written, written, serve, started, appended}
use Rattle.desk.specs.Start.{empty_ledger}
use Rattle.desk.proofs.Turns.{number_row}
use Rattle.texts.proofs.Digits.{within}
use Rattle.frames.proofs.Holding.{length_empty}

-- ---- all checks passed

first_head : (b : Bool) (why : Refusal) (v : Verdict) → cond b (stopped why) v ≡ accepted → (b ≡ false) × (v ≡ accepted)
first_head true why v e = let z : ◌≡◌ {A = ℕ} 0 1 = cc in absurd (omega arith)
first_head false why v e = (refl, e)

passing : Check
passing = LedgerUnsound when false

passed : (cs : List Check) (i : ℕ) → first cs ≡ accepted → (get_or cs i passing).holds ≡ false
unfolding first passing
passed [] zero e = refl
passed [] (suc i) e = refl
passed (c ∷ cs) zero e = (first_head c.holds c.why (first cs) e).0
passed (c ∷ cs) (suc i) e = passed cs i (first_head c.holds c.why (first cs) e).1

-- ---- a check before the row that is answered has passed

abbrev other : Refusal → Check → Bool
other why c = not (eqb (number_of c.why) (number_of why))

stopped_head : (b : Bool) (w why : Refusal) (v : Verdict) → cond b (stopped w) v ≡ stopped why → not (eqb (number_of w) (number_of why)) ≡ true
    → (b ≡ false) × (v ≡ stopped why)
stopped_head true w why v e n =
    let x : w ≡ why = cc in
    absurd (false≢true (sym (ap not (eq-eqb (number_of w) (number_of why) (ap number_of x))) ∙ n))
stopped_head false w why v e n = (refl, e)

stopped_past : (cs : List Check) (i : ℕ) (why : Refusal) → first cs ≡ stopped why → every (other why) (take (suc i) cs) ≡ true → (get_or cs i passing).holds ≡ false
unfolding first passing
stopped_past [] zero why e h = refl
stopped_past [] (suc i) why e h = refl
stopped_past (c ∷ cs) zero why e h = (stopped_head c.holds c.why why (first cs) e (both (other why c) _ h).0).0
stopped_past (c ∷ cs) (suc i) why e h =
    let (a, b) = both (other why c) (every (other why) (take (suc i) cs)) h in
    stopped_past cs i why (stopped_head c.holds c.why why (first cs) e a).1 b

-- what is found is a place in the ledger
inside : (q : List ℕ → Bool) (l : List ℕ) → some q (records l) ≡ true → place q (records l) < slots l
inside q l e = rw (← length_records l) (place_lt q (records l) e)

-- ---- a call's ledger is as long as it was

concluded : {A : Type 0} (v : Verdict) (l : List ℕ) (leaves : Refusal → Outcome A) (o : Outcome A)
    → ((why : Refusal) → v ≡ stopped why → length (leaves why).ledger ≡ length l)
    → (v ≡ accepted → length o.ledger ≡ length l) → length (concludes v leaves o).ledger ≡ length l
concluded accepted l leaves o r f = f refl
concluded (stopped why) l leaves o r f = r why refl

module _ (l : List ℕ) (t : ℕ) (table : List ℕ) (p : PushRequest) where
  push_inside : first (push_checks l t table p) ≡ accepted → place is_free (records l) < slots l
  unfolding push_checks passing
  push_inside e = inside is_free l (not-false (some is_free (records l)) (passed (push_checks l t table p) 7 e))

  push_record_lem : (k : ℕ) → k < slots l → length (push_record l t table p (rec l k)) ≡ 256
  unfolding push_record pushed
  push_record_lem k h = simp length_put (rec_length l k h)

  push_at_lem : (k : ℕ) → k < slots l → length (push_at l t table p k).ledger ≡ length l
  unfolding push_at
  push_at_lem k h = simp length_put (length_with l k (push_record l t table p (rec l k)) (push_record_lem k h) h)

  pub push_length : length (push l t table p).ledger ≡ length l
  unfolding push
  push_length =
      concluded (first (push_checks l t table p)) l (push_leaves l) (push_at l t table p (place is_free (records l))) (λ why r. refl) (λ e. push_at_lem (place is_free (records l)) (push_inside e))

module _ (l : List ℕ) (t : ℕ) (d : DecideRequest) (out : List ℕ) where
  decide_inside : first (decide_checks l t d out (reference_place l d)) ≡ accepted → reference_place l d < slots l
  unfolding decide_checks passing
  decide_inside e =
      inside (is_reference d.reference d.client) l
      (not-false (some (is_reference d.reference d.client) (records l)) (passed (decide_checks l t d out (reference_place l d)) 3 e))

  consent_record_lem : (k : ℕ) → k < slots l → length (consent_record t d.holder d.fresh (rec l k)) ≡ 256
  unfolding consent_record consented
  consent_record_lem k h = simp length_put (rec_length l k h)

  consent_at_lem : (k : ℕ) → k < slots l → length (consent_at l t d.holder d.fresh out k).ledger ≡ length l
  unfolding consent_at
  consent_at_lem k h = simp length_put (length_with l k (consent_record t d.holder d.fresh (rec l k)) (consent_record_lem k h) h)

  decline_at_lem : (k : ℕ) → k < slots l → length (decline_at l t d.holder out k).ledger ≡ length l
  unfolding decline_at
  decline_at_lem k h = simp length_put (length_with l k free length_free h)

  decide_at_lem : (k : ℕ) → k < slots l → length (decide_at l t d out k).ledger ≡ length l
  unfolding decide_at
  decide_at_lem k h =
      elim d.yes as (λ (b : Bool). length (cond b (consent_at l t d.holder d.fresh out k) (decline_at l t d.holder out k)).ledger ≡ length l)
      [ true ↦ consent_at_lem k h | false ↦ decline_at_lem k h ]

  pub decide_length : length (decide l t d out).ledger ≡ length l
  unfolding decide
  decide_length =
      concluded (first (decide_checks l t d out (reference_place l d))) l (decide_leaves l out) (decide_at l t d out (reference_place l d)) (λ why r. refl) (λ e. decide_at_lem (reference_place l d) (decide_inside e))

module _ (l : List ℕ) (t : ℕ) (table : List ℕ) (q : TokenRequest) where
  token_inside : first (token_checks l t table q (code_place l q)) ≡ accepted → code_place l q < slots l
  unfolding token_checks passing
  token_inside e =
      inside (is_code q.code q.client) l
      (not-false (some (is_code q.code q.client) (records l)) (passed (token_checks l t table q (code_place l q)) 6 e))

  token_record_lem : (k : ℕ) → k < slots l → length (token_record t q (rec l k)) ≡ 256
  unfolding token_record redeemed
  token_record_lem k h = simp length_put (rec_length l k h)

  token_at_lem : (k : ℕ) → k < slots l → length (token_at l t q k).ledger ≡ length l
  unfolding token_at
  token_at_lem k h = simp length_put (length_with l k (token_record t q (rec l k)) (token_record_lem k h) h)

  -- 15 is given of a record that was found
  ended_inside : first (token_checks l t table q (code_place l q)) ≡ stopped CodeRedeemed → code_place l q < slots l
  unfolding token_checks passing
  ended_inside e =
      inside (is_code q.code q.client) l
      (not-false (some (is_code q.code q.client) (records l)) (stopped_past (token_checks l t table q (code_place l q)) 6 CodeRedeemed e refl))

  token_refused : (why : Refusal) → first (token_checks l t table q (code_place l q)) ≡ stopped why → length (token_leaves l t (code_place l q) why).ledger ≡ length l
  token_refused why e = go (eqb (number_of why) (number_of CodeRedeemed)) refl
    where
      go : (b : Bool) → eqb (number_of why) (number_of CodeRedeemed) ≡ b → length (cond b (ended l t (code_place l q)) l) ≡ length l
      go true h =
          let w = number_row why CodeRedeemed (eqb-true (number_of why) (number_of CodeRedeemed) h) in
          simp length_put (length_with l (code_place l q) free length_free (ended_inside (e ∙ ap stopped w)))
      go false h = refl

  pub token_length : length (token l t table q).ledger ≡ length l
  unfolding token
  token_length =
      concluded (first (token_checks l t table q (code_place l q))) l (token_leaves l t (code_place l q)) (token_at l t q (code_place l q)) token_refused (λ e. token_at_lem (code_place l q) (token_inside e))

by_reading : (r : Result Answer Refusal) (l : List ℕ) (t : ℕ) → length (resource_by r l t).ledger ≡ length l
by_reading (Ok a) l t = simp length_put
by_reading (Err why) l t = refl

pub resource_length : (l : List ℕ) (t : ℕ) (q : ResourceRequest) → length (resource l t q).ledger ≡ length l
unfolding resource
resource_length l t q = by_reading (look l t q) l t

swept_length : (t : ℕ) (l : List ℕ) → length (swept t l) ≡ length l
unfolding swept
swept_length t l = length_to t l (slots l) (omega arith)

pub sweep_length : (l : List ℕ) (t : ℕ) → length (sweep l t).ledger ≡ length l
unfolding sweep
sweep_length l t = concluded (first (sweep_checks l t)) l (sweep_leaves l) _ (λ why r. refl) (λ e. simp length_put (swept_length t l))

-- ---- a frame keeps within the largest size

by_test : (b : Bool) (v w : Written) (n : ℕ) → (b ≡ true → length v.bytes ≤ n) → length w.bytes ≤ n → length (cond b v w).bytes ≤ n
by_test true v w n f g = f refl
by_test false v w n f g = g

started_fits : (f l : List ℕ) → length l ≤ ledger_most → length (started f l).bytes ≤ ledger_most
unfolding started
started_fits f l h =
    by_test (between 1 200 (slot_count f)) (written (empty_ledger (32 + slot_count f * 256)) (number_bytes 0)) (written l (number_bytes 1)) ledger_most
    (λ e. let w = within 1 200 (slot_count f) e in let n = length_empty (32 + slot_count f * 256) in omega arith) h

appended_fits : (f t : List ℕ) → length t ≤ table_most → length (appended f t).bytes ≤ table_most
unfolding appended
appended_fits f t h =
    by_test (leb (length t + 64) 4096) (written (t ++ part f 1 64) (number_bytes 0)) (written t (number_bytes 3)) table_most
    (λ e. let w = leb-true (length t + 64) 4096 e in simp (length-append, length-take, length-drop) (omega arith)) h

pub record Sized (s : Served) : Type 0 where
  pub ledger : length s.ledger ≤ ledger_most
  pub table : length s.table ≤ table_most

pub serve_fits : (k : Option Kind) (f : List ℕ) (d : Desk) → length d.ledger ≤ ledger_most → length d.table ≤ table_most → Sized (serve k f d)
unfolding serving.pushed serving.decided serving.redeemed serving.read serving.swept
serve_fits (Some Start) f d h k = record { ledger = started_fits f d.ledger h; table = k }
serve_fits (Some Push) f d h k = record { ledger = rw (push_length d.ledger _ d.table _) h; table = k }
serve_fits (Some Decide) f d h k = record { ledger = rw (decide_length d.ledger _ _ _) h; table = k }
serve_fits (Some Token) f d h k = record { ledger = rw (token_length d.ledger _ d.table _) h; table = k }
serve_fits (Some Resource) f d h k = record { ledger = rw (resource_length d.ledger _ _) h; table = k }
serve_fits (Some Sweep) f d h k = record { ledger = rw (sweep_length d.ledger _) h; table = k }
serve_fits (Some Client) f d h k = record { ledger = h; table = appended_fits f d.table k }
serve_fits None f d h k = record { ledger = h; table = k }
