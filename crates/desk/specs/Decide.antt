-- "Decide (reference, client id, yes or no, holder, fresh value, output buffer): 20, 10, 11, 12. .. On yes, 7 is checked"
use Rattle.std.specs.Prelude.{ℕ, ◌+◌, not, ◌&&◌, cond, List, [], ◌∷◌, eqb, ltb, length}
use Rattle.octets.specs.Lists.{some, place}
use Rattle.octets.specs.Parts.{put}
use Rattle.ledger.specs.Limits.{code_lifetime}
use Rattle.ledger.specs.Fields.{records, rec, grant, redirect_length, redirect_field, with_record, with_clock}
use Rattle.ledger.specs.Checks.{is_reference, expired, taken}
use Rattle.ledger.specs.Write.{consented, free}
use Rattle.desk.specs.Limits.{output_least}
use Rattle.desk.specs.Answers.{answer_of, answer_no, decided, undecided}
use Rattle.desk.specs.Checks.{Check, ◌when◌, first, begins}
use Rattle.desk.specs.Outcome.{Outcome, left_with, concludes}
use Rattle.desk.specs.Requests.{DecideRequest}
use Rattle.desk.specs.declared.answer.Decided.{Decided}
use Rattle.desk.specs.declared.answer.Refusal.{Refusal}
use Rattle.desk.specs.declared.answer.Refusal.TheVariants.{OutputShort, NoReference, RecordExpired, NoHolder, FreshTaken}

-- where the record with this reference and client id is
abbrev pub waiting_place : List ℕ → List ℕ → List ℕ → ℕ
waiting_place l reference client = place (is_reference reference client) (records l)

abbrev pub reference_place : List ℕ → DecideRequest → ℕ
reference_place l d = waiting_place l d.reference d.client

-- the checks, in order, k being that place
unfoldable pub decide_checks : List ℕ → ℕ → DecideRequest → List ℕ → ℕ → List Check
decide_checks l t d out k =
    begins l t
    ((OutputShort when ltb (length out) output_least)
    ∷ (NoReference when not (some (is_reference d.reference d.client) (records l)))
    ∷ (RecordExpired when expired t (rec l k))
    ∷ (NoHolder when eqb d.holder 0)
    ∷ (FreshTaken when (d.yes && taken l d.fresh))
    ∷ [])

-- "On yes and on no the redirect goes into the first 64 output bytes, zero-padded; later bytes stay." (A record has zeros behind its redirect.)
abbrev pub handed_out : List ℕ → List ℕ → List ℕ
handed_out r out = put out 0 (redirect_field r)

-- "then state 2, that holder, value = fresh, expiry = now + 60"
unfoldable pub consent_record : ℕ → ℕ → List ℕ → List ℕ → List ℕ
consent_record t who fresh r = consented (t + code_lifetime) who fresh r

unfoldable pub consent_at : List ℕ → ℕ → ℕ → List ℕ → List ℕ → ℕ → Outcome Decided
consent_at l t who fresh out k =
    left_with (decided (answer_of (consent_record t who fresh (rec l k))) (redirect_length (rec l k)))
    (with_clock t (with_record l k (consent_record t who fresh (rec l k)))) (handed_out (rec l k) out)

-- "On no, the record becomes free."
unfoldable pub decline_at : List ℕ → ℕ → ℕ → List ℕ → ℕ → Outcome Decided
decline_at l t who out k =
    left_with (decided (answer_no (grant (rec l k)) who) (redirect_length (rec l k))) (with_clock t (with_record l k free)) (handed_out (rec l k) out)

unfoldable pub decide_at : List ℕ → ℕ → DecideRequest → List ℕ → ℕ → Outcome Decided
decide_at l t d out k = cond d.yes (consent_at l t d.holder d.fresh out k) (decline_at l t d.holder out k)

-- each row: "A refusal has zeros beside its number and changes no lent byte, clock included."
abbrev pub decide_leaves : List ℕ → List ℕ → Refusal → Outcome Decided
decide_leaves l out why = left_with (undecided why) l out

unfoldable pub decide : List ℕ → ℕ → DecideRequest → List ℕ → Outcome Decided
decide l t d out =
    concludes (first (decide_checks l t d out (reference_place l d))) (decide_leaves l out) (decide_at l t d out (reference_place l d))
