-- Beyond document 01's six calls: the request that waits under a reference, shown to the holder before she decides.
-- Pending (reference, client id, output buffer): 20, 10, 11, as decide has them. The ledger is only read.
use Rattle.std.specs.Prelude.{ℕ, not, List, [], ◌∷◌, ltb, length}
use Rattle.octets.specs.Lists.{some}
use Rattle.ledger.specs.Fields.{records, rec, redirect_length}
use Rattle.ledger.specs.Checks.{is_reference, expired}
use Rattle.desk.specs.Limits.{output_least}
use Rattle.desk.specs.Answers.{answer_of, decided, undecided}
use Rattle.desk.specs.Checks.{Check, ◌when◌, first, begins}
use Rattle.desk.specs.Outcome.{Outcome, left_with, concludes}
use Rattle.desk.specs.Requests.{PendingRequest}
use Rattle.desk.specs.Decide.{waiting_place, handed_out}
use Rattle.desk.specs.declared.answer.Decided.{Decided}
use Rattle.desk.specs.declared.answer.Refusal.{Refusal}
use Rattle.desk.specs.declared.answer.Refusal.TheVariants.{OutputShort, NoReference, RecordExpired}

-- where the record with this reference and client id is
abbrev pub pending_place : List ℕ → PendingRequest → ℕ
pending_place l p = waiting_place l p.reference p.client

-- the checks, in decide's order, k being that place
unfoldable pub pending_checks : List ℕ → ℕ → PendingRequest → List ℕ → ℕ → List Check
pending_checks l t p out k =
    begins l t
    ((OutputShort when ltb (length out) output_least)
    ∷ (NoReference when not (some (is_reference p.reference p.client) (records l)))
    ∷ (RecordExpired when expired t (rec l k))
    ∷ [])

-- the answer as the record has it, which waits with holder 0, and the redirect as decide hands it out; no byte of the ledger changes
unfoldable pub pending_at : List ℕ → List ℕ → ℕ → Outcome Decided
pending_at l out k = left_with (decided (answer_of (rec l k)) (redirect_length (rec l k))) l (handed_out (rec l k) out)

-- each row: "A refusal has zeros beside its number and changes no lent byte, clock included."
abbrev pub pending_leaves : List ℕ → List ℕ → Refusal → Outcome Decided
pending_leaves l out why = left_with (undecided why) l out

unfoldable pub pending : List ℕ → ℕ → PendingRequest → List ℕ → Outcome Decided
pending l t p out =
    concludes (first (pending_checks l t p out (pending_place l p))) (pending_leaves l out) (pending_at l out (pending_place l p))
