-- "Token (client id, authentication key, presented key, code, verifier, fresh value): 3, 4, 13, 5, then 14 or 15, 11, 16, 7."
use Rattle.std.specs.Prelude.{ℕ, ◌+◌, not, cond, List, [], ◌∷◌, eqb}
use Rattle.octets.specs.Lists.{some, place}
use Rattle.octets.specs.Parts.{zeros}
use Rattle.forms.specs.Forms.{verifier_formed}
use Rattle.s256.specs.Rule.{matches}
use Rattle.ledger.specs.Limits.{token_lifetime}
use Rattle.ledger.specs.Fields.{records, rec, in_state, challenge, with_record, with_clock}
use Rattle.ledger.specs.Checks.{is_code, expired, taken}
use Rattle.ledger.specs.Write.{redeemed, free}
use Rattle.ledger.specs.declared.state.State.TheVariants.{Redeemed}
use Rattle.clients.specs.Sound.{sound as table_sound}
use Rattle.clients.specs.Known.{is_known}
use Rattle.desk.specs.Answers.{answer_of, number_of, refused}
use Rattle.desk.specs.Checks.{Check, ◌when◌, first, begins}
use Rattle.desk.specs.Outcome.{Outcome, left, concludes}
use Rattle.desk.specs.Requests.{TokenRequest}
use Rattle.desk.specs.declared.answer.Answer.{Answer}
use Rattle.desk.specs.declared.answer.Refusal.{Refusal}
use Rattle.desk.specs.declared.answer.Refusal.TheVariants.{
  TableUnsound,
  ClientUnknown,
  IllFormed,
  FreshTaken,
  RecordExpired,
  NoKey,
  NoCode,
  CodeRedeemed,
  VerifierDiffers,
}

-- where the record in state 2 or 3 with this code and client id is
abbrev pub code_place : List ℕ → TokenRequest → ℕ
code_place l q = place (is_code q.code q.client) (records l)

-- the checks, in order, k being that place
unfoldable pub token_checks : List ℕ → ℕ → List ℕ → TokenRequest → ℕ → List Check
token_checks l t table q k =
    begins l t
    ((TableUnsound when not (table_sound table))
    ∷ (ClientUnknown when not (is_known table q.client q.key))
    ∷ (NoKey when zeros q.presented)
    ∷ (IllFormed when not (verifier_formed q.verifier))
    ∷ (NoCode when not (some (is_code q.code q.client) (records l)))
    ∷ (CodeRedeemed when in_state Redeemed (rec l k))
    ∷ (RecordExpired when expired t (rec l k))
    ∷ (VerifierDiffers when not (matches q.verifier (challenge (rec l k))))
    ∷ (FreshTaken when taken l q.fresh)
    ∷ [])

-- "The record becomes state 3: token = fresh, the presented key bound, expiry = now + 300. The code stays in it."
unfoldable pub token_record : ℕ → TokenRequest → List ℕ → List ℕ
token_record t q r = redeemed (t + token_lifetime) q.fresh q.presented r

-- "An accepted call rewrites one record and the clock": record k becomes r, and is answered
abbrev pub rewritten : List ℕ → ℕ → ℕ → List ℕ → Outcome Answer
rewritten l t k r = left (answer_of r) (with_clock t (with_record l k r))

unfoldable pub token_at : List ℕ → ℕ → TokenRequest → ℕ → Outcome Answer
token_at l t q k = rewritten l t k (token_record t q (rec l k))

-- document 02, Q-3, "A code shown twice ends its token": "When 15 is due, the record now becomes free and the clock becomes now."
abbrev pub ended : List ℕ → ℕ → ℕ → List ℕ
ended l t k = with_clock t (with_record l k free)

-- each row: "A refusal has zeros beside its number and changes no lent byte, clock included"; but 15, which ends what stands at the place k
abbrev pub token_leaves : List ℕ → ℕ → ℕ → Refusal → Outcome Answer
token_leaves l t k why = left (refused why) (cond (eqb (number_of why) (number_of CodeRedeemed)) (ended l t k) l)

unfoldable pub token : List ℕ → ℕ → List ℕ → TokenRequest → Outcome Answer
token l t table q =
    concludes (first (token_checks l t table q (code_place l q))) (token_leaves l t (code_place l q)) (token_at l t q (code_place l q))
