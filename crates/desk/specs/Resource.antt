-- "Resource (token, presented key, scope asked, holder asked): 17, 11, 18, 6, 19. Only the clock changes. The client table is not read."
use Rattle.std.specs.Prelude.{ℕ, not, List, [], ◌∷◌, eqb, Result, Ok, Err}
use Rattle.octets.specs.Lists.{some, place}
use Rattle.octets.specs.Parts.{same}
use Rattle.ledger.specs.Fields.{records, rec, scope, holder, bound_key, with_clock}
use Rattle.ledger.specs.Checks.{is_token, expired}
use Rattle.desk.specs.Answers.{answer_of, refused}
use Rattle.desk.specs.Checks.{Check, ◌when◌, Verdict, accepted, stopped, first, begins, scope_fits}
use Rattle.desk.specs.Outcome.{Outcome, left}
use Rattle.desk.specs.Requests.{ResourceRequest}
use Rattle.desk.specs.declared.answer.Answer.{Answer}
use Rattle.desk.specs.declared.answer.Refusal.{Refusal}
use Rattle.desk.specs.declared.answer.Refusal.TheVariants.{ScopeRefused, RecordExpired, NoToken, KeyDiffers, HolderDiffers}

-- where the record in state 3 with this token is
abbrev pub token_place : List ℕ → ResourceRequest → ℕ
token_place l q = place (is_token q.token) (records l)

-- the checks, in order, k being that place
unfoldable pub resource_checks : List ℕ → ℕ → ResourceRequest → ℕ → List Check
resource_checks l t q k =
    begins l t
    ((NoToken when not (some (is_token q.token) (records l)))
    ∷ (RecordExpired when expired t (rec l k))
    ∷ (KeyDiffers when not (same (bound_key (rec l k)) q.presented))
    ∷ (ScopeRefused when not (scope_fits q.scope (scope (rec l k))))
    ∷ (HolderDiffers when not (eqb (holder (rec l k)) q.holder))
    ∷ [])

-- the looking half: what is read and answered, with nothing written
abbrev pub read_by : Verdict → List ℕ → Result Answer Refusal
read_by accepted r = Ok (answer_of r)
read_by (stopped why) r = Err why

unfoldable pub look : List ℕ → ℕ → ResourceRequest → Result Answer Refusal
look l t q = read_by (first (resource_checks l t q (token_place l q))) (rec l (token_place l q))

-- each row: "A refusal has zeros beside its number and changes no lent byte, clock included."
abbrev pub resource_leaves : List ℕ → Refusal → Outcome Answer
resource_leaves l why = left (refused why) l

-- the call: "the clock becomes now" where the reading is granted
abbrev pub resource_by : Result Answer Refusal → List ℕ → ℕ → Outcome Answer
resource_by (Ok a) l t = left a (with_clock t l)
resource_by (Err why) l t = resource_leaves l why

unfoldable pub resource : List ℕ → ℕ → ResourceRequest → Outcome Answer
resource l t q = resource_by (look l t q) l t
