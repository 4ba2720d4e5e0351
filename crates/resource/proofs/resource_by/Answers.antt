use Rattle.std.proofs.Common.{List, rules, ℕ, ◌≡◌, Result, Ok, Err}
use Rattle.desk.specs.Answers.{refused}
use Rattle.desk.specs.Outcome.{left}
use Rattle.desk.specs.Resource.{resource_by}
use Rattle.desk.specs.declared.answer.Answer.{Answer}
use Rattle.desk.specs.declared.answer.Refusal.{Refusal}
use Rattle.ledger.specs.Fields.{with_clock}
use Rattle.resource.proofs.resource_by.Goals as goal

granted : (l : List ℕ) (t : ℕ) (r : Result Answer Refusal) (a : Answer) (z : List ℕ) → r ≡ Ok a → z ≡ with_clock t l → left a z ≡ resource_by r l t
granted l t r a z e h = rw (e, h)

stopped : (l : List ℕ) (t : ℕ) (r : Result Answer Refusal) (why : Refusal) (a : Answer) → r ≡ Err why → a ≡ refused why → left a l ≡ resource_by r l t
stopped l t r why a e h = rw (e, h)

pub returns-in-Ok : goal.returns-in-Ok
returns-in-Ok c = granted _ _ _ _ _ c.in-Ok.is (search rules)

pub returns-in-Err : goal.returns-in-Err
returns-in-Err c = stopped _ _ _ _ _ c.in-Err.is (search rules)
