-- What a call leaves, and how its list of checks decides it.
use Rattle.std.specs.Prelude.{ℕ, List, []}
use Rattle.desk.specs.Checks.{Verdict, accepted, stopped}
use Rattle.desk.specs.declared.answer.Refusal.{Refusal}

-- what a call leaves: its answer, the ledger's bytes, and the bytes of the output that it is lent
pub record Outcome (A : Type 0) : Type 0 where
  pub answer : A
  pub ledger : List ℕ
  pub output : List ℕ

abbrev pub left_with : {A : Type 0} → A → List ℕ → List ℕ → Outcome A
left_with a l out = record { answer = a; ledger = l; output = out }

-- of a call that is lent no output
abbrev pub left : {A : Type 0} → A → List ℕ → Outcome A
left a l = left_with a l []

-- "The first check that fails gives the answer": each row leaves what its call says of it; where all checks pass, the call is done
abbrev pub concludes : {A : Type 0} → Verdict → (Refusal → Outcome A) → Outcome A → Outcome A
concludes accepted leaves o = o
concludes (stopped why) leaves o = leaves why
