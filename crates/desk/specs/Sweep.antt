-- "Sweep: every expired record becomes free." Each call but start begins with 1, then 2.
use Rattle.std.specs.Prelude.{ℕ, List, []}
use Rattle.ledger.specs.Fields.{with_clock}
use Rattle.ledger.specs.Sweep.{swept, freed}
use Rattle.desk.specs.Answers.{swept_of, unswept}
use Rattle.desk.specs.Checks.{Check, first, begins}
use Rattle.desk.specs.Outcome.{Outcome, left, concludes}
use Rattle.desk.specs.declared.answer.Refusal.{Refusal}
use Rattle.desk.specs.declared.answer.Swept.{Swept}

unfoldable pub sweep_checks : List ℕ → ℕ → List Check
sweep_checks l t = begins l t []

-- each row: "A refusal has zeros beside its number and changes no lent byte, clock included."
abbrev pub sweep_leaves : List ℕ → Refusal → Outcome Swept
sweep_leaves l why = left (unswept why) l

unfoldable pub sweep : List ℕ → ℕ → Outcome Swept
sweep l t = concludes (first (sweep_checks l t)) (sweep_leaves l) (left (swept_of (freed t l)) (with_clock t (swept t l)))
