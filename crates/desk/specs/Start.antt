-- "Start (ledger buffer, old content ignored): 1 if the length is wrong. Writes zeros and next number 1."
use Rattle.std.specs.Prelude.{ℕ, cond, List, length}
use Rattle.octets.specs.Parts.{blank}
use Rattle.ledger.specs.Fields.{with_next}
use Rattle.ledger.specs.Sound.{sized}
use Rattle.desk.specs.Answers.{number_of, done}
use Rattle.desk.specs.Outcome.{Outcome, left}
use Rattle.desk.specs.declared.answer.Refusal.TheVariants.{LedgerUnsound}

-- the bytes that start writes over a buffer of n bytes
unfoldable pub empty_ledger : ℕ → List ℕ
empty_ledger n = with_next 1 (blank n)

-- "Start answers only its number."
unfoldable pub start : List ℕ → Outcome ℕ
start l = cond (sized l) (left done (empty_ledger (length l))) (left (number_of LedgerUnsound) l)
