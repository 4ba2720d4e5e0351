-- The outcome of start.
use Prim.Native.Nat.{ℕ}
use mathlib.Core.Path.{◌≡◌}
use mathlib.Core.Bool.{true, false}
use mathlib.Core.List.{List}
use lib.ListN.{length}
use Rattle.octets.specs.Parts.{blank}
use Rattle.ledger.specs.Fields.{with_next}
use Rattle.ledger.specs.Sound.{sized}
use Rattle.desk.specs.Answers.{done, number_of}
use Rattle.desk.specs.Outcome.{left}
use Rattle.desk.specs.Start.{start, empty_ledger}
use Rattle.desk.specs.declared.answer.Refusal.TheVariants.{LedgerUnsound}

-- the length alone is looked at
pub start_1 : (l : List ℕ) (n : ℕ) → sized l ≡ false → n ≡ number_of LedgerUnsound → left n l ≡ start l
unfolding start
start_1 l n a e = rw (a, e)

pub start_done : (l y z : List ℕ) → sized l ≡ true → y ≡ blank (length l) → z ≡ with_next 1 y → left done z ≡ start l
unfolding start empty_ledger
start_done l y z a hy hz = rw (a, hz, hy)
