-- Demand 1, a field a sentence: what holds of each call on every ledger, every client table and every request.
use Rattle.std.specs.Prelude.{ℕ, ◌≡◌, ◌≢◌, ◌⊎◌, Bool, true, false, List, [], ◌∷◌, eqb}
use Rattle.octets.specs.Plain.{AllZero}
use Rattle.ledger_laws.specs.Sound.{SoundLedger}
use Rattle.clients.specs.Plain.{SoundTable}
use Rattle.desk.specs.Answers.{number_of, done}
use Rattle.desk.specs.Requests.{TokenRequest}
use Rattle.desk.specs.declared.answer.Refusal.{Refusal}
use Rattle.desk.specs.declared.answer.Refusal.TheVariants.{LedgerUnsound, TimeWrong, TableUnsound, CodeRedeemed}
use Rattle.demands.specs.Calls.{Kind, Start, Push, Decide, Token, Resource, Sweep, Introspect, Call, kind_of, lent, leaves, Pending, token}
use Rattle.demands.specs.Afterwards.{AfterSecondUse}

-- the numbers of each call's refusals, in the order of its checks
abbrev pub numbers : Kind → List ℕ
numbers Start = 1 ∷ []
numbers Push = 1 ∷ 2 ∷ 3 ∷ 4 ∷ 5 ∷ 6 ∷ 7 ∷ 8 ∷ 9 ∷ []
numbers Decide = 1 ∷ 2 ∷ 20 ∷ 10 ∷ 11 ∷ 12 ∷ 7 ∷ []
numbers Token = 1 ∷ 2 ∷ 3 ∷ 4 ∷ 13 ∷ 5 ∷ 14 ∷ 15 ∷ 11 ∷ 16 ∷ 7 ∷ []
numbers Resource = 1 ∷ 2 ∷ 17 ∷ 11 ∷ 18 ∷ 6 ∷ 19 ∷ []
numbers Sweep = 1 ∷ 2 ∷ []
numbers Pending = 1 ∷ 2 ∷ 20 ∷ 10 ∷ 11 ∷ []
numbers Introspect = 1 ∷ 2 ∷ 20 ∷ []

-- n is one of these
abbrev pub In : ℕ → List ℕ → Type 0
In n [] = ⊥
In n (x ∷ xs) = (n ≡ x) ⊎ In n xs

-- which refusals of which call may change lent bytes: those that document 02 adds, here and nowhere else. Q-3: "Demand 1's rule on refusals gains this one
-- exception", 15 at token.
abbrev pub excepted : Kind → Refusal → Bool
excepted Start why = false
excepted Push why = false
excepted Decide why = false
excepted Token why = eqb (number_of why) (number_of CodeRedeemed)
excepted Resource why = false
excepted Sweep why = false
excepted Pending why = false
excepted Introspect why = false

-- the calls that read the client table
abbrev pub reads_table : Kind → Bool
reads_table Start = false
reads_table Push = true
reads_table Decide = false
reads_table Token = true
reads_table Resource = false
reads_table Sweep = false
reads_table Pending = false
reads_table Introspect = false

pub record Demand1 : Type 0 where
  -- "Each call, on every input, ends with an answer from the table in document 01": 0, or a number of the call's own list
  pub from_table : (l table : List ℕ) (c : Call) → ((leaves l table c).number ≡ done) ⊎ In (leaves l table c).number (numbers (kind_of c))
  -- "It checks for itself each ledger .. that it reads": every call but start, which ignores the old content ..
  pub checks_ledger : (l table : List ℕ) (c : Call) → kind_of c ≢ Start → (SoundLedger l → ⊥) → (leaves l table c).number ≡ number_of LedgerUnsound
  -- .. "table": push and token, once 1 and 2 have passed ..
  pub checks_table : (l table : List ℕ) (c : Call) → reads_table (kind_of c) ≡ true
      → (leaves l table c).number ≢ number_of LedgerUnsound → (leaves l table c).number ≢ number_of TimeWrong → (SoundTable table → ⊥)
      → (leaves l table c).number ≡ number_of TableUnsound
  -- .. and what the other calls leave does not depend on a table. Requests are checked by the rows of demand 2.
  pub reads_no_table : (l table other : List ℕ) (c : Call) → reads_table (kind_of c) ≡ false → leaves l table c ≡ leaves l other c
  -- "A refusal returns its number with zeros"
  pub zeros_beside : (l table : List ℕ) (c : Call) → (leaves l table c).number ≢ done → AllZero (leaves l table c).beside
  -- "and leaves ledger and output buffer unchanged"
  pub leaves_lent : (l table : List ℕ) (c : Call) (why : Refusal) → (leaves l table c).number ≡ number_of why → excepted (kind_of c) why ≡ false
      → ((leaves l table c).ledger ≡ l) × ((leaves l table c).output ≡ lent c)
  -- document 02, Q-3: what the excepted refusal writes: the record of the code becomes free, the clock becomes now, and every other byte stays
  pub second_use_frees : (l table : List ℕ) (t : ℕ) (q : TokenRequest) → (leaves l table (token t q)).number ≡ number_of CodeRedeemed
      → AfterSecondUse l t q (leaves l table (token t q))
