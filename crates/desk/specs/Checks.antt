-- "The first check that fails gives the answer. Each call but start begins with 1, then 2."
use Rattle.std.specs.Prelude.{ℕ, Bool, not, ◌&&◌, cond, List, [], ◌∷◌, eqb}
use Rattle.std.specs.Int.Bits.{bit_and}
use Rattle.ledger.specs.Sound.{sound}
use Rattle.ledger.specs.Checks.{untimely}
use Rattle.desk.specs.declared.answer.Refusal.{Refusal}
use Rattle.desk.specs.declared.answer.Refusal.TheVariants.{LedgerUnsound, TimeWrong}

-- a row of the table and the condition under which it is given when its turn comes
pub record Check : Type 0 where
  pub why : Refusal
  pub holds : Bool

infixr 20 ◌when◌
abbrev pub ◌when◌ : Refusal → Bool → Check
why when b = record { why = why; holds = b }

-- how a list of checks ends: with the first row whose condition holds, or all passed
pub data Verdict : Type 0 where
  accepted : Verdict
  stopped : Refusal → Verdict

unfoldable pub first : List Check → Verdict
first [] = accepted
first (c ∷ cs) = cond c.holds (stopped c.why) (first cs)

-- 1, then 2, then the call's own
abbrev pub begins : List ℕ → ℕ → List Check → List Check
begins l t cs = (LedgerUnsound when not (sound l)) ∷ (TimeWrong when untimely l t) ∷ cs

-- 6: "scope 0, or not within the permitted (push) or granted (resource) bits"
abbrev pub within : ℕ → ℕ → Bool
within asked given = eqb (bit_and asked given) asked

unfoldable pub scope_fits : ℕ → ℕ → Bool
scope_fits asked given = not (eqb asked 0) && within asked given
