-- The state that a number says.
use Rattle.std.proofs.Common.{◌≡◌, ℕ, zero, suc, ◌<◌, refl, arith, Option, Some, None}
use Rattle.ledger.specs.Fields.{state_number, stated}
use Rattle.ledger.specs.declared.state.State.{State}
use Rattle.ledger.specs.declared.state.State.TheVariants.{Free, Pushed, Consented, Redeemed}

-- what holds of each state with its number, and of a number above them, holds of every number with what it says
pub state_cases : (P : ℕ → Option State → Type 0) → P 0 (Some Free) → P 1 (Some Pushed) → P 2 (Some Consented) → P 3 (Some Redeemed)
    → ((n : ℕ) → 3 < n → P n None) → (n : ℕ) → P n (stated n)
unfolding stated
state_cases P a b c d e zero = a
state_cases P a b c d e (suc zero) = b
state_cases P a b c d e (suc (suc zero)) = c
state_cases P a b c d e (suc (suc (suc zero))) = d
state_cases P a b c d e (suc (suc (suc (suc n)))) = e (suc (suc (suc (suc n)))) (omega arith)

-- a number says the state whose number it is
pub stated_number : (s : State) → stated (state_number s) ≡ Some s
unfolding stated
stated_number Free = refl
stated_number Pushed = refl
stated_number Consented = refl
stated_number Redeemed = refl

pub stated_is : (n : ℕ) (s : State) → n ≡ state_number s → stated n ≡ Some s
stated_is n s e = rw e (stated_number s)

pub stated_above : (n : ℕ) → 3 < n → stated n ≡ None
stated_above n = state_cases (λ (m : ℕ) (s : Option State). 3 < m → s ≡ None) (λ h. absurd (omega arith)) (λ h. absurd (omega arith)) (λ h. absurd (omega arith)) (λ h. absurd (omega arith)) (λ m h k. refl) n
