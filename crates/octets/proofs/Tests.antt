-- Laws of Bool tests, and of two numbers.
use Prim.Native.Nat.{ℕ, ◌≤◌, ◌<◌}
use native.Mathlib.Decide.{dec_lt}
use native.Mathlib.Omega.{arith}
use mathlib.Core.Path.{◌≡◌, refl, ap}
use mathlib.Core.Logic.{◌⊎◌, inl, inr}
use mathlib.Core.Bool.{Bool, true, false, ◌&&◌, cond, false≢true}
use Rattle.std.specs.Prelude.{Option, Some, None}
use Rattle.std.specs.Option.{is_some, unwrap_or}

pub both : (a b : Bool) → (a && b) ≡ true → (a ≡ true) × (b ≡ true)
both true b e = (refl, e)
both false b e = absurd (false≢true e)

pub both_true : (a b : Bool) → a ≡ true → b ≡ true → (a && b) ≡ true
both_true a b e f = rw (e, f)

pub swap_and : (a b c d : Bool) → ((a && b) && (c && d)) ≡ ((a && c) && (b && d))
swap_and false b c d = refl
swap_and true true c d = refl
swap_and true false true d = refl
swap_and true false false d = refl

pub false_of : (b : Bool) → (b ≡ true → ⊥) → b ≡ false
false_of true f = absurd (f refl)
false_of false f = refl

-- an answer that is there where a test passes says how the test ended, and what it is
pub some_told : (b : Bool) (x : ℕ) (a : Option ℕ) → cond b (Some x) None ≡ a → b ≡ is_some a
some_told true x a e = ap is_some e
some_told false x a e = ap is_some e

pub some_is : (b : Bool) (x k : ℕ) → cond b (Some x) None ≡ Some k → x ≡ k
some_is true x k e = ap (λ (a : Option ℕ). unwrap_or a 0) e
some_is false x k e = absurd (false≢true (ap is_some e))

-- below, or not
pub lt_or_le : (i n : ℕ) → (i < n) ⊎ (n ≤ i)
lt_or_le i n = go (dec_lt i n)
  where
    go : Dec (i < n) → (i < n) ⊎ (n ≤ i)
    go (yes h) = inl h
    go (no h) = inr (omega arith)
