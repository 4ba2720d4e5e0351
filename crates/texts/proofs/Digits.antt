-- Laws of hexadecimal digits, and of texts of them.
use Prim.Native.Nat.{ℕ, ◌-◌, ◌%◌, ◌≤◌, ◌<◌}
use native.Mathlib.Omega.{arith}
use mathlib.Core.Path.{◌≡◌, refl}
use mathlib.Core.Bool.{Bool, true, false, and-false, or_assoc}
use mathlib.Core.List.{List, [], ◌∷◌}
use Rattle.std.specs.Char.{is_ascii_hexdigit}
use Rattle.std.specs.List.{list_all}
use lib.Dec.{eqb, leb}
use lib.ListN.{length, get_or}
use borrow.Author.Tests.{leb-true, le-leb, lt-leb, ne_eqb, eq-eqb}
use Rattle.octets.specs.Lists.{every}
use Rattle.octets.proofs.Lists.{every_at}
use Rattle.octets.proofs.Tests.{both}
use Rattle.texts.specs.Hex.{between, is_digit, digit, is_hex}

module _ (a b c : ℕ) where
  pub inside : a ≤ c → c ≤ b → between a b c ≡ true
  inside h k = rw (le-leb a c h, le-leb c b k)

  pub below : c < a → between a b c ≡ false
  below h = rw (lt-leb a c h)

  pub above : b < c → between a b c ≡ false
  above h = rw (lt-leb c b h) (and-false (leb a c))

  pub within : between a b c ≡ true → (a ≤ c) × (c ≤ b)
  within e = let p = both (leb a c) (leb c b) e in (leb-true a c p.0, leb-true c b p.1)

-- whether a character is a digit, by where it stands
module _ (c : ℕ) where
  pub at_digits : 48 ≤ c → c ≤ 57 → is_digit c ≡ true
  unfolding is_digit
  at_digits h k = rw (inside 48 57 c h k)

  pub from_lower : 97 ≤ c → is_digit c ≡ leb c 102
  unfolding is_digit
  from_lower h = rw (above 48 57 c (omega arith), above 65 70 c (omega arith), le-leb 97 c h)

-- what it stands for
module _ (c : ℕ) where
  pub digit_low : c ≤ 57 → digit c ≡ c - 48
  unfolding digit
  digit_low h = rw (le-leb c 57 h)

  pub digit_upper : 57 < c → c ≤ 70 → digit c ≡ c - 55
  unfolding digit
  digit_upper h k = rw (lt-leb c 57 h, le-leb c 70 k)

  pub digit_lower : 70 < c → digit c ≡ c - 87
  unfolding digit
  digit_lower h = let k : 57 < c = omega arith in rw (lt-leb c 57 k, lt-leb c 70 h)

pub hex_at : (l : List ℕ) (i : ℕ) → is_hex l ≡ true → i < length l → is_digit (get_or l i 0) ≡ true
unfolding is_hex
hex_at l i e h = every_at is_digit l 0 (both (eqb (length l % 2) 0) (every is_digit l) e).1 i h

pub hex_odd : (l : List ℕ) → (length l % 2 ≡ 0 → ⊥) → is_hex l ≡ false
unfolding is_hex
hex_odd l n = rw (ne_eqb (length l % 2) 0 n)

pub hex_of : (l : List ℕ) → length l % 2 ≡ 0 → is_hex l ≡ every is_digit l
unfolding is_hex
hex_of l e = rw (eq-eqb (length l % 2) 0 e)

-- the library's test of all, and its test of a digit
pub all_every : {A : Type 0} (p q : A → Bool) → ((x : A) → p x ≡ q x) → (l : List A) → list_all p l ≡ every q l
all_every p q e [] = refl
all_every p q e (x ∷ xs) = rw (e x, all_every p q e xs)

pub hexdigit_is : (c : ℕ) → is_ascii_hexdigit c ≡ is_digit c
unfolding is_digit
hexdigit_is c = or_assoc (between 48 57 c) (between 65 70 c) (between 97 102 c)
