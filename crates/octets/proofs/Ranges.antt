-- What a range of numbers contains, in the words of the definitions.
use Rattle.std.proofs.Common.{◌≡◌, ℕ, false, ◌&&◌, Some, leb, arith}
use Rattle.std.proofs.lemmas.Bool.Decides.{nat_tests}
use Rattle.std.specs.Ordering.{is_le, nat_cmp}
use Rattle.std.specs.Range.{range_inclusive_start, range_inclusive_end, range_inclusive_exhausted, range_inclusive_contains}
use Rattle.std.specs.declared.ops.RangeInclusive.{RangeInclusive}

within : (a b x : ℕ) → (is_le (nat_cmp a x) && is_le (nat_cmp x b)) ≡ (leb a x && leb x b)
within a b x = grind (arith, nat_tests)

pub contains_is : (r : RangeInclusive ℕ) (a b x : ℕ) → range_inclusive_start r ≡ a → range_inclusive_end r ≡ b → range_inclusive_exhausted r ≡ false
    → range_inclusive_contains (λ x y. Some (nat_cmp x y)) r x ≡ (leb a x && leb x b)
contains_is r a b x s e n = rw (s, e, n) (within a b x)
