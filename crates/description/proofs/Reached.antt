-- The greatest length of a live text is reached.
use Prim.Native.Nat.{ℕ, ◌-◌, ◌^◌}
use native.Mathlib.Omega.{arith}
use mathlib.Core.Path.{◌≡◌, refl, sym, ap}
use mathlib.Core.List.{List}
use lib.Dec.{lit<}
use lib.ListN.{length}
use Rattle.texts.specs.Decimal.{is_decimal, value_from, value, decimal_in, decimal}
use Rattle.texts.proofs.Decimals.{the_digits}
use Rattle.description.specs.Literal.{bytes}
use Rattle.description.specs.Scope.{scope_name, is_set, bits_below, spaced, names_below, scope_names, scope_most}
use Rattle.description.specs.Description.{described, live_text}
use Rattle.description.specs.Apart.{client_size, key_size, live_most}
use Rattle.description.proofs.Lengths.{length_live, length_client, length_sub, length_exp, length_scope, length_last}

-- a number's text is the digits that stand for it: found by their value, not by counting down from it
last_holder : decimal (2 ^ 64 - 1) ≡ bytes "18446744073709551615"
unfolding is_decimal value value_from
last_holder = sym ((the_digits (2 ^ 64 - 1)).1 (bytes "18446744073709551615") record { digits = refl; some = lit< tt; stands = refl; alone = λ e. absurd (omega arith) })

last_expiry : decimal (2 ^ 41 - 1) ≡ bytes "2199023255551"
unfolding is_decimal value value_from
last_expiry = sym ((the_digits (2 ^ 41 - 1)).1 (bytes "2199023255551") record { digits = refl; some = lit< tt; stands = refl; alone = λ e. absurd (omega arith) })

all_names : length (scope_names (2 ^ 32 - 1)) ≡ scope_most
unfolding scope_names names_below spaced bits_below is_set scope_name decimal decimal_in
all_names = refl

-- the last holder, the last expiry of a sound record, all the bits
pub reached : (client key : List ℕ) → length client ≡ client_size → length key ≡ key_size → length (live_text (described client (2 ^ 64 - 1) (2 ^ 41 - 1) (2 ^ 32 - 1) key)) ≡ live_most
reached client key c k =
    let h = ap length last_holder in
    let e = ap length last_expiry in
    let s = all_names in
    omega (
      arith,
      length_live (described client (2 ^ 64 - 1) (2 ^ 41 - 1) (2 ^ 32 - 1) key),
      length_client client,
      length_sub (2 ^ 64 - 1),
      length_exp (2 ^ 41 - 1),
      length_scope (2 ^ 32 - 1),
      length_last key,
    )
