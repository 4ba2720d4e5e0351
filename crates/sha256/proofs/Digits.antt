-- The digits of a number, each by its place.
use Rattle.std.proofs.Common.{◌≡◌, ℕ, zero, suc, ◌+◌, ◌-◌, ◌*◌, ◌/◌, ◌%◌, ◌^◌, ◌<◌, [], ◌∷◌, ◌++◌, get_or, refl, ap, arith, shr-shr}
use Rattle.octets.specs.Lists.{tabulate}
use Rattle.octets.specs.Numbers.{digits}
use Rattle.octets.proofs.Tabulate.{get_d_tabulate, tabulate_same}

-- byte i of the n lowest of v
abbrev pub digit : ℕ → ℕ → ℕ → ℕ
digit n v i = v / 2 ^ (8 * (n - suc i)) % 2 ^ 8

digit_up : (n v i : ℕ) → i < n → digit n (v / 256) i ≡ digit (suc n) v i
digit_up n v i h =
    let e : 8 * (suc n - suc i) ≡ 8 + 8 * (n - suc i) = omega arith in
    rw e (ap (λ x. x % 2 ^ 8) (shr-shr v 8 (8 * (n - suc i))))

digit_last : (n v : ℕ) → v % 256 ≡ digit (suc n) v n
digit_last n v =
    let e : 8 * (suc n - suc n) ≡ 0 = omega arith in
    rw e (omega arith)

pub digits_table : (n v : ℕ) → digits n v ≡ tabulate (digit n v) n
unfolding digits tabulate
digits_table zero v = refl
digits_table (suc n) v =
    rw (digits_table n (v / 256), digit_last n v)
    (ap (λ l. l ++ (digit (suc n) v n ∷ [])) (tabulate_same (digit n (v / 256)) (digit (suc n) v) n (digit_up n v)))

pub get_or_digits : (n v i : ℕ) → i < n → get_or (digits n v) i 0 ≡ digit n v i
get_or_digits n v i h = rw (digits_table n v) (get_d_tabulate (digit n v) 0 n i h)
