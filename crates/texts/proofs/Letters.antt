-- Laws of base64url: its length, its characters by index, and that no two lists of bytes have one text.
use Prim.Native.Nat.{ℕ, zero, suc, ◌+◌, ◌*◌, ◌/◌, ◌%◌, ◌^◌, ◌<◌}
use native.Mathlib.Omega.{arith}
use mathlib.Core.Path.{◌≡◌, refl, sym, ap, ◌∙◌}
use mathlib.Core.Bool.{Bool, true}
use mathlib.Core.List.{List, [], ◌∷◌, ◌++◌}
use lib.Dec.{eqb, lit<}
use lib.ListN.{length, get_or, take}
use borrow.Author.Tests.{eqb-true}
use Rattle.octets.specs.Lists.{every, place, tabulate}
use Rattle.octets.proofs.Lists.{every_at}
use Rattle.octets.proofs.Numbers.{Octets}
use Rattle.octets.proofs.Tabulate.{length_tabulate, get_d_tabulate}
use Rattle.texts.specs.Base64url.{letter, group, characters, character_at, base64url}

-- ---- a rule for the numbers below n, by one computed test

abbrev pub below : (ℕ → Bool) → ℕ → Bool
below q n = every q (tabulate (λ i. i) n)

pub below_at : (q : ℕ → Bool) (n : ℕ) → below q n ≡ true → (v : ℕ) → v < n → q v ≡ true
below_at q n e v h =
    sym (ap q (get_d_tabulate (λ i. i) 0 n v h)) ∙ every_at q (tabulate (λ i. i) n) 0 e v (omega (arith, length_tabulate (λ i. i) n))

-- ---- the alphabet

-- the value of a character: its place in the alphabet
value : ℕ → ℕ
value x = place (eqb x) (tabulate letter 64)

known : ℕ → Bool
known v = eqb (value (letter v)) v

letters_known : below known 64 ≡ true
unfolding known value letter tabulate
letters_known = refl

value_letter : (v : ℕ) → value (letter (v % 2 ^ 6)) ≡ v % 2 ^ 6
unfolding known
value_letter v = eqb-true _ _ (below_at known 64 letters_known (v % 2 ^ 6) (omega arith))

-- ---- the length, and the characters by index

pub length_base64url : (bs : List ℕ) → length (base64url bs) ≡ (4 * length bs + 2) / 3
unfolding base64url characters
length_base64url [] = refl
length_base64url (x ∷ []) = refl
length_base64url (x ∷ y ∷ []) = refl
length_base64url (x ∷ y ∷ z ∷ bs) = omega (arith, length_base64url bs)

pub base64url_at : (bs : List ℕ) (j : ℕ) → j < length (base64url bs) → get_or (base64url bs) j 0 ≡ character_at bs j
unfolding base64url characters character_at
base64url_at [] j h = absurd (omega arith)
base64url_at (x ∷ []) zero h = refl
base64url_at (x ∷ []) (suc zero) h = refl
base64url_at (x ∷ []) (suc (suc j)) h = absurd (omega arith)
base64url_at (x ∷ y ∷ []) zero h = refl
base64url_at (x ∷ y ∷ []) (suc zero) h = refl
base64url_at (x ∷ y ∷ []) (suc (suc zero)) h = refl
base64url_at (x ∷ y ∷ []) (suc (suc (suc j))) h = absurd (omega arith)
base64url_at (x ∷ y ∷ z ∷ bs) zero h = refl
base64url_at (x ∷ y ∷ z ∷ bs) (suc zero) h = refl
base64url_at (x ∷ y ∷ z ∷ bs) (suc (suc zero)) h = refl
base64url_at (x ∷ y ∷ z ∷ bs) (suc (suc (suc zero))) h = refl
base64url_at (x ∷ y ∷ z ∷ bs) (suc (suc (suc (suc j)))) h =
    let p : suc (suc (suc (suc j))) % 4 ≡ j % 4 = omega arith in
    let q : suc (suc (suc (suc j))) / 4 * 3 + 2 ≡ suc (suc (suc (j / 4 * 3 + 2))) = omega arith in
    let r : suc (suc (suc (suc j))) / 4 * 3 + 1 ≡ suc (suc (suc (j / 4 * 3 + 1))) = omega arith in
    let s : suc (suc (suc (suc j))) / 4 * 3 ≡ suc (suc (suc (j / 4 * 3))) = omega arith in
    rw (p, q, r, s) (base64url_at bs j (omega arith))

-- ---- a text is read back

-- 24 bits from four groups of six, and their three bytes
abbrev sixes : ℕ → ℕ → ℕ → ℕ → ℕ
sixes a b c d = a * 2 ^ 18 + b * 2 ^ 12 + c * 2 ^ 6 + d

abbrev bytes : ℕ → List ℕ
bytes n = n / 2 ^ 16 ∷ n / 2 ^ 8 % 2 ^ 8 ∷ n % 2 ^ 8 ∷ []

unfoldable read_back : List ℕ → List ℕ
read_back [] = []
read_back (a ∷ []) = []
read_back (a ∷ b ∷ []) = take 1 (bytes (sixes (value a) (value b) 0 0))
read_back (a ∷ b ∷ c ∷ []) = take 2 (bytes (sixes (value a) (value b) (value c) 0))
read_back (a ∷ b ∷ c ∷ d ∷ t) = bytes (sixes (value a) (value b) (value c) (value d)) ++ read_back t

whole : (n : ℕ) → n < 2 ^ 24 → sixes (n / 2 ^ 18 % 2 ^ 6) (n / 2 ^ 12 % 2 ^ 6) (n / 2 ^ 6 % 2 ^ 6) (n % 2 ^ 6) ≡ n
whole n h =
    let a : n ≡ n / 2 ^ 6 * 2 ^ 6 + n % 2 ^ 6 = omega arith in
    let b : n / 2 ^ 6 ≡ n / 2 ^ 12 * 2 ^ 6 + n / 2 ^ 6 % 2 ^ 6 = omega arith in
    let c : n / 2 ^ 12 ≡ n / 2 ^ 18 * 2 ^ 6 + n / 2 ^ 12 % 2 ^ 6 = omega arith in
    let d : n / 2 ^ 18 % 2 ^ 6 ≡ n / 2 ^ 18 = omega arith in
    omega arith

bytes_group : (x y z : ℕ) → x < 256 → y < 256 → z < 256 → bytes (group x y z) ≡ x ∷ y ∷ z ∷ []
bytes_group x y z p q r =
    let a : group x y z / 2 ^ 16 ≡ x = omega arith in
    let b : group x y z / 2 ^ 8 % 2 ^ 8 ≡ y = omega arith in
    let c : group x y z % 2 ^ 8 ≡ z = omega arith in
    rw (a, b, c)

-- what is written is read back
read_back_lem : (bs : List ℕ) → Octets bs → read_back (base64url bs) ≡ bs
unfolding base64url characters read_back
read_back_lem [] o = refl
read_back_lem (x ∷ []) o =
    let n = group x 0 0 in
    let e : sixes (n / 2 ^ 18 % 2 ^ 6) (n / 2 ^ 12 % 2 ^ 6) 0 0 ≡ n = omega (arith, whole n (omega (arith, o 0))) in
    rw (value_letter (n / 2 ^ 18), value_letter (n / 2 ^ 12), e)
    (ap (take 1) (bytes_group x 0 0 (o 0) (lit< tt) (lit< tt)))
read_back_lem (x ∷ y ∷ []) o =
    let n = group x y 0 in
    let e : sixes (n / 2 ^ 18 % 2 ^ 6) (n / 2 ^ 12 % 2 ^ 6) (n / 2 ^ 6 % 2 ^ 6) 0 ≡ n = omega (arith, whole n (omega (arith, o 0, o 1))) in
    rw (value_letter (n / 2 ^ 18), value_letter (n / 2 ^ 12), value_letter (n / 2 ^ 6), e)
    (ap (take 2) (bytes_group x y 0 (o 0) (o 1) (lit< tt)))
read_back_lem (x ∷ y ∷ z ∷ bs) o =
    let n = group x y z in
    rw (value_letter (n / 2 ^ 18), value_letter (n / 2 ^ 12), value_letter (n / 2 ^ 6), value_letter n, whole n (omega (arith, o 0, o 1, o 2)))
    (ap (λ (t : List ℕ). t ++ read_back (base64url bs)) (bytes_group x y z (o 0) (o 1) (o 2))
    ∙ ap (λ (t : List ℕ). x ∷ y ∷ z ∷ t) (read_back_lem bs (λ i. o (suc (suc (suc i))))))

-- two lists of bytes with one text are equal
pub base64url_injective : (bs cs : List ℕ) → Octets bs → Octets cs → base64url bs ≡ base64url cs → bs ≡ cs
base64url_injective bs cs o p e = sym (read_back_lem bs o) ∙ ap read_back e ∙ read_back_lem cs p
