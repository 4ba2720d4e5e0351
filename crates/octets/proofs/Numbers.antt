-- Laws of big-endian numbers, over the width.
use mathlib.Core.Path.{◌≡◌, refl, sym, ap, ◌∙◌}
use mathlib.Core.List.{List, [], ◌∷◌, ◌++◌}
use Prim.Native.Nat.{ℕ, zero, suc, ◌+◌, ◌*◌, ◌/◌, ◌%◌, ◌≤◌, ◌<◌, ◌^◌}
use native.Mathlib.Numerals.{add-one}
use native.Mathlib.Omega.{arith}
use lib.ListN.{length, get_or, take, drop, drop_of_length-le, length-append, length-take}
use lib.Dec.{lit<}
use lib.Pow.{field, mod-mod-pow}
use lib.Seq.{drop-cons, take-suc, take-add, take_all}
use native.Mathlib.Nat.{add-mul, mul_assoc}
use Rattle.std.specs.Int.{Width, w16, w32, w64, from_be_bytes, to_be_bytes}
use Rattle.std.specs.Array.{IsFirstChunk}
use Rattle.std.proofs.lemmas.Nat.{be_bytes_2, be_bytes_4, be_bytes_8}
use Rattle.octets.specs.Parts.{part}
use Rattle.octets.proofs.Parts.{part_length}
use Rattle.octets.specs.Numbers.{num, num_from, digits}
use Rattle.octets.specs.Plain.{Bytes}

-- every element is a byte
abbrev pub Octets : List ℕ → Type 0
Octets xs = Bytes xs

-- ---- a loop that reads

module _ (s : List ℕ) (i acc : ℕ) where
  pub num_at : i < length s → num_from acc (drop i s) ≡ num_from (acc * 256 + get_or s i 0) (drop (i + 1) s)
  unfolding num_from
  num_at h = rw (add-one, drop-cons s i 0)

  pub num_end : length s ≤ i → num_from acc (drop i s) ≡ acc
  unfolding num_from
  num_end h = rw (drop_of_length-le s h)

pub room_more : (n acc x : ℕ) → acc < 256 ^ n → x < 256 → acc * 256 + x < 256 ^ (n + 1)
room_more n acc x h k = rw add-one (omega arith)

pub room_mono : (n m : ℕ) → n ≤ m → 256 ^ n ≤ 256 ^ m
room_mono zero zero h = omega arith
room_mono zero (suc m) h = let k = room_mono zero m (omega arith) in omega arith
room_mono (suc n) zero h = absurd (omega arith)
room_mono (suc n) (suc m) h = let k = room_mono n m (omega arith) in omega arith

num_from_last : (acc : ℕ) (xs : List ℕ) (y : ℕ) → num_from acc (xs ++ (y ∷ [])) ≡ num_from acc xs * 256 + y
unfolding num_from
num_from_last acc [] y = refl
num_from_last acc (x ∷ xs) y = num_from_last (acc * 256 + x) xs y

-- one byte more
pub num_more : (s : List ℕ) (n : ℕ) → n < length s → num (take (suc n) s) ≡ num (take n s) * 256 + get_or s n 0
unfolding num
num_more s n h = rw (take-suc s n 0 h) (num_from_last 0 (take n s) (get_or s n 0))

-- ---- digits

pub length_digits : (n v : ℕ) → length (digits n v) ≡ n
unfolding digits
length_digits zero v = refl
length_digits (suc n) v = simp (length-append, length_digits n (v / 256)) (omega arith)

pub octets_digits : (n v : ℕ) → Octets (digits n v)
unfolding digits
octets_digits zero v i = omega arith
octets_digits (suc n) v i = last (digits n (v / 256)) (v % 256) (octets_digits n (v / 256)) (omega arith) i
  where
    last : (xs : List ℕ) (y : ℕ) → Octets xs → y < 256 → Octets (xs ++ (y ∷ []))
    last [] y o h zero = h
    last [] y o h (suc i) = omega arith
    last (x ∷ xs) y o h zero = o 0
    last (x ∷ xs) y o h (suc i) = last xs y (λ j. o (suc j)) h i

-- n digits see no more than the lowest n bytes
pub digits_low : (n v : ℕ) → digits n (v % 2 ^ (8 * n)) ≡ digits n v
unfolding digits
digits_low zero v = refl
digits_low (suc n) v =
    let e : 8 * suc n ≡ 8 * n + 8 = omega arith in
    rw (e, field v (8 * n) 8, mod-mod-pow v (8 * n) 8, digits_low n (v / 256))

-- what is written is read back, where it fits
pub num_digits : (n v : ℕ) → v < 256 ^ n → num (digits n v) ≡ v
unfolding num num_from digits
num_digits zero v h = omega arith
num_digits (suc n) v h =
    let k : num (digits n (v / 256)) ≡ v / 256 = num_digits n (v / 256) (omega arith) in
    num_from_last 0 (digits n (v / 256)) (v % 256) ∙ rw k (omega arith)

-- what is read is written back
pub digits_num : (xs : List ℕ) (n : ℕ) → Octets xs → n ≤ length xs → digits n (num (take n xs)) ≡ take n xs
unfolding digits
digits_num xs zero o h = refl
digits_num xs (suc n) o h =
    let b = o n in
    let d : (num (take n xs) * 256 + get_or xs n 0) / 256 ≡ num (take n xs) = omega arith in
    let m : (num (take n xs) * 256 + get_or xs n 0) % 256 ≡ get_or xs n 0 = omega arith in
    rw (num_more xs n h, take-suc xs n 0 h, d, m, digits_num xs n o (omega arith))

-- n bytes hold less than 256 to the n
pub num_lt : (xs : List ℕ) (n : ℕ) → Octets xs → n ≤ length xs → num (take n xs) < 256 ^ n
unfolding num num_from
num_lt xs zero o h = lit< tt
num_lt xs (suc n) o h = rw (num_more xs n h) (omega (arith, o n, num_lt xs n o (omega arith)))

num_from_split : (acc : ℕ) (ys : List ℕ) → num_from acc ys ≡ acc * 256 ^ length ys + num ys
unfolding num num_from
num_from_split acc [] = omega arith
num_from_split acc (y ∷ ys) =
    let p : 256 ^ suc (length ys) ≡ 256 * 256 ^ length ys = omega arith in
    let m : acc * 256 ^ suc (length ys) ≡ acc * 256 * 256 ^ length ys = rw p (sym (mul_assoc acc 256 (256 ^ length ys))) in
    omega (arith, m, num_from_split (acc * 256 + y) ys, num_from_split (0 * 256 + y) ys, add-mul (acc * 256) y (256 ^ length ys))

-- the number of a list and one behind it
pub num_append : (xs ys : List ℕ) → num (xs ++ ys) ≡ num xs * 256 ^ length ys + num ys
unfolding num num_from
num_append xs ys = from 0 xs
  where
    from : (acc : ℕ) (xs : List ℕ) → num_from acc (xs ++ ys) ≡ num_from acc xs * 256 ^ length ys + num ys
    from acc [] = num_from_split acc ys
    from acc (x ∷ xs) = from (acc * 256 + x) xs

-- the number of n + m bytes, from those of the first n and of the m behind them
pub num_split : (s : List ℕ) (n m : ℕ) → n + m ≤ length s → num (take (n + m) s) ≡ num (take n s) * 256 ^ m + num (part s n m)
num_split s n m h =
    let e = part_length s n m h in
    rw (take-add n m s) (num_append (take n s) (part s n m) ∙ rw e)

-- a list that is no longer than a number is wide
pub num_short : (s : List ℕ) (n : ℕ) → length s ≤ n → num s ≡ num (take n s)
num_short s n h = ap num (sym (take_all n s h))

num_none : (s : List ℕ) → num (take 0 s) ≡ 0
unfolding num num_from
num_none s = refl

-- ---- the library's numbers: read from as many bytes as they have, and written

read16 : (s : List ℕ) → length s ≡ 2 → from_be_bytes w16 s ≡ num s
read16 s e = omega (arith, num_more s 1 (omega arith), num_more s 0 (omega arith), num_none s, num_short s 2 (omega arith))

read32 : (s : List ℕ) → length s ≡ 4 → from_be_bytes w32 s ≡ num s
read32 s e =
    omega (arith, num_more s 3 (omega arith), num_more s 2 (omega arith), num_more s 1 (omega arith), num_more s 0 (omega arith), num_none s, num_short s 4 (omega arith))

read64 : (s : List ℕ) → length s ≡ 8 → from_be_bytes w64 s ≡ num s
read64 s e =
    omega (
      arith,
      num_more s 7 (omega arith),
      num_more s 6 (omega arith),
      num_more s 5 (omega arith),
      num_more s 4 (omega arith),
      num_more s 3 (omega arith),
      num_more s 2 (omega arith),
      num_more s 1 (omega arith),
      num_more s 0 (omega arith),
      num_none s,
      num_short s 8 (omega arith),
    )

module _ (w : Width) (n : ℕ) (reads : (xs : List ℕ) → length xs ≡ n → from_be_bytes w xs ≡ num xs) where
  front : (s xs : List ℕ) → IsFirstChunk s xs n → from_be_bytes w xs ≡ num (take n s)
  front s xs f =
      let l : length xs ≡ n = rw f.same (simp length-take (omega (arith, f.enough))) in
      reads xs l ∙ ap num f.same

  digits_read : (v : ℕ) → v < 256 ^ n → v ≡ from_be_bytes w (digits n v)
  digits_read v h = sym (reads (digits n v) (length_digits n v) ∙ num_digits n v h)

pub front16 : (s xs : List ℕ) → IsFirstChunk s xs 2 → from_be_bytes w16 xs ≡ num (take 2 s)
front16 = front w16 2 read16

pub front32 : (s xs : List ℕ) → IsFirstChunk s xs 4 → from_be_bytes w32 xs ≡ num (take 4 s)
front32 = front w32 4 read32

pub front64 : (s xs : List ℕ) → IsFirstChunk s xs 8 → from_be_bytes w64 xs ≡ num (take 8 s)
front64 = front w64 8 read64

pub digits16 : (v : ℕ) → v < 2 ^ 16 → to_be_bytes w16 v ≡ digits 2 v
digits16 v h = be_bytes_2 (digits 2 v) v (length_digits 2 v) (octets_digits 2 v) (digits_read w16 2 read16 v h)

pub digits32 : (v : ℕ) → v < 2 ^ 32 → to_be_bytes w32 v ≡ digits 4 v
digits32 v h = be_bytes_4 (digits 4 v) v (length_digits 4 v) (octets_digits 4 v) (digits_read w32 4 read32 v h)

pub digits64 : (v : ℕ) → v < 2 ^ 64 → to_be_bytes w64 v ≡ digits 8 v
digits64 v h = be_bytes_8 (digits 8 v) v (length_digits 8 v) (octets_digits 8 v) (digits_read w64 8 read64 v h)
