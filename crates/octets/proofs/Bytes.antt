-- Lists of zeros and lists of bytes: their parts are such, and so is what is put together of such.
use Prim.Native.Nat.{ℕ, zero, suc, ◌+◌, ◌*◌, ◌≤◌, ◌<◌}
use native.Mathlib.Omega.{arith}
use native.Mathlib.Decide.{dec_lt}
use mathlib.Core.Path.{◌≡◌, refl}
use mathlib.Core.Logic.{◌↔◌}
use mathlib.Core.Bool.{Bool, true, false, ◌&&◌, true≢false}
use mathlib.Core.List.{List, [], ◌∷◌, ◌++◌}
use lib.Dec.{eqb}
use lib.ListN.{length, get_or, take, drop, length-take, take-append-drop, get_or-eq_default}
use lib.Seq.{get_or-take, get_or-drop}
use borrow.Author.Tests.{eqb-true, eqb-false, eq-eqb}
use Rattle.octets.specs.Parts.{part, splice, laid, put, blank, zeros}
use Rattle.octets.specs.Numbers.{num, num_from}
use Rattle.octets.specs.Plain.{AllZero, NotZero}
use Rattle.octets.proofs.Tests.{both, both_true, false_of}
use Rattle.octets.proofs.Parts.{zeros_append, zeros_blank}
use Rattle.octets.proofs.Numbers.{Octets}

-- ---- zeros

pub zeros_take : (n : ℕ) (xs : List ℕ) → zeros xs ≡ true → zeros (take n xs) ≡ true
zeros_take n xs e = (zeros_append (take n xs) (drop n xs) (rw (take-append-drop n xs) e)).0

pub zeros_drop : (n : ℕ) (xs : List ℕ) → zeros xs ≡ true → zeros (drop n xs) ≡ true
zeros_drop n xs e = (zeros_append (take n xs) (drop n xs) (rw (take-append-drop n xs) e)).1

pub zeros_part : (xs : List ℕ) (a n : ℕ) → zeros xs ≡ true → zeros (part xs a n) ≡ true
zeros_part xs a n e = zeros_take n (drop a xs) (zeros_drop a xs e)

pub zeros_at : (xs : List ℕ) → zeros xs ≡ true → (i : ℕ) → get_or xs i 0 ≡ 0
unfolding zeros
zeros_at [] e i = refl
zeros_at (x ∷ xs) e zero = eqb-true x 0 (both (eqb x 0) (zeros xs) e).0
zeros_at (x ∷ xs) e (suc i) = zeros_at xs (both (eqb x 0) (zeros xs) e).1 i

-- in plain words, both ways
zeros_of : (xs : List ℕ) → AllZero xs → zeros xs ≡ true
unfolding zeros
zeros_of [] f = refl
zeros_of (x ∷ xs) f = both_true (eqb x 0) (zeros xs) (eq-eqb x 0 (f 0)) (zeros_of xs (λ i. f (suc i)))

pub zeros_say : (xs : List ℕ) → (zeros xs ≡ true) ↔ AllZero xs
zeros_say xs = (zeros_at xs, zeros_of xs)

nonzero_at : (xs : List ℕ) → zeros xs ≡ false → NotZero xs
unfolding zeros
nonzero_at [] e = absurd (true≢false e)
nonzero_at (x ∷ xs) e = go (eqb x 0) refl e (nonzero_at xs)
  where
    go : (b : Bool) → eqb x 0 ≡ b → (b && zeros xs) ≡ false → (zeros xs ≡ false → NotZero xs) → NotZero (x ∷ xs)
    go true p q more = let n = more q in record { place = suc n.place; byte_set = n.byte_set }
    go false p q more = record { place = 0; byte_set = eqb-false x 0 p }

pub nonzero_says : (xs : List ℕ) → (zeros xs ≡ false) ↔ NotZero xs
nonzero_says xs = (nonzero_at xs, λ n. false_of (zeros xs) (λ e. n.byte_set (zeros_at xs e n.place)))

pub num_zeros : (xs : List ℕ) → zeros xs ≡ true → num xs ≡ 0
unfolding zeros num num_from
num_zeros [] e = refl
num_zeros (x ∷ xs) e =
    let z : 0 * 256 + x ≡ 0 = omega (arith, eqb-true x 0 (both (eqb x 0) (zeros xs) e).0) in
    rw z (num_zeros xs (both (eqb x 0) (zeros xs) e).1)

-- ---- bytes

pub octets_drop : (n : ℕ) (xs : List ℕ) → Octets xs → Octets (drop n xs)
octets_drop n xs o i = rw (get_or-drop n xs i 0) (o (n + i))

pub octets_take : (n : ℕ) (xs : List ℕ) → Octets xs → Octets (take n xs)
octets_take n xs o i = go (dec_lt i n)
  where
    go : Dec (i < n) → get_or (take n xs) i 0 < 256
    go (yes h) = rw (get_or-take n xs i 0 h) (o i)
    go (no h) =
        let m : length (take n xs) ≤ i = simp length-take (omega (arith, h)) in
        rw (get_or-eq_default (take n xs) 0 m) (omega arith)

pub octets_part : (xs : List ℕ) (a n : ℕ) → Octets xs → Octets (part xs a n)
octets_part xs a n o = octets_take n (drop a xs) (octets_drop a xs o)

pub octets_append : (xs ys : List ℕ) → Octets xs → Octets ys → Octets (xs ++ ys)
octets_append [] ys o p i = p i
octets_append (x ∷ xs) ys o p zero = o 0
octets_append (x ∷ xs) ys o p (suc i) = octets_append xs ys (λ j. o (suc j)) p i

pub octets_splice : (l : List ℕ) (a n : ℕ) (xs : List ℕ) → Octets l → Octets xs → Octets (splice l a n xs)
octets_splice l a n xs o p =
    octets_append (take a l) (xs ++ drop n (drop a l)) (octets_take a l o) (octets_append xs (drop n (drop a l)) p (octets_drop n (drop a l) (octets_drop a l o)))

pub octets_put : (l : List ℕ) (a : ℕ) (xs : List ℕ) → Octets l → Octets xs → Octets (put l a xs)
unfolding put laid
octets_put l a xs o p =
    octets_append (take a l) (take (length (drop a l)) xs ++ drop (length xs) (drop a l)) (octets_take a l o)
    (octets_append (take (length (drop a l)) xs) (drop (length xs) (drop a l)) (octets_take (length (drop a l)) xs p) (octets_drop (length xs) (drop a l) (octets_drop a l o)))

pub octets_zeros : (xs : List ℕ) → zeros xs ≡ true → Octets xs
octets_zeros xs e i = rw (zeros_at xs e i) (omega arith)

pub octets_blank : (n : ℕ) → Octets (blank n)
octets_blank n = octets_zeros (blank n) (zeros_blank n)
