-- Laws of the digest (FIPS 180-4, section 6.2.2, the end).
use Rattle.std.proofs.Common.{◌≡◌, ℕ, zero, suc, ◌+◌, ◌-◌, ◌*◌, ◌/◌, ◌%◌, ◌^◌, ◌<◌, ◌≤◌, List, [], ◌∷◌, ◌++◌, length, get_or, sym, refl, ap, ◌∙◌, ⊎_elim, add-one, arith, lit<, length-append, get_or-append-add}
use Rattle.std.specs.Int.{w32, to_be_bytes}
use Rattle.std.specs.List.{flat_map}
use lib.ListN.{get_or-append, get_or-eq_default}
use Rattle.octets.specs.Numbers.{digits}
use Rattle.octets.proofs.Numbers.{length_digits}
use Rattle.octets.proofs.Tests.{lt_or_le}
use Rattle.sha256.specs.Pad.{pad, blocks, block}
use Rattle.sha256.specs.Hash.{added, compress, hash_value, joined, sha256}
use Rattle.sha256.proofs.Digits.{get_or_digits}

-- ---- words one after the other

pub length_joined : (ws : List ℕ) → length (joined ws) ≡ 4 * length ws
unfolding joined
length_joined [] = refl
length_joined (w ∷ ws) = rw (length-append, length_digits, length_joined ws) (omega arith)

-- byte i of the words ws
abbrev byte_of : List ℕ → ℕ → ℕ
byte_of ws i = get_or ws (i / 4) 0 / 2 ^ (8 * (3 - i % 4)) % 2 ^ 8

get_or_joined : (ws : List ℕ) (i : ℕ) → i < 4 * length ws → get_or (joined ws) i 0 ≡ byte_of ws i
unfolding joined
get_or_joined [] i h = absurd (omega arith)
get_or_joined (w ∷ ws) i h =
    ⊎_elim (λ k.
    let q : i / 4 ≡ 0 = omega arith in
    let r : 3 - i % 4 ≡ 4 - suc i = omega arith in
    let s : i < length (digits 4 w) = omega (arith, length_digits 4 w) in
    rw (q, r) (get_or-append (digits 4 w) (joined ws) 0 i s ∙ get_or_digits 4 w i k))
    (λ k.
    let q : i / 4 ≡ suc ((i - 4) / 4) = omega arith in
    let r : i % 4 ≡ (i - 4) % 4 = omega arith in
    let s : length (digits 4 w) + (i - 4) ≡ i = omega (arith, length_digits 4 w) in
    ap (λ j. get_or (digits 4 w ++ joined ws) j 0) (sym s)
    ∙ get_or-append-add (digits 4 w) (joined ws) (i - 4) 0 ∙ get_or_joined ws (i - 4) (omega arith) ∙ rw (q, r))
    (lt_or_le i 4)

-- the four bytes of a word
digits_be : (w : ℕ) → digits 4 w ≡ to_be_bytes w32 w
unfolding digits
digits_be w =
    let a : w / 256 / 256 / 256 ≡ w / 16777216 = omega arith in
    let b : w / 256 / 256 ≡ w / 65536 = omega arith in
    cc

-- the bytes of each word, put together
pub joined_be : (ws : List ℕ) (bs : List (List ℕ)) → length bs ≡ length ws
    → ((i : ℕ) → i < length ws → get_or bs i [] ≡ to_be_bytes w32 (get_or ws i 0))
    → flat_map (λ x. x) bs ≡ joined ws
unfolding joined
joined_be [] [] e h = refl
joined_be [] (b ∷ bs) e h = absurd (omega arith)
joined_be (w ∷ ws) [] e h = absurd (omega arith)
joined_be (w ∷ ws) (b ∷ bs) e h =
    let first : b ≡ digits 4 w = h 0 (omega arith) ∙ sym (digits_be w) in
    rw (first, joined_be ws bs (omega arith) (λ i k. h (suc i) (omega arith)))

-- ---- a hash value

-- one more block
pub hash_more : (p h b r : List ℕ) (k : ℕ) → h ≡ hash_value p k → b ≡ block p k → r ≡ compress h b → r ≡ hash_value p (k + 1)
unfolding hash_value
hash_more p h b r k e f g = rw (add-one, ← e, ← f) g

length_hash : (p : List ℕ) (i : ℕ) → length (hash_value p i) ≡ 8
unfolding hash_value compress added
length_hash p zero = refl
length_hash p (suc i) = refl

-- ---- a digest

-- a digest has 32 bytes
pub length_sha256 : (m : List ℕ) → length (sha256 m) ≡ 32
unfolding sha256
length_sha256 m = omega (arith, length_joined (hash_value (pad m) (blocks m)), length_hash (pad m) (blocks m))

bytes_joined : (ws : List ℕ) (i : ℕ) → get_or (joined ws) i 0 < 256
bytes_joined ws i =
    ⊎_elim (λ k. rw (get_or_joined ws i k) (omega arith))
    (λ k. rw (get_or-eq_default (joined ws) 0 (past k)) (lit< tt))
    (lt_or_le i (4 * length ws))
  where
    past : 4 * length ws ≤ i → length (joined ws) ≤ i
    past k = omega (arith, length_joined ws)

-- each is below 256
pub bytes_sha256 : (m : List ℕ) (i : ℕ) → get_or (sha256 m) i 0 < 256
unfolding sha256
bytes_sha256 m i = bytes_joined (hash_value (pad m) (blocks m)) i
