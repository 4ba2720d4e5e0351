-- Laws of padding (FIPS 180-4, section 5.1.1).
use Rattle.std.proofs.Common.{◌≡◌, ℕ, ◌+◌, ◌-◌, ◌*◌, ◌/◌, ◌%◌, ◌^◌, ◌<◌, ◌≤◌, List, [], ◌∷◌, ◌++◌, length, get_or, drop, sym, ap, ◌∙◌, ⊎_elim, append_assoc, eq-or-lt_of_le, arith, length-append, length-drop, drop_of_length-le, get_or-drop, get_or-take, get_or-append-add, ext_get_or}
use lib.ListN.{get_or-replicate, get_or-append, get_or-eq_default}
use lib.Seq.{get_or_at, take-append-le, drop-append-le}
use Rattle.std.specs.Simd.{first_chunks}
use Rattle.octets.specs.Numbers.{digits}
use Rattle.octets.specs.Parts.{part, put, blank}
use Rattle.octets.proofs.Numbers.{length_digits, digits_low}
use Rattle.octets.proofs.Parts.{length_blank, length_laid, length_put, part_length, laid_in, laid_past, put_in, put_ahead, put_past}
use Rattle.octets.proofs.Tests.{lt_or_le}
use Rattle.sha256.proofs.Chunks.{get_or-first_chunks}
use Rattle.sha256.specs.Pad.{zero_bytes, pad, blocks, block, marked, window}

-- ---- how long

pub length_pad : (m : List ℕ) → length (pad m) ≡ length m + (zero_bytes (length m) + 9)
unfolding pad
length_pad m = simp (length-append, length_blank, length_digits) (omega arith)

-- a padded message is whole blocks
pub whole_blocks : (m : List ℕ) → length (pad m) ≡ 64 * blocks m
unfolding blocks
whole_blocks m = omega (arith, length_pad m)

-- and so many
pub blocks_of : (m : List ℕ) → blocks m ≡ (length m + 8) / 64 + 1
unfolding blocks
blocks_of m = omega (arith, length_pad m)

-- the bits of n bytes, the bit 1 and the zero bits that follow it are 448 modulo 512
pub zero_bits : (n : ℕ) → (8 * n + 1 + (7 + 8 * zero_bytes n)) % 512 ≡ 448
zero_bits n = omega arith

-- and no fewer zero bits are
pub least_zero_bits : (n k : ℕ) → (8 * n + 1 + k) % 512 ≡ 448 → 7 + 8 * zero_bytes n ≤ k
least_zero_bits n k h = omega arith

-- no fewer zero bytes make whole blocks
pub least_zero_bytes : (n k : ℕ) → (n + 1 + k + 8) % 64 ≡ 0 → zero_bytes n ≤ k
least_zero_bytes n k h = omega arith

-- ---- the blocks that the message fills

module _ (m : List ℕ) where
  -- a block before the padding is the message's own
  pub pad_block : (k : ℕ) → 64 * k + 64 ≤ length m → part m (64 * k) 64 ≡ block (pad m) k
  unfolding pad
  pad_block k h =
      let a : 64 * k ≤ length m = omega arith in
      let b : 64 ≤ length (drop (64 * k) m) = simp length-drop (omega arith) in
      rw (drop-append-le (64 * k) m _ a) (sym (take-append-le 64 (drop (64 * k) m) _ b))

  -- the message cut into blocks
  pub chunk_block : (k : ℕ) → k < length m / 64 → get_or (first_chunks 64 (length m / 64) m) k [] ≡ block (pad m) k
  chunk_block k h = get_or-first_chunks 64 (length m / 64) k m h ∙ pad_block k (omega arith)

-- ---- the blocks that hold padding, as the code fills them

length_window : (xs : List ℕ) (a : ℕ) → length (window xs a) ≡ 64
length_window xs a = length_laid (drop a xs) (blank 64) ∙ length_blank 64

zero_at : (n i : ℕ) → i < n → get_or (blank n) i 0 ≡ 0
unfolding blank
zero_at n i h = get_or-replicate n i 0 0 h

window_at : (xs : List ℕ) (a i : ℕ) → i < 64 → get_or (window xs a) i 0 ≡ get_or xs (a + i) 0
window_at xs a i h =
    let s : i < length (blank 64) = omega (arith, length_blank 64) in
    ⊎_elim (λ k. laid_in (drop a xs) (blank 64) i k s ∙ get_or-drop a xs i 0)
    (λ k. laid_past (drop a xs) (blank 64) i k s ∙ zero_at 64 i h ∙ sym (get_or-eq_default xs 0 {n = a + i} (past k)))
    (lt_or_le i (length (drop a xs)))
  where
    past : length (drop a xs) ≤ i → length xs ≤ a + i
    past k = let l = rw length-drop at k in omega arith

module _ (m : List ℕ) where
  length_marked : length (marked m) ≡ length m + 1
  length_marked = length-append m (0x80 ∷ [])

  -- the mark, put behind the message
  abbrev with_mark : ℕ → List ℕ
  with_mark a = put (window m a) (length m - a) (0x80 ∷ [])

  module _ (a i : ℕ) (fits : a ≤ length m) (h : i < 64) where
    inside : i < length (window m a)
    inside = omega (arith, length_window m a)

    before_mark : i < length m - a → get_or (with_mark a) i 0 ≡ get_or (window (marked m) a) i 0
    before_mark k =
        put_ahead (window m a) (length m - a) (0x80 ∷ []) i inside k ∙ window_at m a i h
        ∙ sym (window_at (marked m) a i h ∙ get_or-append m (0x80 ∷ []) 0 (a + i) (omega arith))

    on_mark : length m - a ≡ i → get_or (with_mark a) i 0 ≡ get_or (window (marked m) a) i 0
    on_mark e =
        let z : i - (length m - a) ≡ 0 = omega arith in
        put_in (window m a) (length m - a) (0x80 ∷ []) i inside (omega arith) (omega arith)
        ∙ rw z (sym (window_at (marked m) a i h ∙ get_or_at m 0x80 [] 0 (a + i) (omega arith)))

    past_mark : length m - a < i → get_or (with_mark a) i 0 ≡ get_or (window (marked m) a) i 0
    past_mark k =
        put_past (window m a) (length m - a) (0x80 ∷ []) i inside (omega arith) ∙ window_at m a i h
        ∙ get_or-eq_default m 0 {n = a + i} (omega arith)
        ∙ sym (window_at (marked m) a i h ∙ get_or-eq_default (marked m) 0 {n = a + i} (omega (arith, length_marked)))

    mark_at : get_or (with_mark a) i 0 ≡ get_or (window (marked m) a) i 0
    mark_at = ⊎_elim before_mark (λ k. ⊎_elim on_mark past_mark (eq-or-lt_of_le k)) (lt_or_le i (length m - a))

  mark_size : (a : ℕ) → length (with_mark a) ≡ 64
  mark_size a = length_put (window m a) (length m - a) (0x80 ∷ []) ∙ length_window m a

  pub mark_put : (a : ℕ) → a ≤ length m → with_mark a ≡ window (marked m) a
  mark_put a h =
      ext_get_or 0 _ _ (mark_size a ∙ sym (length_window (marked m) a))
      (λ i k. let s : i < 64 = omega (arith, mark_size a) in mark_at a i h s)

  pub mark_none : (a : ℕ) → length m < a → window m a ≡ window (marked m) a
  mark_none a h =
      let p : length m ≤ a = omega arith in
      let q : length (marked m) ≤ a = omega (arith, length_marked) in
      rw (drop_of_length-le m p, drop_of_length-le (marked m) q)

  pad_marked : pad m ≡ marked m ++ (blank (zero_bytes (length m)) ++ digits 8 (8 * length m))
  unfolding pad
  pad_marked = sym (append_assoc m (0x80 ∷ []) (blank (zero_bytes (length m)) ++ digits 8 (8 * length m)))

  behind_mark : (j : ℕ) → get_or (pad m) (length m + 1 + j) 0 ≡ get_or (blank (zero_bytes (length m)) ++ digits 8 (8 * length m)) j 0
  behind_mark j =
      rw (pad_marked, ← length_marked)
      (get_or-append-add (marked m) (blank (zero_bytes (length m)) ++ digits 8 (8 * length m)) j 0)

  -- before the length there are zeros behind the mark
  pad_front : (i : ℕ) → i < length m + 1 + zero_bytes (length m) → get_or (pad m) i 0 ≡ get_or (marked m) i 0
  pad_front i h =
      ⊎_elim (λ k. rw pad_marked (get_or-append (marked m) _ 0 i (omega (arith, length_marked))))
      (λ k.
      let e : length m + 1 + (i - (length m + 1)) ≡ i = omega arith in
      let z : i - (length m + 1) < zero_bytes (length m) = omega arith in
      let s : i - (length m + 1) < length (blank (zero_bytes (length m))) = rw length_blank z in
      ap (λ (j : ℕ). get_or (pad m) j 0) (sym e) ∙ behind_mark (i - (length m + 1))
      ∙ get_or-append (blank (zero_bytes (length m))) _ 0 _ s ∙ zero_at (zero_bytes (length m)) (i - (length m + 1)) z
      ∙ sym (get_or-eq_default (marked m) 0 {n = i} (omega (arith, length_marked))))
      (lt_or_le i (length m + 1))

  pad_field : (i j : ℕ) → i ≡ length m + 1 + (zero_bytes (length m) + j) → get_or (pad m) i 0 ≡ get_or (digits 8 (8 * length m)) j 0
  pad_field i j e =
      rw e
      (behind_mark (zero_bytes (length m) + j)
      ∙ ap (λ (n : ℕ). get_or (blank (zero_bytes (length m)) ++ digits 8 (8 * length m)) (n + j) 0) (sym (length_blank (zero_bytes (length m))))
      ∙ get_or-append-add (blank (zero_bytes (length m))) (digits 8 (8 * length m)) j 0)

  module _ (k : ℕ) (within : k < blocks m) where
    block_size : length (block (pad m) k) ≡ 64
    block_size = part_length (pad m) (64 * k) 64 (omega (arith, whole_blocks m))

    block_at : (i : ℕ) → i < 64 → get_or (block (pad m) k) i 0 ≡ get_or (pad m) (64 * k + i) 0
    block_at i h = get_or-take 64 (drop (64 * k) (pad m)) i 0 h ∙ get_or-drop (64 * k) (pad m) i 0

    -- a byte before the length
    marked_at : (i : ℕ) → i < 64 → 64 * k + i < length m + 1 + zero_bytes (length m) → get_or (window (marked m) (64 * k)) i 0 ≡ get_or (block (pad m) k) i 0
    marked_at i h l = window_at (marked m) (64 * k) i h ∙ sym (block_at i h ∙ pad_front (64 * k + i) l)

    -- the length stands in no block but the last
    pub block_inner : k + 1 < blocks m → window (marked m) (64 * k) ≡ block (pad m) k
    block_inner h =
        ext_get_or 0 _ _ (length_window (marked m) (64 * k) ∙ sym block_size)
        (λ i l.
        let s : i < 64 = omega (arith, length_window (marked m) (64 * k)) in
        marked_at i s (omega (arith, blocks_of m)))

    module _ (last : blocks m ≤ k + 1) (ds : List ℕ) (e : ds ≡ digits 8 ((length m * 2 ^ 3) % 2 ^ 64)) where
      abbrev with_length : List ℕ
      with_length = put (window (marked m) (64 * k)) 56 ds

      last_size : length with_length ≡ 64
      last_size = length_put (window (marked m) (64 * k)) 56 ds ∙ length_window (marked m) (64 * k)

      -- the code's eight bytes are the length field
      length_field : ds ≡ digits 8 (8 * length m)
      length_field =
          let c : length m * 2 ^ 3 ≡ 8 * length m = omega arith in
          e ∙ rw c (digits_low 8 (8 * length m))

      last_at : (i : ℕ) → i < 64 → get_or with_length i 0 ≡ get_or (block (pad m) k) i 0
      last_at i h =
          let s : i < length (window (marked m) (64 * k)) = omega (arith, length_window (marked m) (64 * k)) in
          let n : length ds ≡ 8 = rw length_field (length_digits 8 (8 * length m)) in
          ⊎_elim (λ l. put_ahead (window (marked m) (64 * k)) 56 ds i s l ∙ marked_at i h (omega (arith, blocks_of m)))
          (λ l. put_in (window (marked m) (64 * k)) 56 ds i s l (omega arith)
          ∙ ap (λ (x : List ℕ). get_or x (i - 56) 0) length_field
          ∙ sym (block_at i h ∙ pad_field (64 * k + i) (i - 56) (omega (arith, blocks_of m))))
          (lt_or_le i 56)

      pub block_last : with_length ≡ block (pad m) k
      block_last =
          ext_get_or 0 _ _ (last_size ∙ sym block_size)
          (λ i l. let s : i < 64 = omega (arith, last_size) in last_at i s)
