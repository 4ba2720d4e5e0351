-- What a write to the head leaves as it was, and what one to a record does.
use Prim.Native.Nat.{ℕ, ◌+◌, ◌*◌, ◌≤◌, ◌<◌, ◌^◌}
use native.Mathlib.Omega.{arith}
use mathlib.Core.Path.{◌≡◌, ap, ◌∙◌}
use mathlib.Core.Logic.{◌≢◌}
use mathlib.Core.List.{List}
use lib.ListN.{length, take, drop, length-drop}
use Rattle.octets.specs.Parts.{part}
use Rattle.octets.specs.Numbers.{num, digits}
use Rattle.octets.proofs.Parts.{length_put, put_same, part_before}
use Rattle.octets.proofs.Numbers.{Octets, length_digits, num_digits, num_lt}
use Rattle.octets.proofs.Bytes.{octets_drop}
use Rattle.octets.proofs.Tabulate.{tabulate_same}
use Rattle.ledger.specs.Limits.{last_number}
use Rattle.ledger.specs.Fields.{clock, with_clock, next_number, with_next, head_rest, rec, slots, records, with_record}
use Rattle.ledger.proofs.Records.{slot_within}
use Rattle.ledger_laws.proofs.Puts.{drop_put, take_put}

-- ---- the clock written

module _ (t : ℕ) (l : List ℕ) where
  behind_clock : (b : ℕ) → 8 ≤ b → drop b (with_clock t l) ≡ drop b l
  behind_clock b h = drop_put l 0 (digits 8 t) b (rw (length_digits 8 t) (omega arith))

  pub length_clock : length (with_clock t l) ≡ length l
  length_clock = length_put l 0 (digits 8 t)

  pub slots_clock : slots (with_clock t l) ≡ slots l
  unfolding slots
  slots_clock = rw length_clock

  pub rec_clock : (k : ℕ) → rec (with_clock t l) k ≡ rec l k
  unfolding rec
  rec_clock k = ap (take 256) (behind_clock (32 + k * 256) (omega arith))

  pub records_clock : records (with_clock t l) ≡ records l
  unfolding records
  records_clock = rw slots_clock (tabulate_same (rec (with_clock t l)) (rec l) (slots l) (λ k h. rec_clock k))

  pub next_clock : next_number (with_clock t l) ≡ next_number l
  next_clock = ap (λ (xs : List ℕ). num (take 8 xs)) (behind_clock 8 (omega arith))

  pub rest_clock : head_rest (with_clock t l) ≡ head_rest l
  rest_clock = ap (take 16) (behind_clock 16 (omega arith))

  pub clock_is : t < 2 ^ 64 → 8 ≤ length l → clock (with_clock t l) ≡ t
  clock_is h m = ap num (put_same l 0 8 (digits 8 t) (length_digits 8 t) m) ∙ num_digits 8 t h

-- ---- the next number written

module _ (n : ℕ) (l : List ℕ) where
  behind_next : (b : ℕ) → 16 ≤ b → drop b (with_next n l) ≡ drop b l
  behind_next b h = drop_put l 8 (digits 8 n) b (rw (length_digits 8 n) (omega arith))

  pub length_next : length (with_next n l) ≡ length l
  length_next = length_put l 8 (digits 8 n)

  pub slots_next : slots (with_next n l) ≡ slots l
  unfolding slots
  slots_next = rw length_next

  pub rec_next : (k : ℕ) → rec (with_next n l) k ≡ rec l k
  unfolding rec
  rec_next k = ap (take 256) (behind_next (32 + k * 256) (omega arith))

  pub records_next : records (with_next n l) ≡ records l
  unfolding records
  records_next = rw slots_next (tabulate_same (rec (with_next n l)) (rec l) (slots l) (λ k h. rec_next k))

  pub clock_next : clock (with_next n l) ≡ clock l
  clock_next = ap num (take_put l 8 (digits 8 n) 8 (omega arith))

  pub rest_next : head_rest (with_next n l) ≡ head_rest l
  rest_next = ap (take 16) (behind_next 16 (omega arith))

  pub next_is : n < 2 ^ 64 → 16 ≤ length l → next_number (with_next n l) ≡ n
  next_is h m = ap num (put_same l 8 8 (digits 8 n) (length_digits 8 n) m) ∙ num_digits 8 n h

-- ---- a record replaced

module _ (l : List ℕ) (k : ℕ) (r : List ℕ) (sized : length r ≡ 256) (inside : k < slots l) where
  pub head_with : (b m : ℕ) → b + m ≤ 32 → part (with_record l k r) b m ≡ part l b m
  head_with b m h =
      let w = slot_within l k inside in
      part_before l (32 + k * 256) 256 r sized (omega arith) b m (omega arith)

  pub clock_with : clock (with_record l k r) ≡ clock l
  clock_with = ap num (head_with 0 8 (omega arith))

  pub next_with : next_number (with_record l k r) ≡ next_number l
  next_with = ap num (head_with 8 8 (omega arith))

  pub rest_with : head_rest (with_record l k r) ≡ head_rest l
  rest_with = head_with 16 16 (omega arith)

-- ---- the range of the next number

pub next_below : (l : List ℕ) → Octets l → 16 ≤ length l → next_number l < 2 ^ 64
next_below l o h = num_lt (drop 8 l) 8 (octets_drop 8 l o) (simp length-drop (omega arith))

-- 9: "next grant number is 2^64 - 1" does not hold
pub next_left : (l : List ℕ) → Octets l → 16 ≤ length l → next_number l ≢ last_number → next_number l < last_number
next_left l o h n = omega (arith, next_below l o h, n)
