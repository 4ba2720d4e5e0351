-- Laws of records: their number, their places, one replaced.
use Rattle.std.proofs.Common.{◌≡◌, ℕ, ◌+◌, ◌-◌, ◌*◌, ◌/◌, ◌%◌, ◌^◌, ◌<◌, ◌≤◌, ◌≢◌, List, [], length, get_or, set, drop, length-drop, sym, ◌∙◌, arith, length-set, drop_of_length-le, get_or-set_other, get_or-set_same, ext_get_or}
use native.Mathlib.Nat.{add-sub_cancel_left}
use native.Mathlib.Decide.{ℕ_discrete, dec_lt}
use lib.Seq.{take-nil, drop-drop}
use Rattle.std.specs.Simd.{first_chunks}
use Rattle.octets.specs.Parts.{part, splice}
use Rattle.octets.proofs.Parts.{part_length, splice_length, part_same, part_before, part_behind}
use Rattle.octets.proofs.Tabulate.{length_tabulate, get_d_tabulate, tabulate_same}
use Rattle.octets.proofs.Chunks.{chunks_tabulate}
use Rattle.ledger.specs.Limits.{head_size, record_size}
use Rattle.ledger.specs.Fields.{address, rec, slots, records, with_record}

-- a place below the number of records is within the ledger
pub slot_within : (l : List ℕ) (k : ℕ) → k < slots l → address (k + 1) ≤ length l
unfolding slots
slot_within l k h = omega arith

pub rec_length : (l : List ℕ) (k : ℕ) → k < slots l → length (rec l k) ≡ record_size
unfolding rec
rec_length l k h = let w = slot_within l k h in part_length l (address k) record_size (omega arith)

-- nothing is left behind the last record and what is left of one
pub rec_none : (l : List ℕ) (k : ℕ) → slots l < k → rec l k ≡ []
unfolding rec slots
rec_none l k h =
    let w : length l ≤ address k = omega arith in
    rw (drop_of_length-le l w) (take-nil record_size)

pub length_records : (l : List ℕ) → length (records l) ≡ slots l
unfolding records
length_records l = length_tabulate (rec l) (slots l)

pub records_at : (l : List ℕ) (k : ℕ) → k < slots l → get_or (records l) k [] ≡ rec l k
unfolding records
records_at l k h = get_d_tabulate (rec l) [] (slots l) k h

-- what is cut behind the head
pub records_cut : (l : List ℕ) → first_chunks record_size (length (drop head_size l) / record_size) (drop head_size l) ≡ records l
unfolding records rec slots
records_cut l =
    chunks_tabulate record_size _ (drop head_size l)
    ∙ rw length-drop (tabulate_same _ _ (slots l) (λ k h. let e : head_size + record_size * k ≡ address k = omega arith in rw (drop-drop, e)))

-- ---- one record replaced

module _ (l : List ℕ) (k : ℕ) (r : List ℕ) (sized : length r ≡ record_size) (inside : k < slots l) where
  within : address k + record_size ≤ length l
  within = let w = slot_within l k inside in omega arith

  pub length_with : length (with_record l k r) ≡ length l
  length_with = splice_length l (address k) record_size r sized within

  pub slots_with : slots (with_record l k r) ≡ slots l
  unfolding slots
  slots_with = rw length_with

  pub rec_same : rec (with_record l k r) k ≡ r
  unfolding rec
  rec_same = part_same l (address k) record_size r sized within

  pub rec_other : (j : ℕ) → j ≢ k → rec (with_record l k r) j ≡ rec l j
  unfolding rec
  rec_other j ne = go (dec_lt j k)
    where
      go : Dec (j < k) → part (with_record l k r) (address j) record_size ≡ part l (address j) record_size
      go (yes h) = part_before l (address k) record_size r sized within (address j) record_size (omega arith)
      go (no h) = part_behind l (address k) record_size r sized within (address j) record_size (omega (arith, ne, h))

  pub records_with : records (with_record l k r) ≡ set (records l) k r
  records_with =
      ext_get_or [] (records (with_record l k r)) (set (records l) k r)
      (length_records (with_record l k r) ∙ slots_with ∙ sym (length_records l) ∙ sym (length-set (records l) k r))
      (λ j h. at j (rw (length_records (with_record l k r), slots_with) at h) (ℕ_discrete j k))
    where
      at : (j : ℕ) → j < slots l → Dec (j ≡ k) → get_or (records (with_record l k r)) j [] ≡ get_or (set (records l) k r) j []
      at j h (yes e) =
          let m : k < length (records l) = rw (length_records l) inside in
          records_at (with_record l k r) j (rw slots_with h) ∙ rw e (rec_same ∙ sym (get_or-set_same (records l) k r [] m))
      at j h (no ne) =
          records_at (with_record l k r) j (rw slots_with h)
          ∙ rec_other j ne ∙ sym (records_at l j h) ∙ sym (get_or-set_other (records l) k j r [] ne)

-- ---- a record that is lent, a being its address as the code computes it

module _ (l : List ℕ) (k a : ℕ) (inside : k < slots l) (short : length l < 2 ^ 63) (computed : a ≡ address k % 2 ^ 64) where
  pub address_is : a ≡ address k
  address_is = let w = slot_within l k inside in omega arith

  pub lent_within : a + record_size ≤ length l
  lent_within = let w = slot_within l k inside in omega arith

  pub lent_out : part l a (a + record_size - a) ≡ rec l k
  unfolding rec
  lent_out = rw (address_is, add-sub_cancel_left (address k) record_size)

  pub lent_back : (r : List ℕ) → splice l a (a + record_size - a) r ≡ with_record l k r
  lent_back r = rw (address_is, add-sub_cancel_left (address k) record_size)
