-- What a sweep leaves, record by record, and what it counts.
use Rattle.std.proofs.Common.{◌≡◌, ℕ, zero, suc, ◌+◌, ◌<◌, ◌≤◌, Bool, true, false, cond, ◌&&◌, List, ◌++◌, length, take, drop, sym, refl, ap, ◌∙◌, add-one, arith, take-append-drop}
use native.Mathlib.Decide.{ℕ_discrete}
use Rattle.octets.specs.Parts.{blank}
use Rattle.octets.proofs.Parts.{length_blank}
use Rattle.ledger.specs.Limits.{record_size}
use Rattle.ledger.specs.Fields.{address, rec, slots, with_record, used}
use Rattle.ledger.specs.Checks.{expired}
use Rattle.ledger.specs.Write.{free}
use Rattle.ledger.specs.Sweep.{swept_record, swept_to, swept, freed_of, freed}
use Rattle.ledger.specs.declared.state.State.TheVariants.{Pushed, Consented, Redeemed}
use Rattle.ledger.specs.declared.sweep.Freed.{Freed}
use Rattle.ledger.proofs.Records.{rec_length, length_with, slots_with, rec_same, rec_other}

-- a record put back as it was
pub with_self : (l : List ℕ) (k : ℕ) → with_record l k (rec l k) ≡ l
unfolding rec
with_self l k =
    ap (λ (t : List ℕ). take (address k) l ++ t) (take-append-drop record_size (drop (address k) l)) ∙ take-append-drop (address k) l

pub swept_kept : (t : ℕ) (l : List ℕ) (k : ℕ) → (used (rec l k) && expired t (rec l k)) ≡ false → l ≡ with_record l k (swept_record t (rec l k))
unfolding swept_record
swept_kept t l k e = sym (rw e (with_self l k))

pub swept_freed : (t : ℕ) (l : List ℕ) (k : ℕ) (x y : List ℕ) → k < slots l → (used (rec l k) && expired t (rec l k)) ≡ true
    → x ≡ rec l k → y ≡ blank (length x) → with_record l k y ≡ with_record l k (swept_record t (rec l k))
unfolding swept_record free
swept_freed t l k x y h e f d = rw (d, f, rec_length l k h, e)

pub length_free : length free ≡ record_size
unfolding free
length_free = length_blank record_size

pub length_swept : (t : ℕ) (r : List ℕ) → length r ≡ record_size → length (swept_record t r) ≡ record_size
unfolding swept_record
length_swept t r h =
    elim (used r && expired t r) as (λ (b : Bool). length (cond b free r) ≡ record_size) [ true ↦ length_free | false ↦ h ]

module _ (t : ℕ) (l : List ℕ) where
  pub slots_to : (k : ℕ) → k ≤ slots l → slots (swept_to t l k) ≡ slots l
  unfolding swept_to
  slots_to zero h = refl
  slots_to (suc k) h =
      let e = slots_to k (omega arith) in
      slots_with (swept_to t l k) k (swept_record t (rec l k)) (length_swept t (rec l k) (rec_length l k h)) (rw e h) ∙ e

  pub length_to : (k : ℕ) → k ≤ slots l → length (swept_to t l k) ≡ length l
  unfolding swept_to
  length_to zero h = refl
  length_to (suc k) h =
      let e = slots_to k (omega arith) in
      length_with (swept_to t l k) k (swept_record t (rec l k)) (length_swept t (rec l k) (rec_length l k h)) (rw e h) ∙ length_to k (omega arith)

  -- records from k on are as they were
  pub rec_ahead : (k j : ℕ) → k ≤ slots l → k ≤ j → rec (swept_to t l k) j ≡ rec l j
  unfolding swept_to
  rec_ahead zero j h m = refl
  rec_ahead (suc k) j h m =
      let e = slots_to k (omega arith) in
      rec_other (swept_to t l k) k (swept_record t (rec l k)) (length_swept t (rec l k) (rec_length l k h)) (rw e h) j (λ z. absurd (omega arith))
      ∙ rec_ahead k j (omega arith) (omega arith)

  -- records before k are swept
  pub rec_behind : (k j : ℕ) → k ≤ slots l → j < k → rec (swept_to t l k) j ≡ swept_record t (rec l j)
  unfolding swept_to
  rec_behind zero j h m = absurd (omega arith)
  rec_behind (suc k) j h m =
      let e = slots_to k (omega arith) in
      let s = length_swept t (rec l k) (rec_length l k h) in
      go e s (ℕ_discrete j k) (rec_behind k j (omega arith))
    where
      go : slots (swept_to t l k) ≡ slots l → length (swept_record t (rec l k)) ≡ record_size → Dec (j ≡ k) → (j < k → rec (swept_to t l k) j ≡ swept_record t (rec l j))
          → rec (with_record (swept_to t l k) k (swept_record t (rec l k))) j ≡ swept_record t (rec l j)
      go e s (yes z) ih = rw z (rec_same (swept_to t l k) k (swept_record t (rec l k)) s (rw e h))
      go e s (no z) ih = rec_other (swept_to t l k) k (swept_record t (rec l k)) s (rw e h) j z ∙ ih (omega (arith, z))

  -- one record more
  pub swept_more : (k : ℕ) (m : List ℕ) → k < slots l → m ≡ swept_to t l k → with_record m k (swept_record t (rec m k)) ≡ swept_to t l (k + 1)
  unfolding swept_to
  swept_more k m h e = rw (add-one, e, rec_ahead k k (omega arith) (omega arith))

  -- every record is swept
  pub rec_swept : (j : ℕ) → j < slots l → rec (swept t l) j ≡ swept_record t (rec l j)
  unfolding swept
  rec_swept j h = rec_behind (slots l) j (omega arith) h

  pub slots_swept : slots (swept t l) ≡ slots l
  unfolding swept
  slots_swept = slots_to (slots l) (omega arith)

pub slot_so : (t : ℕ) (l m : List ℕ) (k : ℕ) → m ≡ swept_to t l k → k < slots l → k < slots m
slot_so t l m k e h = rw (e, slots_to t l k (omega arith)) h

pub swept_all : (t : ℕ) (l m : List ℕ) (k : ℕ) → m ≡ swept_to t l k → k ≡ slots l → m ≡ swept t l
unfolding swept
swept_all t l m k e h = e ∙ ap (swept_to t l) h

pub freed_is : (t : ℕ) (l : List ℕ) (f : Freed) → f.pushed ≡ freed_of Pushed t l → f.consented ≡ freed_of Consented t l → f.redeemed ≡ freed_of Redeemed t l
    → f ≡ freed t l
unfolding freed
freed_is t l f a b c = rw (sym a, sym b, sym c)
