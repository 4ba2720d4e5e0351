-- Soundness is kept by each writer, under what its call has checked.
use Prim.Native.Nat.{ℕ, zero, suc, ◌+◌, ◌*◌, ◌≤◌, ◌<◌, ◌^◌}
use native.Mathlib.Omega.{arith}
use native.Mathlib.Nat.{le_refl}
use mathlib.Core.Path.{◌≡◌, refl, sym, ap, ◌∙◌}
use mathlib.Core.Logic.{◌≢◌, ◌⊎◌, inl, inr, ⊎_elim}
use mathlib.Core.Bool.{Bool, true, false, ◌&&◌, true≢false}
use mathlib.Core.List.{List}
use lib.Seq.{take_at, drop_at}
use lib.ListN.{length}
use Rattle.octets.specs.Parts.{part, blank, zeros}
use Rattle.octets.specs.Numbers.{num}
use Rattle.octets.proofs.Parts.{zeros_blank, length_blank}
use Rattle.octets.proofs.Bytes.{zeros_drop, zeros_part, num_zeros}
use Rattle.forms.specs.Forms.{challenge_formed, redirect_formed}
use Rattle.forms.proofs.Laws.{challenge_length_lem, redirect_length_lem}
use Rattle.ledger.specs.Limits.{records_least, records_most, clock_limit, expiry_limit, last_number, head_size, record_size}
use Rattle.ledger.specs.Fields.{with_clock, next_number, with_next, rec, slots, with_record, state, state_number, used}
use Rattle.ledger.specs.Sound.{sized, sound}
use Rattle.ledger.specs.Checks.{taken, expired}
use Rattle.ledger.specs.Write.{pushed, consented, redeemed, free}
use Rattle.ledger.specs.Sweep.{swept_record, swept_to, swept}
use Rattle.ledger.specs.declared.state.State.TheVariants.{Free, Pushed, Consented}
use Rattle.ledger.proofs.Records.{rec_length}
use Rattle.ledger.proofs.Swept.{length_free, length_swept, slots_to, length_to, rec_swept}
use Rattle.ledger_laws.proofs.Slots.{slot_of, pushed_slot, consented_slot, redeemed_slot}
use Rattle.ledger_laws.proofs.Written.{Wrote, wrote_redirect, wrote_behind, redirect_front, pushed_wrote, consented_wrote, redeemed_wrote}
use Rattle.ledger_laws.proofs.Says.{SoundUsed, SoundRecords, free_is, of_sound, to_sound, sized_says}
use Rattle.ledger_laws.proofs.Searches.{fresh_in}
use Rattle.ledger_laws.proofs.Heads.{length_clock, slots_clock, rec_clock, next_clock, rest_clock, clock_is, length_next, slots_next, rec_next, clock_next, rest_next, next_is, head_with}
use Rattle.ledger_laws.proofs.Replaced.{free_state, free_sound, free_holds, free_own, records_as, Fits, sound_as_lem, sound_replaced, sound_numbered, sound_fewer}

-- "the clock becomes now"
pub sound_clock : (t : ℕ) (l : List ℕ) → sound l ≡ true → t < clock_limit → sound (with_clock t l) ≡ true
sound_clock t l e h =
    let s = of_sound l e in
    let n = s.least in
    sound_as_lem l (with_clock t l) s (length_clock t l) (rw (clock_is t l (omega arith) (omega arith)) h) (rw (next_clock t l) s.next_least)
    (rw (rest_clock t l) s.rest_zero)
    (rw (next_clock t l) (records_as (next_number l) l (with_clock t l) (slots_clock t l) (rec_clock t l) s.within))

-- "becomes free"
pub sound_freed : (l : List ℕ) (k : ℕ) → sound l ≡ true → k < slots l → sound (with_record l k free) ≡ true
sound_freed l k e h =
    sound_replaced l k free e h
    (record {
      long = length_free;
      well = free_sound (next_number l);
      own = free_own;
      grants = λ j m n x. absurd (x free_state);
      pool = λ j m n. free_holds (rec l j);
    })

-- a sweep writes nothing to the head
pub head_swept : (t : ℕ) (l : List ℕ) (b m : ℕ) → b + m ≤ 32 → part (swept t l) b m ≡ part l b m
unfolding swept swept_to
head_swept t l b m h = to (slots l) (le_refl _)
  where
    to : (k : ℕ) → k ≤ slots l → part (swept_to t l k) b m ≡ part l b m
    to zero n = refl
    to (suc k) n =
        let e = slots_to t l k (omega arith) in
        head_with (swept_to t l k) k (swept_record t (rec l k)) (length_swept t (rec l k) (rec_length l k n)) (rw e n) b m h ∙ to k (omega arith)

swept_one : (t : ℕ) (l : List ℕ) (k : ℕ) → k < slots l → (rec (swept t l) k ≡ rec l k) ⊎ (rec (swept t l) k ≡ free)
unfolding swept_record
swept_one t l k h = go (used (rec l k) && expired t (rec l k)) refl
  where
    go : (b : Bool) → (used (rec l k) && expired t (rec l k)) ≡ b → (rec (swept t l) k ≡ rec l k) ⊎ (rec (swept t l) k ≡ free)
    go true p = inr (rec_swept t l k h ∙ rw p)
    go false p = inl (rec_swept t l k h ∙ rw p)

pub length_sweep : (t : ℕ) (l : List ℕ) → length (swept t l) ≡ length l
unfolding swept
length_sweep t l = length_to t l (slots l) (le_refl _)

pub sound_swept : (t : ℕ) (l : List ℕ) → sound l ≡ true → sound (swept t l) ≡ true
sound_swept t l e =
    sound_fewer l (swept t l) e (length_sweep t l) (ap num (head_swept t l 0 8 (omega arith))) (ap num (head_swept t l 8 8 (omega arith)))
    (head_swept t l 16 16 (omega arith)) (swept_one t l)

-- ---- start: "Writes zeros and next number 1."

records_free : (next : ℕ) (m : List ℕ) → ((k : ℕ) → k < slots m → rec m k ≡ free) → SoundRecords next m
records_free next m f =
    record {
      each = λ k h. rw (f k h) (free_sound next);
      own = λ k h. rw (f k h) free_own;
      grants = λ i j h n d. rw (f i h) (λ x. absurd (x free_state));
      pool = λ i j h n d. rw (f i h) (free_holds (rec m j));
    }

blank_free : (n k : ℕ) → k < slots (blank n) → rec (blank n) k ≡ free
unfolding rec
blank_free n k h = free_is _ (rec_length (blank n) k h) (zeros_part (blank n) (32 + k * 256) 256 (zeros_blank n))

pub sound_started : (l : List ℕ) → sized l ≡ true → sound (with_next 1 (blank (length l))) ≡ true
unfolding slots
sound_started l e =
    let o = blank (length l) in
    let m = with_next 1 o in
    let n : length m ≡ length l = length_next 1 o ∙ length_blank (length l) in
    let (a, (b, c)) = (sized_says l).0 e in
    let z = zeros_blank (length l) in
    let d = length_blank (length l) in
    let is : next_number m ≡ 1 = next_is 1 o (omega arith) (omega arith) in
    to_sound m
    (record {
      least = rw n a;
      most = rw n b;
      whole = rw n c;
      clock_below = rw (clock_next 1 o, num_zeros (part o 0 8) (zeros_part o 0 8 z)) (omega arith);
      next_least = rw is (omega arith);
      rest_zero = rw (rest_next 1 o) (zeros_part o 16 16 z);
      within = records_free (next_number m) m (λ k h. rec_next 1 o k ∙ blank_free (length l) k (rw (slots_next 1 o) at h));
    })

-- in the number of records
pub sound_start : (n : ℕ) → records_least ≤ n → n ≤ records_most → sound (with_next 1 (blank (head_size + n * record_size))) ≡ true
unfolding slots
sound_start n a b =
    let d = length_blank (32 + n * 256) in
    let e = sound_started (blank (32 + n * 256)) ((sized_says (blank (32 + n * 256))).1 (rw d (omega arith), (rw d (omega arith), rw d (omega arith)))) in
    rw d at e

-- ---- push

module _
    (l : List ℕ)
    (k bits until : ℕ)
    (id text fresh target : List ℕ)
    (is_sound : sound l ≡ true)
    (inside : k < slots l)
    (vacant : state (rec l k) ≡ state_number Free)
    (numbers_left : next_number l < last_number)
    (scope_set : bits ≢ 0)
    (scope_fits : bits < 2 ^ 32)
    (id_long : length id ≡ 16)
    (id_set : zeros id ≡ false)
    (text_well : challenge_formed text ≡ true)
    (target_well : redirect_formed target ≡ true)
    (fresh_long : length fresh ≡ 32)
    (new : taken l fresh ≡ false)
    (in_time : until < expiry_limit)
  where
    abbrev the_pushed : List ℕ
    the_pushed = pushed bits (next_number l) until id text fresh target (rec l k)

    push_facts : Wrote (rec l k) the_pushed (pushed_slot bits (next_number l) until id text fresh target (slot_of (rec l k)))
    push_facts =
        let m = redirect_length_lem target target_well in
        pushed_wrote bits (next_number l) until id text fresh target (rec l k) scope_fits (omega arith) (omega arith) id_long
        (challenge_length_lem text text_well) fresh_long (omega arith) (rec_length l k inside)

    push_blank : zeros (rec l k) ≡ true
    push_blank = ((of_sound l is_sound).within.each k inside).when_free vacant

    push_used : SoundUsed (next_number l + 1) the_pushed
    unfolding slot_of
    push_used =
        let f = push_facts in
        let m = redirect_length_lem target target_well in
        let one = (of_sound l is_sound).next_least in
        let st = f.state_is in
        let le = f.length_is in
        let gr = f.grant_is in
        let ex = f.expiry_is in
        let blank = push_blank in
        record {
          state_most = omega arith;
          gap_one_lem = rw f.gap_one_lem (zeros_part (rec l k) 2 2 blank);
          gap_two_lem = rw f.gap_two_lem (zeros_part (rec l k) 91 5 blank);
          grant_least = omega arith;
          grant_most = omega arith;
          scope_set = rw f.scope_is scope_set;
          expiry_most = omega arith;
          holder_none = λ e. f.holder_is ∙ num_zeros _ (zeros_part (rec l k) 24 8 blank);
          holder_set = λ n. absurd (n st);
          client_set = rw f.client_is id_set;
          value_set = rw f.value_is (fresh_in l fresh new).nonzero;
          token_set = λ e. absurd (omega arith);
          token_none = λ n. rw f.token_is (zeros_part (rec l k) 128 32 blank);
          key_set = λ e. absurd (omega arith);
          key_none = λ n. rw f.key_is (zeros_part (rec l k) 160 32 blank);
          challenge_well = rw f.challenge_is text_well;
          length_least = omega arith;
          length_most = omega arith;
          redirect_well = rw (wrote_redirect _ _ _ f ∙ take_at target _ (length target) refl) target_well;
          behind_zero = rw (wrote_behind _ _ _ f ∙ drop_at target _ (length target) refl) (zeros_drop (length target) _ (zeros_part (rec l k) 192 64 blank));
        }

    push_fits : Fits (next_number l + 1) l k the_pushed
    unfolding slot_of
    push_fits =
        let f = push_facts in
        let v = fresh_in l fresh new in
        let st = f.state_is in
        let no_token_lem = rw (← f.token_is) at (zeros_part (rec l k) 128 32 push_blank) in
        record {
          long = f.long;
          well = record { when_free = λ e. absurd (omega arith); when_used = λ n. push_used };
          own = λ e p. true≢false (sym no_token_lem ∙ ap zeros (sym p) ∙ e);
          grants = λ j h n a b p.
              let u = (((of_sound l is_sound).within.each j h).when_used b).grant_most in
              let q = f.grant_is in
              absurd (omega arith);
          pool = λ j h n c.
              ⊎_elim (λ p. let q : c.v ≡ fresh = p ∙ f.value_is in v.new j h (rw q at c.right))
              (λ p. true≢false (sym no_token_lem ∙ ap zeros (sym p) ∙ c.nonzero))
              c.left;
        }

    pub sound_pushed : sound (with_next (next_number l + 1) (with_record l k (pushed bits (next_number l) until id text fresh target (rec l k)))) ≡ true
    sound_pushed = sound_numbered l k the_pushed (next_number l + 1) is_sound inside (omega arith) (omega arith) push_fits

-- ---- decide, yes

module _
    (l : List ℕ)
    (k until who : ℕ)
    (fresh : List ℕ)
    (is_sound : sound l ≡ true)
    (inside : k < slots l)
    (waits : state (rec l k) ≡ state_number Pushed)
    (who_set : who ≢ 0)
    (who_fits : who < 2 ^ 64)
    (fresh_long : length fresh ≡ 32)
    (new : taken l fresh ≡ false)
    (in_time : until < expiry_limit)
  where
    abbrev the_consented : List ℕ
    the_consented = consented until who fresh (rec l k)

    consent_facts : Wrote (rec l k) the_consented (consented_slot until who fresh (slot_of (rec l k)))
    consent_facts = consented_wrote until who fresh (rec l k) (omega arith) who_fits fresh_long (rec_length l k inside)

    consent_before : SoundUsed (next_number l) (rec l k)
    consent_before = ((of_sound l is_sound).within.each k inside).when_used (λ e. omega arith)

    consent_used : SoundUsed (next_number l) the_consented
    unfolding slot_of
    consent_used =
        let f = consent_facts in
        let u = consent_before in
        let st = f.state_is in
        let ex = f.expiry_is in
        record {
          state_most = omega arith;
          gap_one_lem = rw f.gap_one_lem u.gap_one_lem;
          gap_two_lem = rw f.gap_two_lem u.gap_two_lem;
          grant_least = rw f.grant_is u.grant_least;
          grant_most = rw f.grant_is u.grant_most;
          scope_set = rw f.scope_is u.scope_set;
          expiry_most = omega arith;
          holder_none = λ e. absurd (omega arith);
          holder_set = λ n. rw f.holder_is who_set;
          client_set = rw f.client_is u.client_set;
          value_set = rw f.value_is (fresh_in l fresh new).nonzero;
          token_set = λ e. absurd (omega arith);
          token_none = λ n. rw f.token_is (u.token_none (λ e. omega arith));
          key_set = λ e. absurd (omega arith);
          key_none = λ n. rw f.key_is (u.key_none (λ e. omega arith));
          challenge_well = rw f.challenge_is u.challenge_well;
          length_least = rw f.length_is u.length_least;
          length_most = rw f.length_is u.length_most;
          redirect_well = rw (wrote_redirect _ _ _ f ∙ sym (redirect_front (rec l k) (rec_length l k inside))) u.redirect_well;
          behind_zero = rw (wrote_behind _ _ _ f) u.behind_zero;
        }

    consent_fits : Fits (next_number l) l k the_consented
    unfolding slot_of
    consent_fits =
        let f = consent_facts in
        let w = (of_sound l is_sound).within in
        let v = fresh_in l fresh new in
        let st = f.state_is in
        record {
          long = f.long;
          well = record { when_free = λ e. absurd (omega arith); when_used = λ n. consent_used };
          own = λ e p. v.new k inside (inr (sym f.value_is ∙ p ∙ f.token_is));
          grants = λ j h n a b p. w.grants k j inside h (λ e. n (sym e)) (λ e. omega arith) b (sym f.grant_is ∙ p);
          pool = λ j h n c.
              ⊎_elim (λ p. let q : c.v ≡ fresh = p ∙ f.value_is in v.new j h (rw q at c.right))
              (λ p. w.pool k j inside h (λ e. n (sym e)) (record { v = c.v; nonzero = c.nonzero; left = inr (p ∙ f.token_is); right = c.right }))
              c.left;
        }

    pub sound_consented : sound (with_record l k (consented until who fresh (rec l k))) ≡ true
    sound_consented = sound_replaced l k the_consented is_sound inside consent_fits

-- ---- token

module _
    (l : List ℕ)
    (k until : ℕ)
    (fresh key : List ℕ)
    (is_sound : sound l ≡ true)
    (inside : k < slots l)
    (waits : state (rec l k) ≡ state_number Consented)
    (key_long : length key ≡ 32)
    (key_set : zeros key ≡ false)
    (fresh_long : length fresh ≡ 32)
    (new : taken l fresh ≡ false)
    (in_time : until < expiry_limit)
  where
    abbrev the_redeemed : List ℕ
    the_redeemed = redeemed until fresh key (rec l k)

    token_facts : Wrote (rec l k) the_redeemed (redeemed_slot until fresh key (slot_of (rec l k)))
    token_facts = redeemed_wrote until fresh key (rec l k) (omega arith) fresh_long key_long (rec_length l k inside)

    token_before : SoundUsed (next_number l) (rec l k)
    token_before = ((of_sound l is_sound).within.each k inside).when_used (λ e. omega arith)

    token_used : SoundUsed (next_number l) the_redeemed
    unfolding slot_of
    token_used =
        let f = token_facts in
        let u = token_before in
        let st = f.state_is in
        let ex = f.expiry_is in
        record {
          state_most = omega arith;
          gap_one_lem = rw f.gap_one_lem u.gap_one_lem;
          gap_two_lem = rw f.gap_two_lem u.gap_two_lem;
          grant_least = rw f.grant_is u.grant_least;
          grant_most = rw f.grant_is u.grant_most;
          scope_set = rw f.scope_is u.scope_set;
          expiry_most = omega arith;
          holder_none = λ e. absurd (omega arith);
          holder_set = λ n. rw f.holder_is (u.holder_set (λ e. omega arith));
          client_set = rw f.client_is u.client_set;
          value_set = rw f.value_is u.value_set;
          token_set = λ e. rw f.token_is (fresh_in l fresh new).nonzero;
          token_none = λ n. absurd (n st);
          key_set = λ e. rw f.key_is key_set;
          key_none = λ n. absurd (n st);
          challenge_well = rw f.challenge_is u.challenge_well;
          length_least = rw f.length_is u.length_least;
          length_most = rw f.length_is u.length_most;
          redirect_well = rw (wrote_redirect _ _ _ f ∙ sym (redirect_front (rec l k) (rec_length l k inside))) u.redirect_well;
          behind_zero = rw (wrote_behind _ _ _ f) u.behind_zero;
        }

    token_fits : Fits (next_number l) l k the_redeemed
    unfolding slot_of
    token_fits =
        let f = token_facts in
        let w = (of_sound l is_sound).within in
        let v = fresh_in l fresh new in
        let st = f.state_is in
        record {
          long = f.long;
          well = record { when_free = λ e. absurd (omega arith); when_used = λ n. token_used };
          own = λ e p. v.new k inside (inl (sym f.token_is ∙ sym p ∙ f.value_is));
          grants = λ j h n a b p. w.grants k j inside h (λ e. n (sym e)) (λ e. omega arith) b (sym f.grant_is ∙ p);
          pool = λ j h n c.
              ⊎_elim (λ p. w.pool k j inside h (λ e. n (sym e)) (record { v = c.v; nonzero = c.nonzero; left = inl (p ∙ f.value_is); right = c.right }))
              (λ p. let q : c.v ≡ fresh = p ∙ f.token_is in v.new j h (rw q at c.right))
              c.left;
        }

    pub sound_redeemed : sound (with_record l k (redeemed until fresh key (rec l k))) ≡ true
    sound_redeemed = sound_replaced l k the_redeemed is_sound inside token_fits
