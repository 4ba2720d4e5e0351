-- A ledger with a record replaced, or with some freed, is sound where the new record fits among the others.
use Prim.Native.Nat.{ℕ, ◌≤◌, ◌<◌, ◌^◌}
use native.Mathlib.Omega.{arith}
use native.Mathlib.Nat.{le_refl}
use native.Mathlib.Decide.{ℕ_discrete}
use mathlib.Core.Path.{◌≡◌, sym, ◌∙◌}
use mathlib.Core.Logic.{◌≢◌, ◌⊎◌, inl, inr, ⊎_elim}
use mathlib.Core.Bool.{true, false, true≢false}
use mathlib.Core.List.{List}
use lib.ListN.{length}
use Rattle.octets.specs.Parts.{zeros}
use Rattle.octets.proofs.Parts.{zeros_blank}
use Rattle.octets.proofs.Bytes.{zeros_part, zeros_at}
use Rattle.ledger.specs.Limits.{clock_limit}
use Rattle.ledger.specs.Fields.{clock, next_number, with_next, head_rest, rec, slots, with_record, state, state_number, grant, value, token}
use Rattle.ledger.specs.Sound.{sound}
use Rattle.ledger.specs.Write.{free}
use Rattle.ledger.specs.declared.state.State.TheVariants.{Free}
use Rattle.ledger.proofs.Records.{length_with, slots_with, rec_same, rec_other}
use Rattle.ledger_laws.proofs.Says.{SoundUsed, SoundRecord, SoundRecords, SoundLedger, Common, common_sym, of_sound, to_sound}
use Rattle.ledger_laws.proofs.Heads.{length_next, slots_next, rec_next, clock_next, rest_next, next_is, clock_with, next_with, rest_with}

-- ---- a free record

pub zeros_free : zeros free ≡ true
unfolding free
zeros_free = zeros_blank 256

pub free_state : state free ≡ state_number Free
free_state = zeros_at free zeros_free 0

pub free_sound : (next : ℕ) → SoundRecord next free
free_sound next = record { when_free = λ e. zeros_free; when_used = λ n. absurd (n free_state) }

-- it holds nothing
pub free_holds : (r : List ℕ) → Common free r → ⊥
free_holds r c =
    ⊎_elim
    (λ e. true≢false (sym (rw (← e) at (zeros_part free 96 32 zeros_free)) ∙ c.nonzero))
    (λ e. true≢false (sym (rw (← e) at (zeros_part free 128 32 zeros_free)) ∙ c.nonzero))
    c.left

pub free_own : zeros (value free) ≡ false → value free ≢ token free
free_own e = absurd (true≢false (sym (zeros_part free 96 32 zeros_free) ∙ e))

-- ---- the rules of the records, of one replaced and of fewer

-- what is sound under a next number is so under a higher one
used_later : (next next' : ℕ) (r : List ℕ) → next ≤ next' → SoundUsed next r → SoundUsed next' r
used_later next next' r h s =
    let g = s.grant_most in
    record {
      state_most = s.state_most;
      gap_one_lem = s.gap_one_lem;
      gap_two_lem = s.gap_two_lem;
      grant_least = s.grant_least;
      grant_most = omega arith;
      scope_set = s.scope_set;
      expiry_most = s.expiry_most;
      holder_none = s.holder_none;
      holder_set = s.holder_set;
      client_set = s.client_set;
      value_set = s.value_set;
      token_set = s.token_set;
      token_none = s.token_none;
      key_set = s.key_set;
      key_none = s.key_none;
      challenge_well = s.challenge_well;
      length_least = s.length_least;
      length_most = s.length_most;
      redirect_well = s.redirect_well;
      behind_zero = s.behind_zero;
    }

pub record_later : (next next' : ℕ) (r : List ℕ) → next ≤ next' → SoundRecord next r → SoundRecord next' r
record_later next next' r h s = record { when_free = s.when_free; when_used = λ n. used_later next next' r h (s.when_used n) }

-- the same records
pub records_as : (next : ℕ) (l m : List ℕ) → slots m ≡ slots l → ((k : ℕ) → rec m k ≡ rec l k) → SoundRecords next l → SoundRecords next m
records_as next l m e f s =
    record {
      each = λ k h. rw (f k) (s.each k (rw e at h));
      own = λ k h. rw (f k) (s.own k (rw e at h));
      grants = λ i j h n d. rw (f i, f j) (s.grants i j (rw e at h) (rw e at n) d);
      pool = λ i j h n d. rw (f i, f j) (s.pool i j (rw e at h) (rw e at n) d);
    }

-- what a record needs of the others to take place k
pub record Fits (next : ℕ) (l : List ℕ) (k : ℕ) (r : List ℕ) : Type 0 where
  pub long : length r ≡ 256
  pub well : SoundRecord next r
  pub own : zeros (value r) ≡ false → value r ≢ token r
  pub grants : (j : ℕ) → j < slots l → j ≢ k → state r ≢ state_number Free → state (rec l j) ≢ state_number Free → grant r ≢ grant (rec l j)
  pub pool : (j : ℕ) → j < slots l → j ≢ k → Common r (rec l j) → ⊥

pub records_replaced : (next next' : ℕ) (l : List ℕ) (k : ℕ) (r : List ℕ) → next ≤ next' → k < slots l → SoundRecords next l → Fits next' l k r
    → SoundRecords next' (with_record l k r)
records_replaced next next' l k r le inside s f =
    record {
      each = λ j h. each j (rw count at h) (ℕ_discrete j k);
      own = λ j h. own j (rw count at h) (ℕ_discrete j k);
      grants = λ i j h m n. grants i j (rw count at h) (rw count at m) n (ℕ_discrete i k) (ℕ_discrete j k);
      pool = λ i j h m n. pool i j (rw count at h) (rw count at m) n (ℕ_discrete i k) (ℕ_discrete j k);
    }
  where
    m : List ℕ
    m = with_record l k r

    count : slots m ≡ slots l
    count = slots_with l k r f.long inside

    here : rec m k ≡ r
    here = rec_same l k r f.long inside

    there : (j : ℕ) → j ≢ k → rec m j ≡ rec l j
    there = rec_other l k r f.long inside

    each : (j : ℕ) → j < slots l → Dec (j ≡ k) → SoundRecord next' (rec m j)
    each j h (yes e) = rw (e, here) f.well
    each j h (no n) = rw (there j n) (record_later next next' (rec l j) le (s.each j h))

    own : (j : ℕ) → j < slots l → Dec (j ≡ k) → zeros (value (rec m j)) ≡ false → value (rec m j) ≢ token (rec m j)
    own j h (yes e) = rw (e, here) f.own
    own j h (no n) = rw (there j n) (s.own j h)

    grants : (i j : ℕ) → i < slots l → j < slots l → i ≢ j → Dec (i ≡ k) → Dec (j ≡ k)
        → state (rec m i) ≢ state_number Free → state (rec m j) ≢ state_number Free → grant (rec m i) ≢ grant (rec m j)
    grants i j a b n (yes p) (yes q) = absurd (n (p ∙ sym q))
    grants i j a b n (yes p) (no q) = rw (p, here, there j q) (f.grants j b q)
    grants i j a b n (no p) (yes q) = rw (q, here, there i p) (λ x y e. f.grants i a p y x (sym e))
    grants i j a b n (no p) (no q) = rw (there i p, there j q) (s.grants i j a b n)

    pool : (i j : ℕ) → i < slots l → j < slots l → i ≢ j → Dec (i ≡ k) → Dec (j ≡ k) → Common (rec m i) (rec m j) → ⊥
    pool i j a b n (yes p) (yes q) = absurd (n (p ∙ sym q))
    pool i j a b n (yes p) (no q) = rw (p, here, there j q) (f.pool j b q)
    pool i j a b n (no p) (yes q) = rw (q, here, there i p) (λ c. f.pool i a p (common_sym (rec l i) r c))
    pool i j a b n (no p) (no q) = rw (there i p, there j q) (s.pool i j a b n)

-- each record is the old one or free
pub records_fewer : (next : ℕ) (l m : List ℕ) → slots m ≡ slots l → SoundRecords next l
    → ((k : ℕ) → k < slots l → (rec m k ≡ rec l k) ⊎ (rec m k ≡ free)) → SoundRecords next m
records_fewer next l m count s f =
    record {
      each = λ k h. let a : k < slots l = rw count at h in each k a (f k a);
      own = λ k h. let a : k < slots l = rw count at h in own k a (f k a);
      grants = λ i j h n d. let a : i < slots l = rw count at h in let b : j < slots l = rw count at n in grants i j a b d (f i a) (f j b);
      pool = λ i j h n d. let a : i < slots l = rw count at h in let b : j < slots l = rw count at n in pool i j a b d (f i a) (f j b);
    }
  where
    each : (k : ℕ) → k < slots l → (rec m k ≡ rec l k) ⊎ (rec m k ≡ free) → SoundRecord next (rec m k)
    each k h (inl e) = rw e (s.each k h)
    each k h (inr e) = rw e (free_sound next)

    own : (k : ℕ) → k < slots l → (rec m k ≡ rec l k) ⊎ (rec m k ≡ free) → zeros (value (rec m k)) ≡ false → value (rec m k) ≢ token (rec m k)
    own k h (inl e) = rw e (s.own k h)
    own k h (inr e) = rw e free_own

    grants : (i j : ℕ) → i < slots l → j < slots l → i ≢ j → (rec m i ≡ rec l i) ⊎ (rec m i ≡ free) → (rec m j ≡ rec l j) ⊎ (rec m j ≡ free)
        → state (rec m i) ≢ state_number Free → state (rec m j) ≢ state_number Free → grant (rec m i) ≢ grant (rec m j)
    grants i j a b n (inr p) q = rw p (λ x. absurd (x free_state))
    grants i j a b n (inl p) (inr q) = rw q (λ x y. absurd (y free_state))
    grants i j a b n (inl p) (inl q) = rw (p, q) (s.grants i j a b n)

    pool : (i j : ℕ) → i < slots l → j < slots l → i ≢ j → (rec m i ≡ rec l i) ⊎ (rec m i ≡ free) → (rec m j ≡ rec l j) ⊎ (rec m j ≡ free)
        → Common (rec m i) (rec m j) → ⊥
    pool i j a b n (inr p) q = rw p (free_holds (rec m j))
    pool i j a b n (inl p) (inr q) = rw q (λ c. free_holds (rec m i) (common_sym (rec m i) free c))
    pool i j a b n (inl p) (inl q) = rw (p, q) (s.pool i j a b n)

-- ---- a ledger

-- a ledger as long as a sound one is sound where its head and its records are
pub sound_as_lem : (l m : List ℕ) → SoundLedger l → length m ≡ length l → clock m < clock_limit → 1 ≤ next_number m → zeros (head_rest m) ≡ true
    → SoundRecords (next_number m) m → sound m ≡ true
unfolding slots
sound_as_lem l m s e c n z w =
    to_sound m
    (record {
      least = rw e s.least;
      most = rw e s.most;
      whole = rw e s.whole;
      clock_below = c;
      next_least = n;
      rest_zero = z;
      within = w;
    })

-- a record replaced, the next number as it is
pub sound_replaced : (l : List ℕ) (k : ℕ) (r : List ℕ) → sound l ≡ true → k < slots l → Fits (next_number l) l k r → sound (with_record l k r) ≡ true
sound_replaced l k r e h f =
    let s = of_sound l e in
    let n = f.long in
    sound_as_lem l (with_record l k r) s (length_with l k r n h) (rw (clock_with l k r n h) s.clock_below) (rw (next_with l k r n h) s.next_least)
    (rw (rest_with l k r n h) s.rest_zero)
    (rw (next_with l k r n h) (records_replaced (next_number l) (next_number l) l k r (le_refl _) h s.within f))

-- a record replaced and the next number raised to n
pub sound_numbered : (l : List ℕ) (k : ℕ) (r : List ℕ) (n : ℕ) → sound l ≡ true → k < slots l → next_number l ≤ n → n < 2 ^ 64 → Fits n l k r
    → sound (with_next n (with_record l k r)) ≡ true
sound_numbered l k r n e h le top f =
    let s = of_sound l e in
    let long = f.long in
    let m = with_record l k r in
    let size = length_with l k r long h in
    let least = s.least in
    let one = s.next_least in
    let is : next_number (with_next n m) ≡ n = next_is n m top (omega arith) in
    sound_as_lem l (with_next n m) s (length_next n m ∙ size) (rw (clock_next n m, clock_with l k r long h) s.clock_below) (rw is (omega arith))
    (rw (rest_next n m, rest_with l k r long h) s.rest_zero)
    (rw is (records_as n m (with_next n m) (slots_next n m) (rec_next n m) (records_replaced (next_number l) n l k r le h s.within f)))

-- each record is the old one or free, and the head is as it was
pub sound_fewer : (l m : List ℕ) → sound l ≡ true → length m ≡ length l → clock m ≡ clock l → next_number m ≡ next_number l → head_rest m ≡ head_rest l
    → ((k : ℕ) → k < slots l → (rec m k ≡ rec l k) ⊎ (rec m k ≡ free)) → sound m ≡ true
unfolding slots
sound_fewer l m e n c x z f =
    let s = of_sound l e in
    sound_as_lem l m s n (rw c s.clock_below) (rw x s.next_least) (rw z s.rest_zero)
    (rw x (records_fewer (next_number l) l m (rw n) s.within f))
