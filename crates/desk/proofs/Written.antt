-- What is written once a call's record is found, as the code lends it.
use Rattle.std.specs.Prelude.{Some}
use Prim.Native.Nat.{ℕ, ◌+◌, ◌-◌, ◌%◌, ◌<◌, ◌^◌}
use native.Mathlib.Omega.{arith}
use mathlib.Core.Path.{◌≡◌, sym, ap, ◌∙◌}
use mathlib.Core.Bool.{Bool, true, false, ◌||◌, cond}
use mathlib.Core.List.{List}
use lib.Dec.{eqb, ltb}
use borrow.Author.Tests.{leb-false, eqb-false}
use lib.ListN.{length}
use Rattle.octets.specs.Parts.{part, splice, blank}
use Rattle.octets.specs.Lists.{place}
use Rattle.octets.proofs.Lists.{place_lt}
use Rattle.ledger.specs.Limits.{record_size, code_lifetime, token_lifetime, last_number}
use Rattle.ledger.specs.Fields.{address, rec, slots, records, clock, next_number, grant, redirect_length, with_record, with_next, with_clock}
use Rattle.ledger.specs.Checks.{untimely, found}
use Rattle.ledger.specs.Write.{pushed, consented, redeemed, free}
use Rattle.ledger.proofs.Records.{length_records, rec_length, lent_out, lent_back}
use Rattle.ledger.proofs.Tests.{found_told, found_place}
use Rattle.clients.specs.Fields.{permitted}
use Rattle.ledger.specs.Sweep.{freed, swept}
use Rattle.ledger.specs.declared.sweep.Freed.{Freed}
use Rattle.desk.specs.Answers.{answer_of, answer_no, decided, swept_of}
use Rattle.desk.specs.Requests.{PushRequest, DecideRequest, TokenRequest}
use Rattle.desk.specs.Outcome.{Outcome, left, left_with}
use Rattle.desk.specs.Push.{client_record, granted_bits, lifetime, free_place, entered, push_at, push_record}
use Rattle.desk.specs.Decide.{reference_place, handed_out, consent_record, consent_at, decline_at, decide_at}
use Rattle.desk.specs.Token.{code_place, token_record, rewritten, token_at, ended}
use Rattle.desk.specs.Pending.{pending_at}
use Rattle.desk.specs.declared.answer.Answer.{Answer}
use Rattle.desk.specs.declared.answer.Decided.{Decided}
use Rattle.desk.specs.declared.answer.Swept.{Swept}

-- what is found is a place in the ledger
pub found_inside : (q : List ℕ → Bool) (l : List ℕ) (k : ℕ) → found q l ≡ Some k → k < slots l
found_inside q l k e =
    let s = found_told q l (Some k) e in
    let p = place_lt q (records l) s in
    rw (← found_place q l k e, ← length_records l) p

-- and the record there is the one of that place
pub record_is : (q : List ℕ → Bool) (l : List ℕ) {k : ℕ} {r : List ℕ} → found q l ≡ Some k → r ≡ rec l k → r ≡ rec l (place q (records l))
record_is q l f e = e ∙ ap (rec l) (sym (found_place q l _ f))

or_right : (a b : Bool) → (a || b) ≡ false → b ≡ false
or_right true b e = let z : ◌≡◌ {A = ℕ} 0 1 = absurd (true_false e) in absurd (omega arith)
  where
    true_false : true ≡ false → ⊥
    true_false e = let z : ◌≡◌ {A = ℕ} 0 1 = cc in omega arith
or_right false b e = e

-- a time that passed check 2 is below its limit
pub timely_lt : (l : List ℕ) (t : ℕ) → untimely l t ≡ false → t < 2 ^ 40
unfolding untimely
timely_lt l t e = leb-false (2 ^ 40) t (or_right (ltb t (clock l)) _ e)

-- ---- a call's record written, then the head: what the definition says

module _ (l : List ℕ) (t k a : ℕ) (inside : k < slots l) (short : length l < 2 ^ 63) (computed : a ≡ address k % 2 ^ 64) where
  abbrev lent : List ℕ
  lent = part l a (a + record_size - a)

  abbrev back : List ℕ → List ℕ
  back r = splice l a (a + record_size - a) r

  lent_is : lent ≡ rec l k
  lent_is = lent_out l k a inside short computed

  back_is : (r : List ℕ) → back r ≡ with_record l k r
  back_is = lent_back l k a inside short computed

  pub push_written : (bits number until : ℕ) (id text new target x y z : List ℕ) (answer : Answer)
      → x ≡ pushed bits number until id text new target lent → answer ≡ answer_of x
      → y ≡ with_next (number + 1) (back x) → z ≡ with_clock t y
      → left answer z ≡ entered l t k number (pushed bits number until id text new target (rec l k))
  push_written bits number until id text new target x y z answer hx ha hy hz =
      let e1 : x ≡ pushed bits number until id text new target (rec l k) = hx ∙ rw lent_is in
      let e2 : y ≡ with_next (number + 1) (with_record l k x) = hy ∙ ap (with_next (number + 1)) (back_is x) in
      rw (hz, e2, ha, e1)

  pub consent_written : (who : ℕ) (fresh out x z o : List ℕ) (n : ℕ) (answer : Answer) (d : Decided)
      → n ≡ redirect_length lent → o ≡ handed_out lent out
      → x ≡ consented (t + code_lifetime) who fresh lent → answer ≡ answer_of x
      → z ≡ with_clock t (back x) → d ≡ decided answer n
      → left_with d z o ≡ consent_at l t who fresh out k
  unfolding consent_at consent_record
  consent_written who fresh out x z o n answer d hn ho hx ha hz hd =
      let e1 : x ≡ consented (t + code_lifetime) who fresh (rec l k) = hx ∙ rw lent_is in
      let e2 : z ≡ with_clock t (with_record l k x) = hz ∙ ap (with_clock t) (back_is x) in
      rw (hd, e2, ha, hn, ho, e1, lent_is)

  pub decline_written : (who : ℕ) (out x z o : List ℕ) (n : ℕ) (answer : Answer) (d : Decided)
      → n ≡ redirect_length lent → o ≡ handed_out lent out
      → x ≡ free → answer ≡ answer_no (grant lent) who
      → z ≡ with_clock t (back x) → d ≡ decided answer n
      → left_with d z o ≡ decline_at l t who out k
  unfolding decline_at
  decline_written who out x z o n answer d hn ho hx ha hz hd =
      let e2 : z ≡ with_clock t (with_record l k free) = hz ∙ ap (with_clock t) (back_is x ∙ rw hx) in
      rw (hd, e2, ha, hn, ho, lent_is)

  pub token_written : (until : ℕ) (new key x z : List ℕ) (answer : Answer)
      → x ≡ redeemed until new key lent → answer ≡ answer_of x
      → z ≡ with_clock t (back x) → left answer z ≡ rewritten l t k (redeemed until new key (rec l k))
  token_written until new key x z answer hx ha hz =
      let e1 : x ≡ redeemed until new key (rec l k) = hx ∙ rw lent_is in
      let e2 : z ≡ with_clock t (with_record l k x) = hz ∙ ap (with_clock t) (back_is x) in
      rw (e2, ha, e1)

  -- the record cleared
  pub end_written : (x z : List ℕ) → x ≡ blank (length lent) → z ≡ with_clock t (back x) → z ≡ ended l t k
  unfolding free
  end_written x z hx hz =
      let n : length lent ≡ record_size = ap length lent_is ∙ rec_length l k inside in
      hz ∙ ap (with_clock t) (back_is x ∙ ap (with_record l k) (hx ∙ ap blank n))

-- what is written at the place found is what the definition says
pub push_at_lem : (l : List ℕ) (t : ℕ) (table : List ℕ) (p : PushRequest) (k bits number until : ℕ) → free_place l ≡ k
    → granted_bits p.scope (permitted (client_record table p)) ≡ bits → number ≡ next_number l → until ≡ t + lifetime table p
    → entered l t k number (pushed bits number until p.client p.challenge p.fresh p.redirect (rec l k)) ≡ push_at l t table p (free_place l)
unfolding push_at push_record
push_at_lem l t table p k bits number until e hb hn hu = rw (e, ← hb, hn, hu)

pub token_at_lem : (l : List ℕ) (t : ℕ) (q : TokenRequest) (k : ℕ) → code_place l q ≡ k
    → rewritten l t k (redeemed (t + token_lifetime) q.fresh q.presented (rec l k)) ≡ token_at l t q (code_place l q)
unfolding token_at token_record
token_at_lem l t q k e = rw e

pub decide_yes : (l : List ℕ) (t : ℕ) (d : DecideRequest) (out : List ℕ) (k : ℕ) → d.yes ≡ true → reference_place l d ≡ k
    → decide_at l t d out (reference_place l d) ≡ consent_at l t d.holder d.fresh out k
unfolding decide_at
decide_yes l t d out k y e = rw e (by d.yes y)
  where
    by : (b : Bool) → b ≡ true → cond b (consent_at l t d.holder d.fresh out k) (decline_at l t d.holder out k) ≡ consent_at l t d.holder d.fresh out k
    by b h = rw h

pub decide_no : (l : List ℕ) (t : ℕ) (d : DecideRequest) (out : List ℕ) (k : ℕ) → d.yes ≡ false → reference_place l d ≡ k
    → decide_at l t d out (reference_place l d) ≡ decline_at l t d.holder out k
unfolding decide_at
decide_no l t d out k y e = rw e (by d.yes y)
  where
    by : (b : Bool) → b ≡ false → cond b (consent_at l t d.holder d.fresh out k) (decline_at l t d.holder out k) ≡ decline_at l t d.holder out k
    by b h = rw h

-- a sweep of the records, then the clock
pub sweep_written : (l : List ℕ) (t : ℕ) (y z : List ℕ) (f : Freed) (a : Swept) → f ≡ freed t l → y ≡ swept t l → z ≡ with_clock t y → a ≡ swept_of f
    → left a z ≡ left (swept_of (freed t l)) (with_clock t (swept t l))
sweep_written l t y z f a hf hy hz ha = rw (ha, hz, hy, hf)

-- a request shown: the answer, the length and the output, each of the record that was taken
pub pending_shown : (l out : List ℕ) (k : ℕ) (r o : List ℕ) (a : Answer) (n : ℕ) (d : Decided) → r ≡ rec l k → o ≡ handed_out r out → a ≡ answer_of r
    → n ≡ redirect_length r → d ≡ decided a n → left_with d l o ≡ pending_at l out k
unfolding pending_at
pending_shown l out k r o a n d hr ho ha hn hd = rw (hd, ho, ha, hn, hr)

-- ---- a refusal, as the code returns it

pub refuses : {A : Type 0} {a b : A} {l out : List ℕ} {o : Outcome A} → a ≡ b → o ≡ left_with b l out → left_with a l out ≡ o
refuses e f = rw e (sym f)

-- a next number that passed check 9 is below the last
pub below_last : (m n : ℕ) → eqb m last_number ≡ false → n ≡ m → n < 2 ^ 64 → n < last_number
below_last m n e h w = let ne = eqb-false m last_number e in omega (arith, ne)
