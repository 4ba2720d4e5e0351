-- What a refusal and what an accepted call leave alone, and that the clock becomes now.
use Prim.Native.Nat.{ℕ, ◌+◌, ◌≤◌, ◌<◌, ◌^◌}
use native.Mathlib.Omega.{arith}
use native.Mathlib.Nat.{le_refl}
use native.Mathlib.Decide.{dec_lt}
use mathlib.Core.Path.{◌≡◌, refl, sym, ap, ◌∙◌}
use mathlib.Core.Logic.{◌≢◌}
use mathlib.Core.Bool.{Bool, true, false, ◌&&◌, cond}
use mathlib.Core.List.{List}
use lib.ListN.{length, drop}
use borrow.Author.Tests.{ltb-false, eqb-false}
use Rattle.octets.specs.Lists.{place}
use Rattle.octets.specs.Numbers.{num}
use Rattle.octets.specs.Parts.{part}
use Rattle.octets.proofs.Numbers.{Octets}
use Rattle.octets.proofs.Parts.{length_put, put_same, part_length}
use Rattle.ledger.specs.Limits.{last_number}
use Rattle.ledger.specs.Fields.{clock, next_number, head_rest, rec, slots, records, used, redirect_field, with_record, with_next, with_clock}
use Rattle.ledger.specs.Sound.{sized}
use Rattle.ledger.specs.Checks.{is_free, is_reference, is_code, expired}
use Rattle.ledger.specs.Write.{pushed, consented, redeemed, free}
use Rattle.ledger.specs.Sweep.{swept_record, swept}
use Rattle.ledger.proofs.Records.{slot_within, rec_length, length_with, rec_same, rec_other}
use Rattle.ledger_laws.proofs.Heads.{length_clock, rec_clock, next_clock, rest_clock, clock_is, length_next, rec_next, rest_next, next_is, next_with, rest_with, next_left}
use Rattle.ledger_laws.proofs.Puts.{drop_put}
use Rattle.ledger.proofs.Swept.{length_free, length_to, rec_ahead, rec_swept}
use Rattle.ledger_laws.proofs.Kept.{head_swept}
use Rattle.ledger_laws.proofs.Says.{of_sound}
use Rattle.ledger_laws.proofs.Searches.{first_in}
use Rattle.desk.specs.Limits.{output_least}
use Rattle.desk.specs.Answers.{done, number_of}
use Rattle.desk.specs.Requests.{PushRequest, DecideRequest, TokenRequest, ResourceRequest, PendingRequest}
use Rattle.desk.specs.Outcome.{Outcome, left}
use Rattle.desk.specs.Push.{push_record, push_at, push}
use Rattle.desk.specs.Decide.{reference_place, handed_out, consent_record, consent_at, decline_at, decide_at, decide}
use Rattle.desk.specs.Token.{code_place, token_record, token_at, token}
use Rattle.desk.specs.Resource.{resource}
use Rattle.desk.specs.Sweep.{sweep}
use Rattle.desk.specs.Start.{start, empty_ledger}
use Rattle.desk.specs.Introspect.{introspect_with, introspect}
use Rattle.desk.specs.declared.answer.Refusal.TheVariants.{LedgerUnsound, CodeRedeemed}
use Rattle.desk.proofs.Written.{timely_lt}
use Rattle.desk.specs.declared.answer.Answer.{Answer}
use Rattle.desk.specs.declared.answer.Decided.{Decided}
use Rattle.desk.specs.declared.answer.Swept.{Swept}
use Rattle.desk.specs.declared.answer.Introspected.{Introspected}
use Rattle.desk.proofs.Turns.{number_refused}
use Rattle.call_laws.proofs.Rows.{push_cases, decide_cases, token_cases, resource_cases, sweep_cases, introspect_cases, pending_cases, token_outcomes}
use Rattle.desk.specs.Pending.{pending_at, pending}
use Rattle.call_laws.proofs.Facts.{PushFacts, push_facts, DecideFacts, decide_facts, TokenFacts, token_facts, resource_facts, sweep_facts, SecondUseFacts, second_use_facts}

-- ---- one record rewritten, and the clock

-- m is l after a call at time t that rewrote record k: every other record and the rest of the head are as they were
pub record OneRewritten (t : ℕ) (l m : List ℕ) (k : ℕ) : Type 0 where
  pub inside : k < slots l
  pub others : (j : ℕ) → j ≢ k → rec m j ≡ rec l j
  pub rest : head_rest m ≡ head_rest l
  pub time : clock m ≡ t
  pub long : length m ≡ length l

module _ (t : ℕ) (l : List ℕ) (k : ℕ) (r : List ℕ) (inside : k < slots l) (long : length r ≡ 256) where
  with_long : length (with_record l k r) ≡ length l
  with_long = length_with l k r long inside

  rewritten : t < 2 ^ 40 → OneRewritten t l (with_clock t (with_record l k r)) k
  rewritten h =
      let w = slot_within l k inside in
      let e = with_long in
      record {
        inside = inside;
        others = λ j n. rec_clock t (with_record l k r) j ∙ rec_other l k r long inside j n;
        rest = rest_clock t (with_record l k r) ∙ rest_with l k r long inside;
        time = clock_is t (with_record l k r) (omega arith) (omega arith);
        long = length_clock t (with_record l k r) ∙ e;
      }

  next_kept : next_number (with_clock t (with_record l k r)) ≡ next_number l
  next_kept = next_clock t (with_record l k r) ∙ next_with l k r long inside

  -- at push, with the next number
  renumbered : (n : ℕ) → t < 2 ^ 40 → OneRewritten t l (with_clock t (with_next n (with_record l k r))) k
  renumbered n h =
      let m = with_record l k r in
      let w = slot_within l k inside in
      let e = with_long in
      let f = length_next n m in
      record {
        inside = inside;
        others = λ j d. rec_clock t (with_next n m) j ∙ rec_next n m j ∙ rec_other l k r long inside j d;
        rest = rest_clock t (with_next n m) ∙ rest_next n m ∙ rest_with l k r long inside;
        time = clock_is t (with_next n m) (omega arith) (omega arith);
        long = length_clock t (with_next n m) ∙ f ∙ e;
      }

  next_raised : (n : ℕ) → n < 2 ^ 64 → next_number (with_clock t (with_next n (with_record l k r))) ≡ n
  next_raised n h =
      let m = with_record l k r in
      let w = slot_within l k inside in
      let e = with_long in
      next_clock t (with_next n m) ∙ next_is n m h (omega arith)

-- what is written has the length of the record
pub length_pushed : (bits number until : ℕ) (id text fresh target r : List ℕ) → length (pushed bits number until id text fresh target r) ≡ length r
unfolding pushed
length_pushed bits number until id text fresh target r = simp length_put

pub length_consented : (until who : ℕ) (fresh r : List ℕ) → length (consented until who fresh r) ≡ length r
unfolding consented
length_consented until who fresh r = simp length_put

pub length_redeemed : (until : ℕ) (fresh key r : List ℕ) → length (redeemed until fresh key r) ≡ length r
unfolding redeemed
length_redeemed until fresh key r = simp length_put

-- ---- push

module _ (l : List ℕ) (t : ℕ) (table : List ℕ) (p : PushRequest) where
  -- the record that it takes
  abbrev free_place : ℕ
  free_place = place is_free (records l)

  push_inside : PushFacts l t table p → free_place < slots l
  push_inside f = (first_in is_free l f.room).inside

  push_long : PushFacts l t table p → length (push_record l t table p (rec l free_place)) ≡ 256
  unfolding push_record
  push_long f = length_pushed _ _ _ _ _ _ _ (rec l free_place) ∙ rec_length l free_place (push_inside f)

  pub push_alone : (push l t table p).answer.number ≡ done → OneRewritten t l (push l t table p).ledger (place is_free (records l))
  unfolding push_at
  push_alone =
      push_cases l t table p (λ (o : Outcome Answer). o.answer.number ≡ done → OneRewritten t l o.ledger free_place) (λ why u e. absurd (number_refused why e))
      (λ ok e.
      let f = push_facts l t table p ok in
      renumbered t l free_place (push_record l t table p (rec l free_place)) (push_inside f) (push_long f) (next_number l + 1) (timely_lt l t f.in_time))

  -- "The next number rises by one."
  pub push_next : Octets l → (push l t table p).answer.number ≡ done → next_number (push l t table p).ledger ≡ next_number l + 1
  unfolding push_at
  push_next o =
      push_cases l t table p (λ (o : Outcome Answer). o.answer.number ≡ done → next_number o.ledger ≡ next_number l + 1) (λ why u e. absurd (number_refused why e))
      (λ ok e.
      let f = push_facts l t table p ok in
      let least = (of_sound l f.ledger_sound).least in
      let n = next_left l o (omega arith) (eqb-false (next_number l) last_number f.numbers_left) in
      next_raised t l free_place (push_record l t table p (rec l free_place)) (push_inside f) (push_long f) (next_number l + 1) (omega arith))

-- ---- decide

module _ (l : List ℕ) (t : ℕ) (d : DecideRequest) (out : List ℕ) where
  decide_inside : DecideFacts l t d out → reference_place l d < slots l
  decide_inside f = (first_in (is_reference d.reference d.client) l f.there).inside

  consent_long : DecideFacts l t d out → length (consent_record t d.holder d.fresh (rec l (reference_place l d))) ≡ 256
  unfolding consent_record
  consent_long f = length_consented _ _ _ (rec l (reference_place l d)) ∙ rec_length l (reference_place l d) (decide_inside f)

  -- what holds after a yes and after a no
  pub either_way : (P : Outcome Decided → Type 0) → P (consent_at l t d.holder d.fresh out (reference_place l d)) → P (decline_at l t d.holder out (reference_place l d))
      → P (decide_at l t d out (reference_place l d))
  unfolding decide_at
  either_way P a b =
      elim d.yes as (λ (y : Bool). P (cond y (consent_at l t d.holder d.fresh out (reference_place l d)) (decline_at l t d.holder out (reference_place l d))))
      [ true ↦ a | false ↦ b ]

  pub decide_alone : (decide l t d out).answer.answer.number ≡ done → OneRewritten t l (decide l t d out).ledger (reference_place l d)
  unfolding consent_at decline_at
  decide_alone =
      decide_cases l t d out (λ (o : Outcome Decided). o.answer.answer.number ≡ done → OneRewritten t l o.ledger (reference_place l d))
      (λ why u e. absurd (number_refused why e))
      (λ ok.
      let f = decide_facts l t d out ok in
      either_way (λ (o : Outcome Decided). o.answer.answer.number ≡ done → OneRewritten t l o.ledger (reference_place l d))
      (λ e. rewritten t l (reference_place l d) (consent_record t d.holder d.fresh (rec l (reference_place l d))) (decide_inside f) (consent_long f) (timely_lt l t f.in_time))
      (λ e. rewritten t l (reference_place l d) free (decide_inside f) length_free (timely_lt l t f.in_time)))

  pub decide_next : next_number (decide l t d out).ledger ≡ next_number l
  unfolding consent_at decline_at
  decide_next =
      decide_cases l t d out (λ (o : Outcome Decided). next_number o.ledger ≡ next_number l) (λ why u. refl)
      (λ ok.
      let f = decide_facts l t d out ok in
      either_way (λ (o : Outcome Decided). next_number o.ledger ≡ next_number l)
      (next_kept t l (reference_place l d) (consent_record t d.holder d.fresh (rec l (reference_place l d))) (decide_inside f) (consent_long f))
      (next_kept t l (reference_place l d) free (decide_inside f) length_free))

  -- "the redirect goes into the first 64 output bytes, zero-padded; later bytes stay"
  pub decide_output : (decide l t d out).answer.answer.number ≡ done → part (decide l t d out).output 0 output_least ≡ redirect_field (rec l (reference_place l d))
  unfolding consent_at decline_at
  decide_output =
      decide_cases l t d out
      (λ (o : Outcome Decided). o.answer.answer.number ≡ done → part o.output 0 output_least ≡ redirect_field (rec l (reference_place l d)))
      (λ why u e. absurd (number_refused why e))
      (λ ok.
      let f = decide_facts l t d out ok in
      let n = ltb-false (length out) output_least f.output_long in
      let r = rec l (reference_place l d) in
      let m = rec_length l (reference_place l d) (decide_inside f) in
      let w : length (redirect_field r) ≡ 64 = part_length r 192 64 (omega arith) in
      let s : part (handed_out r out) 0 output_least ≡ redirect_field r = put_same out 0 64 (redirect_field r) w (omega arith) in
      either_way (λ (o : Outcome Decided). o.answer.answer.number ≡ done → part o.output 0 output_least ≡ redirect_field (rec l (reference_place l d))) (λ e. s) (λ e. s))

  pub decide_later : drop output_least (decide l t d out).output ≡ drop output_least out
  unfolding consent_at decline_at
  decide_later =
      decide_cases l t d out (λ (o : Outcome Decided). drop output_least o.output ≡ drop output_least out) (λ why u. refl)
      (λ ok.
      let f = decide_facts l t d out ok in
      let r = rec l (reference_place l d) in
      let m = rec_length l (reference_place l d) (decide_inside f) in
      let w : length (redirect_field r) ≡ 64 = part_length r 192 64 (omega arith) in
      let s : drop output_least (handed_out r out) ≡ drop output_least out = drop_put out 0 (redirect_field r) 64 (omega arith) in
      either_way (λ (o : Outcome Decided). drop output_least o.output ≡ drop output_least out) s s)

-- ---- token

module _ (l : List ℕ) (t : ℕ) (table : List ℕ) (q : TokenRequest) where
  token_inside : TokenFacts l t table q → code_place l q < slots l
  token_inside f = (first_in (is_code q.code q.client) l f.there).inside

  token_long : TokenFacts l t table q → length (token_record t q (rec l (code_place l q))) ≡ 256
  unfolding token_record
  token_long f = length_redeemed _ _ _ (rec l (code_place l q)) ∙ rec_length l (code_place l q) (token_inside f)

  pub token_alone : (token l t table q).answer.number ≡ done → OneRewritten t l (token l t table q).ledger (code_place l q)
  unfolding token_at
  token_alone =
      token_cases l t table q (λ (o : Outcome Answer). o.answer.number ≡ done → OneRewritten t l o.ledger (code_place l q)) (λ why u e. absurd (number_refused why e))
      (λ ok e.
      let f = token_facts l t table q ok in
      rewritten t l (code_place l q) (token_record t q (rec l (code_place l q))) (token_inside f) (token_long f) (timely_lt l t f.in_time))

  second_use_inside : SecondUseFacts l t table q → code_place l q < slots l
  second_use_inside f = (first_in (is_code q.code q.client) l f.there).inside

  -- document 02, Q-3: "When 15 is due, the record now becomes free and the clock becomes now."
  pub second_use_alone : (token l t table q).answer.number ≡ number_of CodeRedeemed → OneRewritten t l (token l t table q).ledger (code_place l q)
  unfolding token_at
  second_use_alone =
      token_outcomes l t table q (λ (o : Outcome Answer). o.answer.number ≡ number_of CodeRedeemed → OneRewritten t l o.ledger (code_place l q))
      (λ why u n e. absurd (eqb-false (number_of why) (number_of CodeRedeemed) n e))
      (λ u e.
      let f = second_use_facts l t table q u in
      rewritten t l (code_place l q) free (second_use_inside f) length_free (timely_lt l t f.in_time))
      (λ ok e. absurd (number_refused CodeRedeemed (sym e)))

  pub second_use_freed : (token l t table q).answer.number ≡ number_of CodeRedeemed → rec (token l t table q).ledger (code_place l q) ≡ free
  unfolding token_at
  second_use_freed =
      token_outcomes l t table q (λ (o : Outcome Answer). o.answer.number ≡ number_of CodeRedeemed → rec o.ledger (code_place l q) ≡ free)
      (λ why u n e. absurd (eqb-false (number_of why) (number_of CodeRedeemed) n e))
      (λ u e.
      let f = second_use_facts l t table q u in
      rec_clock t (with_record l (code_place l q) free) (code_place l q) ∙ rec_same l (code_place l q) free length_free (second_use_inside f))
      (λ ok e. absurd (number_refused CodeRedeemed (sym e)))

  pub token_next : next_number (token l t table q).ledger ≡ next_number l
  unfolding token_at
  token_next =
      token_outcomes l t table q (λ (o : Outcome Answer). next_number o.ledger ≡ next_number l) (λ why u n. refl)
      (λ u. next_kept t l (code_place l q) free (second_use_inside (second_use_facts l t table q u)) length_free)
      (λ ok.
      let f = token_facts l t table q ok in
      next_kept t l (code_place l q) (token_record t q (rec l (code_place l q))) (token_inside f) (token_long f))

-- ---- resource: "Only the clock changes."

-- m is l after a call at time t that rewrote no record
pub record NoneRewritten (t : ℕ) (l m : List ℕ) : Type 0 where
  pub others : (j : ℕ) → rec m j ≡ rec l j
  pub next : next_number m ≡ next_number l
  pub rest : head_rest m ≡ head_rest l
  pub time : clock m ≡ t
  pub long : length m ≡ length l

module _ (l : List ℕ) (t : ℕ) (q : ResourceRequest) where
  pub resource_alone : (resource l t q).answer.number ≡ done → NoneRewritten t l (resource l t q).ledger
  resource_alone =
      resource_cases l t q (λ (o : Outcome Answer). o.answer.number ≡ done → NoneRewritten t l o.ledger) (λ why u e. absurd (number_refused why e))
      (λ ok e.
      let f = resource_facts l t q ok in
      let least = (of_sound l f.ledger_sound).least in
      let h = timely_lt l t f.in_time in
      record {
        others = rec_clock t l;
        next = next_clock t l;
        rest = rest_clock t l;
        time = clock_is t l (omega arith) (omega arith);
        long = length_clock t l;
      })

-- ---- sweep: "every expired record becomes free"

-- m is l after a sweep at time t
pub record DueFreed (t : ℕ) (l m : List ℕ) : Type 0 where
  pub others : (j : ℕ) → (used (rec l j) && expired t (rec l j)) ≡ false → rec m j ≡ rec l j
  pub freed : (j : ℕ) → j < slots l → (used (rec l j) && expired t (rec l j)) ≡ true → rec m j ≡ free
  pub next : next_number m ≡ next_number l
  pub rest : head_rest m ≡ head_rest l
  pub time : clock m ≡ t
  pub long : length m ≡ length l

kept_where : (t : ℕ) (r : List ℕ) → (used r && expired t r) ≡ false → swept_record t r ≡ r
unfolding swept_record
kept_where t r e = rw e

free_where : (t : ℕ) (r : List ℕ) → (used r && expired t r) ≡ true → swept_record t r ≡ free
unfolding swept_record
free_where t r e = rw e

swept_long : (t : ℕ) (l : List ℕ) → length (swept t l) ≡ length l
unfolding swept
swept_long t l = length_to t l (slots l) (le_refl _)

swept_beyond : (t : ℕ) (l : List ℕ) (j : ℕ) → slots l ≤ j → rec (swept t l) j ≡ rec l j
unfolding swept
swept_beyond t l j h = rec_ahead t l (slots l) j (le_refl _) h

module _ (l : List ℕ) (t : ℕ) where
  swept_others : (j : ℕ) → (used (rec l j) && expired t (rec l j)) ≡ false → Dec (j < slots l) → rec (swept t l) j ≡ rec l j
  swept_others j e (yes h) = rec_swept t l j h ∙ kept_where t (rec l j) e
  swept_others j e (no h) = swept_beyond t l j (omega (arith, h))

  pub sweep_alone : (sweep l t).answer.number ≡ done → DueFreed t l (sweep l t).ledger
  sweep_alone =
      sweep_cases l t (λ (o : Outcome Swept). o.answer.number ≡ done → DueFreed t l o.ledger) (λ why u e. absurd (number_refused why e))
      (λ ok e.
      let f = sweep_facts l t ok in
      let least = (of_sound l f.ledger_sound).least in
      let h = timely_lt l t f.in_time in
      let n = swept_long t l in
      record {
        others = λ j x. rec_clock t (swept t l) j ∙ swept_others j x (dec_lt j (slots l));
        freed = λ j i x. rec_clock t (swept t l) j ∙ rec_swept t l j i ∙ free_where t (rec l j) x;
        next = next_clock t (swept t l) ∙ ap num (head_swept t l 8 8 (omega arith));
        rest = rest_clock t (swept t l) ∙ head_swept t l 16 16 (omega arith);
        time = clock_is t (swept t l) (omega arith) (omega arith);
        long = length_clock t (swept t l) ∙ n;
      })

-- ---- start, where the length is right

pub start_writes : (l : List ℕ) → (start l).answer ≡ done → (sized l ≡ true) × ((start l).ledger ≡ empty_ledger (length l))
unfolding start
start_writes l = by (sized l)
  where
    by : (b : Bool) → (cond b (left done (empty_ledger (length l))) (left (number_of LedgerUnsound) l)).answer ≡ done
        → (b ≡ true) × ((cond b (left done (empty_ledger (length l))) (left (number_of LedgerUnsound) l)).ledger ≡ empty_ledger (length l))
    by true e = (refl, refl)
    by false e = absurd (number_refused LedgerUnsound e)

-- ---- "A refusal .. changes no lent byte, clock included."

pub push_unchanged : (l : List ℕ) (t : ℕ) (table : List ℕ) (p : PushRequest) → (push l t table p).answer.number ≢ done → (push l t table p).ledger ≡ l
unfolding push_at
push_unchanged l t table p =
    push_cases l t table p (λ (o : Outcome Answer). o.answer.number ≢ done → o.ledger ≡ l) (λ why u n. refl) (λ ok n. absurd (n refl))

pub decide_unchanged : (l : List ℕ) (t : ℕ) (d : DecideRequest) (out : List ℕ) → (decide l t d out).answer.answer.number ≢ done
    → ((decide l t d out).ledger ≡ l) × ((decide l t d out).output ≡ out)
unfolding consent_at decline_at
decide_unchanged l t d out =
    decide_cases l t d out (λ (o : Outcome Decided). o.answer.answer.number ≢ done → (o.ledger ≡ l) × (o.output ≡ out)) (λ why u n. (refl, refl))
    (λ ok.
    either_way l t d out (λ (o : Outcome Decided). o.answer.answer.number ≢ done → (o.ledger ≡ l) × (o.output ≡ out)) (λ n. absurd (n refl)) (λ n. absurd (n refl)))

-- 15 alone does
pub token_unchanged : (l : List ℕ) (t : ℕ) (table : List ℕ) (q : TokenRequest) → (token l t table q).answer.number ≢ done
    → (token l t table q).answer.number ≢ number_of CodeRedeemed → (token l t table q).ledger ≡ l
unfolding token_at
token_unchanged l t table q =
    token_outcomes l t table q (λ (o : Outcome Answer). o.answer.number ≢ done → o.answer.number ≢ number_of CodeRedeemed → o.ledger ≡ l)
    (λ why u e n m. refl) (λ u n m. absurd (m refl)) (λ ok n m. absurd (n refl))

pub resource_unchanged : (l : List ℕ) (t : ℕ) (q : ResourceRequest) → (resource l t q).answer.number ≢ done → (resource l t q).ledger ≡ l
resource_unchanged l t q =
    resource_cases l t q (λ (o : Outcome Answer). o.answer.number ≢ done → o.ledger ≡ l) (λ why u n. refl) (λ ok n. absurd (n refl))

pub sweep_unchanged : (l : List ℕ) (t : ℕ) → (sweep l t).answer.number ≢ done → (sweep l t).ledger ≡ l
sweep_unchanged l t =
    sweep_cases l t (λ (o : Outcome Swept). o.answer.number ≢ done → o.ledger ≡ l) (λ why u n. refl) (λ ok n. absurd (n refl))

-- "The ledger is only read, clock included.": whatever is answered
pub introspect_reads : (l : List ℕ) (t : ℕ) (v out : List ℕ) → (introspect l t v out).ledger ≡ l
unfolding introspect_with
introspect_reads l t v out = introspect_cases l t v out (λ (o : Outcome Introspected). o.ledger ≡ l) (λ why u. refl) (λ ok. refl)

pub introspect_unchanged : (l : List ℕ) (t : ℕ) (v out : List ℕ) → (introspect l t v out).answer.number ≢ done
    → ((introspect l t v out).ledger ≡ l) × ((introspect l t v out).output ≡ out)
unfolding introspect_with
introspect_unchanged l t v out =
    introspect_cases l t v out (λ (o : Outcome Introspected). o.answer.number ≢ done → (o.ledger ≡ l) × (o.output ≡ out)) (λ why u n. (refl, refl))
    (λ ok n. absurd (n refl))

pub start_unchanged : (l : List ℕ) → (start l).answer ≢ done → (start l).ledger ≡ l
unfolding start
start_unchanged l = by (sized l)
  where
    by : (b : Bool) → (cond b (left done (empty_ledger (length l))) (left (number_of LedgerUnsound) l)).answer ≢ done
        → (cond b (left done (empty_ledger (length l))) (left (number_of LedgerUnsound) l)).ledger ≡ l
    by true n = absurd (n refl)
    by false n = refl

-- ---- pending: the ledger is only read

pub pending_unchanged : (l : List ℕ) (t : ℕ) (p : PendingRequest) (out : List ℕ) → (pending l t p out).answer.answer.number ≢ done
    → ((pending l t p out).ledger ≡ l) × ((pending l t p out).output ≡ out)
unfolding pending_at
pending_unchanged l t p out =
    pending_cases l t p out (λ (o : Outcome Decided). o.answer.answer.number ≢ done → (o.ledger ≡ l) × (o.output ≡ out)) (λ why u n. (refl, refl))
    (λ ok n. absurd (n refl))

-- accepted or refused
pub pending_ledger : (l : List ℕ) (t : ℕ) (p : PendingRequest) (out : List ℕ) → (pending l t p out).ledger ≡ l
unfolding pending_at
pending_ledger l t p out = pending_cases l t p out (λ (o : Outcome Decided). o.ledger ≡ l) (λ why u. refl) (λ ok. refl)
