-- What each accepted call and a second use of a code leave: the record, the other records, the head, the answer and the output.
use Prim.Native.Nat.{ℕ, ◌+◌, ◌-◌, ◌≤◌, ◌<◌}
use native.Mathlib.Omega.{arith}
use native.Mathlib.Nat.{le_refl}
use mathlib.Core.Path.{◌≡◌, refl, sym, ap, ap₂, ◌∙◌}
use mathlib.Core.Logic.{◌≢◌, ◌⊎◌, inl, inr}
use mathlib.Core.Bool.{Bool, true, false, not, ◌&&◌, cond, true≢false, and-false}
use mathlib.Core.List.{List, [], ◌∷◌, ◌++◌, append_assoc}
use lib.ListN.{length, take, drop, length-take, length-drop, take-append-drop}
use lib.Dec.{ltb}
use borrow.Author.Tests.{eq-eqb, ne_eqb, ltb-false, le-leb, lt-leb, eqb-false}
use Rattle.octets.specs.Lists.{some, place}
use Rattle.octets.specs.Numbers.{digits}
use Rattle.octets.specs.Parts.{blank, zeros}
use Rattle.octets.specs.Plain.{Bytes}
use Rattle.octets.proofs.Tests.{both, both_true}
use Rattle.octets.proofs.Numbers.{length_digits}
use Rattle.octets.proofs.Parts.{zeros_eq, zeros_blank, length_blank, part_length, put_splice, put_same, put_behind}
use Rattle.octets.proofs.Bytes.{zeros_take, zeros_drop, zeros_say}
use Rattle.forms.specs.Forms.{redirect_formed, challenge_formed}
use Rattle.forms.proofs.Laws.{challenge_length_lem, redirect_length_lem}
use Rattle.ledger.specs.Limits.{record_size}
use Rattle.ledger.specs.Fields.{next_number, head_rest, rec, slots, records, state, state_number, used, redirect_length, scope, grant, expiry, redirect_field, redirect, behind_redirect, with_record, with_next, with_clock}
use Rattle.ledger.specs.Sound.{sound}
use Rattle.ledger.specs.Checks.{is_free, is_reference, is_code, is_token, expired}
use Rattle.ledger.specs.Write.{free}
use Rattle.ledger.specs.Sweep.{swept, freed_of, freed}
use Rattle.ledger.specs.declared.state.State.TheVariants.{Free, Pushed, Consented, Redeemed}
use Rattle.ledger.proofs.Records.{slot_within, rec_length, length_with, rec_same, rec_other}
use Rattle.ledger.proofs.Swept.{length_free, length_to}
use Rattle.ledger_laws.specs.Sound.{SoundInUse}
use Rattle.ledger_laws.proofs.Says.{sized_says}
use Rattle.ledger_laws.proofs.Plain.{ledger_says}
use Rattle.ledger_laws.proofs.Searches.{first_in, free_found}
use Rattle.ledger_laws.proofs.Replaced.{zeros_free}
use Rattle.ledger_laws.proofs.Heads.{length_clock, rec_clock, rest_clock, length_next, rec_next, rest_next, head_with, rest_with}
use Rattle.ledger_laws.proofs.Kept.{head_swept}
use Rattle.ledger_laws.proofs.Written.{redirect_front}
use Rattle.clients.specs.Fields.{id_span}
use Rattle.clients.specs.Known.{place_of}
use Rattle.clients.proofs.Entries.{field_length}
use Rattle.desk.specs.Limits.{output_least}
use Rattle.desk.specs.Answers.{done, number_of}
use Rattle.desk.specs.Requests.{PushRequest, DecideRequest, TokenRequest, ResourceRequest, PendingRequest}
use Rattle.desk.specs.Start.{empty_ledger}
use Rattle.desk.specs.Push.{push_record, push_at, client_record}
use Rattle.desk.specs.Decide.{waiting_place, reference_place, handed_out, consent_record, consent_at, decline_at, decide_at}
use Rattle.desk.specs.Token.{code_place, token_record, token_at}
use Rattle.desk.specs.Resource.{token_place}
use Rattle.desk.specs.Introspect.{text_for, introspect_with}
use Rattle.call_laws.specs.Conditions.{StandsAt}
use Rattle.desk.proofs.Turns.{number_refused}
use Rattle.call_laws.proofs.Rows.{push_cases, decide_cases, token_cases, resource_cases, sweep_cases, introspect_cases, pending_cases, token_outcomes}
use Rattle.call_laws.proofs.Facts.{PushFacts, push_facts, DecideFacts, decide_facts, TokenFacts, token_facts, resource_facts, sweep_facts, introspect_facts, pending_facts, SecondUseFacts, second_use_facts}
use Rattle.call_laws.proofs.Readings.{known_is, free_stands, reference_stands, code_stands, token_stands, text_so, redeemed_stands}
use Rattle.call_laws.proofs.Alone.{length_pushed, length_consented, length_redeemed, push_next, start_writes, sweep_alone}
use Rattle.demands.specs.Layout.{clock_bytes, next_bytes, eight_bytes, value_long, key_long}
use Rattle.demands.specs.Calls.{start, push, decide, token, resource, sweep, introspect, four, three, Left, leaves, pending}
use Rattle.demands.specs.Afterwards.{Entered, Consenting, Redeeming, AllButOne, told, AfterStart, AfterPush, AfterDecide, AfterToken, AfterResource, AfterSweep, AfterIntrospect, AfterPending, AfterSecondUse}
use Rattle.desk.specs.Pending.{pending_place, pending_at}
use Rattle.desk.specs.declared.answer.Refusal.TheVariants.{CodeRedeemed}
use Rattle.demands.proofs.Written.{entered, consenting, redeeming}

-- ---- the head

module _ (t : ℕ) (l : List ℕ) where
  clock_written : 8 ≤ length l → clock_bytes (with_clock t l) ≡ eight_bytes t
  clock_written h = put_same l 0 8 (digits 8 t) (length_digits 8 t) h

  next_under : 8 ≤ length l → next_bytes (with_clock t l) ≡ next_bytes l
  next_under h = put_behind l 0 8 (digits 8 t) (length_digits 8 t) h 8 8 (omega arith)

-- m is l with record k written, and then its next number perhaps
all_but : (t : ℕ) (l m : List ℕ) (k : ℕ) → 8 ≤ length l → ((j : ℕ) → j ≢ k → rec m j ≡ rec l j) → head_rest m ≡ head_rest l → length m ≡ length l
    → AllButOne t l (with_clock t m) k
all_but t l m k h others rest long =
    record {
      others = λ j n. rec_clock t m j ∙ others j n;
      clock_is = clock_written t m (omega arith);
      rest_stays = rest_clock t m ∙ rest;
      long = length_clock t m ∙ long;
    }

-- one record written
module _ (t : ℕ) (l : List ℕ) (k : ℕ) (r : List ℕ) (inside : k < slots l) (sized : length r ≡ 256) where
  room : 32 ≤ length l
  room = let w = slot_within l k inside in omega arith

  one_long : length (with_record l k r) ≡ length l
  one_long = length_with l k r sized inside

  pub one_here : rec (with_clock t (with_record l k r)) k ≡ r
  one_here = rec_clock t (with_record l k r) k ∙ rec_same l k r sized inside

  pub one_others : AllButOne t l (with_clock t (with_record l k r)) k
  one_others = let w = room in all_but t l (with_record l k r) k (omega arith) (rec_other l k r sized inside) (rest_with l k r sized inside) one_long

  pub one_next : next_bytes (with_clock t (with_record l k r)) ≡ next_bytes l
  one_next =
      let w = room in
      let e = one_long in
      next_under t (with_record l k r) (omega arith) ∙ head_with l k r sized inside 8 8 (omega arith)

  -- and the next number
  module _ (n : ℕ) where
    pub two_here : rec (with_clock t (with_next n (with_record l k r))) k ≡ r
    two_here = rec_clock t (with_next n (with_record l k r)) k ∙ rec_next n (with_record l k r) k ∙ rec_same l k r sized inside

    pub two_others : AllButOne t l (with_clock t (with_next n (with_record l k r))) k
    two_others =
        let w = room in
        all_but t l (with_next n (with_record l k r)) k (omega arith) (λ j d. rec_next n (with_record l k r) j ∙ rec_other l k r sized inside j d)
        (rest_next n (with_record l k r) ∙ rest_with l k r sized inside) (length_next n (with_record l k r) ∙ one_long)

    pub two_next : next_bytes (with_clock t (with_next n (with_record l k r))) ≡ eight_bytes n
    two_next =
        let w = room in
        let e = one_long in
        let f = length_next n (with_record l k r) in
        next_under t (with_next n (with_record l k r)) (omega arith) ∙ put_same (with_record l k r) 8 8 (digits 8 n) (length_digits 8 n) (omega arith)

-- ---- start

zero_bytes_lem : blank 8 ≡ eight_bytes 0
unfolding blank digits
zero_bytes_lem = refl

empty_is : (n : ℕ) → 16 ≤ n → empty_ledger n ≡ eight_bytes 0 ++ (eight_bytes 1 ++ blank (n - 16))
unfolding empty_ledger
empty_is n h =
    let w = length_blank n in
    let e = length_digits 8 1 in
    let z = zeros_blank n in
    let a : length (take 8 (blank n)) ≡ 8 = simp length-take (omega arith) in
    let b : length (drop 8 (drop 8 (blank n))) ≡ n - 16 = simp length-drop (omega arith) in
    let front : take 8 (blank n) ≡ eight_bytes 0 = zeros_eq (take 8 (blank n)) (zeros_take 8 (blank n) z) ∙ ap blank a ∙ zero_bytes_lem in
    let back : drop 8 (drop 8 (blank n)) ≡ blank (n - 16) = zeros_eq (drop 8 (drop 8 (blank n))) (zeros_drop 8 (drop 8 (blank n)) (zeros_drop 8 (blank n) z)) ∙ ap blank b in
    put_splice (blank n) 8 (digits 8 1) (omega arith)
    ∙ ap (λ (m : ℕ). take 8 (blank n) ++ (digits 8 1 ++ drop m (drop 8 (blank n)))) e
    ∙ ap₂ (λ (x y : List ℕ). x ++ (digits 8 1 ++ y)) front back

pub after_start : (l : List ℕ) → (leaves l [] start).number ≡ done → AfterStart l (leaves l [] start)
after_start l e =
    let (z, is) = start_writes l e in
    let (a, rest) = (sized_says l).0 z in
    record { ledger_is = is ∙ empty_is (length l) (omega arith); answer_is = refl }

-- ---- push

module _ (l : List ℕ) (t : ℕ) (table : List ℕ) (p : PushRequest) where
  abbrev room_place : ℕ
  room_place = place is_free (records l)

  push_record_lem : PushFacts l t table p → length (push_record l t table p (rec l room_place)) ≡ 256
  unfolding push_record
  push_record_lem f = length_pushed _ _ _ _ _ _ _ (rec l room_place) ∙ rec_length l room_place (first_in is_free l f.room).inside

  -- an id that a table has is 16 bytes long, and a free record is all zeros
  push_entered : PushFacts l t table p → length p.fresh ≡ value_long → Entered l t (client_record table p) p (rec l room_place) (push_record l t table p (rec l room_place))
  unfolding push_record
  push_entered f v =
      let x = first_in is_free l f.room in
      let y = known_is table p.client p.key f.known in
      let i : length p.client ≡ 16 = ap length (sym y.id_is) ∙ field_length table (place_of table p.client) y.inside id_span (omega arith) in
      let (a, b) = both (redirect_formed p.redirect) (challenge_formed p.challenge) f.formed in
      entered l t (client_record table p) p (rec l room_place) i (challenge_length_lem p.challenge b) v (redirect_length_lem p.redirect a).1 (rec_length l room_place x.inside)
      (ap zeros (free_found l f.ledger_sound room_place x.inside x.passes) ∙ zeros_free)

  pub after_push : (leaves l table (push t p)).number ≡ done → AfterPush l t table p (leaves l table (push t p))
  unfolding push_at
  after_push e₀ =
      push_cases l t table p
      (λ o. (Bytes l → next_number o.ledger ≡ next_number l + 1) → o.answer.number ≡ done
      → AfterPush l t table p (record { number = o.answer.number; beside = four o.answer; ledger = o.ledger; output = [] }))
      (λ why u rises e. absurd (number_refused why e))
      (λ ok rises e.
      let f = push_facts l t table p ok in
      let x = first_in is_free l f.room in
      let r = push_record l t table p (rec l room_place) in
      let n = push_record_lem f in
      let here = two_here t l room_place r x.inside n (next_number l + 1) in
      record {
        k = room_place;
        place = (free_stands l room_place).0 x;
        client_place = place_of table p.client;
        known = known_is table p.client p.key f.known;
        written = λ v. rw here (push_entered f v);
        others = two_others t l room_place r x.inside n (next_number l + 1);
        next_is = two_next t l room_place r x.inside n (next_number l + 1);
        next_rises = rises;
        answer_is = ap told (sym here);
      })
      (λ o. push_next l t table p o e₀)
      e₀

-- ---- decide

free_blank : free ≡ blank record_size
unfolding free
free_blank = refl

-- the field of a redirect with zeros behind it, laid over the front of the output
handed_is : (r out : List ℕ) → length r ≡ 256 → output_least ≤ length out → redirect_length r ≤ 64 → zeros (behind_redirect r) ≡ true
    → handed_out r out ≡ redirect r ++ (blank (output_least - redirect_length r) ++ drop output_least out)
handed_is r out long h m z =
    let w : length (redirect_field r) ≡ 64 = part_length r 192 64 (omega arith) in
    let n : length (behind_redirect r) ≡ output_least - redirect_length r = simp length-drop (omega arith) in
    let split : redirect_field r ≡ redirect r ++ blank (output_least - redirect_length r)
    = sym (take-append-drop (redirect_length r) (redirect_field r)) ∙ ap₂ ◌++◌ (sym (redirect_front r long)) (zeros_eq (behind_redirect r) z ∙ ap blank n) in
    put_splice out 0 (redirect_field r) (omega arith)
    ∙ ap (λ (m : ℕ). redirect_field r ++ drop m out) w
    ∙ ap (λ (xs : List ℕ). xs ++ drop output_least out) split
    ∙ append_assoc (redirect r) (blank (output_least - redirect_length r)) (drop output_least out)

-- the record that waits under a reference, for decide and for pending
module _ (l v c : List ℕ) where
  abbrev waiter : List ℕ
  waiter = rec l (waiting_place l v c)

  waiting : some (is_reference v c) (records l) ≡ true → StandsAt Pushed l v c (waiting_place l v c)
  waiting e = let x = first_in (is_reference v c) l e in (reference_stands l v c (waiting_place l v c) x.inside).0 x.passes

  module _ (ok : sound l ≡ true) (x : StandsAt Pushed l v c (waiting_place l v c)) where
    waiting_sound : SoundInUse (next_number l) waiter
    waiting_sound =
        let s = x.state_is in
        (((ledger_says l).0 ok).each (waiting_place l v c) x.inside).when_used (λ e. omega arith)

    waiting_handed : (out : List ℕ) → ltb (length out) output_least ≡ false
        → handed_out waiter out ≡ redirect waiter ++ (blank (output_least - redirect_length waiter) ++ drop output_least out)
    waiting_handed out long =
        let u = waiting_sound in
        handed_is waiter out (rec_length l (waiting_place l v c) x.inside) (ltb-false (length out) output_least long) u.length_most
        ((zeros_say (behind_redirect waiter)).1 u.behind_zero)

module _ (l : List ℕ) (t : ℕ) (d : DecideRequest) (out : List ℕ) where
  abbrev waits : ℕ
  waits = reference_place l d

  abbrev asked : List ℕ
  asked = rec l waits

  abbrev consent : List ℕ
  consent = consent_record t d.holder d.fresh asked

  decide_place : DecideFacts l t d out → StandsAt Pushed l d.reference d.client waits
  decide_place f = waiting l d.reference d.client f.there

  decide_handed : DecideFacts l t d out → handed_out asked out ≡ redirect asked ++ (blank (output_least - redirect_length asked) ++ drop output_least out)
  decide_handed f = waiting_handed l d.reference d.client f.ledger_sound (decide_place f) out f.output_long

  consent_record_lem : DecideFacts l t d out → length consent ≡ 256
  unfolding consent_record
  consent_record_lem f = length_consented _ _ _ asked ∙ rec_length l waits (decide_place f).inside

  consent_fields : DecideFacts l t d out → length d.fresh ≡ value_long → Consenting t d asked consent
  unfolding consent_record
  consent_fields f v = consenting t d asked v (rec_length l waits (decide_place f).inside)

  -- what is left by a yes and by a no
  abbrev left_by : Bool → Left
  left_by b =
      let o = cond b (consent_at l t d.holder d.fresh out waits) (decline_at l t d.holder out waits) in
      record {
        number = o.answer.answer.number;
        beside = four o.answer.answer ++ (o.answer.length ∷ []);
        ledger = o.ledger;
        output = o.output;
      }

  after_either : (b : Bool) → d.yes ≡ b → DecideFacts l t d out → AfterDecide l t d out (left_by b)
  unfolding consent_at decline_at
  after_either true e f =
      let x = decide_place f in
      let here = one_here t l waits consent x.inside (consent_record_lem f) in
      record {
        k = waits;
        place = x;
        on_yes = λ y v. rw here (consent_fields f v);
        on_no = λ n. absurd (true≢false (sym e ∙ n));
        others = one_others t l waits consent x.inside (consent_record_lem f);
        next_stays = one_next t l waits consent x.inside (consent_record_lem f);
        answer_yes = λ y. ap (λ (s : List ℕ). told s ++ (redirect_length asked ∷ [])) (sym here);
        answer_no = λ n. absurd (true≢false (sym e ∙ n));
        output_is = decide_handed f;
      }
  after_either false e f =
      let x = decide_place f in
      record {
        k = waits;
        place = x;
        on_yes = λ y v. absurd (true≢false (sym y ∙ e));
        on_no = λ n. one_here t l waits free x.inside length_free ∙ free_blank;
        others = one_others t l waits free x.inside length_free;
        next_stays = one_next t l waits free x.inside length_free;
        answer_yes = λ y. absurd (true≢false (sym y ∙ e));
        answer_no = λ n. refl;
        output_is = decide_handed f;
      }

  pub after_decide : (leaves l [] (decide t d out)).number ≡ done → AfterDecide l t d out (leaves l [] (decide t d out))
  unfolding decide_at
  after_decide =
      decide_cases l t d out
      (λ o. o.answer.answer.number ≡ done
      → AfterDecide l t d out
      (record {
        number = o.answer.answer.number;
        beside = four o.answer.answer ++ (o.answer.length ∷ []);
        ledger = o.ledger;
        output = o.output;
      }))
      (λ why u e. absurd (number_refused why e)) (λ ok e. after_either d.yes refl (decide_facts l t d out ok))

-- ---- token

module _ (l : List ℕ) (t : ℕ) (table : List ℕ) (q : TokenRequest) where
  abbrev place_of_code : ℕ
  place_of_code = code_place l q

  token_place_lem : TokenFacts l t table q → StandsAt Consented l q.code q.client place_of_code
  token_place_lem f =
      let x = first_in (is_code q.code q.client) l f.there in
      (code_stands l q.code q.client place_of_code x.inside).0 (x.passes, f.unredeemed)

  token_record_lem : TokenFacts l t table q → length (token_record t q (rec l place_of_code)) ≡ 256
  unfolding token_record
  token_record_lem f = length_redeemed _ _ _ (rec l place_of_code) ∙ rec_length l place_of_code (token_place_lem f).inside

  token_fields : TokenFacts l t table q → length q.presented ≡ key_long → length q.fresh ≡ value_long
      → Redeeming t q (rec l place_of_code) (token_record t q (rec l place_of_code))
  unfolding token_record
  token_fields f w v = redeeming t q (rec l place_of_code) v w (rec_length l place_of_code (token_place_lem f).inside)

  pub after_token : (leaves l table (token t q)).number ≡ done → AfterToken l t q (leaves l table (token t q))
  unfolding token_at
  after_token =
      token_cases l t table q
      (λ o. o.answer.number ≡ done
      → AfterToken l t q (record { number = o.answer.number; beside = four o.answer; ledger = o.ledger; output = [] }))
      (λ why u e. absurd (number_refused why e))
      (λ ok e.
      let f = token_facts l t table q ok in
      let x = token_place_lem f in
      let r = token_record t q (rec l place_of_code) in
      let here = one_here t l place_of_code r x.inside (token_record_lem f) in
      record {
        k = place_of_code;
        place = x;
        written = λ w v. rw here (token_fields f w v);
        others = one_others t l place_of_code r x.inside (token_record_lem f);
        next_stays = one_next t l place_of_code r x.inside (token_record_lem f);
        answer_is = ap told (sym here);
      })

  second_use_place : SecondUseFacts l t table q → StandsAt Redeemed l q.code q.client place_of_code
  second_use_place f =
      let x = first_in (is_code q.code q.client) l f.there in
      (redeemed_stands l q.code q.client place_of_code x.inside).0 (x.passes, f.redeemed)

  pub after_second_use : (leaves l table (token t q)).number ≡ number_of CodeRedeemed → AfterSecondUse l t q (leaves l table (token t q))
  unfolding token_at
  after_second_use =
      token_outcomes l t table q
      (λ o. o.answer.number ≡ number_of CodeRedeemed
      → AfterSecondUse l t q (record { number = o.answer.number; beside = four o.answer; ledger = o.ledger; output = [] }))
      (λ why u n e. absurd (eqb-false (number_of why) (number_of CodeRedeemed) n e))
      (λ u e.
      let x = second_use_place (second_use_facts l t table q u) in
      record {
        k = place_of_code;
        place = x;
        freed = one_here t l place_of_code free x.inside length_free ∙ free_blank;
        others = one_others t l place_of_code free x.inside length_free;
        next_stays = one_next t l place_of_code free x.inside length_free;
        answer_is = refl;
      })
      (λ ok e. absurd (number_refused CodeRedeemed (sym e)))

-- ---- resource

module _ (l : List ℕ) (t : ℕ) (q : ResourceRequest) where
  pub after_resource : (leaves l [] (resource t q)).number ≡ done → AfterResource l t q (leaves l [] (resource t q))
  after_resource =
      resource_cases l t q
      (λ o. o.answer.number ≡ done
      → AfterResource l t q (record { number = o.answer.number; beside = four o.answer; ledger = o.ledger; output = [] }))
      (λ why u e. absurd (number_refused why e))
      (λ ok e.
      let f = resource_facts l t q ok in
      let x = first_in (is_token q.token) l f.there in
      let w = slot_within l (token_place l q) x.inside in
      record {
        k = token_place l q;
        place = (token_stands l q.token (token_place l q) x.inside).0 x.passes;
        others = all_but t l l (token_place l q) (omega arith) (λ j n. refl) refl refl;
        stays = rec_clock t l (token_place l q);
        next_stays = next_under t l (omega arith);
        answer_is = refl;
      })

-- ---- sweep

module _ (l : List ℕ) (t : ℕ) where
  due_so : (r : List ℕ) → state r ≢ state_number Free → expiry r ≤ t → (used r && expired t r) ≡ true
  due_so r n h = both_true (used r) (expired t r) (ap not (ne_eqb (state r) 0 n)) (le-leb (expiry r) t h)

  not_due : (r : List ℕ) → (state r ≡ state_number Free) ⊎ (t < expiry r) → (used r && expired t r) ≡ false
  not_due r (inl e) = rw (eq-eqb (state r) 0 e)
  not_due r (inr h) = rw (lt-leb (expiry r) t h) (and-false (used r))

  -- the head as bytes, and the counts
  sweep_head : (o_number : (leaves l [] (sweep t)).number ≡ done)
      → (clock_bytes (leaves l [] (sweep t)).ledger ≡ eight_bytes t)
      × (next_bytes (leaves l [] (sweep t)).ledger ≡ next_bytes l)
      × ((leaves l [] (sweep t)).beside ≡ freed_of Pushed t l ∷ freed_of Consented t l ∷ freed_of Redeemed t l ∷ [])
  unfolding freed swept
  sweep_head =
      sweep_cases l t
      (λ o. o.answer.number ≡ done
      → (clock_bytes o.ledger ≡ eight_bytes t) × (next_bytes o.ledger ≡ next_bytes l)
      × (three o.answer ≡ freed_of Pushed t l ∷ freed_of Consented t l ∷ freed_of Redeemed t l ∷ []))
      (λ why u e. absurd (number_refused why e))
      (λ ok e.
      let s = ((ledger_says l).0 (sweep_facts l t ok).ledger_sound).sized in
      let n = s.least in
      let h = s.long in
      let w = length_to t l (slots l) (le_refl _) in
      (clock_written t (swept t l) (omega arith), next_under t (swept t l) (omega arith) ∙ head_swept t l 8 8 (omega arith), refl))

  pub after_sweep : (leaves l [] (sweep t)).number ≡ done → AfterSweep l t (leaves l [] (sweep t))
  after_sweep e =
      let a = sweep_alone l t e in
      let (clock, next, counts) = sweep_head e in
      record {
        freed = λ j h n x. a.freed j h (due_so (rec l j) n x) ∙ free_blank;
        kept = λ j u. a.others j (not_due (rec l j) u);
        clock_is = clock;
        next_stays = next;
        rest_stays = a.rest;
        long = a.long;
        answer_is = counts;
      }

-- ---- pending

module _ (l : List ℕ) (t : ℕ) (p : PendingRequest) (out : List ℕ) where
  pub after_pending : (leaves l [] (pending t p out)).number ≡ done → AfterPending l p out (leaves l [] (pending t p out))
  unfolding pending_at
  after_pending =
      pending_cases l t p out
      (λ o. o.answer.answer.number ≡ done
      → AfterPending l p out
      (record {
        number = o.answer.answer.number;
        beside = four o.answer.answer ++ (o.answer.length ∷ []);
        ledger = o.ledger;
        output = o.output;
      }))
      (λ why u e. absurd (number_refused why e))
      (λ ok e.
      let f = pending_facts l t p out ok in
      let x = waiting l p.reference p.client f.there in
      let r = rec l (pending_place l p) in
      record {
        k = pending_place l p;
        place = x;
        ledger_is = refl;
        answer_is = ap (λ (who : ℕ). grant r ∷ who ∷ scope r ∷ expiry r ∷ redirect_length r ∷ []) ((waiting_sound l p.reference p.client f.ledger_sound x).holder_none x.state_is);
        output_is = waiting_handed l p.reference p.client f.ledger_sound x out f.output_long;
      })

-- ---- introspect

module _ (l : List ℕ) (t : ℕ) (v out : List ℕ) where
  pub after_introspect : (leaves l [] (introspect t v out)).number ≡ done → AfterIntrospect l t v out (leaves l [] (introspect t v out))
  unfolding introspect_with
  after_introspect =
      introspect_cases l t v out
      (λ o. o.answer.number ≡ done
      → AfterIntrospect l t v out (record { number = o.answer.number; beside = o.answer.length ∷ []; ledger = o.ledger; output = o.output }))
      (λ why u e. absurd (number_refused why e))
      (λ ok e.
      let f = introspect_facts l t v out ok in
      let room = ltb-false (length out) (length (text_for l t v)) f.output_long in
      record {
        text = text_for l t v;
        text_is = text_so l t v f.ledger_sound;
        ledger_stays = refl;
        answer_is = refl;
        output_is = put_splice out 0 (text_for l t v) (omega (arith, room));
      })
