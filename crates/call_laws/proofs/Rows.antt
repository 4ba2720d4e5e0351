-- What each call answers: by its list of checks in order, with a number of that list, and zeros beside it where it refuses.
use Prim.Native.Nat.{ℕ}
use mathlib.Core.Path.{◌≡◌, refl, sym, ap, ◌∙◌}
use mathlib.Core.Logic.{⊎_elim, ◌↔◌}
use mathlib.Core.Bool.{Bool, true, false, not, ◌||◌, cond, or-true, false≢true}
use lib.ListN.{length}
use mathlib.Core.List.{List, [], ◌∷◌, map}
use lib.Dec.{eqb}
use borrow.Author.Tests.{eqb-true, eq-eqb}
use Rattle.octets.specs.Lists.{some, place}
use Rattle.ledger.specs.Fields.{records, rec, with_clock}
use Rattle.ledger.specs.Checks.{is_free}
use Rattle.ledger.specs.Sound.{sized}
use Rattle.ledger.specs.Sweep.{freed, swept}
use Rattle.desk.specs.Answers.{number_of, done, refused, answer_of, swept_of}
use Rattle.desk.specs.Checks.{Check, ◌when◌, Verdict, accepted, stopped, first}
use Rattle.desk.specs.Requests.{PushRequest, DecideRequest, TokenRequest, ResourceRequest}
use Rattle.desk.specs.Outcome.{Outcome, left, concludes}
use Rattle.desk.specs.Push.{push_checks, push_at, push_leaves, push}
use Rattle.desk.specs.Decide.{decide_leaves, reference_place, decide_checks, consent_at, decline_at, decide_at, decide}
use Rattle.desk.specs.Token.{code_place, token_checks, token_at, ended, token_leaves, token}
use Rattle.desk.specs.Resource.{token_place, resource_checks, read_by, look, resource_leaves, resource_by, resource}
use Rattle.desk.specs.Sweep.{sweep_checks, sweep_leaves, sweep}
use Rattle.desk.specs.Start.{start, empty_ledger}
use Rattle.desk.specs.Requests.{PendingRequest}
use Rattle.desk.specs.Pending.{pending_place, pending_checks, pending_at, pending_leaves, pending}
use Rattle.desk.specs.Introspect.{text_for, introspect_checks, introspect_with, introspect_leaves, introspect}
use Rattle.desk.specs.declared.answer.Answer.{Answer}
use Rattle.desk.specs.declared.answer.Decided.{Decided}
use Rattle.desk.specs.declared.answer.Swept.{Swept}
use Rattle.desk.specs.declared.answer.Introspected.{Introspected}
use Rattle.desk.specs.declared.answer.Refusal.{Refusal}
use Rattle.desk.specs.declared.answer.Refusal.TheVariants.{LedgerUnsound, CodeRedeemed}
use Rattle.desk.proofs.Turns.{Passed, Turn, by_turns, number_row, number_by, number_stopped, number_refused, passes_exactly, turns_exactly}

-- ---- each call goes by its checks

module _ (l : List ℕ) (t : ℕ) (table : List ℕ) (p : PushRequest) where
  pub push_cases : (P : Outcome Answer → Type 0) → ((why : Refusal) → Turn why (push_checks l t table p) → P (push_leaves l why))
      → (Passed (push_checks l t table p) → P (push_at l t table p (place is_free (records l)))) → P (push l t table p)
  unfolding push
  push_cases P f g = by_turns (push_checks l t table p) (λ (v : Verdict). P (concludes v (push_leaves l) (push_at l t table p (place is_free (records l))))) f g

  push_number : (push l t table p).answer.number ≡ number_by (first (push_checks l t table p))
  unfolding push push_at
  push_number = by (first (push_checks l t table p))
    where
      by : (v : Verdict) → (concludes v (push_leaves l) (push_at l t table p (place is_free (records l)))).answer.number ≡ number_by v
      by accepted = refl
      by (stopped why) = refl

  -- 0 exactly when all pass
  pub push_passed : ((push l t table p).answer.number ≡ done) ↔ Passed (push_checks l t table p)
  push_passed = passes_exactly _ (push_checks l t table p) push_number

  -- a row's number exactly when its turn comes
  pub push_turn : (why : Refusal) → ((push l t table p).answer.number ≡ number_of why) ↔ Turn why (push_checks l t table p)
  push_turn = turns_exactly _ (push_checks l t table p) push_number

module _ (l : List ℕ) (t : ℕ) (d : DecideRequest) (out : List ℕ) where
  pub decide_cases : (P : Outcome Decided → Type 0)
      → ((why : Refusal) → Turn why (decide_checks l t d out (reference_place l d)) → P (decide_leaves l out why))
      → (Passed (decide_checks l t d out (reference_place l d)) → P (decide_at l t d out (reference_place l d))) → P (decide l t d out)
  unfolding decide
  decide_cases P f g =
      by_turns (decide_checks l t d out (reference_place l d))
      (λ (v : Verdict). P (concludes v (decide_leaves l out) (decide_at l t d out (reference_place l d)))) f g

  decide_number : (decide l t d out).answer.answer.number ≡ number_by (first (decide_checks l t d out (reference_place l d)))
  unfolding decide decide_at consent_at decline_at
  decide_number = by (first (decide_checks l t d out (reference_place l d)))
    where
      at : (b : Bool) → (cond b (consent_at l t d.holder d.fresh out (reference_place l d)) (decline_at l t d.holder out (reference_place l d))).answer.answer.number ≡ done
      at true = refl
      at false = refl

      by : (v : Verdict) → (concludes v (decide_leaves l out) (decide_at l t d out (reference_place l d))).answer.answer.number ≡ number_by v
      by accepted = at d.yes
      by (stopped why) = refl

  pub decide_passed : ((decide l t d out).answer.answer.number ≡ done) ↔ Passed (decide_checks l t d out (reference_place l d))
  decide_passed = passes_exactly _ (decide_checks l t d out (reference_place l d)) decide_number

  pub decide_turn : (why : Refusal) → ((decide l t d out).answer.answer.number ≡ number_of why) ↔ Turn why (decide_checks l t d out (reference_place l d))
  decide_turn = turns_exactly _ (decide_checks l t d out (reference_place l d)) decide_number

module _ (l : List ℕ) (t : ℕ) (table : List ℕ) (q : TokenRequest) where
  pub token_cases : (P : Outcome Answer → Type 0) → ((why : Refusal) → Turn why (token_checks l t table q (code_place l q)) → P (token_leaves l t (code_place l q) why))
      → (Passed (token_checks l t table q (code_place l q)) → P (token_at l t q (code_place l q))) → P (token l t table q)
  unfolding token
  token_cases P f g =
      by_turns (token_checks l t table q (code_place l q)) (λ (v : Verdict). P (concludes v (token_leaves l t (code_place l q)) (token_at l t q (code_place l q)))) f g

  -- the same by what is left: a row that leaves the ledger as it was, 15, or the call done
  pub token_outcomes : (P : Outcome Answer → Type 0)
      → ((why : Refusal) → Turn why (token_checks l t table q (code_place l q)) → eqb (number_of why) (number_of CodeRedeemed) ≡ false → P (left (refused why) l))
      → (Turn CodeRedeemed (token_checks l t table q (code_place l q)) → P (left (refused CodeRedeemed) (ended l t (code_place l q))))
      → (Passed (token_checks l t table q (code_place l q)) → P (token_at l t q (code_place l q))) → P (token l t table q)
  token_outcomes P f e g = token_cases P (λ why u. row why u (eqb (number_of why) (number_of CodeRedeemed)) refl) g
    where
      row : (why : Refusal) → Turn why (token_checks l t table q (code_place l q)) → (b : Bool) → eqb (number_of why) (number_of CodeRedeemed) ≡ b
          → P (left (refused why) (cond b (ended l t (code_place l q)) l))
      row why u true h =
          let w = number_row why CodeRedeemed (eqb-true (number_of why) (number_of CodeRedeemed) h) in
          rw w (e (rw w at u))
      row why u false h = f why u h

  token_number : (token l t table q).answer.number ≡ number_by (first (token_checks l t table q (code_place l q)))
  unfolding token token_at
  token_number = by (first (token_checks l t table q (code_place l q)))
    where
      by : (v : Verdict) → (concludes v (token_leaves l t (code_place l q)) (token_at l t q (code_place l q))).answer.number ≡ number_by v
      by accepted = refl
      by (stopped why) = refl

  pub token_passed : ((token l t table q).answer.number ≡ done) ↔ Passed (token_checks l t table q (code_place l q))
  token_passed = passes_exactly _ (token_checks l t table q (code_place l q)) token_number

  pub token_turn : (why : Refusal) → ((token l t table q).answer.number ≡ number_of why) ↔ Turn why (token_checks l t table q (code_place l q))
  token_turn = turns_exactly _ (token_checks l t table q (code_place l q)) token_number

module _ (l : List ℕ) (t : ℕ) (q : ResourceRequest) where
  pub resource_cases : (P : Outcome Answer → Type 0) → ((why : Refusal) → Turn why (resource_checks l t q (token_place l q)) → P (resource_leaves l why))
      → (Passed (resource_checks l t q (token_place l q)) → P (left (answer_of (rec l (token_place l q))) (with_clock t l))) → P (resource l t q)
  unfolding resource look
  resource_cases P f g =
      by_turns (resource_checks l t q (token_place l q)) (λ (v : Verdict). P (resource_by (read_by v (rec l (token_place l q))) l t)) f g

  resource_number : (resource l t q).answer.number ≡ number_by (first (resource_checks l t q (token_place l q)))
  unfolding resource look
  resource_number = by (first (resource_checks l t q (token_place l q)))
    where
      by : (v : Verdict) → (resource_by (read_by v (rec l (token_place l q))) l t).answer.number ≡ number_by v
      by accepted = refl
      by (stopped why) = refl

  pub resource_passed : ((resource l t q).answer.number ≡ done) ↔ Passed (resource_checks l t q (token_place l q))
  resource_passed = passes_exactly _ (resource_checks l t q (token_place l q)) resource_number

  pub resource_turn : (why : Refusal) → ((resource l t q).answer.number ≡ number_of why) ↔ Turn why (resource_checks l t q (token_place l q))
  resource_turn = turns_exactly _ (resource_checks l t q (token_place l q)) resource_number

module _ (l : List ℕ) (t : ℕ) where
  pub sweep_cases : (P : Outcome Swept → Type 0) → ((why : Refusal) → Turn why (sweep_checks l t) → P (sweep_leaves l why))
      → (Passed (sweep_checks l t) → P (left (swept_of (freed t l)) (with_clock t (swept t l)))) → P (sweep l t)
  unfolding sweep
  sweep_cases P f g =
      by_turns (sweep_checks l t)
      (λ (v : Verdict). P (concludes v (sweep_leaves l) (left (swept_of (freed t l)) (with_clock t (swept t l))))) f g

  sweep_number : (sweep l t).answer.number ≡ number_by (first (sweep_checks l t))
  unfolding sweep
  sweep_number = by (first (sweep_checks l t))
    where
      by : (v : Verdict) → (concludes v (sweep_leaves l) (left (swept_of (freed t l)) (with_clock t (swept t l)))).answer.number ≡ number_by v
      by accepted = refl
      by (stopped why) = refl

  pub sweep_passed : ((sweep l t).answer.number ≡ done) ↔ Passed (sweep_checks l t)
  sweep_passed = passes_exactly _ (sweep_checks l t) sweep_number

  pub sweep_turn : (why : Refusal) → ((sweep l t).answer.number ≡ number_of why) ↔ Turn why (sweep_checks l t)
  sweep_turn = turns_exactly _ (sweep_checks l t) sweep_number

module _ (l : List ℕ) (t : ℕ) (p : PendingRequest) (out : List ℕ) where
  pub pending_cases : (P : Outcome Decided → Type 0) → ((why : Refusal) → Turn why (pending_checks l t p out (pending_place l p)) → P (pending_leaves l out why))
      → (Passed (pending_checks l t p out (pending_place l p)) → P (pending_at l out (pending_place l p))) → P (pending l t p out)
  unfolding pending
  pending_cases P f g =
      by_turns (pending_checks l t p out (pending_place l p))
      (λ (v : Verdict). P (concludes v (pending_leaves l out) (pending_at l out (pending_place l p)))) f g

  pending_number : (pending l t p out).answer.answer.number ≡ number_by (first (pending_checks l t p out (pending_place l p)))
  unfolding pending pending_at
  pending_number = by (first (pending_checks l t p out (pending_place l p)))
    where
      by : (v : Verdict) → (concludes v (pending_leaves l out) (pending_at l out (pending_place l p))).answer.answer.number ≡ number_by v
      by accepted = refl
      by (stopped why) = refl

  pub pending_passed : ((pending l t p out).answer.answer.number ≡ done) ↔ Passed (pending_checks l t p out (pending_place l p))
  pending_passed = passes_exactly _ (pending_checks l t p out (pending_place l p)) pending_number

  pub pending_turn : (why : Refusal) → ((pending l t p out).answer.answer.number ≡ number_of why) ↔ Turn why (pending_checks l t p out (pending_place l p))
  pending_turn = turns_exactly _ (pending_checks l t p out (pending_place l p)) pending_number

module _ (l : List ℕ) (t : ℕ) (v out : List ℕ) where
  pub introspect_cases : (P : Outcome Introspected → Type 0) → ((why : Refusal) → Turn why (introspect_checks l t v out) → P (introspect_leaves l out why))
      → (Passed (introspect_checks l t v out) → P (introspect_with l out (text_for l t v))) → P (introspect l t v out)
  unfolding introspect
  introspect_cases P f g =
      by_turns (introspect_checks l t v out) (λ (o : Verdict). P (concludes o (introspect_leaves l out) (introspect_with l out (text_for l t v)))) f g

  introspect_number : (introspect l t v out).answer.number ≡ number_by (first (introspect_checks l t v out))
  unfolding introspect introspect_with
  introspect_number = by (first (introspect_checks l t v out))
    where
      by : (o : Verdict) → (concludes o (introspect_leaves l out) (introspect_with l out (text_for l t v))).answer.number ≡ number_by o
      by accepted = refl
      by (stopped why) = refl

  pub introspect_passed : ((introspect l t v out).answer.number ≡ done) ↔ Passed (introspect_checks l t v out)
  introspect_passed = passes_exactly _ (introspect_checks l t v out) introspect_number

  pub introspect_turn : (why : Refusal) → ((introspect l t v out).answer.number ≡ number_of why) ↔ Turn why (introspect_checks l t v out)
  introspect_turn = turns_exactly _ (introspect_checks l t v out) introspect_number

-- start has one check: the length
module _ (l : List ℕ) where
  pub start_passed : ((start l).answer ≡ done) ↔ (sized l ≡ true)
  unfolding start
  start_passed = by (sized l)
    where
      by : (b : Bool) → ((cond b (left done (empty_ledger (length l))) (left (number_of LedgerUnsound) l)).answer ≡ done) ↔ (b ≡ true)
      by true = (λ e. refl, λ e. refl)
      by false = (λ e. absurd (number_refused LedgerUnsound e), λ e. absurd (false≢true e))

-- the one row of start
abbrev pub start_checks : List ℕ → List Check
start_checks l = (LedgerUnsound when not (sized l)) ∷ []

module _ (l : List ℕ) where
  start_number : (start l).answer ≡ number_by (first (start_checks l))
  unfolding start first
  start_number = by (sized l)
    where
      by : (b : Bool) → (cond b (left done (empty_ledger (length l))) (left (number_of LedgerUnsound) l)).answer
          ≡ number_by (cond (not b) (stopped LedgerUnsound) accepted)
      by true = refl
      by false = refl

  pub start_turn : (why : Refusal) → ((start l).answer ≡ number_of why) ↔ Turn why (start_checks l)
  start_turn = turns_exactly _ (start_checks l) start_number

-- ---- demand 1: each call's number is 0 or one of those that its list names

-- the numbers that a list of checks can end with
abbrev pub numbers_of : List Check → List ℕ
numbers_of cs = done ∷ map (λ (c : Check). number_of c.why) cs

-- n is one of these
abbrev pub is_one_of : List ℕ → ℕ → Bool
is_one_of ns n = some (eqb n) ns

or_left : (a b : Bool) → a ≡ true → (a || b) ≡ true
or_left a b e = rw e

or_right : (a b : Bool) → b ≡ true → (a || b) ≡ true
or_right a b e = rw e (or-true a)

turn_listed : (why : Refusal) (cs : List Check) → Turn why cs → some (eqb (number_of why)) (map (λ (c : Check). number_of c.why) cs) ≡ true
turn_listed why [] t = absurd t
turn_listed why (c ∷ cs) t =
    ⊎_elim
    (λ x. or_left (eqb (number_of why) (number_of c.why)) _ (eq-eqb (number_of why) (number_of c.why) (ap number_of (sym x.1))))
    (λ y. or_right (eqb (number_of why) (number_of c.why)) _ (turn_listed why cs y.1))
    t

pub first_listed : (cs : List Check) → is_one_of (numbers_of cs) (number_by (first cs)) ≡ true
first_listed cs =
    by_turns cs (λ (v : Verdict). is_one_of (numbers_of cs) (number_by v) ≡ true)
    (λ why t. or_right (eqb (number_of why) done) _ (turn_listed why cs t)) (λ p. refl)

listed : (n : ℕ) (cs : List Check) → n ≡ number_by (first cs) → is_one_of (numbers_of cs) n ≡ true
listed n cs e = ap (is_one_of (numbers_of cs)) e ∙ first_listed cs

pub push_numbers : (l : List ℕ) (t : ℕ) (table : List ℕ) (p : PushRequest)
    → is_one_of (0 ∷ 1 ∷ 2 ∷ 3 ∷ 4 ∷ 5 ∷ 6 ∷ 7 ∷ 8 ∷ 9 ∷ []) (push l t table p).answer.number ≡ true
unfolding push_checks
push_numbers l t table p = listed _ (push_checks l t table p) (push_number l t table p)

pub decide_numbers : (l : List ℕ) (t : ℕ) (d : DecideRequest) (out : List ℕ)
    → is_one_of (0 ∷ 1 ∷ 2 ∷ 20 ∷ 10 ∷ 11 ∷ 12 ∷ 7 ∷ []) (decide l t d out).answer.answer.number ≡ true
unfolding decide_checks
decide_numbers l t d out = listed _ (decide_checks l t d out (reference_place l d)) (decide_number l t d out)

pub token_numbers : (l : List ℕ) (t : ℕ) (table : List ℕ) (q : TokenRequest)
    → is_one_of (0 ∷ 1 ∷ 2 ∷ 3 ∷ 4 ∷ 13 ∷ 5 ∷ 14 ∷ 15 ∷ 11 ∷ 16 ∷ 7 ∷ []) (token l t table q).answer.number ≡ true
unfolding token_checks
token_numbers l t table q = listed _ (token_checks l t table q (code_place l q)) (token_number l t table q)

pub resource_numbers : (l : List ℕ) (t : ℕ) (q : ResourceRequest)
    → is_one_of (0 ∷ 1 ∷ 2 ∷ 17 ∷ 11 ∷ 18 ∷ 6 ∷ 19 ∷ []) (resource l t q).answer.number ≡ true
unfolding resource_checks
resource_numbers l t q = listed _ (resource_checks l t q (token_place l q)) (resource_number l t q)

pub sweep_numbers : (l : List ℕ) (t : ℕ) → is_one_of (0 ∷ 1 ∷ 2 ∷ []) (sweep l t).answer.number ≡ true
unfolding sweep_checks
sweep_numbers l t = listed _ (sweep_checks l t) (sweep_number l t)

pub pending_numbers : (l : List ℕ) (t : ℕ) (p : PendingRequest) (out : List ℕ)
    → is_one_of (0 ∷ 1 ∷ 2 ∷ 20 ∷ 10 ∷ 11 ∷ []) (pending l t p out).answer.answer.number ≡ true
unfolding pending_checks
pending_numbers l t p out = listed _ (pending_checks l t p out (pending_place l p)) (pending_number l t p out)

pub introspect_numbers : (l : List ℕ) (t : ℕ) (v out : List ℕ) → is_one_of (0 ∷ 1 ∷ 2 ∷ 20 ∷ []) (introspect l t v out).answer.number ≡ true
unfolding introspect_checks
introspect_numbers l t v out = listed _ (introspect_checks l t v out) (introspect_number l t v out)

pub start_numbers : (l : List ℕ) → is_one_of (0 ∷ 1 ∷ []) (start l).answer ≡ true
unfolding start
start_numbers l = by (sized l)
  where
    by : (b : Bool) → is_one_of (0 ∷ 1 ∷ []) (cond b (left done (empty_ledger (length l))) (left (number_of LedgerUnsound) l)).answer ≡ true
    by true = refl
    by false = refl

-- ---- "A refusal has zeros beside its number and changes no lent byte, clock included"; what a token call leaves at 15 is in its `token_leaves`

pub push_refusal : (l : List ℕ) (t : ℕ) (table : List ℕ) (p : PushRequest) (why : Refusal)
    → (push l t table p).answer.number ≡ number_of why → push l t table p ≡ push_leaves l why
unfolding push
push_refusal l t table p why e =
    ap (λ (v : Verdict). concludes v (push_leaves l) (push_at l t table p (place is_free (records l))))
    (number_stopped (first (push_checks l t table p)) why (sym (push_number l t table p) ∙ e))

pub decide_refusal : (l : List ℕ) (t : ℕ) (d : DecideRequest) (out : List ℕ) (why : Refusal)
    → (decide l t d out).answer.answer.number ≡ number_of why → decide l t d out ≡ decide_leaves l out why
unfolding decide
decide_refusal l t d out why e =
    ap (λ (v : Verdict). concludes v (decide_leaves l out) (decide_at l t d out (reference_place l d)))
    (number_stopped (first (decide_checks l t d out (reference_place l d))) why (sym (decide_number l t d out) ∙ e))

pub token_refusal : (l : List ℕ) (t : ℕ) (table : List ℕ) (q : TokenRequest) (why : Refusal)
    → (token l t table q).answer.number ≡ number_of why → token l t table q ≡ token_leaves l t (code_place l q) why
unfolding token
token_refusal l t table q why e =
    ap (λ (v : Verdict). concludes v (token_leaves l t (code_place l q)) (token_at l t q (code_place l q)))
    (number_stopped (first (token_checks l t table q (code_place l q))) why (sym (token_number l t table q) ∙ e))

pub resource_refusal : (l : List ℕ) (t : ℕ) (q : ResourceRequest) (why : Refusal)
    → (resource l t q).answer.number ≡ number_of why → resource l t q ≡ resource_leaves l why
unfolding resource look
resource_refusal l t q why e =
    ap (λ (v : Verdict). resource_by (read_by v (rec l (token_place l q))) l t)
    (number_stopped (first (resource_checks l t q (token_place l q))) why (sym (resource_number l t q) ∙ e))

pub sweep_refusal : (l : List ℕ) (t : ℕ) (why : Refusal) → (sweep l t).answer.number ≡ number_of why → sweep l t ≡ sweep_leaves l why
unfolding sweep
sweep_refusal l t why e =
    ap (λ (v : Verdict). concludes v (sweep_leaves l) (left (swept_of (freed t l)) (with_clock t (swept t l))))
    (number_stopped (first (sweep_checks l t)) why (sym (sweep_number l t) ∙ e))

pub introspect_refusal : (l : List ℕ) (t : ℕ) (v out : List ℕ) (why : Refusal)
    → (introspect l t v out).answer.number ≡ number_of why → introspect l t v out ≡ introspect_leaves l out why
unfolding introspect
introspect_refusal l t v out why e =
    ap (λ (o : Verdict). concludes o (introspect_leaves l out) (introspect_with l out (text_for l t v)))
    (number_stopped (first (introspect_checks l t v out)) why (sym (introspect_number l t v out) ∙ e))

pub start_refusal : (l : List ℕ) → (start l).answer ≡ number_of LedgerUnsound → (start l).ledger ≡ l
unfolding start
start_refusal l = by (sized l)
  where
    by : (b : Bool) → (cond b (left done (empty_ledger (length l))) (left (number_of LedgerUnsound) l)).answer ≡ number_of LedgerUnsound
        → (cond b (left done (empty_ledger (length l))) (left (number_of LedgerUnsound) l)).ledger ≡ l
    by true e = absurd (number_refused LedgerUnsound (sym e))
    by false e = refl
