-- A step by cases: it is refused, by a row whose turn has come, or is a second use of a code, or all its checks pass.
use Prim.Native.Nat.{ℕ}
use mathlib.Core.Path.{◌≡◌, refl, ap}
use mathlib.Core.Logic.{◌≢◌, ⊎_elim}
use mathlib.Core.Bool.{Bool, true, false, ◌&&◌, ◌||◌, or-true, false≢true}
use mathlib.Core.List.{List, [], ◌∷◌}
use lib.Dec.{eqb}
use borrow.Author.Tests.{eq-eqb, ne_eqb}
use Rattle.octets.specs.Lists.{place, some}
use Rattle.octets.proofs.Tests.{both_true}
use Rattle.ledger.specs.Fields.{records, rec, with_clock}
use Rattle.ledger.specs.Checks.{is_free}
use Rattle.ledger.specs.Sound.{sound}
use Rattle.ledger.specs.Sweep.{freed, swept as swept_ledger}
use Rattle.desk.specs.Answers.{answer_of, number_of, refused, undecided, unswept, swept_of}
use Rattle.desk.specs.Checks.{Check}
use Rattle.desk.specs.Requests.{DecideRequest, TokenRequest}
use Rattle.desk.specs.Outcome.{Outcome}
use Rattle.desk.specs.Push.{push_checks, push_at}
use Rattle.desk.specs.Decide.{decide_checks, decide_at, reference_place, consent_at, decline_at}
use Rattle.desk.specs.Token.{token_checks, token_at, code_place, ended}
use Rattle.desk.specs.Resource.{resource_checks, token_place}
use Rattle.desk.specs.Sweep.{sweep_checks}
use Rattle.desk.specs.declared.answer.Answer.{Answer}
use Rattle.desk.specs.declared.answer.Decided.{Decided}
use Rattle.desk.specs.declared.answer.Swept.{Swept}
use Rattle.desk.specs.declared.answer.Refusal.{Refusal}
use Rattle.desk.specs.declared.answer.Refusal.TheVariants.{LedgerUnsound, CodeRedeemed}
use Rattle.desk.proofs.Turns.{Passed, Turn, number_refused}
use Rattle.call_laws.proofs.Rows.{push_cases, push_turn, decide_cases, decide_turn, token_outcomes, token_turn, resource_cases, resource_turn, sweep_cases, sweep_turn}
use Rattle.desk.proofs.Written.{decide_yes, decide_no}
use Rattle.history.specs.Runs.{Call, push, decide, token, resource, sweep, Said, answered, decided, swept, Step, made, step, number_in}

-- the checks of a call
abbrev pub checks_of : List ℕ → Call → List Check
checks_of l (push t table p) = push_checks l t table p
checks_of l (decide t d out) = decide_checks l t d out (reference_place l d)
checks_of l (token t table q) = token_checks l t table q (code_place l q)
checks_of l (resource t q) = resource_checks l t q (token_place l q)
checks_of l (sweep t) = sweep_checks l t

-- a refused step that leaves the ledger as it was: all but a second use of a code
abbrev pub is_second_use : Call → Refusal → Bool
is_second_use (push t table p) why = false
is_second_use (decide t d out) why = false
is_second_use (token t table q) why = eqb (number_of why) (number_of CodeRedeemed)
is_second_use (resource t q) why = false
is_second_use (sweep t) why = false

abbrev pub refused_by : Refusal → Call → Said
refused_by why (push t table p) = answered (refused why)
refused_by why (decide t d out) = decided (undecided why) out
refused_by why (token t table q) = answered (refused why)
refused_by why (resource t q) = answered (refused why)
refused_by why (sweep t) = swept (unswept why)

abbrev pub refusal : List ℕ → Call → Refusal → Step
refusal l c why = made c l (refused_by why c) l

-- a second use of a code: refused by 15, and its record freed
abbrev pub ending : List ℕ → ℕ → List ℕ → TokenRequest → Step
ending l t table q = made (token t table q) l (answered (refused CodeRedeemed)) (ended l t (code_place l q))

-- an accepted step
abbrev pub reply : List ℕ → Call → Said
reply l (push t table p) = answered (push_at l t table p (place is_free (records l))).answer
reply l (decide t d out) = decided (decide_at l t d out (reference_place l d)).answer (decide_at l t d out (reference_place l d)).output
reply l (token t table q) = answered (token_at l t q (code_place l q)).answer
reply l (resource t q) = answered (answer_of (rec l (token_place l q)))
reply l (sweep t) = swept (swept_of (freed t l))

abbrev pub left : List ℕ → Call → List ℕ
left l (push t table p) = (push_at l t table p (place is_free (records l))).ledger
left l (decide t d out) = (decide_at l t d out (reference_place l d)).ledger
left l (token t table q) = (token_at l t q (code_place l q)).ledger
left l (resource t q) = with_clock t l
left l (sweep t) = with_clock t (swept_ledger t l)

abbrev pub acceptance : List ℕ → Call → Step
acceptance l c = made c l (reply l c) (left l c)

-- the one case split: a step refused by the row whose turn has come, a second use of a code, or an accepted one whose checks all passed
pub step_cases : (P : Step → Type 0) (l : List ℕ) (c : Call)
    → ((why : Refusal) → Turn why (checks_of l c) → is_second_use c why ≡ false → P (refusal l c why))
    → ((t : ℕ) (table : List ℕ) (q : TokenRequest) → Turn CodeRedeemed (token_checks l t table q (code_place l q)) → P (ending l t table q))
    → (Passed (checks_of l c) → P (acceptance l c))
    → P (step l c)
unfolding step
step_cases P l (push t table p) r s a =
    push_cases l t table p (λ (o : Outcome Answer). P (made (push t table p) l (answered o.answer) o.ledger)) (λ why u. r why u refl) a
step_cases P l (decide t d out) r s a =
    decide_cases l t d out (λ (o : Outcome Decided). P (made (decide t d out) l (decided o.answer o.output) o.ledger)) (λ why u. r why u refl) a
step_cases P l (token t table q) r s a =
    token_outcomes l t table q (λ (o : Outcome Answer). P (made (token t table q) l (answered o.answer) o.ledger)) r (s t table q) a
step_cases P l (resource t q) r s a =
    resource_cases l t q (λ (o : Outcome Answer). P (made (resource t q) l (answered o.answer) o.ledger)) (λ why u. r why u refl) a
step_cases P l (sweep t) r s a =
    sweep_cases l t (λ (o : Outcome Swept). P (made (sweep t) l (swept o.answer) o.ledger)) (λ why u. r why u refl) a

-- no row of the table has number 0
pub refused_not : (why : Refusal) → eqb (number_of why) 0 ≡ false
refused_not why = ne_eqb (number_of why) 0 (number_refused why)

-- an accepted decide, by yes and by no
abbrev pub consenting : List ℕ → ℕ → DecideRequest → List ℕ → Outcome Decided
consenting l t d out = consent_at l t d.holder d.fresh out (reference_place l d)

abbrev pub declining : List ℕ → ℕ → DecideRequest → List ℕ → Outcome Decided
declining l t d out = decline_at l t d.holder out (reference_place l d)

abbrev pub deciding : List ℕ → ℕ → DecideRequest → List ℕ → Outcome Decided → Step
deciding l t d out o = made (decide t d out) l (decided o.answer o.output) o.ledger

pub decide_branch : (P : Step → Type 0) (l : List ℕ) (t : ℕ) (d : DecideRequest) (out : List ℕ)
    → (d.yes ≡ true → P (deciding l t d out (consenting l t d out)))
    → (d.yes ≡ false → P (deciding l t d out (declining l t d out)))
    → P (acceptance l (decide t d out))
decide_branch P l t d out y n = go d.yes refl
  where
    by : (x : Outcome Decided) → decide_at l t d out (reference_place l d) ≡ x → P (deciding l t d out x) → P (deciding l t d out (decide_at l t d out (reference_place l d)))
    by x e h = rw e h

    go : (b : Bool) → d.yes ≡ b → P (acceptance l (decide t d out))
    go true e = by (consenting l t d out) (decide_yes l t d out (reference_place l d) e refl) (y e)
    go false e = by (declining l t d out) (decide_no l t d out (reference_place l d) e refl) (n e)

-- ---- 1 is answered only where the ledger is not sound

or_left : (a b : Bool) → a ≡ true → (a || b) ≡ true
or_left a b e = rw e

or_right : (a b : Bool) → b ≡ true → (a || b) ≡ true
or_right a b e = rw e (or-true a)

-- a row under number 1 whose condition holds: of a call's list, this computes to its first condition
abbrev unsound_in : List Check → Bool
unsound_in cs = some (λ (c : Check). eqb (number_of c.why) 1 && c.holds) cs

turn_unsound : (cs : List Check) → Turn LedgerUnsound cs → unsound_in cs ≡ true
turn_unsound [] u = absurd u
turn_unsound (c ∷ cs) u =
    ⊎_elim {C = unsound_in (c ∷ cs) ≡ true}
    (λ x. or_left _ (unsound_in cs) (both_true (eqb (number_of c.why) 1) c.holds (eq-eqb (number_of c.why) 1 (ap number_of x.1)) x.0))
    (λ y. or_right (eqb (number_of c.why) 1 && c.holds) (unsound_in cs) (turn_unsound cs y.1))
    u

pub never_one : (l : List ℕ) → sound l ≡ true → (c : Call) → number_in (step l c).answer ≢ number_of LedgerUnsound
unfolding step push_checks decide_checks token_checks resource_checks sweep_checks
never_one l s (push t table p) e = false≢true (rw s at (turn_unsound (push_checks l t table p) ((push_turn l t table p LedgerUnsound).0 e)))
never_one l s (decide t d out) e = false≢true (rw s at (turn_unsound (decide_checks l t d out (reference_place l d)) ((decide_turn l t d out LedgerUnsound).0 e)))
never_one l s (token t table q) e = false≢true (rw s at (turn_unsound (token_checks l t table q (code_place l q)) ((token_turn l t table q LedgerUnsound).0 e)))
never_one l s (resource t q) e = false≢true (rw s at (turn_unsound (resource_checks l t q (token_place l q)) ((resource_turn l t q LedgerUnsound).0 e)))
never_one l s (sweep t) e = false≢true (rw s at (turn_unsound (sweep_checks l t) ((sweep_turn l t LedgerUnsound).0 e)))
