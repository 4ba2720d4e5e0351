-- Demand 2, a field a sentence: each call on every ledger, every client table and every request.
use Rattle.std.specs.Prelude.{ℕ, ◌≡◌, ◌↔◌, List}
use Rattle.desk.specs.Answers.{number_of, done}
use Rattle.desk.specs.Requests.{TokenRequest}
use Rattle.desk.specs.declared.answer.Refusal.{Refusal}
use Rattle.call_laws.specs.Accepted.{StartAccepted, PushAccepted, DecideAccepted, TokenAccepted, ResourceAccepted, SweepAccepted, IntrospectAccepted, PendingAccepted}
use Rattle.demands.specs.Calls.{Call, start, push, decide, token, resource, sweep, introspect, Left, leaves, pending}
use Rattle.demands.specs.Rows.{Turn, rows}
use Rattle.demands.specs.Afterwards.{AfterStart, AfterPush, AfterDecide, AfterToken, AfterResource, AfterSweep, AfterIntrospect, AfterPending, AfterSecondUse}
use Rattle.desk.specs.declared.answer.Refusal.TheVariants.{CodeRedeemed}

-- what "document 01" asks of a call, in plain words
abbrev pub Allowed : List ℕ → List ℕ → Call → Type 0
Allowed l table start = StartAccepted l
Allowed l table (push t p) = PushAccepted l t table p
Allowed l table (decide t d out) = DecideAccepted l t d out
Allowed l table (token t q) = TokenAccepted l t table q
Allowed l table (resource t q) = ResourceAccepted l t q
Allowed l table (sweep t) = SweepAccepted l t
Allowed l table (pending t p out) = PendingAccepted l t p out
Allowed l table (introspect t v out) = IntrospectAccepted l t v out

-- and what an accepted call leaves
abbrev pub After : List ℕ → List ℕ → Call → Left → Type 0
After l table start a = AfterStart l a
After l table (push t p) a = AfterPush l t table p a
After l table (decide t d out) a = AfterDecide l t d out a
After l table (token t q) a = AfterToken l t q a
After l table (resource t q) a = AfterResource l t q a
After l table (sweep t) a = AfterSweep l t a
After l table (pending t p out) a = AfterPending l p out a
After l table (introspect t v out) a = AfterIntrospect l t v out a

pub record Demand2 : Type 0 where
  -- "A call is accepted exactly when the FAPI 2.0 Security Profile, .. as condensed in document 01, allow it."
  pub accepted : (l table : List ℕ) (c : Call) → ((leaves l table c).number ≡ done) ↔ Allowed l table c
  -- and is refused with the number of a row "exactly when its turn comes and" its condition holds
  pub refused : (l table : List ℕ) (c : Call) (why : Refusal) → ((leaves l table c).number ≡ number_of why) ↔ Turn why (rows l table c)
  -- "The answer and the ledger afterwards are the ones written there."
  pub afterwards : (l table : List ℕ) (c : Call) → (leaves l table c).number ≡ done → After l table c (leaves l table c)
  -- document 02, Q-3: "When 15 is due, the record now becomes free and the clock becomes now."
  pub second_use : (l table : List ℕ) (t : ℕ) (q : TokenRequest) → Turn CodeRedeemed (rows l table (token t q)) → AfterSecondUse l t q (leaves l table (token t q))
