-- The holder chooses seeing the request: what pending shows is what a decide on that reference allows, and nothing is shown that could not be allowed.
use Rattle.std.specs.Prelude.{ℕ, ◌≤◌, ◌≡◌, ◌≢◌, Bool, true, List, length, take}
use Rattle.desk.specs.Limits.{output_least}
use Rattle.desk.specs.Answers.{done}
use Rattle.desk.specs.Outcome.{Outcome}
use Rattle.desk.specs.Requests.{DecideRequest, PendingRequest}
use Rattle.desk.specs.Decide.{decide}
use Rattle.desk.specs.Pending.{pending}
use Rattle.desk.specs.declared.answer.Decided.{Decided}
use Rattle.call_laws.specs.Conditions.{FreshValue}

-- the decide on what was shown: the same reference and client id, whatever the choice, the holder and the fresh value
abbrev pub deciding : PendingRequest → Bool → ℕ → List ℕ → DecideRequest
deciding p choice who fresh = record { reference = p.reference; client = p.client; yes = choice; holder = who; fresh = fresh }

abbrev pub Accepted : Outcome Decided → Type 0
Accepted o = o.answer.answer.number ≡ done

-- the same grant number, redirect length and redirect, with the zeros behind it
pub record SameGrant (seen allowed : Outcome Decided) : Type 0 where
  pub grant_is : allowed.answer.answer.grant ≡ seen.answer.answer.grant
  pub length_is : allowed.answer.length ≡ seen.answer.length
  pub redirect_is : take output_least allowed.output ≡ take output_least seen.output

pub record Shown : Type 0 where
  -- pending leaves the ledger as it was, so a decide that follows it meets the ledger that it saw
  pub ledger_stays : (l : List ℕ) (t : ℕ) (p : PendingRequest) (seen : List ℕ) → (pending l t p seen).ledger ≡ l
  -- on that ledger every accepted decide on what was shown, at any time, on yes and on no, is of the grant shown and hands out the redirect shown
  pub grant_shown : (l : List ℕ) (t u : ℕ) (p : PendingRequest) (choice : Bool) (who : ℕ) (fresh seen out : List ℕ)
      → Accepted (pending l t p seen) → Accepted (decide l u (deciding p choice who fresh) out)
      → SameGrant (pending l t p seen) (decide l u (deciding p choice who fresh) out)
  -- and a yes allows the scope shown
  pub scope_shown : (l : List ℕ) (t u : ℕ) (p : PendingRequest) (who : ℕ) (fresh seen out : List ℕ)
      → Accepted (pending l t p seen) → Accepted (decide l u (deciding p true who fresh) out)
      → (decide l u (deciding p true who fresh) out).answer.answer.scope ≡ (pending l t p seen).answer.answer.scope
  -- what is shown can be allowed there and then: only 20, 12 and 7 are left to decide's checks
  pub can_be_allowed : (l : List ℕ) (t : ℕ) (p : PendingRequest) (who : ℕ) (fresh seen out : List ℕ)
      → Accepted (pending l t p seen) → output_least ≤ length out → who ≢ 0 → FreshValue l fresh → Accepted (decide l t (deciding p true who fresh) out)
  -- and what can be decided can be shown: only 20 is left to pending's
  pub can_be_shown : (l : List ℕ) (t : ℕ) (p : PendingRequest) (choice : Bool) (who : ℕ) (fresh seen out : List ℕ)
      → Accepted (decide l t (deciding p choice who fresh) out) → output_least ≤ length seen → Accepted (pending l t p seen)
