-- The profile's own limit of a reference: a table that check 3 passes gives less.
use Prim.Native.Nat.{ℕ, ◌<◌, ◌≤◌}
use mathlib.Core.Path.{◌≡◌}
use mathlib.Core.List.{List}
use Rattle.clients.specs.Fields.{clients}
use Rattle.clients.specs.Known.{place_of}
use Rattle.clients.specs.Limits.{profile_reference}
use Rattle.clients.proofs.Profile.{profile}
use Rattle.desk.specs.Answers.{done}
use Rattle.desk.specs.Outcome.{Outcome}
use Rattle.desk.specs.Push.{lifetime, push}
use Rattle.desk.specs.Requests.{PushRequest}
use Rattle.desk.specs.declared.answer.Answer.{Answer}
use Rattle.desk.proofs.Turns.{number_refused}
use Rattle.call_laws.specs.Profile.{ReferenceProfile}
use Rattle.call_laws.proofs.Facts.{PushFacts, push_facts}
use Rattle.call_laws.proofs.Readings.{known_is}
use Rattle.call_laws.proofs.Rows.{push_cases}

module _ (l : List ℕ) (t : ℕ) (table : List ℕ) (p : PushRequest) where
  client_inside : PushFacts l t table p → place_of table p.client < clients table
  client_inside f = (known_is table p.client p.key f.known).inside

  pub lives_least : PushFacts l t table p → 1 ≤ lifetime table p
  lives_least f = profile.least table f.table_sound (place_of table p.client) (client_inside f)

  pub lives_under : PushFacts l t table p → lifetime table p < profile_reference
  lives_under f = profile.under table f.table_sound (place_of table p.client) (client_inside f)

  -- what the facts of a push say, an accepted one has
  accepted_has : {A : Type 0} → (PushFacts l t table p → A) → (push l t table p).answer.number ≡ done → A
  accepted_has {A} g =
      push_cases l t table p (λ (o : Outcome Answer). o.answer.number ≡ done → A) (λ why u e. absurd (number_refused why e))
      (λ ok e. g (push_facts l t table p ok))

pub reference_profile : ReferenceProfile
reference_profile =
    record {
      least = λ l t table p. accepted_has l t table p (lives_least l t table p);
      under = λ l t table p. accepted_has l t table p (lives_under l t table p);
    }
