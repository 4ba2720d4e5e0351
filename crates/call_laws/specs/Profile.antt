-- The profile's own limit of a reference, whatever the table says.
use Rattle.std.specs.Prelude.{ℕ, ◌<◌, ◌≤◌, ◌≡◌, List}
use Rattle.clients.specs.Limits.{profile_reference}
use Rattle.desk.specs.Answers.{done}
use Rattle.desk.specs.Requests.{PushRequest}
use Rattle.desk.specs.Push.{lifetime, push}

-- "The profile's own limits are: reference under 600 seconds": every push that is accepted, with any table, gives its reference less, and some
pub record ReferenceProfile : Type 0 where
  pub least : (l : List ℕ) (t : ℕ) (table : List ℕ) (p : PushRequest) → (push l t table p).answer.number ≡ done → 1 ≤ lifetime table p
  pub under : (l : List ℕ) (t : ℕ) (table : List ℕ) (p : PushRequest) → (push l t table p).answer.number ≡ done → lifetime table p < profile_reference
