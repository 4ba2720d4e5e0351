-- The profile's own limit of a reference, and the tables that say nothing of lifetimes.
use Rattle.std.specs.Prelude.{ℕ, ◌<◌, ◌≤◌, ◌≡◌, true, List}
use Rattle.octets.specs.Parts.{blank}
use Rattle.octets.specs.Spans.{field}
use Rattle.clients.specs.Limits.{reference_lifetime, lifetime_most, profile_reference}
use Rattle.clients.specs.Fields.{clients, client, lifetime_span}
use Rattle.clients.specs.Lifetime.{lifetime_of}
use Rattle.clients.specs.Sound.{sound}

-- bytes 52..54 of each record are zero, as document 01 had them
abbrev pub Unsaid : List ℕ → Type 0
Unsaid t = (k : ℕ) → k < clients t → field lifetime_span (client t k) ≡ blank lifetime_span.width

pub record Profile : Type 0 where
  -- "otherwise 1 to 599": what a sound table gives, whatever it says
  pub least : (t : List ℕ) → sound t ≡ true → (k : ℕ) → k < clients t → 1 ≤ lifetime_of (client t k)
  pub most : (t : List ℕ) → sound t ≡ true → (k : ℕ) → k < clients t → lifetime_of (client t k) ≤ lifetime_most
  -- "The profile's own limits are: reference under 600 seconds"
  pub under : (t : List ℕ) → sound t ≡ true → (k : ℕ) → k < clients t → lifetime_of (client t k) < profile_reference
  -- "0 meaning 90": a table that says nothing gives 90 seconds everywhere
  pub unsaid : (t : List ℕ) → Unsaid t → (k : ℕ) → k < clients t → lifetime_of (client t k) ≡ reference_lifetime
