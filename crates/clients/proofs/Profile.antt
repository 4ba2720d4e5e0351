-- The profile's own limit of a reference: what a table gives.
use Rattle.std.specs.Prelude.{Some}
use Prim.Native.Nat.{ℕ, ◌<◌, ◌≤◌}
use native.Mathlib.Omega.{arith}
use mathlib.Core.Path.{◌≡◌, refl, ap, ◌∙◌}
use mathlib.Core.Bool.{Bool, true, false}
use mathlib.Core.List.{List}
use lib.Dec.{eqb, lit<}
use borrow.Author.Tests.{eqb-true, eqb-false}
use Rattle.octets.specs.Numbers.{num_from, num}
use Rattle.octets.specs.Parts.{blank}
use Rattle.clients.specs.Limits.{reference_lifetime, lifetime_most, profile_reference}
use Rattle.clients.specs.Fields.{clients, client, lifetime_span, lifetime_said}
use Rattle.clients.specs.Lifetime.{lifetime_of}
use Rattle.clients.specs.Sound.{sound}
use Rattle.clients.specs.Known.{known}
use Rattle.clients.specs.Profile.{Profile}
use Rattle.clients.proofs.Laws.{of_sound, known_at}

pub reference_profile : lifetime_most < profile_reference
reference_profile = lit< tt

-- a record that says nothing gives 90 seconds, one that says some gives those
pub lifetime_unsaid : (c : List ℕ) → lifetime_said c ≡ 0 → lifetime_of c ≡ reference_lifetime
unfolding lifetime_of
lifetime_unsaid c e = rw e

pub lifetime_said_lem : (c : List ℕ) → eqb (lifetime_said c) 0 ≡ false → lifetime_of c ≡ lifetime_said c
unfolding lifetime_of
lifetime_said_lem c e = rw e

lifetime_least : (c : List ℕ) → 1 ≤ lifetime_of c
lifetime_least c = by (eqb (lifetime_said c) 0) refl
  where
    by : (b : Bool) → eqb (lifetime_said c) 0 ≡ b → 1 ≤ lifetime_of c
    by true e = omega (arith, lifetime_unsaid c (eqb-true _ _ e))
    by false e = let n = eqb-false (lifetime_said c) 0 e in omega (arith, lifetime_said_lem c e)

lifetime_most_lem : (c : List ℕ) → lifetime_said c ≤ lifetime_most → lifetime_of c ≤ lifetime_most
lifetime_most_lem c h = by (eqb (lifetime_said c) 0) refl
  where
    by : (b : Bool) → eqb (lifetime_said c) 0 ≡ b → lifetime_of c ≤ lifetime_most
    by true e = omega (arith, lifetime_unsaid c (eqb-true _ _ e))
    by false e = omega (arith, lifetime_said_lem c e)

pub given_most : (t : List ℕ) → sound t ≡ true → (k : ℕ) → k < clients t → lifetime_of (client t k) ≤ lifetime_most
given_most t s k h = lifetime_most_lem (client t k) ((of_sound t s).lifetimes k h)

pub given_under : (t : List ℕ) → sound t ≡ true → (k : ℕ) → k < clients t → lifetime_of (client t k) < profile_reference
given_under t s k h = omega (arith, given_most t s k h, reference_profile)

-- of the client that check 4 finds
pub known_most : (t v key : List ℕ) (k : ℕ) → sound t ≡ true → known t v key ≡ Some k → lifetime_of (client t k) ≤ lifetime_most
known_most t v key k s e = given_most t s k (known_at t v key k e).0.inside

num_blank : num (blank lifetime_span.width) ≡ 0
unfolding num num_from blank
num_blank = refl

pub profile : Profile
profile =
    record {
      least = λ t s k h. lifetime_least (client t k);
      most = given_most;
      under = given_under;
      unsaid = λ t u k h. lifetime_unsaid (client t k) (ap num (u k h) ∙ num_blank);
    }
