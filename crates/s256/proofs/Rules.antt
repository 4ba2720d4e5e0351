-- What the rule says, and what its answer says.
use Prim.Native.Nat.{ℕ}
use mathlib.Core.Path.{◌≡◌, refl, sym, ap, ◌∙◌}
use mathlib.Core.Logic.{◌↔◌}
use mathlib.Core.Bool.{Bool, true, false, true≢false}
use mathlib.Core.List.{List}
use Rattle.octets.proofs.Parts.{same_eq, same_refl}
use Rattle.octets.proofs.Tests.{false_of}
use Rattle.forms.specs.Forms.{challenge_formed}
use Rattle.sha256.specs.Hash.{sha256}
use Rattle.sha256.proofs.Digests.{length_sha256}
use Rattle.s256.specs.Base64url.{base64url}
use Rattle.s256.specs.Rule.{matches, match_if, matching}
use Rattle.s256.specs.declared.Match.TheVariants.{Same, Differs}
use Rattle.s256.proofs.Texts.{base64url_challenge}

module _ (verifier challenge : List ℕ) where
  -- base64url without padding of SHA-256 of the verifier is the challenge
  pub matches_says : (matches verifier challenge ≡ true) ↔ (base64url (sha256 verifier) ≡ challenge)
  unfolding matches
  matches_says = (same_eq (base64url (sha256 verifier)) challenge, λ e. rw e (same_refl challenge))

  pub matching_same : matching verifier challenge ≡ Same → matches verifier challenge ≡ true
  unfolding matching
  matching_same e = from (matches verifier challenge) e
    where
      from : (b : Bool) → match_if b ≡ Same → b ≡ true
      from true e = refl
      from false e = cc

  pub matching_differs : matching verifier challenge ≡ Differs → matches verifier challenge ≡ false
  unfolding matching
  matching_differs e = from (matches verifier challenge) e
    where
      from : (b : Bool) → match_if b ≡ Differs → b ≡ false
      from false e = refl
      from true e = cc

  -- the answer is Same exactly where the text is the challenge
  pub same_says : (matching verifier challenge ≡ Same) ↔ (base64url (sha256 verifier) ≡ challenge)
  unfolding matching
  same_says = (λ e. matches_says.0 (matching_same e), λ e. ap match_if (matches_says.1 e))

  -- and Differs exactly where it is not
  pub differs_says : (matching verifier challenge ≡ Differs) ↔ (base64url (sha256 verifier) ≡ challenge → ⊥)
  unfolding matching
  differs_says = (
    λ e f. true≢false (sym (matches_says.1 f) ∙ matching_differs e),
    λ f. ap match_if (false_of (matches verifier challenge) (λ e. f (matches_says.0 e))),
  )

  -- what matches is a well-formed challenge
  pub matches_formed : matches verifier challenge ≡ true → challenge_formed challenge ≡ true
  matches_formed e = sym (ap challenge_formed (matches_says.0 e)) ∙ base64url_challenge (sha256 verifier) (length_sha256 verifier)
