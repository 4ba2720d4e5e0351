-- What the forms say of the length, of the beginning and of every byte, and what a check's answer says.
use Prim.Native.Nat.{ℕ, ◌<◌, ◌≤◌}
use native.Mathlib.Omega.{arith}
use mathlib.Core.Path.{◌≡◌, refl}
use mathlib.Core.Logic.{◌↔◌, ◌⊎◌, inl, inr, ⊎_elim}
use mathlib.Core.Bool.{Bool, true, false, ◌&&◌, ◌||◌, or-true}
use mathlib.Core.List.{List}
use lib.Dec.{eqb}
use lib.ListN.{length, get_or, take}
use borrow.Author.Tests.{leb-true, le-leb, eqb-true, eq-eqb}
use Rattle.octets.specs.Lists.{every}
use Rattle.octets.proofs.Lists.{every_at, every_of}
use Rattle.octets.proofs.Tests.{both, both_true}
use Rattle.octets.proofs.Parts.{same_eq, same_refl}
use Rattle.forms.specs.Limits.{redirect_least, redirect_most, redirect_prefix, challenge_length, verifier_least, verifier_most}
use Rattle.forms.specs.Forms.{between, visible, url_safe, unreserved, begins, redirect_formed, challenge_formed, verifier_formed, form_if, redirect_form, challenge_form, verifier_form}
use Rattle.forms.specs.Plain.{Visible, UrlSafe, Unreserved, RedirectWell, ChallengeWell, VerifierWell}
use Rattle.forms.specs.declared.Form.TheVariants.{Well, Ill}

-- ---- what a test says, from what its parts say

either : (a b : Bool) → (a || b) ≡ true → (a ≡ true) ⊎ (b ≡ true)
either true b e = inl refl
either false b e = inr e

and_says : {a b : Bool} {P Q : Type 0} → (a ≡ true) ↔ P → (b ≡ true) ↔ Q → ((a && b) ≡ true) ↔ (P × Q)
and_says {a} {b} p q = (λ e. (p.0 (both a b e).0, q.0 (both a b e).1), λ f. both_true a b (p.1 f.0) (q.1 f.1))

or_says : {a b : Bool} {P Q : Type 0} → (a ≡ true) ↔ P → (b ≡ true) ↔ Q → ((a || b) ≡ true) ↔ (P ⊎ Q)
or_says {a} {b} p q = (
  λ e. ⊎_elim (λ x. inl (p.0 x)) (λ y. inr (q.0 y)) (either a b e),
  λ f. ⊎_elim (λ x. rw (p.1 x)) (λ y. rw (q.1 y) (or-true a)) f,
)

between_says : (a b x : ℕ) → (between a b x ≡ true) ↔ ((a ≤ x) × (x ≤ b))
between_says a b x = and_says (leb-true a x, le-leb a x) (leb-true x b, le-leb x b)

eqb_says : (x y : ℕ) → (eqb x y ≡ true) ↔ (x ≡ y)
eqb_says x y = (eqb-true x y, eq-eqb x y)

every_says : (q : ℕ → Bool) (P : ℕ → Type 0) → ((x : ℕ) → (q x ≡ true) ↔ P x)
    → (s : List ℕ) → (every q s ≡ true) ↔ ((i : ℕ) → i < length s → P (get_or s i 0))
every_says q P p s = (λ e i h. (p (get_or s i 0)).0 (every_at q s 0 e i h), λ f. every_of q s 0 (λ i h. (p (get_or s i 0)).1 (f i h)))

begins_says : (p s : List ℕ) → (begins p s ≡ true) ↔ (take (length p) s ≡ p)
begins_says p s = (same_eq (take (length p) s) p, λ e. rw e (same_refl p))

-- ---- the classes

pub visible_says : (x : ℕ) → (visible x ≡ true) ↔ Visible x
unfolding visible
visible_says x = between_says 0x21 0x7E x

pub url_safe_says : (x : ℕ) → (url_safe x ≡ true) ↔ UrlSafe x
unfolding url_safe
url_safe_says x =
    or_says (or_says (or_says (or_says (between_says 0x41 0x5A x) (between_says 0x61 0x7A x)) (between_says 0x30 0x39 x)) (eqb_says x 0x2D)) (eqb_says x 0x5F)

pub unreserved_says : (x : ℕ) → (unreserved x ≡ true) ↔ Unreserved x
unfolding unreserved
unreserved_says x = or_says (or_says (url_safe_says x) (eqb_says x 0x2E)) (eqb_says x 0x7E)

pub url_safe_range : (x : ℕ) → url_safe x ≡ true → (0x2D ≤ x) × (x ≤ 0x7A)
url_safe_range x e =
    ⊎_elim
    (⊎_elim
    (⊎_elim (⊎_elim (λ h. (omega arith, omega arith)) (λ h. (omega arith, omega arith))) (λ h. (omega arith, omega arith)))
    (λ h. (omega arith, omega arith)))
    (λ h. (omega arith, omega arith))
    ((url_safe_says x).0 e)

-- ---- the forms, for every byte

pub redirect_says : (s : List ℕ) → (redirect_formed s ≡ true) ↔ RedirectWell s
unfolding redirect_formed
redirect_says s =
    let (of, to) = and_says (between_says redirect_least redirect_most (length s)) (and_says (begins_says redirect_prefix s) (every_says visible Visible visible_says s)) in (
      λ e. let ((a, b), (c, d)) = of e in record { least = a; most = b; begins_so = c; each = d },
      λ w. to ((w.least, w.most), (w.begins_so, w.each)),
    )

pub challenge_says : (s : List ℕ) → (challenge_formed s ≡ true) ↔ ChallengeWell s
unfolding challenge_formed
challenge_says s =
    let (of, to) = and_says (eqb_says (length s) challenge_length) (every_says url_safe UrlSafe url_safe_says s) in (
      λ e. let (a, b) = of e in record { exact = a; each = b },
      λ w. to (w.exact, w.each),
    )

pub verifier_says : (s : List ℕ) → (verifier_formed s ≡ true) ↔ VerifierWell s
unfolding verifier_formed
verifier_says s =
    let (of, to) = and_says (between_says verifier_least verifier_most (length s)) (every_says unreserved Unreserved unreserved_says s) in (
      λ e. let ((a, b), c) = of e in record { least = a; most = b; each = c },
      λ w. to ((w.least, w.most), w.each),
    )

pub redirect_length_lem : (s : List ℕ) → redirect_formed s ≡ true → (redirect_least ≤ length s) × (length s ≤ redirect_most)
redirect_length_lem s e = let w = (redirect_says s).0 e in (w.least, w.most)

pub challenge_length_lem : (s : List ℕ) → challenge_formed s ≡ true → length s ≡ challenge_length
challenge_length_lem s e = ((challenge_says s).0 e).exact

-- the characters of a challenge are ASCII, and none is zero
pub challenge_ascii : (s : List ℕ) → challenge_formed s ≡ true → (i : ℕ) → i < length s → (0 < get_or s i 0) × (get_or s i 0 < 128)
challenge_ascii s e i h =
    let r = url_safe_range (get_or s i 0) ((url_safe_says _).1 (((challenge_says s).0 e).each i h)) in
    (omega arith, omega arith)

-- ---- what a check's answer says

well : (b : Bool) → form_if b ≡ Well → b ≡ true
well true e = refl
well false e = let z : ◌≡◌ {A = ℕ} 0 1 = cc in absurd (omega arith)

ill : (b : Bool) → form_if b ≡ Ill → b ≡ false
ill false e = refl
ill true e = let z : ◌≡◌ {A = ℕ} 0 1 = cc in absurd (omega arith)

module _ (s : List ℕ) where
  pub redirect_well : redirect_form s ≡ Well → redirect_formed s ≡ true
  unfolding redirect_form
  redirect_well e = well (redirect_formed s) e

  pub redirect_ill : redirect_form s ≡ Ill → redirect_formed s ≡ false
  unfolding redirect_form
  redirect_ill e = ill (redirect_formed s) e

  pub challenge_well : challenge_form s ≡ Well → challenge_formed s ≡ true
  unfolding challenge_form
  challenge_well e = well (challenge_formed s) e

  pub challenge_ill : challenge_form s ≡ Ill → challenge_formed s ≡ false
  unfolding challenge_form
  challenge_ill e = ill (challenge_formed s) e

  pub verifier_well : verifier_form s ≡ Well → verifier_formed s ≡ true
  unfolding verifier_form
  verifier_well e = well (verifier_formed s) e

  pub verifier_ill : verifier_form s ≡ Ill → verifier_formed s ≡ false
  unfolding verifier_form
  verifier_ill e = ill (verifier_formed s) e
