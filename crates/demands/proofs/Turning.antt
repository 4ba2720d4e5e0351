-- A list of checks and a list of rows in plain words give each row its turn alike, where each check says what its row does once those before it have passed.
use Prim.Native.Nat.{ℕ}
use mathlib.Core.Path.{◌≡◌, refl, sym, ap, ◌∙◌}
use mathlib.Core.Logic.{◌⊎◌, inl, inr, ⊎_elim, ◌↔◌}
use mathlib.Core.Bool.{Bool, true, false, not, ◌&&◌, true≢false}
use mathlib.Core.List.{List, [], ◌∷◌}
use borrow.Author.Tests.{not-true}
use Rattle.octets.proofs.Tests.{false_of}
use Rattle.desk.specs.Checks.{Check, ◌when◌}
use Rattle.desk.specs.declared.answer.Refusal.{Refusal}
use Rattle.desk.proofs.Turns.{Turn as Stop}
use Rattle.demands.specs.Rows.{Not, Row, ◌given◌, Turn}

-- row by row: the same number, and the test says what the condition does
abbrev Agree : List Check → List Row → Type 0
Agree [] [] = Unit {0}
Agree [] (r ∷ rs) = ⊥
Agree (c ∷ cs) [] = ⊥
Agree (c ∷ cs) (r ∷ rs) = (c.why ≡ r.why) × (((c.holds ≡ true) ↔ r.condition) × (c.holds ≡ false → Agree cs rs))

pub record Agreed (cs : List Check) (rs : List Row) : Type 0 where
  so : Agree cs rs

pub none : Agreed [] []
none = record { so = tt }

pub row : {why : Refusal} {b : Bool} {P : Type 0} {cs : List Check} {rs : List Row} → ((b ≡ true) ↔ P) → (b ≡ false → Agreed cs rs)
    → Agreed ((why when b) ∷ cs) ((why given P) ∷ rs)
row says more = record { so = (refl, (says, λ e. (more e).so)) }

turn_so : (why : Refusal) (cs : List Check) (rs : List Row) → Agree cs rs → Stop why cs ↔ Turn why rs
turn_so why [] [] a = (λ x. x, λ x. x)
turn_so why [] (r ∷ rs) a = absurd a
turn_so why (c ∷ cs) [] a = absurd a
turn_so why (c ∷ cs) (r ∷ rs) a = (
  λ u.
      ⊎_elim {C = Turn why (r ∷ rs)} (λ x. inl (a.1.0.0 x.0, sym a.0 ∙ x.1))
      (λ y. inr (λ p. true≢false (sym (a.1.0.1 p) ∙ y.0), (turn_so why cs rs (a.1.1 y.0)).0 y.1))
      u,
  λ u.
      ⊎_elim {C = Stop why (c ∷ cs)} (λ x. inl (a.1.0.1 x.0, a.0 ∙ x.1))
      (λ y.
      let e = false_of c.holds (λ p. y.0 (a.1.0.0 p)) in
      inr (e, (turn_so why cs rs (a.1.1 e)).1 y.1))
      u,
)

-- so a call that gives a row exactly when its check stops gives it exactly when its turn comes
pub turns_say : (Q : Type 0) (why : Refusal) (cs : List Check) (rs : List Row) → Agreed cs rs → (Q ↔ Stop why cs) → (Q ↔ Turn why rs)
turns_say Q why cs rs a f =
    let g = turn_so why cs rs a.so in
    (λ e. g.0 (f.0 e), λ u. f.1 (g.1 u))

-- ---- what a test says, from what its reverse does

pub not_says : (b : Bool) {P : Type 0} → ((b ≡ true) ↔ P) → ((not b ≡ true) ↔ Not P)
not_says b f = (λ e p. true≢false (sym (f.1 p) ∙ not-true b e), λ n. ap not (false_of b (λ e. n (f.0 e))))

true_of : (b : Bool) → (b ≡ false → ⊥) → b ≡ true
true_of true f = refl
true_of false f = absurd (f refl)

pub flip_says : (b : Bool) {P : Type 0} → ((b ≡ false) ↔ P) → ((b ≡ true) ↔ Not P)
flip_says b f = (λ e p. true≢false (sym e ∙ f.1 p), λ n. true_of b (λ e. n (f.0 e)))

-- one of two fails
pub either_fails : (a b : Bool) {P Q : Type 0} → ((a ≡ true) ↔ P) → ((b ≡ true) ↔ Q) → ((not (a && b) ≡ true) ↔ (Not P ⊎ Not Q))
either_fails true b {P} {Q} f g = (
  λ e. inr ((not_says b g).0 e),
  λ u. (not_says b g).1 (⊎_elim {C = Not Q} (λ n. absurd (n (f.0 refl))) (λ n. n) u),
)
either_fails false b {P} {Q} f g = (λ e. inl ((not_says false f).0 refl), λ u. refl)

-- of the one place of its kind: a test there says that there is such a place of which it is so
pub at_found : (b : ℕ → Bool) (S P : ℕ → Type 0) → ((k : ℕ) → (b k ≡ true) ↔ P k) → (place : ℕ) → S place → ((k : ℕ) → S k → place ≡ k)
    → (b place ≡ true) ↔ ((k : ℕ) × S k × P k)
at_found b S P says place here only = (λ e. (place, here, (says place).0 e), λ x. ap b (only x.0 x.1) ∙ (says x.0).1 x.2)
