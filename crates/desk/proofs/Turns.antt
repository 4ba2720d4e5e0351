-- "The first check that fails gives the answer", and a row is "given exactly when its turn comes": one law over any list of checks.
use Prim.Native.Nat.{ℕ, zero, suc, ◌≤◌}
use native.Mathlib.Omega.{arith}
use mathlib.Core.Path.{◌≡◌, refl, sym, ap, ◌∙◌}
use mathlib.Core.Logic.{◌≢◌, ◌⊎◌, inl, inr, ⊎_elim, ◌↔◌}
use mathlib.Core.Bool.{Bool, true, false, cond, true≢false, false≢true}
use mathlib.Core.List.{List, [], ◌∷◌}
use lib.Dec.{lit≤}
use lib.ListN.{get_or, drop}
use Rattle.desk.specs.Answers.{number_of, done}
use Rattle.desk.specs.Checks.{Check, ◌when◌, Verdict, accepted, stopped, first}
use Rattle.desk.specs.declared.answer.Refusal.{Refusal}
use Rattle.desk.specs.declared.answer.Refusal.TheVariants.{LedgerUnsound, TimeWrong, TableUnsound, ClientUnknown, IllFormed, ScopeRefused, FreshTaken, LedgerFull, NumbersSpent, NoReference, RecordExpired, NoHolder, NoKey, NoCode, CodeRedeemed, VerifierDiffers, NoToken, KeyDiffers, HolderDiffers, OutputShort}

-- ---- what a reader has to know of a list of checks

-- no condition holds
abbrev pub Passed : List Check → Type 0
Passed [] = Unit {0}
Passed (c ∷ cs) = (c.holds ≡ false) × Passed cs

-- the turn of a row comes and its condition holds: every check before it has passed
abbrev pub Turn : Refusal → List Check → Type 0
Turn why [] = ⊥
Turn why (c ∷ cs) = ((c.holds ≡ true) × (c.why ≡ why)) ⊎ ((c.holds ≡ false) × Turn why cs)

-- ---- the law

refused_accepted : (why : Refusal) → stopped why ≡ accepted → ⊥
refused_accepted why e = let z : ◌≡◌ {A = ℕ} 0 1 = cc in omega arith

passed_by : (b : Bool) (w : Refusal) (v : Verdict) (P : Type 0) → ((v ≡ accepted) ↔ P) → (cond b (stopped w) v ≡ accepted) ↔ ((b ≡ false) × P)
passed_by true w v P ih = (λ e. absurd (refused_accepted w e), λ f. absurd (true≢false f.0))
passed_by false w v P ih = (λ e. (refl, ih.0 e), λ f. ih.1 f.1)

turn_by : (b : Bool) (w why : Refusal) (v : Verdict) (P : Type 0) → ((v ≡ stopped why) ↔ P)
    → (cond b (stopped w) v ≡ stopped why) ↔ (((b ≡ true) × (w ≡ why)) ⊎ ((b ≡ false) × P))
turn_by true w why v P ih = (
  λ e. inl (refl, cc),
  λ f. ⊎_elim {C = stopped w ≡ stopped why} (λ x. ap stopped x.1) (λ y. absurd (true≢false y.0)) f,
)
turn_by false w why v P ih = (
  λ e. inr (refl, ih.0 e),
  λ f. ⊎_elim {C = v ≡ stopped why} (λ x. absurd (false≢true x.0)) (λ y. ih.1 y.1) f,
)

-- all pass exactly when no condition holds
pub first_passed : (cs : List Check) → (first cs ≡ accepted) ↔ Passed cs
unfolding first
first_passed [] = (λ e. tt, λ p. refl)
first_passed (c ∷ cs) = passed_by c.holds c.why (first cs) (Passed cs) (first_passed cs)

-- a row is given exactly when its turn comes and its condition holds
pub first_turn : (cs : List Check) (why : Refusal) → (first cs ≡ stopped why) ↔ Turn why cs
unfolding first
first_turn [] why = (λ e. refused_accepted why (sym e), λ p. absurd p)
first_turn (c ∷ cs) why = turn_by c.holds c.why why (first cs) (Turn why cs) (first_turn cs why)

-- so what holds after every refusal and after an acceptance holds of the call
pub by_turns : (cs : List Check) (P : Verdict → Type 0) → ((why : Refusal) → Turn why cs → P (stopped why)) → (Passed cs → P accepted) → P (first cs)
by_turns cs P f g = go (first cs) refl
  where
    go : (v : Verdict) → first cs ≡ v → P v
    go accepted e = g ((first_passed cs).0 e)
    go (stopped why) e = f why ((first_turn cs why).0 e)

-- ---- the law as a function's proof walks it, one check after the other

-- the check at place n; behind the last, one that passes
abbrev pub nth : ℕ → List Check → Check
nth n cs = get_or cs n (LedgerUnsound when false)

-- the turn has come to the check at place n: those before it have passed
abbrev pub Come : ℕ → List Check → Type 0
Come n cs = first cs ≡ first (drop n cs)

next : (n : ℕ) (cs : List Check) → (nth n cs).holds ≡ false → first (drop n cs) ≡ first (drop (suc n) cs)
unfolding first
next zero [] e = refl
next (suc n) [] e = refl
next zero (c ∷ cs) e = rw e
next (suc n) (c ∷ cs) e = next n cs e

here : (n : ℕ) (cs : List Check) → (nth n cs).holds ≡ true → first (drop n cs) ≡ stopped (nth n cs).why
unfolding first
here zero [] e = absurd (false≢true e)
here (suc n) [] e = absurd (false≢true e)
here zero (c ∷ cs) e = rw e
here (suc n) (c ∷ cs) e = here n cs e

-- it passes, and the turn comes to the next
pub passes : (n : ℕ) (cs : List Check) → Come n cs → (nth n cs).holds ≡ false → Come (suc n) cs
passes n cs t e = t ∙ next n cs e

-- it fails, and gives the answer
pub stops : (n : ℕ) (cs : List Check) → Come n cs → (nth n cs).holds ≡ true → first cs ≡ stopped (nth n cs).why
stops n cs t e = t ∙ here n cs e

-- none is left
pub all_pass : (n : ℕ) (cs : List Check) → Come n cs → drop n cs ≡ [] → first cs ≡ accepted
unfolding first
all_pass n cs t e = t ∙ ap first e

-- ---- the same in the numbers of the table

-- the rows by their numbers; no row has the number 0, so any may stand there
rows : List Refusal
rows =
    LedgerUnsound
    ∷ LedgerUnsound
    ∷ TimeWrong
    ∷ TableUnsound
    ∷ ClientUnknown
    ∷ IllFormed
    ∷ ScopeRefused
    ∷ FreshTaken
    ∷ LedgerFull
    ∷ NumbersSpent
    ∷ NoReference
    ∷ RecordExpired
    ∷ NoHolder
    ∷ NoKey
    ∷ NoCode
    ∷ CodeRedeemed
    ∷ VerifierDiffers
    ∷ NoToken
    ∷ KeyDiffers
    ∷ HolderDiffers
    ∷ OutputShort
    ∷ []

row_of : (why : Refusal) → get_or rows (number_of why) LedgerUnsound ≡ why
unfolding rows
row_of LedgerUnsound = refl
row_of TimeWrong = refl
row_of TableUnsound = refl
row_of ClientUnknown = refl
row_of IllFormed = refl
row_of ScopeRefused = refl
row_of FreshTaken = refl
row_of LedgerFull = refl
row_of NumbersSpent = refl
row_of NoReference = refl
row_of RecordExpired = refl
row_of NoHolder = refl
row_of NoKey = refl
row_of NoCode = refl
row_of CodeRedeemed = refl
row_of VerifierDiffers = refl
row_of NoToken = refl
row_of KeyDiffers = refl
row_of HolderDiffers = refl
row_of OutputShort = refl

-- no two rows have the same number
pub number_row : (a b : Refusal) → number_of a ≡ number_of b → a ≡ b
number_row a b e = sym (row_of a) ∙ ap (λ (n : ℕ). get_or rows n LedgerUnsound) e ∙ row_of b

-- and none has the number of "done"
pub number_least : (why : Refusal) → 1 ≤ number_of why
number_least LedgerUnsound = lit≤ tt
number_least TimeWrong = lit≤ tt
number_least TableUnsound = lit≤ tt
number_least ClientUnknown = lit≤ tt
number_least IllFormed = lit≤ tt
number_least ScopeRefused = lit≤ tt
number_least FreshTaken = lit≤ tt
number_least LedgerFull = lit≤ tt
number_least NumbersSpent = lit≤ tt
number_least NoReference = lit≤ tt
number_least RecordExpired = lit≤ tt
number_least NoHolder = lit≤ tt
number_least NoKey = lit≤ tt
number_least NoCode = lit≤ tt
number_least CodeRedeemed = lit≤ tt
number_least VerifierDiffers = lit≤ tt
number_least NoToken = lit≤ tt
number_least KeyDiffers = lit≤ tt
number_least HolderDiffers = lit≤ tt
number_least OutputShort = lit≤ tt

pub number_refused : (why : Refusal) → number_of why ≢ done
number_refused why e = omega (arith, number_least why)

-- the number that a list of checks ends with
abbrev pub number_by : Verdict → ℕ
number_by accepted = done
number_by (stopped why) = number_of why

pub number_accepted : (v : Verdict) → number_by v ≡ done → v ≡ accepted
number_accepted accepted e = refl
number_accepted (stopped why) e = absurd (number_refused why e)

pub number_stopped : (v : Verdict) (why : Refusal) → number_by v ≡ number_of why → v ≡ stopped why
number_stopped accepted why e = absurd (number_refused why (sym e))
number_stopped (stopped w) why e = ap stopped (number_row w why e)

-- of a call that answers n after these checks: n is 0 exactly when all pass, and a row's number exactly when its turn comes
module _ (n : ℕ) (cs : List Check) (is : n ≡ number_by (first cs)) where
  pub passes_exactly : (n ≡ done) ↔ Passed cs
  passes_exactly = (
    λ e. (first_passed cs).0 (number_accepted (first cs) (sym is ∙ e)),
    λ p. is ∙ ap number_by ((first_passed cs).1 p),
  )

  pub turns_exactly : (why : Refusal) → (n ≡ number_of why) ↔ Turn why cs
  turns_exactly why = (
    λ e. (first_turn cs why).0 (number_stopped (first cs) why (sym is ∙ e)),
    λ p. is ∙ ap number_by ((first_turn cs why).1 p),
  )
