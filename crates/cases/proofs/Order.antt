-- Where all else is in order the number is that of the one check, or 0.
use Prim.Native.Nat.{ℕ}
use mathlib.Core.Path.{◌≡◌, refl, sym, ap, ◌∙◌}
use mathlib.Core.Logic.{◌↔◌}
use mathlib.Core.Bool.{Bool, true, false, ◌&&◌, cond}
use mathlib.Core.List.{List, [], ◌∷◌}
use lib.Dec.{eqb}
use borrow.Author.Tests.{eqb-true, eqb-false, not-true}
use Rattle.octets.specs.Lists.{every}
use Rattle.octets.proofs.Tests.{both}
use Rattle.desk.specs.Answers.{number_of, done}
use Rattle.desk.specs.Checks.{Check, Verdict, accepted, stopped, first}
use Rattle.desk.specs.declared.answer.Refusal.{Refusal}
use Rattle.desk.proofs.Turns.{Passed, Turn, by_turns, number_by}
use Rattle.call_laws.proofs.Rows.{push_passed, push_turn, decide_passed, decide_turn, token_passed, token_turn, resource_passed, resource_turn, sweep_passed, sweep_turn}
use Rattle.history.specs.Runs.{Call, push, decide, token, resource, sweep, step, number_in}
use Rattle.history.proofs.Steps.{checks_of}
use Rattle.cases.specs.Order.{gives, passes, else_in_order}

-- the condition of the first check that gives this row
abbrev pub condition_of : Refusal → List Check → Bool
condition_of why [] = false
condition_of why (c ∷ cs) = cond (gives why c) c.holds (condition_of why cs)

-- the number that comes out, by that condition
abbrev pub number_if : Refusal → Bool → ℕ
number_if why true = number_of why
number_if why false = done

all_pass : (cs : List Check) → every passes cs ≡ true → first cs ≡ accepted
unfolding first
all_pass [] e = refl
all_pass (c ∷ cs) e = let (a, b) = both (passes c) _ e in rw (not-true c.holds a) (all_pass cs b)

pub else_number : (why : Refusal) (cs : List Check) → else_in_order why cs ≡ true → number_by (first cs) ≡ number_if why (condition_of why cs)
unfolding else_in_order first
else_number why [] e = refl
else_number why (c ∷ cs) e = go (gives why c) refl e (else_number why cs)
  where
    here : (h : Bool) → first cs ≡ accepted → number_of c.why ≡ number_of why → number_by (cond h (stopped c.why) (first cs)) ≡ number_if why h
    here true f n = n
    here false f n = rw f

    go : (b : Bool) → gives why c ≡ b → cond b (every passes cs) (passes c && else_in_order why cs) ≡ true
        → (else_in_order why cs ≡ true → number_by (first cs) ≡ number_if why (condition_of why cs))
        → number_by (cond c.holds (stopped c.why) (first cs)) ≡ number_if why (cond b c.holds (condition_of why cs))
    go true g e ih = here c.holds (all_pass cs e) (eqb-true (number_of c.why) (number_of why) g)
    go false g e ih = let (a, b) = both (passes c) _ e in rw (not-true c.holds a) (ih b)

-- and every other check has passed
none_holds : (why : Refusal) (cs : List Check) → every passes cs ≡ true → condition_of why cs ≡ false
none_holds why [] e = refl
none_holds why (c ∷ cs) e =
    let (a, b) = both (passes c) _ e in
    by (gives why c) (not-true c.holds a) (none_holds why cs b)
  where
    by : (b : Bool) → c.holds ≡ false → condition_of why cs ≡ false → cond b c.holds (condition_of why cs) ≡ false
    by true h k = h
    by false h k = k

pub else_passes : (why other : Refusal) (cs : List Check) → else_in_order why cs ≡ true → eqb (number_of why) (number_of other) ≡ false
    → condition_of other cs ≡ false
unfolding else_in_order
else_passes why other [] e n = refl
else_passes why other (c ∷ cs) e n = go (gives why c) (gives other c) refl refl e (else_passes why other cs)
  where
    go : (a b : Bool) → gives why c ≡ a → gives other c ≡ b → cond a (every passes cs) (passes c && else_in_order why cs) ≡ true
        → (else_in_order why cs ≡ true → eqb (number_of why) (number_of other) ≡ false → condition_of other cs ≡ false)
        → cond b c.holds (condition_of other cs) ≡ false
    go true true f g e ih =
        absurd
        (eqb-false (number_of why) (number_of other) n
        (sym (eqb-true (number_of c.why) (number_of why) f) ∙ eqb-true (number_of c.why) (number_of other) g))
    go true false f g e ih = none_holds other cs e
    go false true f g e ih = not-true c.holds (both (passes c) _ e).0
    go false false f g e ih = ih (both (passes c) _ e).1 n

-- a call's number is that of its checks
by_checks : (n : ℕ) (cs : List Check) → ((n ≡ done) ↔ Passed cs) → ((why : Refusal) → (n ≡ number_of why) ↔ Turn why cs) → n ≡ number_by (first cs)
by_checks n cs p t = by_turns cs (λ (v : Verdict). n ≡ number_by v) (λ why u. (t why).1 u) (λ ok. p.1 ok)

pub number_is : (l : List ℕ) (c : Call) → number_in (step l c).answer ≡ number_by (first (checks_of l c))
unfolding step
number_is l (push t table p) = by_checks _ _ (push_passed l t table p) (push_turn l t table p)
number_is l (decide t d out) = by_checks _ _ (decide_passed l t d out) (decide_turn l t d out)
number_is l (token t table q) = by_checks _ _ (token_passed l t table q) (token_turn l t table q)
number_is l (resource t q) = by_checks _ _ (resource_passed l t q) (resource_turn l t q)
number_is l (sweep t) = by_checks _ _ (sweep_passed l t) (sweep_turn l t)

-- so where all else is in order, it is the row's number or 0, by the row's condition
pub else_answers : (l : List ℕ) (c : Call) (why : Refusal) (b : Bool) → else_in_order why (checks_of l c) ≡ true → condition_of why (checks_of l c) ≡ b
    → number_in (step l c).answer ≡ number_if why b
else_answers l c why b e h = number_is l c ∙ else_number why (checks_of l c) e ∙ ap (number_if why) h
