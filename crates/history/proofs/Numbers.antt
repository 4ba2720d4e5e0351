-- The grant numbers of accepted pushes are 1, 2, 3 and so on.
use Prim.Native.Nat.{ℕ, suc, ◌+◌, ◌*◌}
use native.Mathlib.Omega.{arith}
use mathlib.Core.Path.{◌≡◌, refl, ap, ap₂, ◌∙◌}
use mathlib.Core.Bool.{false}
use mathlib.Core.List.{List, [], ◌∷◌, ◌++◌}
use lib.ListN.{length, length-append}
use Rattle.octets.specs.Lists.{some, tabulate}
use Rattle.octets.specs.Parts.{blank}
use Rattle.octets.proofs.Parts.{length_blank}
use Rattle.octets.proofs.Numbers.{Octets}
use Rattle.ledger.specs.Fields.{next_number, records}
use Rattle.ledger_laws.proofs.Heads.{next_is}
use Rattle.desk.specs.Start.{empty_ledger}
use Rattle.desk.specs.Push.{push_at}
use Rattle.desk.specs.Token.{token_at}
use Rattle.desk.proofs.Turns.{Passed}
use Rattle.call_laws.proofs.Facts.{push_facts, decide_facts, token_facts, second_use_facts, resource_facts, sweep_facts}
use Rattle.history.specs.Runs.{Call, push, decide, token, resource, sweep, Typed, Step, step, started}
use Rattle.history.specs.Events.{Push, Event, event, events_of, is, listed}
use Rattle.history.specs.Histories.{numbers_of}
use Rattle.history.proofs.Steps.{checks_of, refusal, acceptance, left, step_cases, decide_branch}
use Rattle.history.proofs.Events.{listed_in, listed_out, dropped_none, refused_none, consent_events, decline_events}
use Rattle.history.proofs.Effects.{pushes, consents, declines, redeems, ends, ticks, sweeps}
use Rattle.history.proofs.Runs.{Good}

-- the numbers given so far, and the next
pub record Numbered (l xs : List ℕ) : Type 0 where
  pub next : next_number l ≡ length xs + 1
  pub are : xs ≡ tabulate (λ (i : ℕ). i + 1) (length xs)

numbered_more : (l m xs : List ℕ) (g : ℕ) → g ≡ next_number l → next_number m ≡ next_number l + 1 → Numbered l xs → Numbered m (xs ++ (g ∷ []))
unfolding tabulate
numbered_more l m xs g e f x =
    let n : length (xs ++ (g ∷ [])) ≡ suc (length xs) = simp length-append (omega arith) in
    let a = x.next in
    let b : g ≡ length xs + 1 = omega arith in
    record { next = omega arith; are = rw n (ap₂ (λ (ys : List ℕ) (y : ℕ). ys ++ (y ∷ [])) x.are b) }

-- a step without a push
numbered_same : (l m : List ℕ) (es fs : List Event) → some (is Push) fs ≡ false → next_number m ≡ next_number l → Numbered l (numbers_of es) → Numbered m (numbers_of (es ++ fs))
numbered_same l m es fs e f x = rw (listed_out (is Push) (λ (v : Event). v.grant) es fs e) (record { next = f ∙ x.next; are = x.are })

numbered_done : (l : List ℕ) (c : Call) (es : List Event) → Octets l → Typed c → Passed (checks_of l c) → Numbered l (numbers_of es)
    → Numbered (left l c) (numbers_of (es ++ events_of (acceptance l c)))
unfolding push_at token_at
numbered_done l (push t table p) es o y ok x =
    let e = pushes l t table p o y (push_facts l t table p ok) in
    rw (listed_in (is Push) (λ (v : Event). v.grant) es (event Push p.client _ _ (push t table p)) refl)
    (numbered_more l (left l (push t table p)) (numbers_of es) _ e.grant_is e.wrote.next_is x)
numbered_done l (decide t d out) es o y ok x =
    let f = decide_facts l t d out ok in
    decide_branch (λ (s : Step). Numbered s.after (numbers_of (es ++ events_of s))) l t d out
    (λ e. numbered_same l _ es _ (ap (some (is Push)) (consent_events l t d out e)) (consents l t d out y f).wrote.next_is x)
    (λ e. numbered_same l _ es _ (ap (some (is Push)) (decline_events l t d out e)) (declines l t d out y f).wrote.next_is x)
numbered_done l (token t table q) es o y ok x =
    numbered_same l _ es _ refl (redeems l t table q y (token_facts l t table q ok)).wrote.next_is x
numbered_done l (resource t q) es o y ok x =
    let f = resource_facts l t q ok in
    numbered_same l _ es _ refl (ticks l t f.ledger_sound f.in_time).next_is x
numbered_done l (sweep t) es o y ok x =
    let f = sweep_facts l t ok in
    numbered_same l _ es _ (dropped_none (is Push) (sweep t) (λ r. refl) (records l) (records (left l (sweep t)))) (sweeps l t f.ledger_sound f.in_time).next_is x

pub numbered_step : (l : List ℕ) (es : List Event) (c : Call) → Good l → Typed c → Numbered l (numbers_of es)
    → Numbered (step l c).after (numbers_of (es ++ events_of (step l c)))
numbered_step l es c g y x =
    step_cases (λ (s : Step). Numbered s.after (numbers_of (es ++ events_of s))) l c
    (λ why u n. numbered_same l l es (events_of (refusal l c why)) (refused_none (is Push) l c why n) refl x)
    (λ t table q u. numbered_same l _ es _ refl (ends l t table q (second_use_facts l t table q u)).wrote.next_is x)
    (λ ok. numbered_done l c es g.bytes y ok x)

pub numbered_start : (n : ℕ) → Numbered (started n) (numbers_of [])
unfolding listed empty_ledger tabulate
numbered_start n =
    let b = length_blank (32 + n * 256) in
    record { next = next_is 1 (blank (32 + n * 256)) (omega arith) (omega arith); are = refl }
