-- A second use of a code ends its token: no reading that comes later names the grant number of the record that it freed.
use Prim.Native.Nat.{ℕ, ◌<◌, ◌≤◌}
use native.Mathlib.Omega.{arith}
use native.Mathlib.Nat.{le_refl}
use mathlib.Core.Path.{◌≡◌, sym, ◌∙◌}
use mathlib.Core.Logic.{◌≢◌, ⊎_elim}
use mathlib.Core.Bool.{Bool, true, false, cond, ◌&&◌}
use mathlib.Core.List.{List, [], ◌++◌}
use lib.ListN.{get_or}
use borrow.Author.Tests.{eqb-false}
use Rattle.octets.proofs.Numbers.{Octets}
use Rattle.ledger.specs.Fields.{next_number, rec, records, state, used, grant}
use Rattle.ledger.specs.Checks.{expired}
use Rattle.ledger.specs.Write.{free}
use Rattle.ledger.specs.Sweep.{swept_record}
use Rattle.ledger_laws.proofs.Replaced.{free_state}
use Rattle.desk.specs.Answers.{number_of}
use Rattle.desk.specs.Requests.{TokenRequest}
use Rattle.desk.specs.Outcome.{Outcome}
use Rattle.desk.specs.Push.{push_at}
use Rattle.desk.specs.Token.{code_place, token_at, ended}
use Rattle.desk.specs.Resource.{token_place}
use Rattle.desk.specs.declared.answer.Answer.{Answer}
use Rattle.desk.specs.declared.answer.Refusal.TheVariants.{CodeRedeemed}
use Rattle.desk.proofs.Turns.{Passed, number_refused}
use Rattle.call_laws.proofs.Rows.{token_outcomes}
use Rattle.call_laws.proofs.Facts.{push_facts, decide_facts, token_facts, second_use_facts, resource_facts, sweep_facts}
use Rattle.history.specs.Runs.{Call, push, decide, token, resource, sweep, Typed, Step, step, number_in}
use Rattle.history.specs.Events.{Event, events_of}
use Rattle.history.specs.Histories.{Granted}
use Rattle.history.proofs.Steps.{checks_of, left, step_cases, decide_branch}
use Rattle.history.proofs.Events.{parted}
use Rattle.history.proofs.Effects.{Wrote, pushes, consents, declines, redeems, Ends, ends, ticks, sweeps, get_d_map, swept_none}
use Rattle.history.proofs.Runs.{Good}
use Rattle.history.proofs.Links.{grant_below, grants_apart, written}
use Rattle.history.proofs.Readings.{read_here}
use Rattle.history.proofs.SecondUses.{read, earlier, no_reading}

abbrev Without : ℕ → List ℕ → Type 0
Without g r = state r ≢ 0 → grant r ≢ g

-- what of the ledger is kept
pub record Lacks (g : ℕ) (l : List ℕ) : Type 0 where
  pub given : g < next_number l
  pub gone : (j : ℕ) → Without g (get_or (records l) j [])

lacks_wrote : (g : ℕ) (l : List ℕ) (t next k : ℕ) (s m : List ℕ) → Wrote l t next k s m → next_number l ≤ next → Lacks g l → Without g s → Lacks g m
lacks_wrote g l t next k s m w n x new =
    let e = w.next_is in
    let b = x.given in
    record { given = omega arith; gone = λ j. written l t next k s m w (Without g) new j (λ ne. x.gone j) }

-- a record that keeps its grant number
lacks_same : (g : ℕ) (l : List ℕ) (t next k : ℕ) (s m : List ℕ) → Wrote l t next k s m → state (rec l k) ≢ 0 → grant s ≡ grant (rec l k) → Lacks g l → Without g s
lacks_same g l t next k s m w u e x n z = (rw w.here at (x.gone k)) u (sym e ∙ z)

free_without : (g : ℕ) → Without g free
free_without g u = absurd (u free_state)

swept_without : (g t : ℕ) (r : List ℕ) → Without g r → Without g (swept_record t r)
unfolding swept_record
swept_without g t r x = elim (used r && expired t r) as (λ (b : Bool). Without g (cond b free r)) [ true ↦ free_without g | false ↦ x ]

lacks_done : (g : ℕ) (l : List ℕ) (c : Call) → Octets l → Typed c → Passed (checks_of l c) → Lacks g l → Lacks g (left l c)
unfolding push_at token_at
lacks_done g l (push t table p) o y ok x =
    let w = pushes l t table p o y (push_facts l t table p ok) in
    let b = x.given in
    let e = w.grant_is in
    lacks_wrote g l t _ _ _ _ w.wrote (omega arith) x (λ u z. omega arith)
lacks_done g l (decide t d out) o y ok x =
    let f = decide_facts l t d out ok in
    decide_branch (λ (s : Step). Lacks g s.after) l t d out
    (λ e.
    let w = consents l t d out y f in
    lacks_wrote g l t _ _ _ _ w.wrote (le_refl _) x (lacks_same g l t _ _ _ _ w.wrote (λ z. omega (arith, z, w.was)) w.grant_is x))
    (λ e. lacks_wrote g l t _ _ _ _ (declines l t d out y f).wrote (le_refl _) x (free_without g))
lacks_done g l (token t table q) o y ok x =
    let w = redeems l t table q y (token_facts l t table q ok) in
    lacks_wrote g l t _ _ _ _ w.wrote (le_refl _) x (lacks_same g l t _ _ _ _ w.wrote (λ z. omega (arith, z, w.was)) w.grant_is x)
lacks_done g l (resource t q) o y ok x =
    let f = resource_facts l t q ok in
    let k = ticks l t f.ledger_sound f.in_time in
    record { given = rw k.next_is x.given; gone = λ j. rw k.records_are (x.gone j) }
lacks_done g l (sweep t) o y ok x =
    let f = sweep_facts l t ok in
    let k = sweeps l t f.ledger_sound f.in_time in
    record {
      given = rw k.next_is x.given;
      gone = λ j. rw (k.records_are, get_d_map (swept_record t) (swept_none t) (records l) j) (swept_without g t (get_or (records l) j []) (x.gone j));
    }

lacks_step : (g : ℕ) (l : List ℕ) (c : Call) → Good l → Typed c → Lacks g l → Lacks g (step l c).after
lacks_step g l c good y x =
    step_cases (λ (s : Step). Lacks g s.after) l c (λ why u n. x)
    (λ t table w u. lacks_wrote g l t _ _ _ _ (ends l t table w (second_use_facts l t table w u)).wrote (le_refl _) x (free_without g))
    (λ ok. lacks_done g l c good.bytes y ok x)

-- with the readings since
pub record Unread (g : ℕ) (l : List ℕ) (es : List Event) : Type 0 where
  pub lacks : Lacks g l
  pub unread : (r : Granted es) → r.grant ≢ g

pub unread_step : (g : ℕ) (l : List ℕ) (es : List Event) (c : Call) → Good l → Typed c → Unread g l es → Unread g (step l c).after (es ++ events_of (step l c))
unread_step g l es c good y x =
    let fs = events_of (step l c) in
    record {
      lacks = lacks_step g l c good y x.lacks;
      unread = λ r.
          ⊎_elim {C = r.grant ≢ g} (λ f. x.unread (earlier es fs r f))
          (λ s e.
          let h = read_here l c s.more r.after r.client r.holder r.grant r.time r.request s.whole in
          let p = token_place l r.request in
          (rw h.read.here at (x.lacks.gone p)) (λ z. omega (arith, z, h.read.was)) (sym h.number ∙ e))
          (parted es fs r.before (read r) r.after r.whole);
    }

-- so it is after a second use, of the number of the record that it freed
lacks_ended : (l : List ℕ) (t : ℕ) (q : TokenRequest) (k : ℕ) (m : List ℕ) → Ends l t q k m → Lacks (grant (rec l k)) m
lacks_ended l t q k m x =
    let w = x.wrote in
    let u : state (get_or (records l) k []) ≢ 0 = λ z. let y = rw w.here at z in omega (arith, y, x.was) in
    let b : grant (rec l k) < next_number l = rw w.here at (grant_below l w.is_sound k u) in
    record {
      given = rw w.next_is b;
      gone = λ j.
          written l t (next_number l) k free m w (Without (grant (rec l k))) (free_without (grant (rec l k))) j
          (λ ne v. rw w.here at (grants_apart l w.is_sound j k ne v u));
    }

pub ended_unread : (l : List ℕ) (t : ℕ) (table : List ℕ) (q : TokenRequest) → number_in (step l (token t table q)).answer ≡ number_of CodeRedeemed
    → Unread (grant (rec l (code_place l q))) (step l (token t table q)).after []
unfolding step token_at
ended_unread l t table q =
    token_outcomes l t table q (λ (o : Outcome Answer). o.answer.number ≡ number_of CodeRedeemed → Unread (grant (rec l (code_place l q))) o.ledger [])
    (λ why u n e. absurd (eqb-false (number_of why) (number_of CodeRedeemed) n e))
    (λ u e.
    let x = ends l t table q (second_use_facts l t table q u) in
    record { lacks = lacks_ended l t q (code_place l q) (ended l t (code_place l q)) x; unread = λ r. absurd (no_reading r) })
    (λ ok e. absurd (number_refused CodeRedeemed (sym e)))
