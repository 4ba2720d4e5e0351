-- Consents accepted are tokens issued, codes dropped and codes waiting, step by step.
use Prim.Native.Nat.{ℕ, ◌+◌}
use native.Mathlib.Omega.{arith}
use mathlib.Core.Path.{◌≡◌, refl, ap}
use mathlib.Core.Bool.{Bool, true, false, ◌&&◌, and-true}
use mathlib.Core.List.{List, [], ◌∷◌, ◌++◌, map}
use lib.Dec.{eqb}
use Rattle.octets.specs.Lists.{bit, count}
use Rattle.octets.proofs.Lists.{count_set, count_append}
use Rattle.octets.proofs.Numbers.{Octets}
use Rattle.ledger.specs.Fields.{next_number, records, rec, state, used, in_state, client, holder}
use Rattle.ledger.specs.Checks.{expired}
use Rattle.ledger.specs.Write.{free}
use Rattle.ledger.specs.Sweep.{swept_record}
use Rattle.ledger_laws.proofs.Replaced.{free_state}
use Rattle.ledger.specs.declared.state.State.TheVariants.{Consented}
use Rattle.desk.specs.Push.{push_at}
use Rattle.desk.specs.Decide.{reference_place, consent_at, decline_at}
use Rattle.desk.specs.Requests.{TokenRequest}
use Rattle.desk.specs.Token.{code_place, token_checks, token_at, ended}
use Rattle.desk.specs.declared.answer.Refusal.{Refusal}
use Rattle.desk.specs.declared.answer.Refusal.TheVariants.{CodeRedeemed}
use Rattle.history.specs.Runs.{Call, push, decide, token, resource, sweep, Typed, Step, step}
use Rattle.history.specs.Events.{EventKind, Consent, Token, Drop, Event, of_record, dropped, events_of, is}
use Rattle.history.specs.Counts.{Whose, such, counted, consents, tokens, drops, waits, waiting}
use Rattle.desk.proofs.Turns.{Passed, Turn}
use Rattle.history.proofs.Steps.{checks_of, is_second_use, refusal, ending, acceptance, left, step_cases, decide_branch}
use Rattle.history.proofs.Events.{count_none, count_provided, dropped_none, standing, refused_none, consent_events, decline_events}
use Rattle.call_laws.proofs.Facts.{push_facts, decide_facts, token_facts, second_use_facts, resource_facts, sweep_facts}
use Rattle.history.proofs.Effects.{Wrote, push_place, push_one, pushes, consent_one, consents as consented, declines, token_one, redeems, ends, ticks, sweeps}
use Rattle.history.proofs.Runs.{Good}

-- one record replaced
pub replaced : (q : List ℕ → Bool) (l : List ℕ) (t next k : ℕ) (s m : List ℕ) → Wrote l t next k s m
    → count q (records m) + bit (q (rec l k)) ≡ count q (records l) + bit (q s)
replaced q l t next k s m w = rw w.records_are (rw w.here at (count_set q (records l) k s [] w.inside))

module _ (whose : Whose) where
  waits_out : (r : List ℕ) (n : ℕ) → state r ≡ n → eqb n 2 ≡ false → bit (waits whose r) ≡ 0
  waits_out r n e f = rw (e, f)

  waits_in : (r : List ℕ) → state r ≡ 2 → bit (waits whose r) ≡ bit (whose (client r) (holder r))
  waits_in r e = rw e

  -- the codes that a sweep drops, and those that it leaves
  dropped_swept : (c : Call) (t : ℕ) (rs : List (List ℕ))
      → count (waits whose) rs ≡ drops whose (dropped c rs (map (swept_record t) rs)) + count (waits whose) (map (swept_record t) rs)
  unfolding swept_record
  dropped_swept c t [] = refl
  dropped_swept c t (r ∷ rs) = go (used r && expired t r) refl (dropped_swept c t rs)
    where
      go : (b : Bool) → (used r && expired t r) ≡ b
          → count (waits whose) rs ≡ drops whose (dropped c rs (map (swept_record t) rs)) + count (waits whose) (map (swept_record t) rs)
          → count (waits whose) (r ∷ rs) ≡ drops whose (dropped c (r ∷ rs) (map (swept_record t) (r ∷ rs))) + count (waits whose) (map (swept_record t) (r ∷ rs))
      go true p ih = rw (p, free_state, and-true) (omega (arith, ih, count_provided (such whose Drop) (in_state Consented r) (of_record Drop r c) (dropped c rs (map (swept_record t) rs))))
      go false p ih = rw (p, standing r) (omega (arith, ih))

  abbrev Even : List ℕ → Step → Type 0
  Even l s = consents whose (events_of s) + waiting whose l ≡ tokens whose (events_of s) + drops whose (events_of s) + waiting whose s.after

  -- no event of a refused step is counted, and of a sweep's none but the drops
  uncounted : (k : EventKind) (l : List ℕ) (c : Call) (why : Refusal) → is_second_use c why ≡ false → counted whose k (events_of (refusal l c why)) ≡ 0
  uncounted k l c why h = count_none (such whose k) (events_of (refusal l c why)) (refused_none (such whose k) l c why h)

  undropped : (k : EventKind) (c : Call) (rs ss : List (List ℕ)) → ((r : List ℕ) → is k (of_record Drop r c) ≡ false) → counted whose k (dropped c rs ss) ≡ 0
  undropped k c rs ss h = count_none (such whose k) (dropped c rs ss) (dropped_none (such whose k) c (λ r. rw (h r)) rs ss)

  even_refused : (l : List ℕ) (c : Call) (why : Refusal) → is_second_use c why ≡ false → Even l (refusal l c why)
  even_refused l c why h = omega (arith, uncounted Consent l c why h, uncounted Token l c why h, uncounted Drop l c why h)

  -- a second use frees a record in state 3: no consent, no token, no drop, and no code that waited
  even_ended : (l : List ℕ) (t : ℕ) (table : List ℕ) (q : TokenRequest) → Turn CodeRedeemed (token_checks l t table q (code_place l q))
      → Even l (ending l t table q)
  even_ended l t table q u =
      let e = ends l t table q (second_use_facts l t table q u) in
      let k = code_place l q in
      omega (arith, replaced (waits whose) l t (next_number l) k free (ended l t k) e.wrote, waits_out (rec l k) 3 e.was refl, waits_out free 0 free_state refl)

  even_done : (l : List ℕ) (c : Call) → Octets l → Typed c → Passed (checks_of l c) → Even l (acceptance l c)
  unfolding push_at consent_at decline_at token_at
  even_done l (push t table p) o y ok =
      let f = push_facts l t table p ok in
      let e = pushes l t table p o y f in
      let k = push_place l t table p o y f in
      let s = push_one l t table p o y f in
      let m = left l (push t table p) in
      omega (arith, replaced (waits whose) l t (next_number l + 1) k s m e.wrote, waits_out (rec l k) 0 e.was refl, waits_out s 1 e.state_is refl)
  even_done l (decide t d out) o y ok =
      let f = decide_facts l t d out ok in
      decide_branch (Even l) l t d out
      (λ yes.
      let e = consented l t d out y f in
      let k = reference_place l d in
      let s = consent_one l t d out y f in
      let m = (consent_at l t d.holder d.fresh out k).ledger in
      let w : bit (whose (client s) (holder s)) ≡ bit (whose d.client d.holder) = rw (e.client_is, e.by, e.holder_is) in
      omega (
        arith,
        replaced (waits whose) l t (next_number l) k s m e.wrote,
        waits_out (rec l k) 1 e.was refl,
        waits_in s e.state_is,
        w,
        ap (counted whose Consent) (consent_events l t d out yes),
        ap (counted whose Token) (consent_events l t d out yes),
        ap (counted whose Drop) (consent_events l t d out yes),
      ))
      (λ no.
      let e = declines l t d out y f in
      let k = reference_place l d in
      let m = (decline_at l t d.holder out k).ledger in
      omega (
        arith,
        replaced (waits whose) l t (next_number l) k free m e.wrote,
        waits_out (rec l k) 1 e.was refl,
        waits_out free 0 free_state refl,
        ap (counted whose Consent) (decline_events l t d out no),
        ap (counted whose Token) (decline_events l t d out no),
        ap (counted whose Drop) (decline_events l t d out no),
      ))
  even_done l (token t table q) o y ok =
      let f = token_facts l t table q ok in
      let e = redeems l t table q y f in
      let k = code_place l q in
      let s = token_one l t table q y f in
      let w : bit (whose (client (rec l k)) (holder (rec l k))) ≡ bit (whose q.client (holder s)) = rw (e.by, e.holder_is) in
      omega (
        arith,
        replaced (waits whose) l t (next_number l) k s (left l (token t table q)) e.wrote,
        waits_in (rec l k) e.was,
        waits_out s 3 e.state_is refl,
        w,
      )
  even_done l (resource t q) o y ok =
      let f = resource_facts l t q ok in
      omega (arith, ap (count (waits whose)) (ticks l t f.ledger_sound f.in_time).records_are)
  even_done l (sweep t) o y ok =
      let f = sweep_facts l t ok in
      let ss = map (swept_record t) (records l) in
      rw (sweeps l t f.ledger_sound f.in_time).records_are
      (omega (
        arith,
        dropped_swept (sweep t) t (records l),
        undropped Consent (sweep t) (records l) ss (λ r. refl),
        undropped Token (sweep t) (records l) ss (λ r. refl),
      ))

  pub even : (l : List ℕ) (c : Call) → Octets l → Typed c → Even l (step l c)
  even l c o y = step_cases (Even l) l c (λ why u n. even_refused l c why n) (even_ended l) (even_done l c o y)

  -- the balance of a ledger with the events that led to it
  abbrev pub Balanced : List ℕ → List Event → Type 0
  Balanced l es = consents whose es ≡ tokens whose es + drops whose es + waiting whose l

  abbrev more : (k : EventKind) (es fs : List Event) → counted whose k (es ++ fs) ≡ counted whose k es + counted whose k fs
  more k es fs = count_append (such whose k) es fs

  pub balanced_step : (l : List ℕ) (es : List Event) (c : Call) → Good l → Typed c → Balanced l es → Balanced (step l c).after (es ++ events_of (step l c))
  balanced_step l es c g y x =
      let fs = events_of (step l c) in
      omega (arith, x, even l c g.bytes y, more Consent es fs, more Token es fs, more Drop es fs)
