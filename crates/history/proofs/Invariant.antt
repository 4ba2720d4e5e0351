-- The ties, the unborn numbers, the times and the lives are kept by every step of a run.
use Prim.Native.Nat.{ℕ, ◌+◌, ◌*◌, ◌<◌, ◌≤◌}
use native.Mathlib.Omega.{arith}
use native.Mathlib.Nat.{le_refl}
use native.Mathlib.Decide.{dec_lt}
use mathlib.Core.Path.{◌≡◌, refl, sym, ap, ◌∙◌}
use mathlib.Core.Logic.{◌≢◌}
use mathlib.Core.Bool.{Bool, true, false, ◌&&◌, cond}
use mathlib.Core.List.{List, [], ◌∷◌, ◌++◌}
use lib.Dec.{eqb}
use lib.ListN.{get_or}
use borrow.Author.Tests.{eq-eqb}
use Rattle.octets.specs.Parts.{blank}
use Rattle.octets.proofs.Parts.{zeros_blank}
use Rattle.octets.proofs.Bytes.{zeros_part, zeros_at}
use Rattle.octets.proofs.Numbers.{Octets}
use Rattle.ledger.specs.Fields.{next_number, rec, slots, records, state, used, scope, grant, expiry, holder, client, challenge}
use Rattle.ledger.specs.Limits.{code_lifetime}
use Rattle.ledger.specs.Checks.{expired}
use Rattle.ledger.specs.Write.{free}
use Rattle.ledger.specs.Sweep.{swept_record}
use Rattle.ledger.proofs.Records.{records_at}
use Rattle.ledger_laws.proofs.Replaced.{free_state}
use Rattle.ledger_laws.proofs.Heads.{rec_next}
use Rattle.desk.specs.Start.{empty_ledger}
use Rattle.desk.specs.Push.{push_at}
use Rattle.desk.specs.Requests.{PushRequest, DecideRequest, TokenRequest}
use Rattle.desk.specs.Token.{code_place, token_at, ended}
use Rattle.history.specs.Runs.{Call, push, decide, token, resource, sweep, Typed, Step, step, started}
use Rattle.history.specs.Events.{Push, Consent, No, Token, Event, event, events_of, listed}
use Rattle.history.specs.Histories.{concerns, history, DecidedInTime, unborn, asked, decided, redeemed}
use Rattle.desk.proofs.Turns.{Passed}
use Rattle.call_laws.proofs.Facts.{push_facts, decide_facts, token_facts, second_use_facts, resource_facts, sweep_facts}
use Rattle.history.proofs.Steps.{checks_of, refusal, ending, acceptance, left, step_cases, decide_branch}
use Rattle.history.proofs.Events.{dropped_none, refused_none, consent_events, decline_events}
use Rattle.history.proofs.Effects.{
  Wrote,
  Pushes,
  pushes,
  Consents,
  consents,
  Declines,
  declines,
  Redeems,
  redeems,
  Ends,
  ends,
  since,
  ticks,
  sweeps,
  get_d_map,
  swept_none,
}
use Rattle.history.proofs.Runs.{Good}
use Rattle.history.proofs.Links.{
  at_none,
  grant_below,
  grants_apart,
  PushedBy,
  ConsentedBy,
  TiedPushed,
  TiedConsented,
  Tied,
  tied_free,
  history_in,
  written,
  now_of,
  Inv,
  idle,
  entry,
}

-- ---- the record that a call writes to, if it was in use

module _ (l : List ℕ) (t next k : ℕ) (s m : List ℕ) (w : Wrote l t next k s m) (u : state (rec l k) ≢ 0) where
  spot_used : state (get_or (records l) k []) ≢ 0
  spot_used = rw w.here u

  spot_below : grant (rec l k) < next_number l
  spot_below = rw w.here at (grant_below l w.is_sound k spot_used)

  spot_other : (j : ℕ) → j ≢ k → state (get_or (records l) j []) ≢ 0 → grant (get_or (records l) j []) ≢ grant (rec l k)
  spot_other j ne v = rw w.here at (grants_apart l w.is_sound j k ne v spot_used)

-- the same facts of the same fields
abbrev pushed_as : (id id' : List ℕ) (bits bits' : ℕ) (text text' : List ℕ) (h : List Call) → id' ≡ id → bits' ≡ bits → text' ≡ text
    → PushedBy id bits text h → PushedBy id' bits' text' h
pushed_as id id' bits bits' text text' h a b c x =
    record {
      t = x.t;
      table = x.table;
      p = x.p;
      only = x.only;
      by = x.by ∙ sym a;
      asks = x.asks ∙ sym b;
      commits = x.commits ∙ sym c;
      profile = x.profile;
    }

abbrev consented_as : (id id' : List ℕ) (bits bits' : ℕ) (text text' : List ℕ) (who who' : ℕ) (h : List Call) → id' ≡ id → bits' ≡ bits → text' ≡ text
    → who' ≡ who → ConsentedBy id bits text who h → ConsentedBy id' bits' text' who' h
consented_as id id' bits bits' text text' who who' h a b c d x =
    record {
      t = x.t;
      d = x.d;
      out = x.out;
      earlier = x.earlier;
      only = x.only;
      yes = x.yes;
      by = x.by ∙ sym a;
      given = x.given ∙ sym d;
      was = pushed_as id id' bits bits' text text' x.earlier a b c x.was;
      soon = x.soon;
    }

-- ---- push

module _ (l : List ℕ) (t : ℕ) (table : List ℕ) (p : PushRequest) (k : ℕ) (r m : List ℕ) (es : List Event) (e : Event) (x : Pushes l t table p k r m) (inv : Inv l es)
    (by : e.call ≡ push t table p) (hears : (f : ℕ) → concerns f e ≡ eqb f (grant r)) where
  push_first : history (grant r) (es ++ (e ∷ [])) ≡ push t table p ∷ []
  push_first =
      let g = x.grant_is in
      history_in (grant r) es e (hears (grant r) ∙ eq-eqb (grant r) (grant r) refl) ∙ rw (by, inv.unborn (grant r) (omega arith))

  push_tied : Tied (es ++ (e ∷ [])) r
  push_tied =
      let st = x.state_is in
      record {
        when_pushed = λ f.
            record {
              was = record {
                t = t;
                table = table;
                p = p;
                only = push_first;
                by = sym x.client_is;
                asks = sym x.scope_is;
                commits = sym x.challenge_is;
                profile = x.profile;
              };
              until = x.expiry_is;
            };
        when_consented = λ f. absurd (omega arith);
        when_redeemed = λ f. absurd (omega arith);
      }

  pub inv_push : Inv m (es ++ (e ∷ []))
  inv_push =
      let g = x.grant_is in
      entry l m es e t (next_number l + 1) k r (next_number l) inv x.wrote (omega arith) (omega arith) (ap now_of by)
      (λ f. hears f ∙ ap (eqb f) g)
      (λ j ne u z. let b = grant_below l x.wrote.is_sound j u in absurd (omega arith))
      push_tied
      (rw (by, inv.unborn (next_number l) (le_refl _)) (asked t table p refl))

-- ---- decide

module _ (l : List ℕ) (t : ℕ) (d : DecideRequest) (out : List ℕ) (k : ℕ) (es : List Event) (e : Event) (inv : Inv l es)
    (by : e.call ≡ decide t d out) where
  module _ (r m : List ℕ) (w : Wrote l t (next_number l) k r m) (was : state (rec l k) ≡ 1) (alive : t < expiry (rec l k)) where
    decide_old : TiedPushed (rec l k) (history (grant (rec l k)) es)
    decide_old = let x : Tied es (rec l k) = rw w.here at (inv.tied k) in x.when_pushed was

    decide_after : decide_old.was.t ≤ t
    decide_after =
        let x = decide_old in
        let c = w.onward in
        let b = (rw x.was.only at (inv.past (grant (rec l k)))).0 in
        omega arith

    decide_soon : DecidedInTime decide_old.was.t decide_old.was.table decide_old.was.p t
    decide_soon =
        let x = decide_old.until in
        let n = decide_old.was.profile in
        record { after = decide_after; alive = omega (arith, alive); profile = omega (arith, alive) }

    inv_decide : ((f : ℕ) → concerns f e ≡ eqb f (grant (rec l k))) → Tied (es ++ (e ∷ [])) r → Inv m (es ++ (e ∷ []))
    inv_decide hears new =
        let x = decide_old in
        entry l m es e t (next_number l) k r (grant (rec l k)) inv w (le_refl _) (spot_below l t _ k r m w (λ z. omega arith)) (ap now_of by)
        hears
        (spot_other l t _ k r m w (λ z. omega arith))
        new
        (rw (by, x.was.only) (decided x.was.t x.was.table x.was.p t d out refl decide_soon))

  pub inv_decline : (m : List ℕ) → Declines l t d k m → ((f : ℕ) → concerns f e ≡ eqb f (grant (rec l k))) → Inv m (es ++ (e ∷ []))
  inv_decline m x hears = inv_decide free m x.wrote x.was x.alive hears (tied_free (es ++ (e ∷ [])) free free_state)

  pub inv_consent : (r m : List ℕ) → Consents l t d k r m → d.yes ≡ true → ((f : ℕ) → concerns f e ≡ eqb f (grant r)) → Inv m (es ++ (e ∷ []))
  inv_consent r m x said hears =
      let o = decide_old r m x.wrote x.was x.alive in
      let st = x.state_is in
      inv_decide r m x.wrote x.was x.alive (λ f. hears f ∙ ap (eqb f) x.grant_is)
      (record {
        when_pushed = λ f. absurd (omega arith);
        when_consented = λ f.
            record {
              was = record {
                t = t;
                d = d;
                out = out;
                earlier = history (grant (rec l k)) es;
                only = history_in (grant r) es e (hears (grant r) ∙ eq-eqb (grant r) (grant r) refl)
                    ∙ rw by (ap (λ (g : ℕ). history g es ++ (decide t d out ∷ [])) x.grant_is);
                yes = said;
                by = sym x.by ∙ sym x.client_is;
                given = sym x.holder_is;
                was = pushed_as (client (rec l k)) (client r) (scope (rec l k)) (scope r) (challenge (rec l k)) (challenge r) (history (grant (rec l k)) es) x.client_is x.scope_is x.challenge_is o.was;
                soon = decide_soon r m x.wrote x.was x.alive;
              };
              until = x.expiry_is;
            };
        when_redeemed = λ f. absurd (omega arith);
      })

-- ---- token

-- the calls of a consented record's history
pub consented_calls : (id : List ℕ) (bits : ℕ) (text : List ℕ) (who : ℕ) (h : List Call) (x : ConsentedBy id bits text who h)
    → h ≡ push x.was.t x.was.table x.was.p ∷ decide x.t x.d x.out ∷ []
consented_calls id bits text who h x = x.only ∙ ap (λ (cs : List Call). cs ++ (decide x.t x.d x.out ∷ [])) x.was.only

module _ (l : List ℕ) (t : ℕ) (table : List ℕ) (q : TokenRequest) (k : ℕ) (r m : List ℕ) (es : List Event) (e : Event) (x : Redeems l t q k r m) (inv : Inv l es)
    (by : e.call ≡ token t table q) (hears : (f : ℕ) → concerns f e ≡ eqb f (grant r)) where
  token_old : TiedConsented (rec l k) (history (grant (rec l k)) es)
  token_old = let y : Tied es (rec l k) = rw x.wrote.here at (inv.tied k) in y.when_consented x.was

  token_calls : history (grant (rec l k)) es ≡ push token_old.was.was.t token_old.was.was.table token_old.was.was.p ∷ decide token_old.was.t token_old.was.d token_old.was.out ∷ []
  token_calls = consented_calls _ _ _ _ _ token_old.was

  token_after : token_old.was.t ≤ t
  token_after =
      let c = x.wrote.onward in
      let b = (rw token_calls at (inv.past (grant (rec l k)))).1.0 in
      omega arith

  token_soon : t < token_old.was.t + code_lifetime
  token_soon = let y = token_old.until in let b = x.alive in omega arith

  token_tied : Tied (es ++ (e ∷ [])) r
  token_tied =
      let st = x.state_is in
      record {
        when_pushed = λ f. absurd (omega arith);
        when_consented = λ f. absurd (omega arith);
        when_redeemed = λ f.
            record {
              was = record {
                t = t;
                table = table;
                q = q;
                earlier = history (grant (rec l k)) es;
                only = history_in (grant r) es e (hears (grant r) ∙ eq-eqb (grant r) (grant r) refl)
                    ∙ rw by (ap (λ (g : ℕ). history g es ++ (token t table q ∷ [])) x.grant_is);
                by = sym x.by ∙ sym x.client_is;
                issued = sym x.token_is;
                bound = sym x.key_is;
                verified = rw x.challenge_is x.verified;
                was = consented_as (client (rec l k)) (client r) (scope (rec l k)) (scope r) (challenge (rec l k)) (challenge r) (holder (rec l k)) (holder r) (history (grant (rec l k)) es) x.client_is x.scope_is x.challenge_is x.holder_is token_old.was;
              };
              until = x.expiry_is;
            };
      }

  pub inv_token : Inv m (es ++ (e ∷ []))
  inv_token =
      let y = token_old.was in
      let z = y.was in
      entry l m es e t (next_number l) k r (grant (rec l k)) inv x.wrote (le_refl _) (spot_below l t _ k r m x.wrote (λ v. omega (arith, x.was))) (ap now_of by)
      (λ f. hears f ∙ ap (eqb f) x.grant_is)
      (spot_other l t _ k r m x.wrote (λ v. omega (arith, x.was)))
      token_tied
      (rw (by, token_calls) (redeemed z.t z.table z.p y.t y.d y.out t table q refl y.yes y.soon (token_after, token_soon)))

-- ---- a second use of a code

inv_ended : (l : List ℕ) (t : ℕ) (table : List ℕ) (q : TokenRequest) (es : List Event) → Ends l t q (code_place l q) (ended l t (code_place l q)) → Inv l es
    → Inv (ended l t (code_place l q)) (es ++ events_of (ending l t table q))
inv_ended l t table q es x inv =
    let c = x.wrote.onward in
    let d = x.wrote.clock_is in
    idle l (ended l t (code_place l q)) es (events_of (ending l t table q)) (λ g. refl)
    (λ j. written l t (next_number l) (code_place l q) free (ended l t (code_place l q)) x.wrote (Tied es) (tied_free es free free_state) j (λ ne. inv.tied j))
    x.wrote.next_is (omega arith) inv

-- ---- sweep

swept_tied : (t : ℕ) (es : List Event) (r : List ℕ) → Tied es r → Tied es (swept_record t r)
unfolding swept_record
swept_tied t es r x = elim (used r && expired t r) as (λ (b : Bool). Tied es (cond b free r)) [ true ↦ tied_free es free free_state | false ↦ x ]

-- ---- every call

inv_done : (l : List ℕ) (c : Call) (es : List Event) → Octets l → Typed c → Passed (checks_of l c) → Inv l es → Inv (left l c) (es ++ events_of (acceptance l c))
unfolding push_at token_at
inv_done l (push t table p) es o y ok inv =
    inv_push l t table p _ _ _ es (event Push p.client _ _ (push t table p)) (pushes l t table p o y (push_facts l t table p ok)) inv refl (λ f. refl)
inv_done l (decide t d out) es o y ok inv =
    let f = decide_facts l t d out ok in
    decide_branch (λ (s : Step). Inv s.after (es ++ events_of s)) l t d out
    (λ e. rw (consent_events l t d out e) (inv_consent l t d out _ es (event Consent d.client d.holder _ (decide t d out)) inv refl _ _ (consents l t d out y f) e (λ g. refl)))
    (λ e. rw (decline_events l t d out e) (inv_decline l t d out _ es (event No d.client d.holder _ (decide t d out)) inv refl _ (declines l t d out y f) (λ g. refl)))
inv_done l (token t table q) es o y ok inv =
    inv_token l t table q _ _ _ es (event Token q.client _ _ (token t table q)) (redeems l t table q y (token_facts l t table q ok)) inv refl (λ f. refl)
inv_done l (resource t q) es o y ok inv =
    let f = resource_facts l t q ok in
    let k = ticks l t f.ledger_sound f.in_time in
    let c = since l t f.in_time in
    let d = k.clock_is in
    idle l (left l (resource t q)) es (events_of (acceptance l (resource t q))) (λ g. refl) (λ j. rw k.records_are (inv.tied j)) k.next_is (omega arith) inv
inv_done l (sweep t) es o y ok inv =
    let f = sweep_facts l t ok in
    let k = sweeps l t f.ledger_sound f.in_time in
    let c = since l t f.in_time in
    let d = k.clock_is in
    idle l (left l (sweep t)) es (events_of (acceptance l (sweep t))) (λ g. dropped_none (concerns g) (sweep t) (λ r. refl) (records l) (records (left l (sweep t))))
    (λ j. rw (k.records_are, get_d_map (swept_record t) (swept_none t) (records l) j) (swept_tied t es _ (inv.tied j))) k.next_is (omega arith) inv

pub inv_step : (l : List ℕ) (es : List Event) (c : Call) → Good l → Typed c → Inv l es → Inv (step l c).after (es ++ events_of (step l c))
inv_step l es c good y inv =
    step_cases (λ (s : Step). Inv s.after (es ++ events_of s)) l c
    (λ why u n. idle l l es (events_of (refusal l c why)) (λ g. refused_none (concerns g) l c why n) inv.tied refl (le_refl _) inv)
    (λ t table q u. inv_ended l t table q es (ends l t table q (second_use_facts l t table q u)) inv)
    (λ ok. inv_done l c es good.bytes y ok inv)

-- ---- at the start

pub started_at : (n j : ℕ) → state (get_or (records (started n)) j []) ≡ 0
unfolding empty_ledger rec
started_at n j = go (dec_lt j (slots (started n)))
  where
    zero_at : state (rec (started n) j) ≡ 0
    zero_at = ap state (rec_next 1 (blank (32 + n * 256)) j) ∙ zeros_at _ (zeros_part (blank (32 + n * 256)) (32 + j * 256) 256 (zeros_blank (32 + n * 256))) 0

    go : Dec (j < slots (started n)) → state (get_or (records (started n)) j []) ≡ 0
    go (yes h) = ap state (records_at (started n) j h) ∙ zero_at
    go (no h) = ap state (at_none (started n) j (omega (arith, h)))

pub inv_start : (n : ℕ) → Inv (started n) []
unfolding listed
inv_start n =
    record {
      tied = λ j. tied_free [] _ (started_at n j);
      unborn = λ g h. refl;
      past = λ g. tt;
      life = λ g. unborn refl;
    }
