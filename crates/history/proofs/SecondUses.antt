-- No granted reading has a second use of its code between its token and itself.
use Prim.Native.Nat.{ℕ}
use native.Mathlib.Omega.{arith}
use mathlib.Core.Path.{◌≡◌, refl, sym, ap, ◌∙◌}
use mathlib.Core.Logic.{◌≢◌, inl, ⊎_elim}
use mathlib.Core.Bool.{Bool, true, false, cond, ◌&&◌}
use mathlib.Core.List.{List, [], ◌∷◌, ◌++◌, map, append-nil, append_assoc}
use lib.ListN.{length, length-append, get_or}
use borrow.Author.Tests.{eq-eqb}
use Rattle.octets.specs.Lists.{some}
use Rattle.octets.specs.Parts.{same}
use Rattle.octets.proofs.Tests.{both, false_of}
use Rattle.octets.proofs.Parts.{same_eq}
use Rattle.octets.proofs.Numbers.{Octets}
use Rattle.ledger.specs.Fields.{next_number, rec, records, state, used, grant, value}
use Rattle.ledger.specs.Checks.{expired}
use Rattle.ledger.specs.Write.{free}
use Rattle.ledger.specs.Sweep.{swept_record}
use Rattle.ledger.proofs.Records.{records_at}
use Rattle.ledger_laws.proofs.Says.{neither, of_sound}
use Rattle.ledger_laws.proofs.Replaced.{free_state}
use Rattle.desk.specs.Requests.{PushRequest, DecideRequest, TokenRequest, ResourceRequest}
use Rattle.desk.specs.Push.{push_at}
use Rattle.desk.specs.Token.{code_place, token_at, ended}
use Rattle.desk.specs.Resource.{token_place}
use Rattle.desk.proofs.Turns.{Passed}
use Rattle.call_laws.proofs.Facts.{push_facts, decide_facts, token_facts, second_use_facts, resource_facts, sweep_facts}
use Rattle.history.specs.Runs.{Call, push, decide, token, resource, sweep, Typed, Step, step}
use Rattle.history.specs.Events.{Token, SecondUse, Reading, Event, event, events_of, is, listed}
use Rattle.history.specs.Histories.{concerns, history, Granted, Chain, shows, repeats, Unrepeated}
use Rattle.history.proofs.Steps.{checks_of, refusal, ending, acceptance, left, step_cases, decide_branch}
use Rattle.history.proofs.Events.{some_append, InFirst, InSecond, parted, listed_append, dropped_none, refused_none, consent_events, decline_events}
use Rattle.history.proofs.Effects.{Wrote, pushes, consents, declines, redeems, Ends, ends, ticks, sweeps, get_d_map, swept_none}
use Rattle.history.proofs.Runs.{Good}
use Rattle.history.proofs.Links.{used_inside, written}
use Rattle.history.proofs.Readings.{ReadHere, read_here}

-- ---- a record in state 3 has the code of its token call, and no second use of it since

pub record Once (es : List Event) (r : List ℕ) : Type 0 where
  pub t : ℕ
  pub table : List ℕ
  pub q : TokenRequest
  pub since : Unrepeated (grant r) t table q es
  pub code_is : value r ≡ q.code

abbrev pub Redeemed : List Event → List ℕ → Type 0
Redeemed es r = state r ≡ 3 → Once es r

unrepeated_more : (g t : ℕ) (table : List ℕ) (q : TokenRequest) (es fs : List Event) → some (repeats q) fs ≡ false → Unrepeated g t table q es
    → Unrepeated g t table q (es ++ fs)
unrepeated_more g t table q es fs n x =
    record {
      earlier = x.earlier;
      client = x.client;
      holder = x.holder;
      between = x.between ++ fs;
      whole = ap (λ (ys : List Event). ys ++ fs) x.whole ∙ append_assoc x.earlier (event Token x.client x.holder g (token t table q) ∷ x.between) fs;
      none = some_append (repeats q) x.between fs ∙ rw (x.none, n);
    }

once_more : (r : List ℕ) (es fs : List Event) → ((q : TokenRequest) → value r ≡ q.code → some (repeats q) fs ≡ false) → Redeemed es r → Redeemed (es ++ fs) r
once_more r es fs n old e =
    let x = old e in
    record {
      t = x.t;
      table = x.table;
      q = x.q;
      since = unrepeated_more (grant r) x.t x.table x.q es fs (n x.q x.code_is) x.since;
      code_is = x.code_is;
    }

-- events without a second use repeat nothing
unshown : (a b : Bool) → a ≡ false → (a && b) ≡ false
unshown a b e = rw e

quiet : (q : TokenRequest) (fs : List Event) → some (is SecondUse) fs ≡ false → some (repeats q) fs ≡ false
quiet q [] n = refl
quiet q (e ∷ fs) n =
    let (a, b) = neither (is SecondUse e) (some (is SecondUse) fs) n in
    rw (unshown (is SecondUse e) (shows q e.call) a, quiet q fs b)

-- another record's second use is of another code: no value stands in two records
module _ (l : List ℕ) (t : ℕ) (table : List ℕ) (w : TokenRequest) (k : ℕ) (m : List ℕ) (x : Ends l t w k m) (j : ℕ) (ne : j ≢ k) where
  other_code : state (get_or (records l) j []) ≡ 3 → (q : TokenRequest) → value (get_or (records l) j []) ≡ q.code → shows q (token t table w) ≡ false
  other_code three q v =
      false_of (shows q (token t table w)) (λ s.
      let i = used_inside l j (λ z. omega arith) in
      let i2 = used_inside l k (λ z. let y = rw x.wrote.here at z in omega (arith, y, x.was)) in
      let all = (of_sound l x.wrote.is_sound).within in
      let here = records_at l j i in
      let set = ((all.each k i2).when_used (λ z. omega (arith, z, x.was))).value_set in
      let c = same_eq w.code q.code (both (same w.code q.code) _ s).0 in
      all.pool j k i i2 ne
      (record { v = value (rec l k); nonzero = set; left = inl (x.shown ∙ c ∙ sym v ∙ ap value here); right = inl refl }))

-- ---- every step keeps that

abbrev pub OnceAll : List ℕ → List Event → Type 0
OnceAll l es = (j : ℕ) → Redeemed es (get_or (records l) j [])

-- one record written, and no second use among the events
once_wrote : (l : List ℕ) (t next k : ℕ) (s m : List ℕ) (es fs : List Event) → Wrote l t next k s m → some (is SecondUse) fs ≡ false → OnceAll l es
    → Redeemed (es ++ fs) s → OnceAll m (es ++ fs)
once_wrote l t next k s m es fs w n old new j =
    written l t next k s m w (Redeemed (es ++ fs)) new j (λ ne. once_more (get_or (records l) j []) es fs (λ q v. quiet q fs n) (old j))

-- in another state there is nothing to show
elsewhere : (es : List Event) (s : List ℕ) (n : ℕ) → state s ≡ n → n ≢ 3 → Redeemed es s
elsewhere es s n e ne three = absurd (ne (sym e ∙ three))

swept_once : (t : ℕ) (es : List Event) (r : List ℕ) → Redeemed es r → Redeemed es (swept_record t r)
unfolding swept_record
swept_once t es r x =
    elim (used r && expired t r) as (λ (b : Bool). Redeemed es (cond b free r)) [ true ↦ elsewhere es free 0 free_state (λ z. omega arith) | false ↦ x ]

once_swept : (l m : List ℕ) (t : ℕ) (es fs : List Event) → records m ≡ map (swept_record t) (records l) → some (is SecondUse) fs ≡ false → OnceAll l es → OnceAll m (es ++ fs)
once_swept l m t es fs are n old j =
    rw (are, get_d_map (swept_record t) (swept_none t) (records l) j)
    (swept_once t (es ++ fs) (get_or (records l) j []) (once_more (get_or (records l) j []) es fs (λ w v. quiet w fs n) (old j)))

once_done : (l : List ℕ) (c : Call) (es : List Event) → Octets l → Typed c → Passed (checks_of l c) → OnceAll l es → OnceAll (left l c) (es ++ events_of (acceptance l c))
unfolding push_at token_at
once_done l (push t table p) es o y ok old =
    let x = pushes l t table p o y (push_facts l t table p ok) in
    once_wrote l t _ _ _ _ es _ x.wrote refl old (elsewhere _ _ 1 x.state_is (λ z. omega arith))
once_done l (decide t d out) es o y ok old =
    let f = decide_facts l t d out ok in
    decide_branch (λ (s : Step). OnceAll s.after (es ++ events_of s)) l t d out
    (λ e.
    let x = consents l t d out y f in
    once_wrote l t _ _ _ _ es _ x.wrote (ap (some (is SecondUse)) (consent_events l t d out e)) old (elsewhere _ _ 2 x.state_is (λ z. omega arith)))
    (λ e.
    let x = declines l t d out y f in
    once_wrote l t _ _ _ _ es _ x.wrote (ap (some (is SecondUse)) (decline_events l t d out e)) old (elsewhere _ _ 0 free_state (λ z. omega arith)))
once_done l (token t table q) es o y ok old =
    let x = redeems l t table q y (token_facts l t table q ok) in
    once_wrote l t _ _ _ _ es _ x.wrote refl old
    (λ three.
    record {
      t = t;
      table = table;
      q = q;
      since = record { earlier = es; client = q.client; holder = _; between = []; whole = refl; none = refl };
      code_is = x.code_is;
    })
once_done l (resource t q) es o y ok old = λ j.
    let f = resource_facts l t q ok in
    let fs = events_of (acceptance l (resource t q)) in
    rw (ticks l t f.ledger_sound f.in_time).records_are (once_more (get_or (records l) j []) es fs (λ w v. quiet w fs refl) (old j))
once_done l (sweep t) es o y ok old =
    let f = sweep_facts l t ok in
    once_swept l (left l (sweep t)) t es (events_of (acceptance l (sweep t))) (sweeps l t f.ledger_sound f.in_time).records_are
    (dropped_none (is SecondUse) (sweep t) (λ r. refl) (records l) (records (left l (sweep t)))) old

once_ended : (l : List ℕ) (t : ℕ) (table : List ℕ) (w : TokenRequest) (es : List Event) → Ends l t w (code_place l w) (ended l t (code_place l w)) → OnceAll l es
    → OnceAll (ended l t (code_place l w)) (es ++ events_of (ending l t table w))
once_ended l t table w es x old j =
    let fs = events_of (ending l t table w) in
    written l t (next_number l) (code_place l w) free (ended l t (code_place l w)) x.wrote (Redeemed (es ++ fs)) (elsewhere (es ++ fs) free 0 free_state (λ z. omega arith)) j
    (λ ne three.
    once_more (get_or (records l) j []) es fs (λ q v. rw (other_code l t table w (code_place l w) (ended l t (code_place l w)) x j ne three q v)) (old j) three)

once_step : (l : List ℕ) (es : List Event) (c : Call) → Good l → Typed c → OnceAll l es → OnceAll (step l c).after (es ++ events_of (step l c))
once_step l es c good y old =
    step_cases (λ (s : Step). OnceAll s.after (es ++ events_of s)) l c
    (λ why u n j. once_more (get_or (records l) j []) es (events_of (refusal l c why)) (λ q v. quiet q (events_of (refusal l c why)) (refused_none (is SecondUse) l c why n)) (old j))
    (λ t table w u. once_ended l t table w es (ends l t table w (second_use_facts l t table w u)) old)
    (λ ok. once_done l c es good.bytes y ok old)

-- ---- the token's event is that of the chain

token_third : (a : ℕ) (b : List ℕ) (p : PushRequest) (c : ℕ) (d : DecideRequest) (o : List ℕ) (x y : Call) (hs rest : List Call) (t : ℕ) (table : List ℕ) (q : TokenRequest)
    → y ≡ token t table q → push a b p ∷ decide c d o ∷ x ∷ [] ≡ hs ++ (y ∷ rest) → x ≡ y
token_third a b p c d o x y [] rest t table q i e = absurd (let z : ◌≡◌ {A = ℕ} 0 1 = cc in omega arith)
token_third a b p c d o x y (h ∷ []) rest t table q i e = absurd (let z : ◌≡◌ {A = ℕ} 0 1 = cc in omega arith)
token_third a b p c d o x y (h ∷ (i ∷ [])) rest t table q k e = cc
token_third a b p c d o x y (h ∷ (i ∷ (j ∷ hs))) rest t table q k e = absurd (let n = ap length e in let m = length-append hs (y ∷ rest) in omega arith)

module _ (g u : ℕ) (w : ResourceRequest) (es : List Event) (x : Chain u w (history g es)) (t : ℕ) (table : List ℕ) (q : TokenRequest) (since : Unrepeated g t table q es) where
  cut_there : history g es ≡ history g since.earlier ++ (token t table q ∷ history g since.between)
  unfolding listed
  cut_there =
      ap (history g) since.whole
      ∙ listed_append (concerns g) (λ (v : Event). v.call) since.earlier (event Token since.client since.holder g (token t table q) ∷ since.between)
      ∙ rw (eq-eqb g g refl)

  same_call : token x.token_time x.token_table x.redeemed ≡ token t table q
  same_call = token_third _ _ _ _ _ _ _ _ (history g since.earlier) (history g since.between) t table q refl (sym x.order ∙ cut_there)

  chain_unrepeated : Unrepeated g x.token_time x.token_table x.redeemed es
  chain_unrepeated =
      let s = same_call in
      let a : t ≡ x.token_time = cc in
      let b : table ≡ x.token_table = cc in
      let c : q ≡ x.redeemed = cc in
      rw (← a, ← b, ← c) since

since_as : (g f t : ℕ) (table : List ℕ) (q : TokenRequest) (fs es : List Event) → g ≡ f → fs ≡ es → Unrepeated f t table q es → Unrepeated g t table q fs
since_as g f t table q fs es a b x = rw (a, b) x

-- ---- the granted readings so far

pub record Single (l : List ℕ) (es : List Event) : Type 0 where
  pub once : OnceAll l es
  pub unrepeated : (r : Granted es) (x : Chain r.time r.request (history r.grant r.before))
      → Unrepeated r.grant x.token_time x.token_table x.redeemed r.before

-- the event of a granted reading, and the reading among the events of an earlier step
abbrev pub read : {es : List Event} → Granted es → Event
read r = event Reading r.client r.holder r.grant (resource r.time r.request)

abbrev pub earlier : (es fs : List Event) (r : Granted (es ++ fs)) → InFirst es r.before (read r) → Granted es
earlier es fs r f =
    record {
      before = r.before;
      client = r.client;
      holder = r.holder;
      grant = r.grant;
      time = r.time;
      request = r.request;
      after = f.rest;
      whole = f.whole;
    }

-- a reading of this step: its record is in use, with the grant number that it names
module _ (l : List ℕ) (es fs : List Event) (r : Granted (es ++ fs)) (s : InSecond es fs r.before (read r) r.after)
    (h : ReadHere l r.time r.request r.grant s.more fs) where
  abbrev place : ℕ
  place = token_place l r.request

  here_at : get_or (records l) place [] ≡ rec l place
  here_at = h.read.here

  here_before : r.before ≡ es
  here_before = s.start ∙ rw h.first (append-nil es)

  here_unrepeated : OnceAll l es → (x : Chain r.time r.request (history r.grant r.before))
      → Unrepeated r.grant x.token_time x.token_table x.redeemed r.before
  here_unrepeated once x =
      let o : Once es (rec l place) = (rw here_at at (once place)) h.read.was in
      chain_unrepeated r.grant r.time r.request r.before x o.t o.table o.q
      (since_as r.grant (grant (rec l place)) o.t o.table o.q r.before es h.number here_before o.since)

pub single_step : (l : List ℕ) (es : List Event) (c : Call) → Good l → Typed c → Single l es → Single (step l c).after (es ++ events_of (step l c))
single_step l es c g y x =
    let fs = events_of (step l c) in
    record {
      once = once_step l es c g y x.once;
      unrepeated = λ r z.
          ⊎_elim {C = Unrepeated r.grant z.token_time z.token_table z.redeemed r.before}
          (λ f. x.unrepeated (earlier es fs r f) z)
          (λ s. here_unrepeated l es fs r s (read_here l c s.more r.after r.client r.holder r.grant r.time r.request s.whole) x.once z)
          (parted es fs r.before (read r) r.after r.whole);
    }

pub no_reading : (r : Granted []) → ⊥
no_reading r = let n = ap length r.whole in let m = length-append r.before (read r ∷ r.after) in omega arith

pub single_start : (l : List ℕ) → ((j : ℕ) → state (get_or (records l) j []) ≡ 0) → Single l []
single_start l f =
    record { once = λ j. elsewhere [] (get_or (records l) j []) 0 (f j) (λ z. omega arith); unrepeated = λ r x. absurd (no_reading r) }
