-- What stands behind a granted reading, and that it stays.
use Prim.Native.Nat.{ℕ, ◌<◌, ◌≤◌}
use native.Mathlib.Omega.{arith}
use native.Mathlib.Decide.{ℕ_discrete}
use mathlib.Core.Path.{◌≡◌, refl, sym, ap, ◌∙◌}
use mathlib.Core.Logic.{inl, inr, ⊎_elim}
use mathlib.Core.Bool.{Bool, true, false, not, cond, ◌&&◌, ◌||◌, false≢true, or-true, and-false}
use mathlib.Core.List.{List, [], ◌∷◌, ◌++◌, append-nil, append_assoc}
use lib.Dec.{eqb}
use lib.ListN.{length, length-append}
use Rattle.octets.specs.Lists.{some, place}
use Rattle.octets.specs.Parts.{zeros, same}
use Rattle.octets.proofs.Tests.{both, false_of}
use Rattle.octets.proofs.Parts.{same_eq, same_refl}
use Rattle.ledger.specs.Fields.{rec, slots, records, used, grant, client, value, token as token_field}
use Rattle.ledger_laws.proofs.Says.{neither, of_sound}
use Rattle.ledger_laws.proofs.Searches.{first_in}
use Rattle.desk.specs.Requests.{ResourceRequest}
use Rattle.desk.specs.Answers.{number_of}
use Rattle.desk.specs.declared.answer.Refusal.TheVariants.{CodeRedeemed}
use Rattle.desk.specs.Push.{push_at}
use Rattle.desk.specs.Token.{code_place, token_at}
use Rattle.desk.specs.Resource.{token_place}
use Rattle.desk.proofs.Turns.{Passed}
use Rattle.call_laws.proofs.Facts.{resource_facts}
use Rattle.history.specs.Runs.{Call, push, decide, token, resource, sweep, Typed, Said, Step, step, number_in, accepted, grant_of, holder_of, steps, last}
use Rattle.history.specs.Events.{Push, Consent, No, Token, SecondUse, Reading, Event, event, of_record, provided, reader_of, happened, events_of, events, rank, is, listed}
use Rattle.history.specs.Histories.{enters, concerns, history, as_token, issued, Granted, Chain, Life, unborn, asked, decided, redeemed}
use Rattle.history.specs.Demand3.{reading, stands}
use Rattle.history.proofs.Steps.{checks_of, acceptance, refusal, ending, step_cases, refused_not}
use Rattle.history.proofs.Events.{some_append, InFirst, InSecond, parted, listed_append, some_provided, some_either, dropped_none, refused_none}
use Rattle.history.proofs.Effects.{Reads, reads}
use Rattle.history.proofs.Runs.{Good}
use Rattle.history.proofs.Links.{TiedRedeemed, Tied, history_out, Inv}
use Rattle.history.proofs.Invariant.{consented_calls, inv_step}

-- ---- the chain

module _ (l : List ℕ) (es : List Event) (t : ℕ) (q : ResourceRequest) (k : ℕ) (e : Reads l t q k) (inv : Inv l es) where
  read_tie : TiedRedeemed (rec l k) (history (grant (rec l k)) es)
  read_tie = let x : Tied es (rec l k) = rw e.here at (inv.tied k) in x.when_redeemed e.was

  pub read_chain : Chain t q (history (grant (rec l k)) es)
  read_chain =
      let x = read_tie.was in
      let d = x.was in
      let p = d.was in
      let h : history (grant (rec l k)) es ≡ push p.t p.table p.p ∷ decide d.t d.d d.out ∷ token x.t x.table x.q ∷ [] =
      x.only ∙ ap (λ (cs : List Call). cs ++ (token x.t x.table x.q ∷ [])) (consented_calls _ _ _ _ _ d)
      in
      let b = (rw h at (inv.past (grant (rec l k)))).1.1.0 in
      let c = e.onward in
      let u = read_tie.until in
      let a = e.alive in
      record {
        push_time = p.t;
        push_table = p.table;
        pushed = p.p;
        decide_time = d.t;
        consent = d.d;
        output = d.out;
        token_time = x.t;
        token_table = x.table;
        redeemed = x.q;
        order = h;
        yes = d.yes;
        same_client = (d.by ∙ sym p.by, x.by ∙ sym p.by);
        holder = sym e.holder_is ∙ sym d.given;
        scope = rw p.asks e.scope_in;
        token_issued = sym e.token_is ∙ sym x.issued;
        young = (omega arith, omega arith);
        key = sym e.key_is ∙ sym x.bound;
        verified = rw p.commits x.verified;
      }

  -- the push has the client of the record
  pub read_client : read_chain.pushed.client ≡ client (rec l k)
  unfolding read_chain
  read_client = read_tie.was.was.was.by

-- ---- the reading events of a step

-- what a step with this reading, after those events of its own, says
pub record ReadHere (l : List ℕ) (t : ℕ) (q : ResourceRequest) (g : ℕ) (before fs : List Event) : Type 0 where
  pub read : Reads l t q (token_place l q)
  pub number : g ≡ grant (rec l (token_place l q))
  pub first : before ≡ []
  pub before_aside : (f : ℕ) → some (concerns f) before ≡ false
  pub aside : (f : ℕ) → some (concerns f) fs ≡ false

no_reading : (fs before : List Event) (id : List ℕ) (who g : ℕ) (c : Call) (after : List Event) → some (is Reading) fs ≡ false
    → fs ≡ before ++ (event Reading id who g c ∷ after) → ⊥
no_reading fs before id who g c after n e =
    let z : some (is Reading) (before ++ (event Reading id who g c ∷ after)) ≡ true = some_append (is Reading) before (event Reading id who g c ∷ after) ∙ or-true (some (is Reading) before) in
    false≢true (sym n ∙ ap (some (is Reading)) e ∙ z)

only_one : {A : Type 0} (x : A) (before : List A) (y : A) (after : List A) → x ∷ [] ≡ before ++ (y ∷ after) → (before ≡ []) × (x ≡ y)
only_one x [] y after e = (refl, cc)
only_one x (b ∷ before) y after e = absurd (let n = ap length e in let m = length-append before (y ∷ after) in omega arith)

no_decision : (b : Bool) → eqb (rank (cond b Consent No)) (rank Reading) ≡ false
no_decision true = refl
no_decision false = refl

over : (l : List ℕ) (t u : ℕ) (q w : ResourceRequest) (g : ℕ) → t ≡ u → q ≡ w → grant (rec l (token_place l q)) ≡ g → Reads l t q (token_place l q)
    → (fs : List Event) → ((f : ℕ) → some (concerns f) fs ≡ false) → ReadHere l u w g [] fs
over l t u q w g e f h x fs a =
    rw (← e, ← f) (record { read = x; number = sym h; first = refl; before_aside = λ i. refl; aside = a })

read_done : (l : List ℕ) (c : Call) → Passed (checks_of l c) → (before after : List Event) (id : List ℕ) (who g t : ℕ) (q : ResourceRequest)
    → events_of (acceptance l c) ≡ before ++ (event Reading id who g (resource t q) ∷ after)
    → ReadHere l t q g before (events_of (acceptance l c))
unfolding push_at token_at
read_done l (push u table p) ok before after id who g t q e = absurd (no_reading _ before id who g (resource t q) after refl e)
read_done l (decide u d out) ok before after id who g t q e =
    absurd (no_reading (events_of (acceptance l (decide u d out))) before id who g (resource t q) after
    (some_provided (is Reading) (accepted (acceptance l (decide u d out)).answer) _ (no_decision d.yes)) e)
read_done l (token u table p) ok before after id who g t q e = absurd (no_reading _ before id who g (resource t q) after refl e)
read_done l (resource u w) ok before after id who g t q e =
    let o = only_one _ before (event Reading id who g (resource t q)) after e in
    let c : resource u w ≡ resource t q = ap (λ (v : Event). v.call) o.1 in
    let a : u ≡ t = cc in
    let b : w ≡ q = cc in
    rw o.0
    (over l u t w q g a b (ap (λ (v : Event). v.grant) o.1) (reads l u w (resource_facts l u w ok)) (events_of (acceptance l (resource u w))) (λ f. refl))
read_done l (sweep u) ok before after id who g t q e =
    absurd (no_reading (events_of (acceptance l (sweep u))) before id who g (resource t q) after
    (dropped_none (is Reading) (sweep u) (λ r. refl) (records l) _) e)

pub read_here : (l : List ℕ) (c : Call) (before after : List Event) (id : List ℕ) (who g t : ℕ) (q : ResourceRequest)
    → events_of (step l c) ≡ before ++ (event Reading id who g (resource t q) ∷ after) → ReadHere l t q g before (events_of (step l c))
read_here l c before after id who g t q =
    step_cases (λ (s : Step). events_of s ≡ before ++ (event Reading id who g (resource t q) ∷ after) → ReadHere l t q g before (events_of s)) l c
    (λ why u n e. absurd (no_reading (events_of (refusal l c why)) before id who g (resource t q) after (refused_none (is Reading) l c why n) e))
    (λ a table p u e. absurd (no_reading (events_of (ending l a table p)) before id who g (resource t q) after refl e))
    (λ ok. read_done l c ok before after id who g t q)

-- ---- it stays: a history of three calls takes no fourth

life_short : (h : List Call) → Life h → length h ≤ 3
life_short h (unborn e) = rw e (omega arith)
life_short h (asked a x p e) = rw e (omega arith)
life_short h (decided a x p b d out e z) = rw e (omega arith)
life_short h (redeemed a x p b d out c y q e u v w) = rw e (omega arith)

none_left : {A : Type 0} (xs : List A) → length xs ≡ 0 → xs ≡ []
none_left [] e = refl
none_left (x ∷ xs) e = absurd (omega (arith, e))

full : (g : ℕ) (es fs : List Event) → Life (history g (es ++ fs)) → length (history g es) ≡ 3 → history g (es ++ fs) ≡ history g es
full g es fs life three =
    let s = listed_append (concerns g) (λ (v : Event). v.call) es fs in
    let a = life_short _ life in
    let b = ap length s in
    let c = length-append (history g es) (history g fs) in
    let n : history g fs ≡ [] = none_left (history g fs) (omega arith) in
    s ∙ ap (λ (cs : List Call). history g es ++ cs) n ∙ append-nil _

-- the granted readings so far
pub record Kept (l : List ℕ) (es : List Event) : Type 0 where
  pub inv : Inv l es
  pub chains : (r : Granted es) → Chain r.time r.request (history r.grant r.before)
  pub standing : (r : Granted es) → history r.grant es ≡ history r.grant r.before

module _ (l m : List ℕ) (es fs : List Event) (x : Kept l es) (new : Inv m (es ++ fs)) (r : Granted (es ++ fs)) where
  -- a reading of an earlier step
  module _ (f : InFirst es r.before (event Reading r.client r.holder r.grant (resource r.time r.request))) where
    abbrev earlier : Granted es
    earlier =
        record {
          before = r.before;
          client = r.client;
          holder = r.holder;
          grant = r.grant;
          time = r.time;
          request = r.request;
          after = f.rest;
          whole = f.whole;
        }

    earlier_chain : Chain r.time r.request (history r.grant r.before)
    earlier_chain = x.chains earlier

    earlier_stands : history r.grant (es ++ fs) ≡ history r.grant r.before
    earlier_stands =
        let s = x.standing earlier in
        full r.grant es fs (new.life r.grant) (ap length s ∙ ap length earlier_chain.order) ∙ s

  -- a reading of this step
  module _ (s : InSecond es fs r.before (event Reading r.client r.holder r.grant (resource r.time r.request)) r.after)
      (h : ReadHere l r.time r.request r.grant s.more fs) where
    here_before : history r.grant r.before ≡ history r.grant es
    here_before = ap (history r.grant) s.start ∙ history_out r.grant es s.more (h.before_aside r.grant)

    here_chain : Chain r.time r.request (history r.grant r.before)
    here_chain = rw (here_before, h.number) (read_chain l es r.time r.request (token_place l r.request) h.read x.inv)

    here_stands : history r.grant (es ++ fs) ≡ history r.grant r.before
    here_stands = history_out r.grant es fs (h.aside r.grant) ∙ sym here_before

pub kept_step : (l : List ℕ) (es : List Event) (c : Call) → Good l → Typed c → Kept l es → Kept (step l c).after (es ++ events_of (step l c))
kept_step l es c g y x =
    let fs = events_of (step l c) in
    let m = (step l c).after in
    let new = inv_step l es c g y x.inv in
    record {
      inv = new;
      chains = λ r.
          ⊎_elim {C = Chain r.time r.request (history r.grant r.before)}
          (λ f. earlier_chain l m es fs x new r f)
          (λ s. here_chain l m es fs x new r s (read_here l c s.more r.after r.client r.holder r.grant r.time r.request s.whole))
          (parted es fs r.before _ r.after r.whole);
      standing = λ r.
          ⊎_elim {C = history r.grant (es ++ fs) ≡ history r.grant r.before}
          (λ f. earlier_stands l m es fs x new r f)
          (λ s. here_stands l m es fs x new r s (read_here l c s.more r.after r.client r.holder r.grant r.time r.request s.whole))
          (parted es fs r.before _ r.after r.whole);
    }

no_event : (e : Event) (before after : List Event) → [] ≡ before ++ (e ∷ after) → ⊥
no_event e before after h = let n = ap length h in let m = length-append before (e ∷ after) in omega arith

pub kept_start : (l : List ℕ) → Inv l [] → Kept l []
kept_start l i =
    record {
      inv = i;
      chains = λ r. absurd (no_event _ r.before r.after r.whole);
      standing = λ r. absurd (no_event _ r.before r.after r.whole);
    }

-- ---- the token was issued

-- of the events that make histories none but a token comes of a token call
abbrev pub odd : List ℕ → Event → Bool
odd v e = as_token v e.call && (enters e.kind && not (is Token e))

odd_none : (v : List ℕ) (c : Call) (a : Said) (l m : List ℕ) → some (odd v) (happened c a l m) ≡ false
odd_none v (push t table p) a l m = some_provided (odd v) (accepted a) (event Push p.client (holder_of a) (grant_of a) (push t table p)) refl
odd_none v (decide t d out) a l m =
    some_provided (odd v) (accepted a) (event (cond d.yes Consent No) d.client d.holder (grant_of a) (decide t d out)) refl
odd_none v (token t table q) a l m =
    some_either (odd v) (accepted a) (eqb (number_in a) (number_of CodeRedeemed)) (event Token q.client (holder_of a) (grant_of a) (token t table q))
    (of_record SecondUse (rec l (code_place l q)) (token t table q)) (and-false (same q.fresh v)) (and-false (same q.fresh v))
odd_none v (resource t q) a l m =
    some_provided (odd v) (accepted a) (event Reading (reader_of l q) (holder_of a) (grant_of a) (resource t q)) refl
odd_none v (sweep t) a l m = dropped_none (odd v) (sweep t) (λ r. refl) (records l) (records m)

pub odd_step : (v l : List ℕ) (es : List Event) (c : Call) → some (odd v) es ≡ false → some (odd v) (es ++ events_of (step l c)) ≡ false
odd_step v l es c x =
    let s = step l c in
    some_append (odd v) es (events_of s) ∙ rw (x, odd_none v s.call s.answer s.before s.after)

odd_before : (v : List ℕ) (before : List Event) (e : Event) (after : List Event) → some (odd v) (before ++ (e ∷ after)) ≡ false → some (odd v) before ≡ false
odd_before v before e after x = (neither (some (odd v) before) _ (sym (some_append (odd v) before (e ∷ after)) ∙ x)).0

tokenly : (a e g t : Bool) → (a && (e && not t)) ≡ false → a ≡ true → (e && g) ≡ true → (t && a) ≡ true
tokenly true true true true o p c = refl
tokenly true true true false o p c = absurd (false≢true (sym o))
tokenly true true false t o p c = absurd (false≢true c)
tokenly true false g t o p c = absurd (false≢true c)
tokenly false e g t o p c = absurd (false≢true p)

issued_in : (g : ℕ) (v : List ℕ) (es : List Event) → some (odd v) es ≡ false → some (as_token v) (history g es) ≡ true → issued v es ≡ true
unfolding listed
issued_in g v [] o h = h
issued_in g v (e ∷ es) o h = go (concerns g e) refl (issued_in g v es (neither (odd v e) _ o).1)
  where
    rest : (some (as_token v) (history g es) ≡ true → issued v es ≡ true) → some (as_token v) (history g es) ≡ true
        → ((is Token e && as_token v e.call) || issued v es) ≡ true
    rest ih z = rw (ih z) (or-true (is Token e && as_token v e.call))

    by : (a : Bool) → as_token v e.call ≡ a → concerns g e ≡ true → (a || some (as_token v) (history g es)) ≡ true
        → (some (as_token v) (history g es) ≡ true → issued v es ≡ true) → ((is Token e && as_token v e.call) || issued v es) ≡ true
    by true p c z ih = rw (tokenly (as_token v e.call) (enters e.kind) (eqb g e.grant) (is Token e) (neither (odd v e) _ o).0 p c)
    by false p c z ih = rest ih z

    go : (b : Bool) → concerns g e ≡ b → (some (as_token v) (history g es) ≡ true → issued v es ≡ true)
        → ((is Token e && as_token v e.call) || issued v es) ≡ true
    go true p ih = by (as_token v e.call) refl p (rw p at h) ih
    go false p ih = rest ih (rw p at h)

pub token_before : (es : List Event) (r : Granted es) → some (odd r.request.token) es ≡ false
    → Chain r.time r.request (history r.grant r.before) → issued r.request.token r.before ≡ true
token_before es r o x =
    issued_in r.grant r.request.token r.before (odd_before _ r.before _ r.after (rw r.whole at o))
    (rw (x.order, x.token_issued, same_refl x.redeemed.fresh))

-- ---- a granted reading is an event

events_more : (l : List ℕ) (cs : List Call) (c : Call) → events (steps l (cs ++ (c ∷ []))) ≡ events (steps l cs) ++ events_of (step (last l cs) c)
events_more l [] c = append-nil _
events_more l (d ∷ cs) c =
    ap (λ (es : List Event). events_of (step l d) ++ es) (events_more (step l d).after cs c)
    ∙ sym (append_assoc (events_of (step l d)) (events (steps (step l d).after cs)) (events_of (step (last (step l d).after cs) c)))

reading_event : (l : List ℕ) (t : ℕ) (q : ResourceRequest) → accepted (reading l t q) ≡ true
    → events_of (step l (resource t q)) ≡ event Reading (reader_of l q) (holder_of (reading l t q)) (grant_of (reading l t q)) (resource t q) ∷ []
unfolding step
reading_event l t q h =
    ap (λ (b : Bool). provided b (event Reading (reader_of l q) (holder_of (reading l t q)) (grant_of (reading l t q)) (resource t q))) h

pub told : (l : List ℕ) (cs : List Call) (t : ℕ) (q : ResourceRequest) → accepted (reading (last l cs) t q) ≡ true
    → events (steps l (cs ++ (resource t q ∷ [])))
    ≡ events (steps l cs) ++ (event Reading (reader_of (last l cs) q) (holder_of (reading (last l cs) t q)) (grant_of (reading (last l cs) t q)) (resource t q) ∷ [])
told l cs t q h = events_more l cs (resource t q) ∙ ap (λ (es : List Event). events (steps l cs) ++ es) (reading_event (last l cs) t q h)

-- ---- a value that stands in the ledger is no token of it

module _ (l : List ℕ) (t : ℕ) (q : ResourceRequest) (k : ℕ) (e : Reads l t q k) (j : ℕ) (h : j < slots l) (same_value : value (rec l j) ≡ q.token) where
  shown_set : zeros (token_field (rec l k)) ≡ false
  shown_set = (((of_sound l e.is_sound).within.each k e.inside).when_used (λ z. omega (arith, e.was))).token_set e.was

  shown_closed : ⊥
  shown_closed = go (ℕ_discrete j k)
    where
      go : Dec (j ≡ k) → ⊥
      go (yes i) =
          let v : value (rec l k) ≡ token_field (rec l k) = rw (← i) (same_value ∙ sym (rw (← i) at e.token_is)) in
          (of_sound l e.is_sound).within.own k e.inside (rw v shown_set) v
      go (no n) =
          (of_sound l e.is_sound).within.pool j k h e.inside n
          (record { v = token_field (rec l k); nonzero = shown_set; left = inl (e.token_is ∙ sym same_value); right = inr refl })

not_refused : (b : Bool) → b ≡ false → b ≡ true → ⊥
not_refused b e f = false≢true (sym e ∙ f)

-- a granted reading, by what its checks say
granted : (l : List ℕ) (t : ℕ) (q : ResourceRequest) → accepted (reading l t q) ≡ true → Reads l t q (token_place l q)
granted l t q =
    step_cases (λ (s : Step). accepted s.answer ≡ true → Reads l t q (token_place l q)) l (resource t q)
    (λ why u n f. absurd (not_refused _ (refused_not why) f))
    (λ a table p u f. absurd (false≢true f))
    (λ ok f. reads l t q (resource_facts l t q ok))

pub value_closed : (l : List ℕ) (t : ℕ) (q : ResourceRequest) → stands q.token l ≡ true → accepted (reading l t q) ≡ false
value_closed l t q s =
    let test : List ℕ → Bool = λ (r : List ℕ). used r && same (value r) q.token in
    let a = first_in test l s in
    let r = rec l (place test (records l)) in
    let z = same_eq (value r) q.token (both (used r) (same (value r) q.token) a.passes).1 in
    false_of _ (λ f. shown_closed l t q (token_place l q) (granted l t q f) (place test (records l)) a.inside z)
