-- Each record in use is tied to the history of its grant number.
use Prim.Native.Nat.{ℕ, ◌+◌, ◌<◌, ◌≤◌}
use native.Mathlib.Omega.{arith}
use native.Mathlib.Decide.{ℕ_discrete, dec_lt}
use mathlib.Core.Path.{◌≡◌, refl, ap, ◌∙◌}
use mathlib.Core.Logic.{◌≢◌}
use mathlib.Core.Bool.{true, false}
use mathlib.Core.List.{List, [], ◌∷◌, ◌++◌}
use lib.Dec.{eqb}
use lib.ListN.{get_or, set, get_or-eq_default}
use lib.Seq.{get_or-set_same, get_or-set_other}
use borrow.Author.Tests.{eq-eqb, ne_eqb}
use Rattle.octets.specs.Lists.{some}
use Rattle.s256.specs.Rule.{matches}
use Rattle.ledger.specs.Limits.{code_lifetime, token_lifetime}
use Rattle.ledger.specs.Fields.{clock, next_number, slots, records, state, scope, grant, expiry, holder, client, challenge, token as token_field, bound_key}
use Rattle.ledger.specs.Sound.{sound}
use Rattle.ledger.proofs.Records.{length_records, records_at}
use Rattle.ledger_laws.proofs.Says.{of_sound}
use Rattle.clients.specs.Limits.{profile_reference}
use Rattle.desk.specs.Push.{lifetime}
use Rattle.desk.specs.Requests.{PushRequest, DecideRequest, TokenRequest}
use Rattle.history.specs.Runs.{Call, push, decide, token, resource, sweep}
use Rattle.history.specs.Events.{Event}
use Rattle.history.specs.Histories.{concerns, history, DecidedInTime, Life}
use Rattle.history.proofs.Events.{listed_in, listed_out}
use Rattle.history.proofs.Effects.{Wrote}

-- ---- the records by their places: behind the last one stands the empty list, which is in state 0

pub at_none : (l : List ℕ) (j : ℕ) → slots l ≤ j → get_or (records l) j [] ≡ []
at_none l j h = get_or-eq_default (records l) [] (rw (length_records l) h)

pub used_inside : (l : List ℕ) (j : ℕ) → state (get_or (records l) j []) ≢ 0 → j < slots l
used_inside l j u = go (dec_lt j (slots l))
  where
    go : Dec (j < slots l) → j < slots l
    go (yes h) = h
    go (no h) = absurd (u (ap state (at_none l j (omega (arith, h)))))

-- what soundness says of them
pub grant_below : (l : List ℕ) → sound l ≡ true → (j : ℕ) → state (get_or (records l) j []) ≢ 0 → grant (get_or (records l) j []) < next_number l
grant_below l e j u =
    let h = used_inside l j u in
    let r = records_at l j h in
    rw r (((of_sound l e).within.each j h).when_used (rw r at u)).grant_most

pub grants_apart : (l : List ℕ) → sound l ≡ true → (i j : ℕ) → i ≢ j → state (get_or (records l) i []) ≢ 0 → state (get_or (records l) j []) ≢ 0
    → grant (get_or (records l) i []) ≢ grant (get_or (records l) j [])
grants_apart l e i j n u v =
    let h = used_inside l i u in
    let m = used_inside l j v in
    let a = records_at l i h in
    let b = records_at l j m in
    rw (a, b) ((of_sound l e).within.grants i j h m n (rw a at u) (rw b at v))

-- ---- what a history says of the fields of a record

pub record PushedBy (id : List ℕ) (bits : ℕ) (text : List ℕ) (h : List Call) : Type 0 where
  pub t : ℕ
  pub table : List ℕ
  pub p : PushRequest
  pub only : h ≡ push t table p ∷ []
  pub by : p.client ≡ id
  pub asks : p.scope ≡ bits
  pub commits : p.challenge ≡ text
  pub profile : lifetime table p < profile_reference

pub record ConsentedBy (id : List ℕ) (bits : ℕ) (text : List ℕ) (who : ℕ) (h : List Call) : Type 0 where
  pub t : ℕ
  pub d : DecideRequest
  pub out : List ℕ
  pub earlier : List Call
  pub only : h ≡ earlier ++ (decide t d out ∷ [])
  pub yes : d.yes ≡ true
  pub by : d.client ≡ id
  pub given : d.holder ≡ who
  pub was : PushedBy id bits text earlier
  pub soon : DecidedInTime was.t was.table was.p t

pub record RedeemedBy (id : List ℕ) (bits : ℕ) (text : List ℕ) (who : ℕ) (shown key : List ℕ) (h : List Call) : Type 0 where
  pub t : ℕ
  pub table : List ℕ
  pub q : TokenRequest
  pub earlier : List Call
  pub only : h ≡ earlier ++ (token t table q ∷ [])
  pub by : q.client ≡ id
  pub issued : q.fresh ≡ shown
  pub bound : q.presented ≡ key
  pub verified : matches q.verifier text ≡ true
  pub was : ConsentedBy id bits text who earlier

-- with the expiry that the latest call wrote
pub record TiedPushed (r : List ℕ) (h : List Call) : Type 0 where
  pub was : PushedBy (client r) (scope r) (challenge r) h
  pub until : expiry r ≡ was.t + lifetime was.table was.p

pub record TiedConsented (r : List ℕ) (h : List Call) : Type 0 where
  pub was : ConsentedBy (client r) (scope r) (challenge r) (holder r) h
  pub until : expiry r ≡ was.t + code_lifetime

pub record TiedRedeemed (r : List ℕ) (h : List Call) : Type 0 where
  pub was : RedeemedBy (client r) (scope r) (challenge r) (holder r) (token_field r) (bound_key r) h
  pub until : expiry r ≡ was.t + token_lifetime

pub record Linked (r : List ℕ) (h : List Call) : Type 0 where
  pub when_pushed : state r ≡ 1 → TiedPushed r h
  pub when_consented : state r ≡ 2 → TiedConsented r h
  pub when_redeemed : state r ≡ 3 → TiedRedeemed r h

abbrev pub Tied : List Event → List ℕ → Type 0
Tied es r = Linked r (history (grant r) es)

-- a free record is tied to nothing
pub tied_free : (es : List Event) (r : List ℕ) → state r ≡ 0 → Tied es r
tied_free es r e = record { when_pushed = λ f. absurd (omega arith); when_consented = λ f. absurd (omega arith); when_redeemed = λ f. absurd (omega arith) }

-- ---- events are added

pub history_in : (g : ℕ) (es : List Event) (e : Event) → concerns g e ≡ true → history g (es ++ (e ∷ [])) ≡ history g es ++ (e.call ∷ [])
history_in g es e p = listed_in (concerns g) (λ (v : Event). v.call) es e p

pub history_out : (g : ℕ) (es fs : List Event) → some (concerns g) fs ≡ false → history g (es ++ fs) ≡ history g es
history_out g es fs p = listed_out (concerns g) (λ (v : Event). v.call) es fs p

-- a record keeps its tie as long as its history stands
pub carry : (r : List ℕ) (es fs : List Event) → (state r ≢ 0 → some (concerns (grant r)) fs ≡ false) → Tied es r → Tied (es ++ fs) r
carry r es fs out k = go (ℕ_discrete (state r) 0)
  where
    go : Dec (state r ≡ 0) → Tied (es ++ fs) r
    go (yes e) = tied_free (es ++ fs) r e
    go (no n) = rw (history_out (grant r) es fs (out n)) k

-- the time of a call
abbrev pub now_of : Call → ℕ
now_of (push t table p) = t
now_of (decide t d out) = t
now_of (token t table q) = t
now_of (resource t q) = t
now_of (sweep t) = t

-- no call of a history is later than the clock
abbrev pub Upto : ℕ → List Call → Type 0
Upto t [] = Unit {0}
Upto t (c ∷ cs) = (now_of c ≤ t) × Upto t cs

pub upto_later : (t u : ℕ) (h : List Call) → t ≤ u → Upto t h → Upto u h
upto_later t u [] b x = tt
upto_later t u (c ∷ cs) b x = (omega arith, upto_later t u cs b x.1)

upto_more : (t : ℕ) (h : List Call) (c : Call) → now_of c ≤ t → Upto t h → Upto t (h ++ (c ∷ []))
upto_more t [] c b x = (b, tt)
upto_more t (d ∷ h) c b x = (x.0, upto_more t h c b x.1)

-- what holds of the record that was written and of every other holds of all
pub written : (l : List ℕ) (t next k : ℕ) (s m : List ℕ) → Wrote l t next k s m → (P : List ℕ → Type 0) → P s → (j : ℕ) → (j ≢ k → P (get_or (records l) j []))
    → P (get_or (records m) j [])
written l t next k s m w P new j old = rw w.records_are (go (ℕ_discrete j k))
  where
    go : Dec (j ≡ k) → P (get_or (set (records l) k s) j [])
    go (yes z) = rw (z, get_or-set_same (records l) k s [] w.inside) new
    go (no ne) = rw (get_or-set_other (records l) k j s [] ne) (old ne)

-- ---- the invariant

pub record Inv (l : List ℕ) (es : List Event) : Type 0 where
  pub tied : (j : ℕ) → Tied es (get_or (records l) j [])
  pub unborn : (g : ℕ) → next_number l ≤ g → history g es ≡ []
  pub past : (g : ℕ) → Upto (clock l) (history g es)
  pub life : (g : ℕ) → Life (history g es)

-- events that no history holds, in a step that leaves each record as it was or free
pub idle : (l m : List ℕ) (es fs : List Event) → ((g : ℕ) → some (concerns g) fs ≡ false)
    → ((j : ℕ) → Tied es (get_or (records m) j [])) → next_number m ≡ next_number l → clock l ≤ clock m → Inv l es → Inv m (es ++ fs)
idle l m es fs out ties n c inv =
    record {
      tied = λ j. carry (get_or (records m) j []) es fs (λ u. out _) (ties j);
      unborn = λ g b. history_out g es fs (out g) ∙ inv.unborn g (omega arith);
      past = λ g. rw (history_out g es fs (out g)) (upto_later (clock l) (clock m) (history g es) c (inv.past g));
      life = λ g. rw (history_out g es fs (out g)) (inv.life g);
    }

-- one event of the number g, in a step that leaves r at the place k
pub entry : (l m : List ℕ) (es : List Event) (e : Event) (t next k : ℕ) (r : List ℕ) (g : ℕ)
    → Inv l es → Wrote l t next k r m → next_number l ≤ next → g < next → now_of e.call ≡ t
    → ((f : ℕ) → concerns f e ≡ eqb f g)
    → ((j : ℕ) → j ≢ k → state (get_or (records l) j []) ≢ 0 → grant (get_or (records l) j []) ≢ g)
    → Tied (es ++ (e ∷ [])) r
    → Life (history g es ++ (e.call ∷ []))
    → Inv m (es ++ (e ∷ []))
entry l m es e t next k r g inv w n b now hears other new lives =
    record {
      tied = λ j. rw w.records_are (stored j (ℕ_discrete j k));
      unborn = λ f h. let c = w.next_is in history_out f es (e ∷ []) (out f (λ z. omega arith)) ∙ inv.unborn f (omega arith);
      past = λ f. rw w.clock_is (upto f (ℕ_discrete f g));
      life = λ f. alive f (ℕ_discrete f g);
    }
  where
    out : (f : ℕ) → f ≢ g → some (concerns f) (e ∷ []) ≡ false
    out f ne = rw (hears f ∙ ne_eqb f g ne)

    into : concerns g e ≡ true
    into = hears g ∙ eq-eqb g g refl

    stored : (j : ℕ) → Dec (j ≡ k) → Tied (es ++ (e ∷ [])) (get_or (set (records l) k r) j [])
    stored j (yes z) = rw (z, get_or-set_same (records l) k r [] w.inside) new
    stored j (no ne) =
        rw (get_or-set_other (records l) k j r [] ne) (carry (get_or (records l) j []) es (e ∷ []) (λ u. out _ (other j ne u)) (inv.tied j))

    upto : (f : ℕ) → Dec (f ≡ g) → Upto t (history f (es ++ (e ∷ [])))
    upto f (yes z) =
        rw (z, history_in g es e into) (upto_more t (history g es) e.call (omega arith) (upto_later (clock l) t (history g es) w.onward (inv.past g)))
    upto f (no ne) = rw (history_out f es (e ∷ []) (out f ne)) (upto_later (clock l) t (history f es) w.onward (inv.past f))

    alive : (f : ℕ) → Dec (f ≡ g) → Life (history f (es ++ (e ∷ [])))
    alive f (yes z) = rw (z, history_in g es e into) lives
    alive f (no ne) = rw (history_out f es (e ∷ []) (out f ne)) (inv.life f)
