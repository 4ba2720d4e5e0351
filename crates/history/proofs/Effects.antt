-- What each accepted call does to the records, the next number and the clock.
use Prim.Native.Nat.{ℕ, zero, suc, ◌+◌, ◌≤◌, ◌<◌, ◌^◌}
use native.Mathlib.Omega.{arith}
use mathlib.Core.Path.{◌≡◌, refl, sym, ap, ◌∙◌}
use mathlib.Core.Bool.{Bool, true, false, not, ◌||◌}
use mathlib.Core.List.{List, [], ◌∷◌, map}
use lib.Dec.{eqb, ltb, leb}
use lib.ListN.{length, get_or, set}
use lib.Seq.{ext_get_or}
use borrow.Author.Tests.{leb-false, ltb-false, eqb-true, eqb-false}
use Rattle.octets.specs.Lists.{place}
use Rattle.octets.specs.Numbers.{num}
use Rattle.octets.specs.Parts.{same}
use Rattle.octets.proofs.Tests.{both}
use Rattle.octets.proofs.Parts.{same_eq}
use Rattle.octets.proofs.Numbers.{Octets}
use Rattle.forms.specs.Forms.{challenge_formed, redirect_formed}
use Rattle.forms.proofs.Laws.{challenge_length_lem, redirect_length_lem}
use Rattle.s256.specs.Rule.{matches}
use Rattle.ledger.specs.Limits.{code_lifetime, token_lifetime, last_number, clock_limit}
use Rattle.ledger.specs.Fields.{
  clock,
  next_number,
  rec,
  slots,
  records,
  with_record,
  with_clock,
  with_next,
  state,
  in_state,
  scope,
  grant,
  expiry,
  holder,
  client,
  challenge,
  value,
  token,
  bound_key,
}
use Rattle.ledger.specs.Sound.{sound}
use Rattle.ledger.specs.Checks.{untimely, is_free, is_with, is_reference, is_code, is_token, expired}
use Rattle.ledger.specs.Write.{free}
use Rattle.ledger.specs.Sweep.{swept, swept_record}
use Rattle.ledger.specs.declared.state.State.TheVariants.{Pushed, Consented, Redeemed}
use Rattle.ledger.proofs.Records.{length_records, records_at, rec_length, length_with, records_with}
use Rattle.ledger_laws.proofs.Slots.{slot_of, pushed_slot, consented_slot, redeemed_slot}
use Rattle.ledger_laws.proofs.Written.{Wrote as Leaves, pushed_wrote, consented_wrote, redeemed_wrote}
use Rattle.ledger.proofs.Swept.{length_free, rec_swept, slots_swept}
use Rattle.ledger_laws.proofs.Says.{neither, of_sound}
use Rattle.ledger_laws.proofs.Searches.{First, first_in, code_says}
use Rattle.ledger_laws.proofs.Heads.{records_clock, next_clock, clock_is, length_next, records_next, next_is, next_with, next_left}
use Rattle.ledger_laws.proofs.Kept.{head_swept, length_sweep}
use Rattle.clients.specs.Limits.{profile_reference}
use Rattle.desk.specs.Checks.{scope_fits, within}
use Rattle.desk.specs.Requests.{PushRequest, DecideRequest, TokenRequest, ResourceRequest}
use Rattle.desk.specs.Push.{lifetime, push_record, push_at}
use Rattle.desk.specs.Decide.{reference_place, consent_record, consent_at, decline_at}
use Rattle.desk.specs.Token.{code_place, token_record, token_at, ended}
use Rattle.desk.specs.Resource.{token_place}
use Rattle.history.specs.Runs.{TypedPush, TypedDecide, TypedToken}
use Rattle.call_laws.proofs.Facts.{PushFacts, DecideFacts, TokenFacts, ResourceFacts, SecondUseFacts}
use Rattle.call_laws.proofs.Profile.{lives_under}

-- ---- what checks 1 and 2 say

pub since : (l : List ℕ) (t : ℕ) → untimely l t ≡ false → clock l ≤ t
unfolding untimely
since l t e = ltb-false t (clock l) (neither (ltb t (clock l)) (leb clock_limit t) e).0

pub time_below : (l : List ℕ) (t : ℕ) → untimely l t ≡ false → t < 2 ^ 40
unfolding untimely
time_below l t e = leb-false clock_limit t (neither (ltb t (clock l)) (leb clock_limit t) e).1

-- not expired: before the expiry
pub before_expiry : (t : ℕ) (r : List ℕ) → expired t r ≡ false → t < expiry r
before_expiry t r e = leb-false (expiry r) t e

-- ---- a record is written at place k, in place of r

pub record Wrote (l : List ℕ) (t next k : ℕ) (s m : List ℕ) : Type 0 where
  pub is_sound : sound l ≡ true
  pub onward : clock l ≤ t
  pub inside : k < length (records l)
  pub here : get_or (records l) k [] ≡ rec l k
  pub records_are : records m ≡ set (records l) k s
  pub next_is : next_number m ≡ next
  pub clock_is : clock m ≡ t

sound_long : (l : List ℕ) → sound l ≡ true → 288 ≤ length l
sound_long l e = (of_sound l e).least

wrote : (l : List ℕ) (t k : ℕ) (s : List ℕ) → sound l ≡ true → untimely l t ≡ false → k < slots l → length s ≡ 256
    → Wrote l t (next_number l) k s (with_clock t (with_record l k s))
wrote l t k s e f h n =
    let a = sound_long l e in
    let b = time_below l t f in
    let o = with_record l k s in
    let c = length_with l k s n h in
    record {
      is_sound = e;
      onward = since l t f;
      inside = rw (length_records l) h;
      here = records_at l k h;
      records_are = records_clock t o ∙ records_with l k s n h;
      next_is = next_clock t o ∙ next_with l k s n h;
      clock_is = clock_is t o (omega arith) (omega arith);
    }

wrote_next : (l : List ℕ) (t k : ℕ) (s : List ℕ) → sound l ≡ true → untimely l t ≡ false → k < slots l → length s ≡ 256 → next_number l < last_number
    → Wrote l t (next_number l + 1) k s (with_clock t (with_next (next_number l + 1) (with_record l k s)))
wrote_next l t k s e f h n z =
    let a = sound_long l e in
    let b = time_below l t f in
    let o = with_record l k s in
    let x = next_number l + 1 in
    let c = length_with l k s n h in
    let d = length_next x o in
    record {
      is_sound = e;
      onward = since l t f;
      inside = rw (length_records l) h;
      here = records_at l k h;
      records_are = records_clock t (with_next x o) ∙ records_next x o ∙ records_with l k s n h;
      next_is = next_clock t (with_next x o) ∙ next_is x o (omega arith) (omega arith);
      clock_is = clock_is t (with_next x o) (omega arith) (omega arith);
    }

-- ---- push

pub record Pushes (l : List ℕ) (t : ℕ) (table : List ℕ) (p : PushRequest) (k : ℕ) (s m : List ℕ) : Type 0 where
  pub wrote : Wrote l t (next_number l + 1) k s m
  pub was : state (rec l k) ≡ 0
  pub state_is : state s ≡ 1
  pub grant_is : grant s ≡ next_number l
  pub client_is : client s ≡ p.client
  pub scope_is : scope s ≡ p.scope
  pub challenge_is : challenge s ≡ p.challenge
  pub expiry_is : expiry s ≡ t + lifetime table p
  pub profile : lifetime table p < profile_reference

module _ (l : List ℕ) (t : ℕ) (table : List ℕ) (p : PushRequest) (o : Octets l) (y : TypedPush t table p) (f : PushFacts l t table p) where
  abbrev pub push_place : ℕ
  push_place = place is_free (records l)

  abbrev pub push_one : List ℕ
  push_one = push_record l t table p (rec l push_place)

  pub push_found : First is_free l push_place
  push_found = first_in is_free l f.room

  push_next : next_number l < last_number
  push_next = next_left l o (let a = sound_long l f.ledger_sound in omega arith) (eqb-false (next_number l) last_number f.numbers_left)

  pub push_after : Leaves (rec l push_place) push_one (pushed_slot p.scope (next_number l) (t + lifetime table p) p.client p.challenge p.fresh p.redirect (slot_of (rec l push_place)))
  unfolding push_record
  push_after =
      let a = push_next in
      let b = time_below l t f.in_time in
      let n = lives_under l t table p f in
      let (u, v) = both (redirect_formed p.redirect) (challenge_formed p.challenge) f.formed in
      pushed_wrote p.scope (next_number l) (t + lifetime table p) p.client p.challenge p.fresh p.redirect (rec l push_place)
      y.scope (omega arith) (omega arith) y.client.long (challenge_length_lem p.challenge v) y.fresh.long
      (redirect_length_lem p.redirect u).1 (rec_length l push_place push_found.inside)

  pub pushes : Pushes l t table p push_place push_one (push_at l t table p push_place).ledger
  unfolding push_at is_free slot_of
  pushes =
      let a = push_after in
      record {
        wrote = wrote_next l t push_place push_one f.ledger_sound f.in_time push_found.inside a.long push_next;
        was = eqb-true (state (rec l push_place)) 0 push_found.passes;
        state_is = a.state_is;
        grant_is = a.grant_is;
        client_is = a.client_is;
        scope_is = a.scope_is;
        challenge_is = a.challenge_is;
        expiry_is = a.expiry_is;
        profile = lives_under l t table p f;
      }

-- ---- decide

pub record Consents (l : List ℕ) (t : ℕ) (d : DecideRequest) (k : ℕ) (s m : List ℕ) : Type 0 where
  pub wrote : Wrote l t (next_number l) k s m
  pub was : state (rec l k) ≡ 1
  pub by : client (rec l k) ≡ d.client
  pub alive : t < expiry (rec l k)
  pub state_is : state s ≡ 2
  pub grant_is : grant s ≡ grant (rec l k)
  pub client_is : client s ≡ client (rec l k)
  pub scope_is : scope s ≡ scope (rec l k)
  pub challenge_is : challenge s ≡ challenge (rec l k)
  pub holder_is : holder s ≡ d.holder
  pub expiry_is : expiry s ≡ t + code_lifetime

pub record Declines (l : List ℕ) (t : ℕ) (d : DecideRequest) (k : ℕ) (m : List ℕ) : Type 0 where
  pub wrote : Wrote l t (next_number l) k free m
  pub was : state (rec l k) ≡ 1
  pub by : client (rec l k) ≡ d.client
  pub alive : t < expiry (rec l k)

module _ (l : List ℕ) (t : ℕ) (d : DecideRequest) (out : List ℕ) (y : TypedDecide t d out) (f : DecideFacts l t d out) where
  abbrev decide_place : ℕ
  decide_place = reference_place l d

  pub decide_found : First (is_reference d.reference d.client) l decide_place
  decide_found = first_in (is_reference d.reference d.client) l f.there

  decide_was : state (rec l decide_place) ≡ 1
  unfolding is_reference
  decide_was = eqb-true (state (rec l decide_place)) 1 (both (in_state Pushed (rec l decide_place)) _ decide_found.passes).0

  pub decide_by : client (rec l decide_place) ≡ d.client
  unfolding is_reference is_with
  decide_by =
      let a = (both (in_state Pushed (rec l decide_place)) _ decide_found.passes).1 in
      same_eq (client (rec l decide_place)) d.client (both (same (value (rec l decide_place)) d.reference) _ a).1

  abbrev pub consent_one : List ℕ
  consent_one = consent_record t d.holder d.fresh (rec l decide_place)

  pub consent_after : Leaves (rec l decide_place) consent_one (consented_slot (t + code_lifetime) d.holder d.fresh (slot_of (rec l decide_place)))
  unfolding consent_record
  consent_after =
      let b = time_below l t f.in_time in
      consented_wrote (t + code_lifetime) d.holder d.fresh (rec l decide_place) (omega arith) y.holder y.fresh.long
      (rec_length l decide_place decide_found.inside)

  pub consents : Consents l t d decide_place consent_one (consent_at l t d.holder d.fresh out decide_place).ledger
  unfolding consent_at slot_of
  consents =
      let a = consent_after in
      record {
        wrote = wrote l t decide_place consent_one f.ledger_sound f.in_time decide_found.inside a.long;
        was = decide_was;
        by = decide_by;
        alive = before_expiry t (rec l decide_place) f.alive;
        state_is = a.state_is;
        grant_is = a.grant_is;
        client_is = a.client_is;
        scope_is = a.scope_is;
        challenge_is = a.challenge_is;
        holder_is = a.holder_is;
        expiry_is = a.expiry_is;
      }

  pub declines : Declines l t d decide_place (decline_at l t d.holder out decide_place).ledger
  unfolding decline_at
  declines =
      record {
        wrote = wrote l t decide_place free f.ledger_sound f.in_time decide_found.inside length_free;
        was = decide_was;
        by = decide_by;
        alive = before_expiry t (rec l decide_place) f.alive;
      }

-- ---- token

pub record Redeems (l : List ℕ) (t : ℕ) (q : TokenRequest) (k : ℕ) (s m : List ℕ) : Type 0 where
  pub wrote : Wrote l t (next_number l) k s m
  pub was : state (rec l k) ≡ 2
  pub by : client (rec l k) ≡ q.client
  pub alive : t < expiry (rec l k)
  pub verified : matches q.verifier (challenge (rec l k)) ≡ true
  pub state_is : state s ≡ 3
  pub grant_is : grant s ≡ grant (rec l k)
  pub client_is : client s ≡ client (rec l k)
  pub scope_is : scope s ≡ scope (rec l k)
  pub challenge_is : challenge s ≡ challenge (rec l k)
  pub holder_is : holder s ≡ holder (rec l k)
  pub code_is : value s ≡ q.code
  pub token_is : token s ≡ q.fresh
  pub key_is : bound_key s ≡ q.presented
  pub expiry_is : expiry s ≡ t + token_lifetime

code_state : (r : List ℕ) → (in_state Consented r || in_state Redeemed r) ≡ true → in_state Redeemed r ≡ false → state r ≡ 2
code_state r e n = eqb-true (state r) 2 (either (in_state Consented r) (in_state Redeemed r) e n)
  where
    either : (a b : Bool) → (a || b) ≡ true → b ≡ false → a ≡ true
    either true b e n = refl
    either false b e n = sym n ∙ e

module _ (l : List ℕ) (t : ℕ) (table : List ℕ) (q : TokenRequest) (y : TypedToken t table q) (f : TokenFacts l t table q) where
  abbrev token_at_place : ℕ
  token_at_place = code_place l q

  pub token_found : First (is_code q.code q.client) l token_at_place
  token_found = first_in (is_code q.code q.client) l f.there

  token_was : state (rec l token_at_place) ≡ 2
  unfolding is_code
  token_was =
      code_state (rec l token_at_place)
      (both (in_state Consented (rec l token_at_place) || in_state Redeemed (rec l token_at_place)) _ token_found.passes).0 f.unredeemed

  token_by : client (rec l token_at_place) ≡ q.client
  unfolding is_code is_with
  token_by =
      let a = (both (in_state Consented (rec l token_at_place) || in_state Redeemed (rec l token_at_place)) _ token_found.passes).1 in
      same_eq (client (rec l token_at_place)) q.client (both (same (value (rec l token_at_place)) q.code) _ a).1

  abbrev pub token_one : List ℕ
  token_one = token_record t q (rec l token_at_place)

  pub token_after : Leaves (rec l token_at_place) token_one (redeemed_slot (t + token_lifetime) q.fresh q.presented (slot_of (rec l token_at_place)))
  unfolding token_record
  token_after =
      let b = time_below l t f.in_time in
      redeemed_wrote (t + token_lifetime) q.fresh q.presented (rec l token_at_place) (omega arith) y.fresh.long y.presented.long
      (rec_length l token_at_place token_found.inside)

  pub redeems : Redeems l t q token_at_place token_one (token_at l t q token_at_place).ledger
  unfolding token_at slot_of
  redeems =
      let a = token_after in
      record {
        wrote = wrote l t token_at_place token_one f.ledger_sound f.in_time token_found.inside a.long;
        was = token_was;
        by = token_by;
        alive = before_expiry t (rec l token_at_place) f.alive;
        verified = f.verified;
        state_is = a.state_is;
        grant_is = a.grant_is;
        client_is = a.client_is;
        scope_is = a.scope_is;
        challenge_is = a.challenge_is;
        holder_is = a.holder_is;
        code_is = a.value_is ∙ ((code_says q.code q.client (rec l token_at_place)).0 token_found.passes).1.0;
        token_is = a.token_is;
        key_is = a.key_is;
        expiry_is = a.expiry_is;
      }

-- ---- a second use of a code: its record is freed

pub record Ends (l : List ℕ) (t : ℕ) (q : TokenRequest) (k : ℕ) (m : List ℕ) : Type 0 where
  pub wrote : Wrote l t (next_number l) k free m
  pub was : state (rec l k) ≡ 3
  pub shown : value (rec l k) ≡ q.code

pub ends : (l : List ℕ) (t : ℕ) (table : List ℕ) (q : TokenRequest) → SecondUseFacts l t table q → Ends l t q (code_place l q) (ended l t (code_place l q))
ends l t table q f =
    let k = code_place l q in
    let a = first_in (is_code q.code q.client) l f.there in
    record {
      wrote = wrote l t k free f.ledger_sound f.in_time a.inside length_free;
      was = eqb-true (state (rec l k)) 3 f.redeemed;
      shown = ((code_says q.code q.client (rec l k)).0 a.passes).1.0;
    }

-- ---- resource: only the clock changes

pub record Reads (l : List ℕ) (t : ℕ) (q : ResourceRequest) (k : ℕ) : Type 0 where
  pub is_sound : sound l ≡ true
  pub onward : clock l ≤ t
  pub inside : k < slots l
  pub here : get_or (records l) k [] ≡ rec l k
  pub was : state (rec l k) ≡ 3
  pub alive : t < expiry (rec l k)
  pub token_is : token (rec l k) ≡ q.token
  pub key_is : bound_key (rec l k) ≡ q.presented
  pub scope_in : within q.scope (scope (rec l k)) ≡ true
  pub holder_is : holder (rec l k) ≡ q.holder

module _ (l : List ℕ) (t : ℕ) (q : ResourceRequest) (f : ResourceFacts l t q) where
  abbrev read_place : ℕ
  read_place = token_place l q

  read_found : First (is_token q.token) l read_place
  read_found = first_in (is_token q.token) l f.there

  pub reads : Reads l t q read_place
  unfolding is_token scope_fits
  reads =
      let (a, b) = both (in_state Redeemed (rec l read_place)) (same (token (rec l read_place)) q.token) read_found.passes in
      record {
        is_sound = f.ledger_sound;
        onward = since l t f.in_time;
        inside = read_found.inside;
        here = records_at l read_place read_found.inside;
        was = eqb-true (state (rec l read_place)) 3 a;
        alive = before_expiry t (rec l read_place) f.alive;
        token_is = same_eq (token (rec l read_place)) q.token b;
        key_is = same_eq (bound_key (rec l read_place)) q.presented f.key_bound;
        scope_in = (both (not (eqb q.scope 0)) (within q.scope (scope (rec l read_place))) f.fits).1;
        holder_is = eqb-true (holder (rec l read_place)) q.holder f.held;
      }

-- only the clock is written
pub record Ticks (l : List ℕ) (t : ℕ) (m : List ℕ) : Type 0 where
  pub records_are : records m ≡ records l
  pub next_is : next_number m ≡ next_number l
  pub clock_is : clock m ≡ t

pub ticks : (l : List ℕ) (t : ℕ) → sound l ≡ true → untimely l t ≡ false → Ticks l t (with_clock t l)
ticks l t e f =
    let a = sound_long l e in
    let b = time_below l t f in
    record { records_are = records_clock t l; next_is = next_clock t l; clock_is = clock_is t l (omega arith) (omega arith) }

-- ---- sweep

pub record Sweeps (l : List ℕ) (t : ℕ) (m : List ℕ) : Type 0 where
  pub records_are : records m ≡ map (swept_record t) (records l)
  pub next_is : next_number m ≡ next_number l
  pub clock_is : clock m ≡ t

length_map : (f : List ℕ → List ℕ) (rs : List (List ℕ)) → length (map f rs) ≡ length rs
length_map f [] = refl
length_map f (r ∷ rs) = rw (length_map f rs)

pub get_d_map : (f : List ℕ → List ℕ) → f [] ≡ [] → (rs : List (List ℕ)) (j : ℕ) → get_or (map f rs) j [] ≡ f (get_or rs j [])
get_d_map f z [] j = sym z
get_d_map f z (r ∷ rs) zero = refl
get_d_map f z (r ∷ rs) (suc j) = get_d_map f z rs j

pub swept_none : (t : ℕ) → swept_record t [] ≡ []
unfolding swept_record
swept_none t = refl

records_swept : (t : ℕ) (l : List ℕ) → records (swept t l) ≡ map (swept_record t) (records l)
records_swept t l =
    let n = slots_swept t l in
    let a = length_records l in
    ext_get_or [] (records (swept t l)) (map (swept_record t) (records l))
    (length_records (swept t l) ∙ n ∙ sym a ∙ sym (length_map (swept_record t) (records l)))
    (λ j h.
    let b : j < slots l = rw (length_records (swept t l), n) at h in
    records_at (swept t l) j (rw n b) ∙ rec_swept t l j b ∙ ap (swept_record t) (sym (records_at l j b))
    ∙ sym (get_d_map (swept_record t) (swept_none t) (records l) j))

pub sweeps : (l : List ℕ) (t : ℕ) → sound l ≡ true → untimely l t ≡ false → Sweeps l t (with_clock t (swept t l))
sweeps l t e f =
    let a = sound_long l e in
    let b = time_below l t f in
    let c = length_sweep t l in
    record {
      records_are = records_clock t (swept t l) ∙ records_swept t l;
      next_is = next_clock t (swept t l) ∙ ap num (head_swept t l 8 8 (omega arith));
      clock_is = clock_is t (swept t l) (omega arith) (omega arith);
    }
