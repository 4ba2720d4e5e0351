-- Soundness is kept: from a sound ledger every call leaves a sound one, and start leaves one. So are bytes.
use Prim.Native.Nat.{ℕ, ◌+◌, ◌<◌, ◌^◌}
use native.Mathlib.Omega.{arith}
use mathlib.Core.Path.{◌≡◌, refl, ap, ◌∙◌}
use mathlib.Core.Bool.{Bool, true, false, ◌&&◌, cond}
use mathlib.Core.List.{List}
use lib.ListN.{length}
use borrow.Author.Tests.{eqb-false}
use Rattle.octets.specs.Lists.{place}
use Rattle.octets.specs.Parts.{zeros, blank}
use Rattle.octets.proofs.Tests.{both, false_of}
use Rattle.octets.proofs.Parts.{zeros_eq}
use Rattle.octets.proofs.Numbers.{Octets}
use Rattle.forms.specs.Forms.{redirect_formed, challenge_formed}
use Rattle.ledger.specs.Limits.{code_lifetime, token_lifetime, last_number}
use Rattle.ledger.specs.Fields.{next_number, rec, records}
use Rattle.ledger.specs.Sound.{sized, sound}
use Rattle.ledger.specs.Checks.{is_free, is_reference, is_code, taken}
use Rattle.ledger.specs.Write.{free}
use Rattle.ledger.specs.Sweep.{swept}
use Rattle.ledger_laws.proofs.Heads.{next_left}
use Rattle.ledger_laws.proofs.Says.{of_sound}
use Rattle.ledger_laws.proofs.Searches.{first_in, free_says, reference_says}
use Rattle.ledger_laws.proofs.Kept.{sound_clock, sound_freed, sound_swept, sound_started, sound_pushed, sound_consented, sound_redeemed}
use Rattle.ledger_laws.proofs.Ranges.{octets_challenge, octets_redirect, octets_free, octets_rec, octets_pushed, octets_consented, octets_redeemed, octets_clock, octets_next, octets_with, octets_swept}
use Rattle.clients.specs.Known.{is_known, place_of}
use Rattle.clients.specs.Sound.{sound as table_sound}
use Rattle.clients.proofs.Laws.{of_sound as of_table}
use Rattle.desk.specs.Answers.{done, number_of}
use Rattle.desk.specs.Requests.{PushRequest, DecideRequest, TokenRequest, ResourceRequest}
use Rattle.desk.specs.Outcome.{Outcome, left}
use Rattle.desk.specs.Push.{lifetime, push_record, push_at, push}
use Rattle.desk.specs.Decide.{reference_place, consent_record, consent_at, decline_at, decide_at, decide}
use Rattle.desk.specs.Token.{code_place, token_record, token_at, token}
use Rattle.desk.specs.Resource.{resource}
use Rattle.desk.specs.Sweep.{sweep}
use Rattle.desk.specs.Start.{start, empty_ledger}
use Rattle.desk.specs.declared.answer.Refusal.TheVariants.{LedgerUnsound}
use Rattle.desk.proofs.Written.{timely_lt}
use Rattle.desk.specs.declared.answer.Answer.{Answer}
use Rattle.desk.specs.declared.answer.Decided.{Decided}
use Rattle.desk.specs.declared.answer.Swept.{Swept}
use Rattle.desk.proofs.Turns.{number_refused}
use Rattle.call_laws.proofs.Rows.{push_cases, decide_cases, token_outcomes, resource_cases, sweep_cases}
use Rattle.call_laws.proofs.Facts.{push_facts, DecideFacts, decide_facts, token_facts, second_use_facts, resource_facts, sweep_facts}
use Rattle.call_laws.proofs.Alone.{either_way}
use Rattle.call_laws.proofs.Profile.{lives_under}
use Rattle.call_laws.proofs.Readings.{known_is, scope_says, code_waits}

-- ---- what the types of a request say: fixed arrays have their lengths, numbers their widths, and bytes are below 256

pub record PushTyped (p : PushRequest) : Type 0 where
  pub client_long : length p.client ≡ 16
  pub client_bytes : Octets p.client
  pub scope_fits : p.scope < 2 ^ 32
  pub fresh_long : length p.fresh ≡ 32
  pub fresh_bytes : Octets p.fresh

pub record DecideTyped (d : DecideRequest) : Type 0 where
  pub holder_fits : d.holder < 2 ^ 64
  pub fresh_long : length d.fresh ≡ 32
  pub fresh_bytes : Octets d.fresh

pub record TokenTyped (q : TokenRequest) : Type 0 where
  pub presented_long : length q.presented ≡ 32
  pub presented_bytes : Octets q.presented
  pub fresh_long : length q.fresh ≡ 32
  pub fresh_bytes : Octets q.fresh

-- a client that a sound table knows has an id that is not all zeros
known_set : (table v key : List ℕ) → table_sound table ≡ true → is_known table v key ≡ true → length v ≡ 16 → zeros v ≡ false
known_set table v key s e n =
    let f = known_is table v key e in
    false_of (zeros v) (λ z. (of_table table s).ids (place_of table v) f.inside (f.id_is ∙ zeros_eq v z ∙ ap blank n))

-- ---- push

module _ (l : List ℕ) (t : ℕ) (table : List ℕ) (p : PushRequest) where
  pub push_sound : sound l ≡ true → Octets l → PushTyped p → sound (push l t table p).ledger ≡ true
  unfolding push_at push_record
  push_sound s o y =
      push_cases l t table p (λ (o : Outcome Answer). sound o.ledger ≡ true) (λ why u. s)
      (λ ok.
      let f = push_facts l t table p ok in
      let a = first_in is_free l f.room in
      let k = place is_free (records l) in
      let h = timely_lt l t f.in_time in
      let n = lives_under l t table p f in
      let least = (of_sound l s).least in
      let (w, x) = both (redirect_formed p.redirect) (challenge_formed p.challenge) f.formed in
      sound_clock t _
      (sound_pushed l k p.scope (t + lifetime table p) p.client p.challenge p.fresh p.redirect s a.inside ((free_says (rec l k)).0 a.passes)
      (next_left l o (omega arith) (eqb-false (next_number l) last_number f.numbers_left)) ((scope_says p.scope _).0 f.fits).nonzero y.scope_fits y.client_long
      (known_set table p.client p.key f.table_sound f.known y.client_long) x w y.fresh_long f.new (omega arith))
      h)

  pub push_octets : Octets l → PushTyped p → Octets (push l t table p).ledger
  unfolding push_at push_record
  push_octets o y =
      push_cases l t table p (λ (o : Outcome Answer). Octets o.ledger) (λ why u. o)
      (λ ok.
      let f = push_facts l t table p ok in
      let k = place is_free (records l) in
      let (w, x) = both (redirect_formed p.redirect) (challenge_formed p.challenge) f.formed in
      octets_clock t _
      (octets_next (next_number l + 1) _
      (octets_with l k (push_record l t table p (rec l k)) o
      (octets_pushed p.scope (next_number l) (t + lifetime table p) p.client p.challenge p.fresh p.redirect (rec l k) y.client_bytes
      (octets_challenge p.challenge x) y.fresh_bytes (octets_redirect p.redirect w) (octets_rec l k o)))))

-- ---- decide

module _ (l : List ℕ) (t : ℕ) (d : DecideRequest) (out : List ℕ) where
  -- the fresh value is looked at on yes alone
  consent_sound : d.yes ≡ true → sound l ≡ true → DecideTyped d → DecideFacts l t d out
      → sound (consent_at l t d.holder d.fresh out (reference_place l d)).ledger ≡ true
  unfolding consent_at consent_record
  consent_sound says s y f =
      let a = first_in (is_reference d.reference d.client) l f.there in
      let k = reference_place l d in
      let h = timely_lt l t f.in_time in
      sound_clock t _
      (sound_consented l k (t + code_lifetime) d.holder d.fresh s a.inside ((reference_says d.reference d.client (rec l k)).0 a.passes).0
      (eqb-false d.holder 0 f.holder_set) y.holder_fits y.fresh_long (new d.yes says f.new) (omega arith))
      h
    where
      new : (b : Bool) → b ≡ true → (b && taken l d.fresh) ≡ false → taken l d.fresh ≡ false
      new b e n = rw e at n

  decline_sound : sound l ≡ true → DecideFacts l t d out → sound (decline_at l t d.holder out (reference_place l d)).ledger ≡ true
  unfolding decline_at
  decline_sound s f =
      let a = first_in (is_reference d.reference d.client) l f.there in
      sound_clock t _ (sound_freed l (reference_place l d) s a.inside) (timely_lt l t f.in_time)

  pub decide_sound : sound l ≡ true → DecideTyped d → sound (decide l t d out).ledger ≡ true
  unfolding decide_at
  decide_sound s y =
      decide_cases l t d out (λ (o : Outcome Decided). sound o.ledger ≡ true) (λ why u. s)
      (λ ok. let f = decide_facts l t d out ok in by d.yes (λ e. consent_sound e s y f) (decline_sound s f))
    where
      by : (b : Bool) → (b ≡ true → sound (consent_at l t d.holder d.fresh out (reference_place l d)).ledger ≡ true)
          → sound (decline_at l t d.holder out (reference_place l d)).ledger ≡ true
          → sound (cond b (consent_at l t d.holder d.fresh out (reference_place l d)) (decline_at l t d.holder out (reference_place l d))).ledger ≡ true
      by true c n = c refl
      by false c n = n

  pub decide_octets : Octets l → DecideTyped d → Octets (decide l t d out).ledger
  unfolding consent_at consent_record decline_at
  decide_octets o y =
      decide_cases l t d out (λ (o : Outcome Decided). Octets o.ledger) (λ why u. o)
      (λ ok.
      let k = reference_place l d in
      either_way l t d out (λ (o : Outcome Decided). Octets o.ledger)
      (octets_clock t _ (octets_with l k (consent_record t d.holder d.fresh (rec l k)) o (octets_consented (t + code_lifetime) d.holder d.fresh (rec l k) y.fresh_bytes (octets_rec l k o))))
      (octets_clock t _ (octets_with l k free o octets_free)))

-- ---- token

module _ (l : List ℕ) (t : ℕ) (table : List ℕ) (q : TokenRequest) where
  pub token_sound : sound l ≡ true → TokenTyped q → sound (token l t table q).ledger ≡ true
  unfolding token_at token_record
  token_sound s y =
      token_outcomes l t table q (λ (o : Outcome Answer). sound o.ledger ≡ true) (λ why u n. s)
      (λ u.
      let f = second_use_facts l t table q u in
      let a = first_in (is_code q.code q.client) l f.there in
      sound_clock t _ (sound_freed l (code_place l q) s a.inside) (timely_lt l t f.in_time))
      (λ ok.
      let f = token_facts l t table q ok in
      let a = first_in (is_code q.code q.client) l f.there in
      let k = code_place l q in
      let h = timely_lt l t f.in_time in
      sound_clock t _
      (sound_redeemed l k (t + token_lifetime) q.fresh q.presented s a.inside (code_waits q.code q.client (rec l k) a.passes f.unredeemed).0
      y.presented_long f.key_set y.fresh_long f.new (omega arith))
      h)

  pub token_octets : Octets l → TokenTyped q → Octets (token l t table q).ledger
  unfolding token_at token_record
  token_octets o y =
      token_outcomes l t table q (λ (o : Outcome Answer). Octets o.ledger) (λ why u n. o)
      (λ u. octets_clock t _ (octets_with l (code_place l q) free o octets_free))
      (λ ok.
      let k = code_place l q in
      octets_clock t _
      (octets_with l k (token_record t q (rec l k)) o (octets_redeemed (t + token_lifetime) q.fresh q.presented (rec l k) y.fresh_bytes y.presented_bytes (octets_rec l k o))))

-- ---- resource

module _ (l : List ℕ) (t : ℕ) (q : ResourceRequest) where
  pub resource_sound : sound l ≡ true → sound (resource l t q).ledger ≡ true
  resource_sound s =
      resource_cases l t q (λ (o : Outcome Answer). sound o.ledger ≡ true) (λ why u. s)
      (λ ok. sound_clock t l s (timely_lt l t (resource_facts l t q ok).in_time))

  pub resource_octets : Octets l → Octets (resource l t q).ledger
  resource_octets o = resource_cases l t q (λ (o : Outcome Answer). Octets o.ledger) (λ why u. o) (λ ok. octets_clock t l o)

-- ---- sweep

module _ (l : List ℕ) (t : ℕ) where
  pub sweep_sound : sound l ≡ true → sound (sweep l t).ledger ≡ true
  sweep_sound s =
      sweep_cases l t (λ (o : Outcome Swept). sound o.ledger ≡ true) (λ why u. s)
      (λ ok. sound_clock t (swept t l) (sound_swept t l s) (timely_lt l t (sweep_facts l t ok).in_time))

  pub sweep_octets : Octets l → Octets (sweep l t).ledger
  sweep_octets o =
      sweep_cases l t (λ (o : Outcome Swept). Octets o.ledger) (λ why u. o) (λ ok. octets_clock t (swept t l) (octets_swept t l o))

-- ---- start, over any buffer whose length is right

pub start_sound : (l : List ℕ) → (start l).answer ≡ done → sound (start l).ledger ≡ true
unfolding start empty_ledger
start_sound l = by (sized l) refl
  where
    by : (b : Bool) → sized l ≡ b → (cond b (left done (empty_ledger (length l))) (left (number_of LedgerUnsound) l)).answer ≡ done
        → sound (cond b (left done (empty_ledger (length l))) (left (number_of LedgerUnsound) l)).ledger ≡ true
    by true p e = sound_started l p
    by false p e = absurd (number_refused LedgerUnsound e)
