-- The last good second of a reference, a code and a token, and the one after it: P4 to P6.
use Prim.Native.Nat.{ℕ, ◌+◌, ◌<◌}
use mathlib.Core.Path.{◌≡◌, refl, ap, ◌∙◌}
use mathlib.Core.Logic.{inl}
use mathlib.Core.Bool.{Bool, true, cond}
use mathlib.Core.List.{List}
use lib.Dec.{eqb, leb}
use lib.ListN.{length}
use borrow.Author.Tests.{not-false}
use Rattle.octets.specs.Lists.{place}
use Rattle.octets.proofs.Numbers.{Octets}
use Rattle.ledger.specs.Limits.{code_lifetime, token_lifetime}
use Rattle.ledger.specs.Fields.{records, rec, slots, next_number, expiry, with_record, with_next, with_clock}
use Rattle.ledger.specs.Sound.{sound}
use Rattle.ledger.specs.Checks.{is_free, is_reference, is_code, is_token, expired}
use Rattle.ledger.proofs.Records.{slots_with, rec_same}
use Rattle.ledger_laws.proofs.Slots.{slot_of}
use Rattle.ledger_laws.proofs.Heads.{slots_clock, rec_clock, slots_next, rec_next}
use Rattle.ledger_laws.proofs.Searches.{First, reference_first, code_first, token_first, reference_says, code_says, token_says}
use Rattle.clients.specs.Fields.{lifetime_said}
use Rattle.clients.specs.Lifetime.{lifetime_of}
use Rattle.clients.specs.Limits.{reference_lifetime}
use Rattle.desk.specs.Answers.{done}
use Rattle.desk.specs.Requests.{PushRequest, DecideRequest, TokenRequest}
use Rattle.desk.specs.Outcome.{Outcome}
use Rattle.desk.specs.declared.answer.Answer.{Answer}
use Rattle.desk.specs.declared.answer.Decided.{Decided}
use Rattle.desk.specs.Push.{lifetime, push_record, push_at}
use Rattle.desk.specs.Decide.{reference_place, consent_record, consent_at, decide_checks}
use Rattle.desk.specs.Token.{code_place, token_record, token_at, token_checks}
use Rattle.desk.specs.Resource.{resource_checks}
use Rattle.desk.specs.declared.answer.Refusal.TheVariants.{LedgerUnsound, RecordExpired}
use Rattle.desk.proofs.Written.{decide_yes}
use Rattle.desk.proofs.Turns.{number_refused}
use Rattle.call_laws.proofs.Rows.{push_cases, decide_cases, token_cases}
use Rattle.call_laws.proofs.Facts.{push_facts, decide_facts, TokenFacts, token_facts}
use Rattle.call_laws.proofs.Readings.{place_named}
use Rattle.history.specs.Runs.{Call, push, decide, token, resource, TypedPush, TypedDecide, TypedToken, step, number_in}
use Rattle.history.proofs.Steps.{checks_of}
use Rattle.history.proofs.Effects.{push_found, push_after, decide_found, decide_by, consent_after, token_found, token_after}
use Rattle.cases.specs.Cases.{DecideAfter, TokenAfter, ResourceAfter, answers}
use Rattle.cases.proofs.Order.{number_if, else_passes, else_answers}

-- ---- what the first call leaves: a record that the second finds, good until a time

pub record Stands (q : List ℕ → Bool) (until : ℕ) (m : List ℕ) : Type 0 where
  pub k : ℕ
  pub inside : k < slots m
  pub passes : q (rec m k) ≡ true
  pub expiry_is : expiry (rec m k) ≡ until

module _ (l : List ℕ) (t : ℕ) (k : ℕ) (r : List ℕ) (q : List ℕ → Bool) (until : ℕ) (inside : k < slots l) (long : length r ≡ 256)
    (good : q r ≡ true) (e : expiry r ≡ until) where
  written_stands : Stands q until (with_clock t (with_record l k r))
  written_stands =
      let m = with_record l k r in
      let is : rec (with_clock t m) k ≡ r = rec_clock t m k ∙ rec_same l k r long inside in
      record {
        k = k;
        inside = rw (slots_clock t m, slots_with l k r long inside) inside;
        passes = ap q is ∙ good;
        expiry_is = ap expiry is ∙ e;
      }

  numbered_stands : (n : ℕ) → Stands q until (with_clock t (with_next n (with_record l k r)))
  numbered_stands n =
      let m = with_record l k r in
      let is : rec (with_clock t (with_next n m)) k ≡ r = rec_clock t (with_next n m) k ∙ rec_next n m k ∙ rec_same l k r long inside in
      record {
        k = k;
        inside = rw (slots_clock t (with_next n m), slots_next n m, slots_with l k r long inside) inside;
        passes = ap q is ∙ good;
        expiry_is = ap expiry is ∙ e;
      }

module _ (l : List ℕ) (t : ℕ) (table : List ℕ) (p : PushRequest) (o : Octets l) (y : TypedPush t table p) where
  push_stands : number_in (step l (push t table p)).answer ≡ done
      → Stands (is_reference p.fresh p.client) (t + lifetime table p) (step l (push t table p)).after
  unfolding step push_at slot_of
  push_stands =
      push_cases l t table p (λ (o : Outcome Answer). o.answer.number ≡ done → Stands (is_reference p.fresh p.client) (t + lifetime table p) o.ledger)
      (λ why u e. absurd (number_refused why e))
      (λ ok e.
      let f = push_facts l t table p ok in
      let k = place is_free (records l) in
      let r = push_record l t table p (rec l k) in
      let a = push_after l t table p o y f in
      numbered_stands l t k r (is_reference p.fresh p.client) (t + lifetime table p) (push_found l t table p o y f).inside a.long
      ((reference_says p.fresh p.client r).1 (a.state_is, (a.value_is, a.client_is))) a.expiry_is (next_number l + 1))

module _ (l : List ℕ) (t : ℕ) (d : DecideRequest) (out : List ℕ) (y : TypedDecide t d out) (says : d.yes ≡ true) where
  consent_stands : number_in (step l (decide t d out)).answer ≡ done
      → Stands (is_code d.fresh d.client) (t + code_lifetime) (step l (decide t d out)).after
  unfolding step consent_at consent_record slot_of
  consent_stands =
      decide_cases l t d out
      (λ (o : Outcome Decided). o.answer.answer.number ≡ done → Stands (is_code d.fresh d.client) (t + code_lifetime) o.ledger)
      (λ why u e. absurd (number_refused why e))
      (λ ok e.
      let f = decide_facts l t d out ok in
      let k = reference_place l d in
      let r = consent_record t d.holder d.fresh (rec l k) in
      let found = decide_found l t d out y f in
      let a = consent_after l t d out y f in
      rw (decide_yes l t d out k says refl)
      (written_stands l t k r (is_code d.fresh d.client) (t + code_lifetime) found.inside a.long
      ((code_says d.fresh d.client r).1 (inl a.state_is, (a.value_is, a.client_is ∙ decide_by l t d out y f))) a.expiry_is))

module _ (l : List ℕ) (t : ℕ) (table : List ℕ) (q : TokenRequest) (y : TypedToken t table q) where
  abbrev redeemed : List ℕ
  redeemed = token_record t q (rec l (code_place l q))

  -- whatever the record passes
  pub token_leaves : (test : List ℕ → Bool) → (TokenFacts l t table q → test redeemed ≡ true) → number_in (step l (token t table q)).answer ≡ done
      → Stands test (t + token_lifetime) (step l (token t table q)).after
  unfolding step token_at
  token_leaves test g =
      token_cases l t table q (λ (o : Outcome Answer). o.answer.number ≡ done → Stands test (t + token_lifetime) o.ledger)
      (λ why u e. absurd (number_refused why e))
      (λ ok e.
      let f = token_facts l t table q ok in
      let a = token_after l t table q y f in
      written_stands l t (code_place l q) redeemed test (t + token_lifetime) (token_found l t table q y f).inside a.long (g f)
      a.expiry_is)

  token_stands : number_in (step l (token t table q)).answer ≡ done
      → Stands (is_token q.fresh) (t + token_lifetime) (step l (token t table q)).after
  token_stands =
      token_leaves (is_token q.fresh)
      (λ f. let a = token_after l t table q y f in (token_says q.fresh redeemed).1 (a.state_is, a.token_is))

-- ---- the second call finds it, and goes by the time

-- the place that a search finds is the record's, where no other passes before it
found_expired : (q : List ℕ → Bool) (until t : ℕ) (m : List ℕ) (s : Stands q until m) → First q m s.k → expired t (rec m (place q (records m))) ≡ leb until t
found_expired q until t m s f =
    ap (λ (k : ℕ). expired t (rec m k)) (place_named q m s.k f) ∙ ap (λ (x : ℕ). leb x t) s.expiry_is

-- the seconds meant by what a record says
abbrev meant : ℕ → ℕ
meant said = cond (eqb said 0) reference_lifetime said

lasting : (said : ℕ) (c : List ℕ) → lifetime_said c ≡ said → lifetime_of c ≡ meant said
unfolding lifetime_of
lasting said c e = ap meant e

pub decide_time_lem : (said a t : ℕ) (l : List ℕ) (c : Call) (b : Bool) → leb (a + meant said) t ≡ b → DecideAfter said a t l c → answers (l, c) ≡ number_if RecordExpired b
unfolding decide_checks
decide_time_lem said a t l c b h f =
    let d = f.request in
    let call = decide t d f.output in
    let is_sound = not-false (sound l) (else_passes RecordExpired LedgerUnsound (checks_of l call) f.in_order refl) in
    let s : Stands (is_reference d.reference d.client) (a + lifetime f.table f.asked) l
    = rw (f.same_reference, f.same_client, f.leaves) (push_stands f.before a f.table f.asked f.bytes f.typed f.accepted) in
    ap (λ (d : Call). answers (l, d)) f.is
    ∙ else_answers l call RecordExpired b f.in_order
    (found_expired (is_reference d.reference d.client) (a + lifetime f.table f.asked) t l s
    (reference_first l is_sound d.reference d.client s.k s.inside s.passes)
    ∙ ap (λ (n : ℕ). leb (a + n) t) (lasting said _ f.lifetime_is)
    ∙ h)

pub token_time_lem : (a t : ℕ) (l : List ℕ) (c : Call) (b : Bool) → leb (a + code_lifetime) t ≡ b → TokenAfter a t l c → answers (l, c) ≡ number_if RecordExpired b
unfolding token_checks
token_time_lem a t l c b h f =
    let q = f.request in
    let call = token t f.table q in
    let is_sound = not-false (sound l) (else_passes RecordExpired LedgerUnsound (checks_of l call) f.in_order refl) in
    let s : Stands (is_code q.code q.client) (a + code_lifetime) l
    = rw (f.same_code, f.same_client, f.leaves) (consent_stands f.before a f.allowed f.output f.typed f.yes f.accepted) in
    ap (λ (d : Call). answers (l, d)) f.is
    ∙ else_answers l call RecordExpired b f.in_order
    (found_expired (is_code q.code q.client) (a + code_lifetime) t l s
    (code_first l is_sound q.code q.client s.k s.inside s.passes)
    ∙ h)

pub resource_time_lem : (a t : ℕ) (l : List ℕ) (c : Call) (b : Bool) → leb (a + token_lifetime) t ≡ b → ResourceAfter a t l c → answers (l, c) ≡ number_if RecordExpired b
unfolding resource_checks
resource_time_lem a t l c b h f =
    let q = f.request in
    let call = resource t q in
    let is_sound = not-false (sound l) (else_passes RecordExpired LedgerUnsound (checks_of l call) f.in_order refl) in
    let s : Stands (is_token q.token) (a + token_lifetime) l
    = rw (f.same_token, f.leaves) (token_stands f.before a f.table f.redeemed f.typed f.accepted) in
    ap (λ (d : Call). answers (l, d)) f.is
    ∙ else_answers l call RecordExpired b f.in_order
    (found_expired (is_token q.token) (a + token_lifetime) t l s
    (token_first l is_sound q.token s.k s.inside s.passes)
    ∙ h)
