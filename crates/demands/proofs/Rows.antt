-- Each call's checks agree with its rows in plain words, so that a row's number is given exactly when its turn comes.
use Prim.Native.Nat.{ℕ, ◌≤◌, ◌<◌}
use mathlib.Core.Path.{◌≡◌, refl, sym, ap, ◌∙◌}
use mathlib.Core.Logic.{◌≢◌, ◌⊎◌, inl, inr, ⊎_elim, ◌↔◌}
use mathlib.Core.Bool.{Bool, true, false, not, ◌&&◌, true≢false}
use mathlib.Core.List.{List, []}
use lib.Dec.{eqb, ltb}
use lib.ListN.{length}
use borrow.Author.Tests.{ltb-true, lt-ltb, leb-true, le-leb, eqb-true, eq-eqb, not-true, not-false}
use Rattle.octets.specs.Lists.{some}
use Rattle.octets.specs.Parts.{same}
use Rattle.octets.proofs.Tests.{both, both_true, false_of}
use Rattle.octets.proofs.Bytes.{zeros_say}
use Rattle.octets.proofs.Parts.{same_eq, same_of}
use Rattle.forms.specs.Forms.{redirect_formed, challenge_formed, verifier_formed}
use Rattle.forms.proofs.Laws.{redirect_says, challenge_says, verifier_says}
use Rattle.sha256.specs.Hash.{sha256}
use Rattle.texts.specs.Base64url.{base64url}
use Rattle.s256.specs.Rule.{matches}
use Rattle.ledger.specs.Limits.{last_number}
use Rattle.ledger.specs.Fields.{next_number, rec, slots, records, state, state_number, in_state, scope, expiry, holder, challenge, bound_key}
use Rattle.ledger.specs.Sound.{sized, sound}
use Rattle.ledger.specs.Checks.{is_free, is_reference, is_code, is_token, untimely, expired, taken}
use Rattle.ledger.specs.declared.state.State.TheVariants.{Free, Pushed, Consented, Redeemed}
use Rattle.ledger_laws.proofs.Searches.{some_in, none_in, none_found, first_in, free_says, reference_first, code_first, token_first}
use Rattle.ledger_laws.proofs.Plain.{size_says, ledger_says}
use Rattle.clients.specs.Fields.{client as entry, permitted}
use Rattle.clients.specs.Known.{is_known, place_of}
use Rattle.clients.specs.Sound.{sound as table_sound}
use Rattle.clients.specs.Plain.{KnownAt}
use Rattle.clients.proofs.Laws.{table_says}
use Rattle.desk.specs.Answers.{number_of}
use Rattle.desk.specs.Checks.{scope_fits}
use Rattle.desk.specs.Limits.{output_least}
use Rattle.desk.specs.Requests.{PushRequest, DecideRequest, TokenRequest, ResourceRequest}
use Rattle.desk.specs.Push.{push_checks}
use Rattle.desk.specs.Decide.{waiting_place, reference_place, decide_checks}
use Rattle.desk.specs.Token.{code_place, token_checks}
use Rattle.desk.specs.Resource.{token_place, resource_checks}
use Rattle.desk.specs.Sweep.{sweep_checks}
use Rattle.desk.specs.Requests.{PendingRequest}
use Rattle.desk.specs.Pending.{pending_place, pending_checks}
use Rattle.desk.specs.Introspect.{text_for, introspect_checks}
use Rattle.desk.specs.declared.answer.Refusal.{Refusal}
use Rattle.call_laws.specs.Conditions.{ScopeWithin, FreshValue, StandsAt, TokenAt, TextFor}
use Rattle.call_laws.proofs.Rows.{start_checks, start_turn, push_turn, decide_turn, token_turn, resource_turn, sweep_turn, introspect_turn}
use Rattle.call_laws.proofs.Readings.{time_says, known_is, is_known_lem, scope_says, fresh_says, match_says, place_named, reference_stands, code_stands, redeemed_stands, token_stands, text_so, text_only}
use Rattle.demands.specs.Calls.{Call, start, push, decide, token, resource, sweep, introspect, leaves}
use Rattle.demands.specs.Rows.{Not, Turn, start_rows, push_rows, decide_rows, token_rows, resource_rows, introspect_rows, begins, rows}
use Rattle.call_laws.proofs.Rows.{pending_turn}
use Rattle.demands.specs.Calls.{pending}
use Rattle.demands.specs.Rows.{pending_rows}
use Rattle.demands.proofs.Turning.{Agreed, none, row, turns_say, not_says, flip_says, either_fails, at_found}

-- ---- rows that several calls have

expired_says : (t : ℕ) (r : List ℕ) → (expired t r ≡ true) ↔ (expiry r ≤ t)
expired_says t r = (leb-true (expiry r) t, le-leb (expiry r) t)

-- 4, in a sound table
unknown_says : (table v key : List ℕ) → table_sound table ≡ true → (not (is_known table v key) ≡ true) ↔ ((k : ℕ) → Not (KnownAt table v key k))
unknown_says table v key s = (
  λ e k x. true≢false (sym (is_known_lem table v key k s x).0 ∙ not-true (is_known table v key) e),
  λ n. ap not (false_of (is_known table v key) (λ e. n (place_of table v) (known_is table v key e))),
)

-- 8
full_says : (l : List ℕ) → (not (some is_free (records l)) ≡ true) ↔ ((k : ℕ) → k < slots l → state (rec l k) ≢ state_number Free)
full_says l = (
  λ e k h x. true≢false (sym ((free_says (rec l k)).1 x) ∙ none_in is_free l (not-true (some is_free (records l)) e) k h),
  λ n. ap not (none_found is_free l (λ k h. false_of (is_free (rec l k)) (λ e. n k h ((free_says (rec l k)).0 e)))),
)

-- 10, 14, 17: no record passes the test
none_says : (q : List ℕ → Bool) (l : List ℕ) (S : ℕ → Type 0) → ((k : ℕ) → S k → k < slots l)
    → ((k : ℕ) → k < slots l → (q (rec l k) ≡ true) ↔ S k)
    → (not (some q (records l)) ≡ true) ↔ ((k : ℕ) → Not (S k))
none_says q l S inside says = (
  λ e k x. true≢false (sym (some_in q l k (inside k x) ((says k (inside k x)).1 x)) ∙ not-true (some q (records l)) e),
  λ n. ap not (none_found q l (λ k h. false_of (q (rec l k)) (λ e. n k ((says k h).0 e)))),
)

-- 11, of the record in state 1 with this reference and client id, once 10 has passed
on_reference : (l : List ℕ) (t : ℕ) (v c : List ℕ) → sound l ≡ true → not (some (is_reference v c) (records l)) ≡ false
    → (expired t (rec l (waiting_place l v c)) ≡ true) ↔ ((k : ℕ) × StandsAt Pushed l v c k × (expiry (rec l k) ≤ t))
on_reference l t v c ok n =
    let f = first_in (is_reference v c) l (not-false (some (is_reference v c) (records l)) n) in
    at_found (λ (k : ℕ). expired t (rec l k)) (StandsAt Pushed l v c) (λ (k : ℕ). expiry (rec l k) ≤ t) (λ k. expired_says t (rec l k)) (waiting_place l v c)
    ((reference_stands l v c (waiting_place l v c) f.inside).0 f.passes)
    (λ k x. place_named (is_reference v c) l k (reference_first l ok v c k x.inside ((reference_stands l v c k x.inside).1 x)))

-- ---- the calls

start_turns : (l : List ℕ) (why : Refusal) → ((leaves l [] start).number ≡ number_of why) ↔ Turn why (start_rows l)
start_turns l why = turns_say _ why (start_checks l) (start_rows l) (row (not_says (sized l) (size_says l)) (λ e. none)) (start_turn l why)

module _ (l : List ℕ) (t : ℕ) (table : List ℕ) (p : PushRequest) where
  push_agrees : Agreed (push_checks l t table p) (push_rows l t table p)
  unfolding push_checks
  push_agrees =
      row (not_says (sound l) (ledger_says l)) (λ s.
      row (flip_says (untimely l t) (time_says l t)) (λ i.
      row (not_says (table_sound table) (table_says table)) (λ y.
      let ok = not-false (table_sound table) y in
      row (unknown_says table p.client p.key ok) (λ n.
      let known = known_is table p.client p.key (not-false (is_known table p.client p.key) n) in
      row (either_fails (redirect_formed p.redirect) (challenge_formed p.challenge) (redirect_says p.redirect) (challenge_says p.challenge)) (λ w.
      row
      (at_found (λ (k : ℕ). not (scope_fits p.scope (permitted (entry table k)))) (KnownAt table p.client p.key)
      (λ (k : ℕ). Not (ScopeWithin p.scope (permitted (entry table k))))
      (λ k. not_says (scope_fits p.scope (permitted (entry table k))) (scope_says p.scope (permitted (entry table k))))
      (place_of table p.client) known (λ k x. (is_known_lem table p.client p.key k ok x).1))
      (λ f.
      row (flip_says (taken l p.fresh) (fresh_says l p.fresh)) (λ v.
      row (full_says l) (λ r.
      row (eqb-true (next_number l) last_number, eq-eqb (next_number l) last_number) (λ x. none)))))))))

  push_turns : (why : Refusal) → ((leaves l table (push t p)).number ≡ number_of why) ↔ Turn why (push_rows l t table p)
  push_turns why = turns_say _ why (push_checks l t table p) (push_rows l t table p) push_agrees (push_turn l t table p why)

module _ (l : List ℕ) (t : ℕ) (d : DecideRequest) (out : List ℕ) where
  -- 7 is asked for on yes alone
  taken_says : ((d.yes && taken l d.fresh) ≡ true) ↔ ((d.yes ≡ true) × Not (FreshValue l d.fresh))
  taken_says =
      let f = flip_says (taken l d.fresh) (fresh_says l d.fresh) in
      (λ e. let (a, b) = both d.yes (taken l d.fresh) e in (a, f.0 b), λ x. both_true d.yes (taken l d.fresh) x.0 (f.1 x.1))

  decide_agrees : Agreed (decide_checks l t d out (reference_place l d)) (decide_rows l t d out)
  unfolding decide_checks
  decide_agrees =
      row (not_says (sound l) (ledger_says l)) (λ s.
      row (flip_says (untimely l t) (time_says l t)) (λ i.
      row (ltb-true (length out) output_least, lt-ltb (length out) output_least) (λ o.
      row
      (none_says (is_reference d.reference d.client) l (StandsAt Pushed l d.reference d.client) (λ k x. x.inside) (reference_stands l d.reference d.client))
      (λ n.
      row (on_reference l t d.reference d.client (not-false (sound l) s) n) (λ e.
      row (eqb-true d.holder 0, eq-eqb d.holder 0) (λ h.
      row taken_says (λ v. none)))))))

  decide_turns : (why : Refusal) → ((leaves l [] (decide t d out)).number ≡ number_of why) ↔ Turn why (decide_rows l t d out)
  decide_turns why = turns_say _ why (decide_checks l t d out (reference_place l d)) (decide_rows l t d out) decide_agrees (decide_turn l t d out why)

module _ (l : List ℕ) (t : ℕ) (table : List ℕ) (q : TokenRequest) where
  abbrev Waits : ℕ → Type 0
  Waits k = StandsAt Consented l q.code q.client k

  abbrev Spent : ℕ → Type 0
  Spent k = StandsAt Redeemed l q.code q.client k

  -- 14: a code that waits or was redeemed
  code_either : (k : ℕ) → k < slots l → (is_code q.code q.client (rec l k) ≡ true) ↔ (Waits k ⊎ Spent k)
  code_either k h = (
    λ e. go (in_state Redeemed (rec l k)) refl e,
    λ u.
        ⊎_elim (λ w. ((code_stands l q.code q.client k h).1 w).0) (λ w. ((redeemed_stands l q.code q.client k h).1 w).0) u,
  )
    where
      go : (b : Bool) → in_state Redeemed (rec l k) ≡ b → is_code q.code q.client (rec l k) ≡ true → Waits k ⊎ Spent k
      go true r e = inr ((redeemed_stands l q.code q.client k h).0 (e, r))
      go false r e = inl ((code_stands l q.code q.client k h).0 (e, r))

  code_inside : (k : ℕ) → Waits k ⊎ Spent k → k < slots l
  code_inside k u = ⊎_elim (λ w. w.inside) (λ w. w.inside) u

  code_here : sound l ≡ true → (k : ℕ) → k < slots l → is_code q.code q.client (rec l k) ≡ true → code_place l q ≡ k
  code_here ok k h e = place_named (is_code q.code q.client) l k (code_first l ok q.code q.client k h e)

  waits_here : sound l ≡ true → (k : ℕ) → Waits k → code_place l q ≡ k
  waits_here ok k x = code_here ok k x.inside ((code_stands l q.code q.client k x.inside).1 x).0

  -- 15, where the record is found
  redeemed_says : sound l ≡ true → some (is_code q.code q.client) (records l) ≡ true
      → (in_state Redeemed (rec l (code_place l q)) ≡ true) ↔ ((k : ℕ) × Spent k)
  redeemed_says ok there =
      let f = first_in (is_code q.code q.client) l there in (
        λ e. (code_place l q, (redeemed_stands l q.code q.client (code_place l q) f.inside).0 (f.passes, e)),
        λ x.
            let (a, b) = (redeemed_stands l q.code q.client x.0 x.1.inside).1 x.1 in
            ap (λ (k : ℕ). in_state Redeemed (rec l k)) (code_here ok x.0 x.1.inside a) ∙ b,
      )

  token_agrees : Agreed (token_checks l t table q (code_place l q)) (token_rows l t table q)
  unfolding token_checks
  token_agrees =
      row (not_says (sound l) (ledger_says l)) (λ s.
      let ok = not-false (sound l) s in
      row (flip_says (untimely l t) (time_says l t)) (λ i.
      row (not_says (table_sound table) (table_says table)) (λ y.
      row (unknown_says table q.client q.key (not-false (table_sound table) y)) (λ u.
      row (zeros_say q.presented) (λ z.
      row (not_says (verifier_formed q.verifier) (verifier_says q.verifier)) (λ w.
      row (none_says (is_code q.code q.client) l (λ (k : ℕ). Waits k ⊎ Spent k) code_inside code_either) (λ n.
      let there = not-false (some (is_code q.code q.client) (records l)) n in
      let f = first_in (is_code q.code q.client) l there in
      row (redeemed_says ok there) (λ r.
      let here = (code_stands l q.code q.client (code_place l q) f.inside).0 (f.passes, r) in
      row
      (at_found (λ (k : ℕ). expired t (rec l k)) Waits (λ (k : ℕ). expiry (rec l k) ≤ t) (λ k. expired_says t (rec l k)) (code_place l q) here (waits_here ok))
      (λ e.
      row
      (at_found (λ (k : ℕ). not (matches q.verifier (challenge (rec l k)))) Waits (λ (k : ℕ). base64url (sha256 q.verifier) ≢ challenge (rec l k))
      (λ k. not_says (matches q.verifier (challenge (rec l k))) (match_says q.verifier (challenge (rec l k)))) (code_place l q) here (waits_here ok))
      (λ m.
      row (flip_says (taken l q.fresh) (fresh_says l q.fresh)) (λ v. none)))))))))))

  token_turns : (why : Refusal) → ((leaves l table (token t q)).number ≡ number_of why) ↔ Turn why (token_rows l t table q)
  token_turns why = turns_say _ why (token_checks l t table q (code_place l q)) (token_rows l t table q) token_agrees (token_turn l t table q why)

module _ (l : List ℕ) (t : ℕ) (q : ResourceRequest) where
  token_here : sound l ≡ true → (k : ℕ) → TokenAt l q.token k → token_place l q ≡ k
  token_here ok k x = place_named (is_token q.token) l k (token_first l ok q.token k x.inside ((token_stands l q.token k x.inside).1 x))

  -- a test of the record with this token
  on_token : (b : ℕ → Bool) (P : ℕ → Type 0) → ((k : ℕ) → (b k ≡ true) ↔ P k) → sound l ≡ true → some (is_token q.token) (records l) ≡ true
      → (b (token_place l q) ≡ true) ↔ ((k : ℕ) × TokenAt l q.token k × P k)
  on_token b P says ok there =
      let f = first_in (is_token q.token) l there in
      at_found b (TokenAt l q.token) P says (token_place l q) ((token_stands l q.token (token_place l q) f.inside).0 f.passes) (token_here ok)

  resource_agrees : Agreed (resource_checks l t q (token_place l q)) (resource_rows l t q)
  unfolding resource_checks
  resource_agrees =
      row (not_says (sound l) (ledger_says l)) (λ s.
      let ok = not-false (sound l) s in
      row (flip_says (untimely l t) (time_says l t)) (λ i.
      row (none_says (is_token q.token) l (TokenAt l q.token) (λ k x. x.inside) (token_stands l q.token)) (λ n.
      let there = not-false (some (is_token q.token) (records l)) n in
      row (on_token (λ (k : ℕ). expired t (rec l k)) (λ (k : ℕ). expiry (rec l k) ≤ t) (λ k. expired_says t (rec l k)) ok there) (λ e.
      row
      (on_token (λ (k : ℕ). not (same (bound_key (rec l k)) q.presented)) (λ (k : ℕ). bound_key (rec l k) ≢ q.presented)
      (λ k. not_says (same (bound_key (rec l k)) q.presented) (same_eq (bound_key (rec l k)) q.presented, same_of (bound_key (rec l k)) q.presented)) ok there)
      (λ b.
      row
      (on_token (λ (k : ℕ). not (scope_fits q.scope (scope (rec l k)))) (λ (k : ℕ). Not (ScopeWithin q.scope (scope (rec l k))))
      (λ k. not_says (scope_fits q.scope (scope (rec l k))) (scope_says q.scope (scope (rec l k)))) ok there)
      (λ c.
      row
      (on_token (λ (k : ℕ). not (eqb (holder (rec l k)) q.holder)) (λ (k : ℕ). holder (rec l k) ≢ q.holder)
      (λ k. not_says (eqb (holder (rec l k)) q.holder) (eqb-true (holder (rec l k)) q.holder, eq-eqb (holder (rec l k)) q.holder)) ok there)
      (λ h. none)))))))

  resource_turns : (why : Refusal) → ((leaves l [] (resource t q)).number ≡ number_of why) ↔ Turn why (resource_rows l t q)
  resource_turns why = turns_say _ why (resource_checks l t q (token_place l q)) (resource_rows l t q) resource_agrees (resource_turn l t q why)

module _ (l : List ℕ) (t : ℕ) where
  sweep_agrees : Agreed (sweep_checks l t) (begins l t [])
  unfolding sweep_checks
  sweep_agrees = row (not_says (sound l) (ledger_says l)) (λ s. row (flip_says (untimely l t) (time_says l t)) (λ i. none))

  sweep_turns : (why : Refusal) → ((leaves l [] (sweep t)).number ≡ number_of why) ↔ Turn why (begins l t [])
  sweep_turns why = turns_say _ why (sweep_checks l t) (begins l t []) sweep_agrees (sweep_turn l t why)

module _ (l : List ℕ) (t : ℕ) (p : PendingRequest) (out : List ℕ) where
  pending_agrees : Agreed (pending_checks l t p out (pending_place l p)) (pending_rows l t p out)
  unfolding pending_checks
  pending_agrees =
      row (not_says (sound l) (ledger_says l)) (λ s.
      row (flip_says (untimely l t) (time_says l t)) (λ i.
      row (ltb-true (length out) output_least, lt-ltb (length out) output_least) (λ o.
      row
      (none_says (is_reference p.reference p.client) l (StandsAt Pushed l p.reference p.client) (λ k x. x.inside) (reference_stands l p.reference p.client))
      (λ n. row (on_reference l t p.reference p.client (not-false (sound l) s) n) (λ e. none)))))

  pending_turns : (why : Refusal) → ((leaves l [] (pending t p out)).number ≡ number_of why) ↔ Turn why (pending_rows l t p out)
  pending_turns why = turns_say _ why (pending_checks l t p out (pending_place l p)) (pending_rows l t p out) pending_agrees (pending_turn l t p out why)

module _ (l : List ℕ) (t : ℕ) (v out : List ℕ) where
  short_says : sound l ≡ true
      → (ltb (length out) (length (text_for l t v)) ≡ true) ↔ ((text : List ℕ) × TextFor l t v text × (length out < length text))
  short_says ok = (
    λ e. (text_for l t v, text_so l t v ok, ltb-true (length out) (length (text_for l t v)) e),
    λ x.
        ap (λ (text : List ℕ). ltb (length out) (length text)) (text_only l t v ok x.0 x.1)
        ∙ lt-ltb (length out) (length x.0) x.2,
  )

  introspect_agrees : Agreed (introspect_checks l t v out) (introspect_rows l t v out)
  unfolding introspect_checks
  introspect_agrees =
      row (not_says (sound l) (ledger_says l)) (λ s.
      row (flip_says (untimely l t) (time_says l t)) (λ i.
      row (short_says (not-false (sound l) s)) (λ o. none)))

  introspect_turns : (why : Refusal) → ((leaves l [] (introspect t v out)).number ≡ number_of why) ↔ Turn why (introspect_rows l t v out)
  introspect_turns why = turns_say _ why (introspect_checks l t v out) (introspect_rows l t v out) introspect_agrees (introspect_turn l t v out why)

pub turns : (l table : List ℕ) (c : Call) (why : Refusal) → ((leaves l table c).number ≡ number_of why) ↔ Turn why (rows l table c)
turns l table start why = start_turns l why
turns l table (push t p) why = push_turns l t table p why
turns l table (decide t d out) why = decide_turns l t d out why
turns l table (token t q) why = token_turns l t table q why
turns l table (resource t q) why = resource_turns l t q why
turns l table (sweep t) why = sweep_turns l t why
turns l table (pending t p out) why = pending_turns l t p out why
turns l table (introspect t v out) why = introspect_turns l t v out why
