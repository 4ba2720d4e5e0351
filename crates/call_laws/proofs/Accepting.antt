-- Each call answers 0 exactly when the conditions of specs/Accepted hold.
use Prim.Native.Nat.{ℕ}
use mathlib.Core.Path.{◌≡◌, refl, sym, ap, ◌∙◌}
use mathlib.Core.Logic.{◌↔◌}
use mathlib.Core.Bool.{Bool, true, false, ◌&&◌, true≢false}
use mathlib.Core.List.{List}
use lib.Dec.{eqb, ltb}
use lib.ListN.{length}
use borrow.Author.Tests.{ltb-false, le-ltb, eqb-true, eqb-false, eq-eqb, ne_eqb}
use Rattle.octets.specs.Lists.{place}
use Rattle.octets.specs.Parts.{same}
use Rattle.octets.proofs.Tests.{both, both_true}
use Rattle.octets.proofs.Parts.{same_eq, same_of}
use Rattle.octets.proofs.Bytes.{nonzero_says}
use Rattle.forms.specs.Forms.{redirect_formed, challenge_formed}
use Rattle.forms.proofs.Laws.{redirect_says, challenge_says, verifier_says}
use Rattle.s256.specs.Rule.{matches}
use Rattle.ledger.specs.Limits.{last_number}
use Rattle.ledger.specs.Fields.{next_number, rec, records, in_state, scope, holder, challenge, bound_key}
use Rattle.ledger.specs.Checks.{is_free, is_reference, is_code, is_token, expired, taken}
use Rattle.ledger.specs.declared.state.State.TheVariants.{Redeemed}
use Rattle.ledger_laws.proofs.Plain.{size_says, ledger_says}
use Rattle.ledger_laws.proofs.Searches.{some_in, first_in, reference_first, code_first, token_first}
use Rattle.clients.specs.Fields.{permitted, client as entry}
use Rattle.clients.specs.Known.{place_of}
use Rattle.clients.proofs.Laws.{table_says}
use Rattle.desk.specs.Limits.{output_least}
use Rattle.desk.specs.Answers.{done}
use Rattle.desk.specs.Checks.{scope_fits}
use Rattle.desk.specs.Requests.{PushRequest, DecideRequest, TokenRequest, ResourceRequest}
use Rattle.desk.specs.Push.{push}
use Rattle.desk.specs.Decide.{reference_place, decide}
use Rattle.desk.specs.Token.{code_place, token}
use Rattle.desk.specs.Resource.{token_place, resource}
use Rattle.desk.specs.Sweep.{sweep}
use Rattle.desk.specs.Start.{start}
use Rattle.desk.specs.Requests.{PendingRequest}
use Rattle.desk.specs.Pending.{pending_place, pending}
use Rattle.desk.specs.Introspect.{text_for, introspect}
use Rattle.call_laws.specs.Conditions.{FreshValue}
use Rattle.call_laws.specs.Accepted.{StartAccepted, PushAccepted, DecideAccepted, TokenAccepted, ResourceAccepted, SweepAccepted, IntrospectAccepted}
use Rattle.call_laws.proofs.Rows.{push_passed, decide_passed, token_passed, resource_passed, sweep_passed, introspect_passed, start_passed}
use Rattle.call_laws.proofs.Facts.{PushFacts, push_facts, facts_push, DecideFacts, decide_facts, facts_decide, TokenFacts, token_facts, facts_token, ResourceFacts, resource_facts, facts_resource, sweep_facts, facts_sweep, introspect_facts, facts_introspect}
use Rattle.call_laws.proofs.Readings.{time_says, known_is, is_known_lem, scope_says, fresh_says, alive_says, match_says, place_named, free_stands, reference_stands, code_stands, token_stands, text_so, text_only}
use Rattle.call_laws.specs.Accepted.{PendingAccepted}
use Rattle.call_laws.proofs.Rows.{pending_passed}
use Rattle.call_laws.proofs.Facts.{PendingFacts, pending_facts, facts_pending}

-- ---- start

pub start_accepted : (l : List ℕ) → ((start l).answer ≡ done) ↔ StartAccepted l
start_accepted l = (λ e. (size_says l).0 ((start_passed l).0 e), λ w. (start_passed l).1 ((size_says l).1 w))

-- ---- push

module _ (l : List ℕ) (t : ℕ) (table : List ℕ) (p : PushRequest) where
  push_says : PushFacts l t table p → PushAccepted l t table p
  push_says f =
      let (a, b) = both (redirect_formed p.redirect) (challenge_formed p.challenge) f.formed in
      let r = first_in is_free l f.room in
      record {
        ledger_sound = (ledger_says l).0 f.ledger_sound;
        in_time = (time_says l t).0 f.in_time;
        table_sound = (table_says table).0 f.table_sound;
        client_place = place_of table p.client;
        known = known_is table p.client p.key f.known;
        redirect_well = (redirect_says p.redirect).0 a;
        challenge_well = (challenge_says p.challenge).0 b;
        scope_permitted = (scope_says p.scope _).0 f.fits;
        fresh_new = (fresh_says l p.fresh).0 f.new;
        room = place is_free (records l);
        room_free = (free_stands l (place is_free (records l))).0 r;
        number_left = eqb-false (next_number l) last_number f.numbers_left;
      }

  says_push : PushAccepted l t table p → PushFacts l t table p
  says_push w =
      let (a, b) = is_known_lem table p.client p.key w.client_place ((table_says table).1 w.table_sound) w.known in
      record {
        ledger_sound = (ledger_says l).1 w.ledger_sound;
        in_time = (time_says l t).1 w.in_time;
        table_sound = (table_says table).1 w.table_sound;
        known = a;
        formed = both_true (redirect_formed p.redirect) (challenge_formed p.challenge) ((redirect_says p.redirect).1 w.redirect_well)
            ((challenge_says p.challenge).1 w.challenge_well);
        fits = ap (λ (k : ℕ). scope_fits p.scope (permitted (entry table k))) b ∙ (scope_says p.scope _).1 w.scope_permitted;
        new = (fresh_says l p.fresh).1 w.fresh_new;
        room = some_in is_free l w.room w.room_free.inside ((free_stands l w.room).1 w.room_free).passes;
        numbers_left = ne_eqb (next_number l) last_number w.number_left;
      }

  pub push_accepted : ((push l t table p).answer.number ≡ done) ↔ PushAccepted l t table p
  push_accepted = (
    λ e. push_says (push_facts l t table p ((push_passed l t table p).0 e)),
    λ w. (push_passed l t table p).1 (facts_push l t table p (says_push w)),
  )

-- ---- decide

module _ (l : List ℕ) (t : ℕ) (d : DecideRequest) (out : List ℕ) where
  -- the fresh value is asked for on yes alone
  yes_new : (b : Bool) → ((b && taken l d.fresh) ≡ false) ↔ (b ≡ true → FreshValue l d.fresh)
  yes_new true = (λ e s. (fresh_says l d.fresh).0 e, λ f. (fresh_says l d.fresh).1 (f refl))
  yes_new false = (λ e s. absurd (true≢false (sym s)), λ f. refl)

  decide_says : DecideFacts l t d out → DecideAccepted l t d out
  decide_says f =
      let r = first_in (is_reference d.reference d.client) l f.there in
      record {
        ledger_sound = (ledger_says l).0 f.ledger_sound;
        in_time = (time_says l t).0 f.in_time;
        output_room = ltb-false (length out) output_least f.output_long;
        k = reference_place l d;
        waits = (reference_stands l d.reference d.client (reference_place l d) r.inside).0 r.passes;
        alive = (alive_says t (rec l (reference_place l d))).0 f.alive;
        holder_given = eqb-false d.holder 0 f.holder_set;
        fresh_new = (yes_new d.yes).0 f.new;
      }

  says_decide : DecideAccepted l t d out → DecideFacts l t d out
  says_decide w =
      let e = (reference_stands l d.reference d.client w.k w.waits.inside).1 w.waits in
      let at = place_named (is_reference d.reference d.client) l w.k (reference_first l ((ledger_says l).1 w.ledger_sound) d.reference d.client w.k w.waits.inside e) in
      record {
        ledger_sound = (ledger_says l).1 w.ledger_sound;
        in_time = (time_says l t).1 w.in_time;
        output_long = le-ltb (length out) output_least w.output_room;
        there = some_in (is_reference d.reference d.client) l w.k w.waits.inside e;
        alive = ap (λ (k : ℕ). expired t (rec l k)) at ∙ (alive_says t (rec l w.k)).1 w.alive;
        holder_set = ne_eqb d.holder 0 w.holder_given;
        new = (yes_new d.yes).1 w.fresh_new;
      }

  pub decide_accepted : ((decide l t d out).answer.answer.number ≡ done) ↔ DecideAccepted l t d out
  decide_accepted = (
    λ e. decide_says (decide_facts l t d out ((decide_passed l t d out).0 e)),
    λ w. (decide_passed l t d out).1 (facts_decide l t d out (says_decide w)),
  )

-- ---- token

module _ (l : List ℕ) (t : ℕ) (table : List ℕ) (q : TokenRequest) where
  redeem_says : TokenFacts l t table q → TokenAccepted l t table q
  redeem_says f =
      let r = first_in (is_code q.code q.client) l f.there in
      record {
        ledger_sound = (ledger_says l).0 f.ledger_sound;
        in_time = (time_says l t).0 f.in_time;
        table_sound = (table_says table).0 f.table_sound;
        client_place = place_of table q.client;
        known = known_is table q.client q.key f.known;
        key_presented = (nonzero_says q.presented).0 f.key_set;
        verifier_well = (verifier_says q.verifier).0 f.formed;
        k = code_place l q;
        waits = (code_stands l q.code q.client (code_place l q) r.inside).0 (r.passes, f.unredeemed);
        alive = (alive_says t (rec l (code_place l q))).0 f.alive;
        verified = (match_says q.verifier (challenge (rec l (code_place l q)))).0 f.verified;
        fresh_new = (fresh_says l q.fresh).0 f.new;
      }

  says_redeem : TokenAccepted l t table q → TokenFacts l t table q
  says_redeem w =
      let (a, b) = is_known_lem table q.client q.key w.client_place ((table_says table).1 w.table_sound) w.known in
      let (e, n) = (code_stands l q.code q.client w.k w.waits.inside).1 w.waits in
      let at = place_named (is_code q.code q.client) l w.k (code_first l ((ledger_says l).1 w.ledger_sound) q.code q.client w.k w.waits.inside e) in
      record {
        ledger_sound = (ledger_says l).1 w.ledger_sound;
        in_time = (time_says l t).1 w.in_time;
        table_sound = (table_says table).1 w.table_sound;
        known = a;
        key_set = (nonzero_says q.presented).1 w.key_presented;
        formed = (verifier_says q.verifier).1 w.verifier_well;
        there = some_in (is_code q.code q.client) l w.k w.waits.inside e;
        unredeemed = ap (λ (k : ℕ). in_state Redeemed (rec l k)) at ∙ n;
        alive = ap (λ (k : ℕ). expired t (rec l k)) at ∙ (alive_says t (rec l w.k)).1 w.alive;
        verified = ap (λ (k : ℕ). matches q.verifier (challenge (rec l k))) at ∙ (match_says q.verifier (challenge (rec l w.k))).1 w.verified;
        new = (fresh_says l q.fresh).1 w.fresh_new;
      }

  pub token_accepted : ((token l t table q).answer.number ≡ done) ↔ TokenAccepted l t table q
  token_accepted = (
    λ e. redeem_says (token_facts l t table q ((token_passed l t table q).0 e)),
    λ w. (token_passed l t table q).1 (facts_token l t table q (says_redeem w)),
  )

-- ---- resource

module _ (l : List ℕ) (t : ℕ) (q : ResourceRequest) where
  resource_says : ResourceFacts l t q → ResourceAccepted l t q
  resource_says f =
      let r = first_in (is_token q.token) l f.there in
      let k = token_place l q in
      record {
        ledger_sound = (ledger_says l).0 f.ledger_sound;
        in_time = (time_says l t).0 f.in_time;
        k = k;
        issued = (token_stands l q.token k r.inside).0 r.passes;
        alive = (alive_says t (rec l k)).0 f.alive;
        key_is = same_eq (bound_key (rec l k)) q.presented f.key_bound;
        scope_granted = (scope_says q.scope (scope (rec l k))).0 f.fits;
        holder_is = eqb-true (holder (rec l k)) q.holder f.held;
      }

  says_resource : ResourceAccepted l t q → ResourceFacts l t q
  says_resource w =
      let e = (token_stands l q.token w.k w.issued.inside).1 w.issued in
      let at = place_named (is_token q.token) l w.k (token_first l ((ledger_says l).1 w.ledger_sound) q.token w.k w.issued.inside e) in
      record {
        ledger_sound = (ledger_says l).1 w.ledger_sound;
        in_time = (time_says l t).1 w.in_time;
        there = some_in (is_token q.token) l w.k w.issued.inside e;
        alive = ap (λ (k : ℕ). expired t (rec l k)) at ∙ (alive_says t (rec l w.k)).1 w.alive;
        key_bound = ap (λ (k : ℕ). same (bound_key (rec l k)) q.presented) at ∙ same_of (bound_key (rec l w.k)) q.presented w.key_is;
        fits = ap (λ (k : ℕ). scope_fits q.scope (scope (rec l k))) at ∙ (scope_says q.scope (scope (rec l w.k))).1 w.scope_granted;
        held = ap (λ (k : ℕ). eqb (holder (rec l k)) q.holder) at ∙ eq-eqb (holder (rec l w.k)) q.holder w.holder_is;
      }

  pub resource_accepted : ((resource l t q).answer.number ≡ done) ↔ ResourceAccepted l t q
  resource_accepted = (
    λ e. resource_says (resource_facts l t q ((resource_passed l t q).0 e)),
    λ w. (resource_passed l t q).1 (facts_resource l t q (says_resource w)),
  )

-- ---- sweep

module _ (l : List ℕ) (t : ℕ) where
  pub sweep_accepted : ((sweep l t).answer.number ≡ done) ↔ SweepAccepted l t
  sweep_accepted = (
    λ e.
        let f = sweep_facts l t ((sweep_passed l t).0 e) in
        record { ledger_sound = (ledger_says l).0 f.ledger_sound; in_time = (time_says l t).0 f.in_time },
    λ w. (sweep_passed l t).1 (facts_sweep l t (record { ledger_sound = (ledger_says l).1 w.ledger_sound; in_time = (time_says l t).1 w.in_time })),
  )

-- ---- pending

module _ (l : List ℕ) (t : ℕ) (p : PendingRequest) (out : List ℕ) where
  pending_says : PendingFacts l t p out → PendingAccepted l t p out
  pending_says f =
      let r = first_in (is_reference p.reference p.client) l f.there in
      record {
        ledger_sound = (ledger_says l).0 f.ledger_sound;
        in_time = (time_says l t).0 f.in_time;
        output_room = ltb-false (length out) output_least f.output_long;
        k = pending_place l p;
        waits = (reference_stands l p.reference p.client (pending_place l p) r.inside).0 r.passes;
        alive = (alive_says t (rec l (pending_place l p))).0 f.alive;
      }

  says_pending : PendingAccepted l t p out → PendingFacts l t p out
  says_pending w =
      let e = (reference_stands l p.reference p.client w.k w.waits.inside).1 w.waits in
      let at = place_named (is_reference p.reference p.client) l w.k (reference_first l ((ledger_says l).1 w.ledger_sound) p.reference p.client w.k w.waits.inside e) in
      record {
        ledger_sound = (ledger_says l).1 w.ledger_sound;
        in_time = (time_says l t).1 w.in_time;
        output_long = le-ltb (length out) output_least w.output_room;
        there = some_in (is_reference p.reference p.client) l w.k w.waits.inside e;
        alive = ap (λ (k : ℕ). expired t (rec l k)) at ∙ (alive_says t (rec l w.k)).1 w.alive;
      }

  pub pending_accepted : ((pending l t p out).answer.answer.number ≡ done) ↔ PendingAccepted l t p out
  pending_accepted = (
    λ e. pending_says (pending_facts l t p out ((pending_passed l t p out).0 e)),
    λ w. (pending_passed l t p out).1 (facts_pending l t p out (says_pending w)),
  )

-- ---- introspect

module _ (l : List ℕ) (t : ℕ) (v out : List ℕ) where
  pub introspect_accepted : ((introspect l t v out).answer.number ≡ done) ↔ IntrospectAccepted l t v out
  introspect_accepted = (
    λ e.
        let f = introspect_facts l t v out ((introspect_passed l t v out).0 e) in
        record {
          ledger_sound = (ledger_says l).0 f.ledger_sound;
          in_time = (time_says l t).0 f.in_time;
          text = text_for l t v;
          text_is = text_so l t v f.ledger_sound;
          output_room = ltb-false (length out) (length (text_for l t v)) f.output_long;
        },
    λ w.
        let ok = (ledger_says l).1 w.ledger_sound in
        (introspect_passed l t v out).1
        (facts_introspect l t v out
        (record {
          ledger_sound = ok;
          in_time = (time_says l t).1 w.in_time;
          output_long = ap (λ (text : List ℕ). ltb (length out) (length text)) (text_only l t v ok w.text w.text_is)
              ∙ le-ltb (length out) (length w.text) w.output_room;
        })),
  )
