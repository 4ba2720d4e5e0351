-- What the checks that passed say, each under its name, for each call and both ways.
use Prim.Native.Nat.{ℕ}
use mathlib.Core.Path.{◌≡◌, refl, sym, ap, ◌∙◌}
use mathlib.Core.Logic.{◌⊎◌, inl, inr, ⊎_elim}
use mathlib.Core.Bool.{Bool, true, false, not, ◌&&◌, true≢false}
use mathlib.Core.List.{List, [], ◌∷◌}
use lib.Dec.{eqb, ltb}
use lib.ListN.{length}
use borrow.Author.Tests.{eq-eqb, not-false}
use Rattle.octets.specs.Lists.{some}
use Rattle.octets.specs.Parts.{zeros, same}
use Rattle.forms.specs.Forms.{redirect_formed, challenge_formed, verifier_formed}
use Rattle.s256.specs.Rule.{matches}
use Rattle.ledger.specs.Limits.{last_number}
use Rattle.ledger.specs.Fields.{records, rec, next_number, in_state, scope, holder, challenge, bound_key}
use Rattle.ledger.specs.Sound.{sound}
use Rattle.ledger.specs.Checks.{untimely, is_free, is_reference, is_code, is_token, expired, taken}
use Rattle.ledger.specs.declared.state.State.TheVariants.{Redeemed}
use Rattle.clients.specs.Fields.{permitted}
use Rattle.clients.specs.Known.{is_known}
use Rattle.clients.specs.Sound.{sound as table_sound}
use Rattle.desk.specs.Limits.{output_least}
use Rattle.desk.specs.Checks.{Check, scope_fits}
use Rattle.desk.specs.Requests.{PushRequest, DecideRequest, TokenRequest, ResourceRequest, PendingRequest}
use Rattle.desk.specs.Push.{client_record, push_checks}
use Rattle.desk.specs.Decide.{reference_place, decide_checks}
use Rattle.desk.specs.Token.{code_place, token_checks}
use Rattle.desk.specs.Resource.{token_place, resource_checks}
use Rattle.desk.specs.Sweep.{sweep_checks}
use Rattle.desk.specs.Pending.{pending_place, pending_checks}
use Rattle.desk.specs.Introspect.{text_for, introspect_checks}
use Rattle.desk.proofs.Turns.{Passed, Turn}
use Rattle.desk.specs.Answers.{number_of}
use Rattle.desk.specs.declared.answer.Refusal.{Refusal}
use Rattle.desk.specs.declared.answer.Refusal.TheVariants.{CodeRedeemed}

-- ---- push

pub record PushFacts (l : List ℕ) (t : ℕ) (table : List ℕ) (p : PushRequest) : Type 0 where
  pub ledger_sound : sound l ≡ true
  pub in_time : untimely l t ≡ false
  pub table_sound : table_sound table ≡ true
  pub known : is_known table p.client p.key ≡ true
  pub formed : (redirect_formed p.redirect && challenge_formed p.challenge) ≡ true
  pub fits : scope_fits p.scope (permitted (client_record table p)) ≡ true
  pub new : taken l p.fresh ≡ false
  pub room : some is_free (records l) ≡ true
  pub numbers_left : eqb (next_number l) last_number ≡ false

module _ (l : List ℕ) (t : ℕ) (table : List ℕ) (p : PushRequest) where
  pub push_facts : Passed (push_checks l t table p) → PushFacts l t table p
  unfolding push_checks
  push_facts ok =
      let (a, (b, (c, (d, (e, (f, (g, (h, (i, _))))))))) = ok in
      record {
        ledger_sound = not-false (sound l) a;
        in_time = b;
        table_sound = not-false (table_sound table) c;
        known = not-false (is_known table p.client p.key) d;
        formed = not-false (redirect_formed p.redirect && challenge_formed p.challenge) e;
        fits = not-false (scope_fits p.scope (permitted (client_record table p))) f;
        new = g;
        room = not-false (some is_free (records l)) h;
        numbers_left = i;
      }

  pub facts_push : PushFacts l t table p → Passed (push_checks l t table p)
  unfolding push_checks
  facts_push f = (
    ap not f.ledger_sound,
    (
      f.in_time,
      (
        ap not f.table_sound,
        (ap not f.known, (ap not f.formed, (ap not f.fits, (f.new, (ap not f.room, (f.numbers_left, tt)))))),
      ),
    ),
  )

-- ---- decide

pub record DecideFacts (l : List ℕ) (t : ℕ) (d : DecideRequest) (out : List ℕ) : Type 0 where
  pub ledger_sound : sound l ≡ true
  pub in_time : untimely l t ≡ false
  pub output_long : ltb (length out) output_least ≡ false
  pub there : some (is_reference d.reference d.client) (records l) ≡ true
  pub alive : expired t (rec l (reference_place l d)) ≡ false
  pub holder_set : eqb d.holder 0 ≡ false
  pub new : (d.yes && taken l d.fresh) ≡ false

module _ (l : List ℕ) (t : ℕ) (d : DecideRequest) (out : List ℕ) where
  pub decide_facts : Passed (decide_checks l t d out (reference_place l d)) → DecideFacts l t d out
  unfolding decide_checks
  decide_facts ok =
      let (a, (b, (c, (e, (f, (g, (h, _))))))) = ok in
      record {
        ledger_sound = not-false (sound l) a;
        in_time = b;
        output_long = c;
        there = not-false (some (is_reference d.reference d.client) (records l)) e;
        alive = f;
        holder_set = g;
        new = h;
      }

  pub facts_decide : DecideFacts l t d out → Passed (decide_checks l t d out (reference_place l d))
  unfolding decide_checks
  facts_decide f = (
    ap not f.ledger_sound,
    (f.in_time, (f.output_long, (ap not f.there, (f.alive, (f.holder_set, (f.new, tt)))))),
  )

-- ---- token

pub record TokenFacts (l : List ℕ) (t : ℕ) (table : List ℕ) (q : TokenRequest) : Type 0 where
  pub ledger_sound : sound l ≡ true
  pub in_time : untimely l t ≡ false
  pub table_sound : table_sound table ≡ true
  pub known : is_known table q.client q.key ≡ true
  pub key_set : zeros q.presented ≡ false
  pub formed : verifier_formed q.verifier ≡ true
  pub there : some (is_code q.code q.client) (records l) ≡ true
  pub unredeemed : in_state Redeemed (rec l (code_place l q)) ≡ false
  pub alive : expired t (rec l (code_place l q)) ≡ false
  pub verified : matches q.verifier (challenge (rec l (code_place l q))) ≡ true
  pub new : taken l q.fresh ≡ false

module _ (l : List ℕ) (t : ℕ) (table : List ℕ) (q : TokenRequest) where
  pub token_facts : Passed (token_checks l t table q (code_place l q)) → TokenFacts l t table q
  unfolding token_checks
  token_facts ok =
      let (a, (b, (c, (d, (e, (f, (g, (h, (i, (j, (k, _))))))))))) = ok in
      record {
        ledger_sound = not-false (sound l) a;
        in_time = b;
        table_sound = not-false (table_sound table) c;
        known = not-false (is_known table q.client q.key) d;
        key_set = e;
        formed = not-false (verifier_formed q.verifier) f;
        there = not-false (some (is_code q.code q.client) (records l)) g;
        unredeemed = h;
        alive = i;
        verified = not-false (matches q.verifier (challenge (rec l (code_place l q)))) j;
        new = k;
      }

  pub facts_token : TokenFacts l t table q → Passed (token_checks l t table q (code_place l q))
  unfolding token_checks
  facts_token f = (
    ap not f.ledger_sound,
    (
      f.in_time,
      (
        ap not f.table_sound,
        (
          ap not f.known,
          (f.key_set, (ap not f.formed, (ap not f.there, (f.unredeemed, (f.alive, (ap not f.verified, (f.new, tt))))))),
        ),
      ),
    ),
  )

-- ---- token, where 15 is due

-- where the turn of a row has come: every check before it has passed, and it holds, or one of its number behind it. Of a call's list this computes.
abbrev Here : Bool → Type 0 → Type 0 → Type 0
Here true P Q = P
Here false P Q = Q

abbrev Due : Refusal → List Check → Type 0
Due why [] = ⊥
Due why (c ∷ cs) = Here (eqb (number_of c.why) (number_of why)) ((c.holds ≡ true) ⊎ Due why cs) ((c.holds ≡ false) × Due why cs)

turn_due : (why : Refusal) (cs : List Check) → Turn why cs → Due why cs
turn_due why [] u = u
turn_due why (c ∷ cs) u = go (eqb (number_of c.why) (number_of why)) refl (turn_due why cs)
  where
    go : (b : Bool) → eqb (number_of c.why) (number_of why) ≡ b → (Turn why cs → Due why cs)
        → Here b ((c.holds ≡ true) ⊎ Due why cs) ((c.holds ≡ false) × Due why cs)
    go true e f = ⊎_elim {C = (c.holds ≡ true) ⊎ Due why cs} (λ x. inl x.0) (λ y. inr (f y.1)) u
    go false e f =
        ⊎_elim {C = (c.holds ≡ false) × Due why cs} (λ x. absurd (true≢false (sym (eq-eqb (number_of c.why) (number_of why) (ap number_of x.1)) ∙ e)))
        (λ y. (y.0, f y.1)) u

none_behind : (P Q : Type 0) → (Q → ⊥) → P ⊎ Q → P
none_behind P Q n u = ⊎_elim {C = P} (λ x. x) (λ y. absurd (n y)) u

pub record SecondUseFacts (l : List ℕ) (t : ℕ) (table : List ℕ) (q : TokenRequest) : Type 0 where
  pub ledger_sound : sound l ≡ true
  pub in_time : untimely l t ≡ false
  pub there : some (is_code q.code q.client) (records l) ≡ true
  pub redeemed : in_state Redeemed (rec l (code_place l q)) ≡ true

module _ (l : List ℕ) (t : ℕ) (table : List ℕ) (q : TokenRequest) where
  pub second_use_facts : Turn CodeRedeemed (token_checks l t table q (code_place l q)) → SecondUseFacts l t table q
  unfolding token_checks
  second_use_facts u =
      let (a, (b, (_, (_, (_, (_, (c, d))))))) = turn_due CodeRedeemed (token_checks l t table q (code_place l q)) u in
      record {
        ledger_sound = not-false (sound l) a;
        in_time = b;
        there = not-false (some (is_code q.code q.client) (records l)) c;
        redeemed = none_behind _ _ (λ v. v.1.1.1) d;
      }

-- ---- resource

pub record ResourceFacts (l : List ℕ) (t : ℕ) (q : ResourceRequest) : Type 0 where
  pub ledger_sound : sound l ≡ true
  pub in_time : untimely l t ≡ false
  pub there : some (is_token q.token) (records l) ≡ true
  pub alive : expired t (rec l (token_place l q)) ≡ false
  pub key_bound : same (bound_key (rec l (token_place l q))) q.presented ≡ true
  pub fits : scope_fits q.scope (scope (rec l (token_place l q))) ≡ true
  pub held : eqb (holder (rec l (token_place l q))) q.holder ≡ true

module _ (l : List ℕ) (t : ℕ) (q : ResourceRequest) where
  pub resource_facts : Passed (resource_checks l t q (token_place l q)) → ResourceFacts l t q
  unfolding resource_checks
  resource_facts ok =
      let (a, (b, (c, (d, (e, (f, (g, _))))))) = ok in
      record {
        ledger_sound = not-false (sound l) a;
        in_time = b;
        there = not-false (some (is_token q.token) (records l)) c;
        alive = d;
        key_bound = not-false (same (bound_key (rec l (token_place l q))) q.presented) e;
        fits = not-false (scope_fits q.scope (scope (rec l (token_place l q)))) f;
        held = not-false (eqb (holder (rec l (token_place l q))) q.holder) g;
      }

  pub facts_resource : ResourceFacts l t q → Passed (resource_checks l t q (token_place l q))
  unfolding resource_checks
  facts_resource f = (
    ap not f.ledger_sound,
    (f.in_time, (ap not f.there, (f.alive, (ap not f.key_bound, (ap not f.fits, (ap not f.held, tt)))))),
  )

-- ---- sweep

pub record SweepFacts (l : List ℕ) (t : ℕ) : Type 0 where
  pub ledger_sound : sound l ≡ true
  pub in_time : untimely l t ≡ false

module _ (l : List ℕ) (t : ℕ) where
  pub sweep_facts : Passed (sweep_checks l t) → SweepFacts l t
  unfolding sweep_checks
  sweep_facts ok = let (a, (b, _)) = ok in record { ledger_sound = not-false (sound l) a; in_time = b }

  pub facts_sweep : SweepFacts l t → Passed (sweep_checks l t)
  unfolding sweep_checks
  facts_sweep f = (ap not f.ledger_sound, (f.in_time, tt))

-- ---- pending

pub record PendingFacts (l : List ℕ) (t : ℕ) (p : PendingRequest) (out : List ℕ) : Type 0 where
  pub ledger_sound : sound l ≡ true
  pub in_time : untimely l t ≡ false
  pub output_long : ltb (length out) output_least ≡ false
  pub there : some (is_reference p.reference p.client) (records l) ≡ true
  pub alive : expired t (rec l (pending_place l p)) ≡ false

module _ (l : List ℕ) (t : ℕ) (p : PendingRequest) (out : List ℕ) where
  pub pending_facts : Passed (pending_checks l t p out (pending_place l p)) → PendingFacts l t p out
  unfolding pending_checks
  pending_facts ok =
      let (a, (b, (c, (e, (f, _))))) = ok in
      record {
        ledger_sound = not-false (sound l) a;
        in_time = b;
        output_long = c;
        there = not-false (some (is_reference p.reference p.client) (records l)) e;
        alive = f;
      }

  pub facts_pending : PendingFacts l t p out → Passed (pending_checks l t p out (pending_place l p))
  unfolding pending_checks
  facts_pending f = (ap not f.ledger_sound, (f.in_time, (f.output_long, (ap not f.there, (f.alive, tt)))))

-- ---- introspect

pub record IntrospectFacts (l : List ℕ) (t : ℕ) (v out : List ℕ) : Type 0 where
  pub ledger_sound : sound l ≡ true
  pub in_time : untimely l t ≡ false
  pub output_long : ltb (length out) (length (text_for l t v)) ≡ false

module _ (l : List ℕ) (t : ℕ) (v out : List ℕ) where
  pub introspect_facts : Passed (introspect_checks l t v out) → IntrospectFacts l t v out
  unfolding introspect_checks
  introspect_facts ok = let (a, (b, (c, _))) = ok in record { ledger_sound = not-false (sound l) a; in_time = b; output_long = c }

  pub facts_introspect : IntrospectFacts l t v out → Passed (introspect_checks l t v out)
  unfolding introspect_checks
  facts_introspect f = (ap not f.ledger_sound, (f.in_time, (f.output_long, tt)))
