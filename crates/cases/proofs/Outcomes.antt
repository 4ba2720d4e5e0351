-- One outcome: by transitivity, whatever the form.
use Prim.Native.Nat.{ℕ}
use mathlib.Core.Path.{◌≡◌, refl, sym, ap, ap₂, ◌∙◌}
use mathlib.Core.List.{List}
use Rattle.desk.specs.Outcome.{Outcome, left, left_with}
use Rattle.desk.specs.Start.{start}
use Rattle.desk.specs.Push.{push}
use Rattle.desk.specs.Decide.{decide}
use Rattle.desk.specs.Token.{token}
use Rattle.desk.specs.Resource.{resource}
use Rattle.desk.specs.Sweep.{sweep}
use Rattle.desk.specs.Pending.{pending}
use Rattle.desk.specs.Introspect.{introspect}
use Rattle.desk.specs.declared.answer.Answer.{Answer}
use Rattle.desk.specs.declared.answer.Decided.{Decided}
use Rattle.desk.specs.declared.answer.Swept.{Swept}
use Rattle.desk.specs.declared.answer.Introspected.{Introspected}
use Rattle.front.specs.Consent.{consents}
use Rattle.front.specs.Seen.{as_answer, as_decided, as_swept, as_introspected}
use Rattle.front.specs.declared.answer.Answer.{Answer as FrontAnswer}
use Rattle.front.specs.declared.answer.Decided.{Decided as FrontDecided}
use Rattle.front.specs.declared.answer.Swept.{Swept as FrontSwept}
use Rattle.front.specs.declared.answer.Introspected.{Introspected as FrontIntrospected}
use Rattle.cases.specs.Outcomes.{OneOutcome, Is, Are, Made, OneEach, OneExported}

is_one : (A : Type 0) (v : A) → OneOutcome (Is v)
is_one A v x y a b = a ∙ sym b

are_one : (A B : Type 0) (v : A) (w : B) → OneOutcome (Are v w)
are_one A B v w x y a b = ap₂ (λ (r : A) (s : B). (r, s)) (a.0 ∙ sym b.0) (a.1 ∙ sym b.1)

made_one : (A B : Type 0) (k : A → B) (back : B → A) → ((x : A) → back (k x) ≡ x) → (v : B) → OneOutcome (Made k v)
made_one A B k back h v x y a b = sym (h x) ∙ ap back (a ∙ sym b) ∙ h y

pub one_each : OneEach
one_each =
    record {
      of_is = is_one;
      of_are = are_one;
      of_made = made_one;
      start_one = λ l. made_one (ℕ × List ℕ) (Outcome ℕ) (λ x. left x.0 x.1) (λ o. (o.answer, o.ledger)) (λ x. refl) (start l);
      push_one = λ l t table p. made_one (Answer × List ℕ) (Outcome Answer) (λ x. left x.0 x.1) (λ o. (o.answer, o.ledger)) (λ x. refl) (push l t table p);
      decide_one = λ l t d out.
          made_one (Decided × (List ℕ × List ℕ)) (Outcome Decided) (λ x. left_with x.0 x.1.0 x.1.1) (λ o. (o.answer, (o.ledger, o.output)))
          (λ x. refl) (decide l t d out);
      token_one = λ l t table q. made_one (Answer × List ℕ) (Outcome Answer) (λ x. left x.0 x.1) (λ o. (o.answer, o.ledger)) (λ x. refl) (token l t table q);
      resource_one = λ l t q. made_one (Answer × List ℕ) (Outcome Answer) (λ x. left x.0 x.1) (λ o. (o.answer, o.ledger)) (λ x. refl) (resource l t q);
      sweep_one = λ l t. made_one (Swept × List ℕ) (Outcome Swept) (λ x. left x.0 x.1) (λ o. (o.answer, o.ledger)) (λ x. refl) (sweep l t);
      pending_one = λ l t p out.
          made_one (Decided × List ℕ) (Outcome Decided) (λ x. left_with x.0 l x.1) (λ o. (o.answer, o.output)) (λ x. refl) (pending l t p out);
      introspect_one = λ l t v out.
          made_one (Introspected × List ℕ) (Outcome Introspected) (λ x. left_with x.0 l x.1) (λ o. (o.answer, o.output)) (λ x. refl)
          (introspect l t v out);
    }

-- ---- the structs that C reads lose nothing

abbrev from_answer : Answer → FrontAnswer
from_answer a = record { number = a.number; grant = a.grant; holder = a.holder; scope = a.scope; expiry = a.expiry }

abbrev from_decided : Decided → FrontDecided
from_decided d = record { answer = from_answer d.answer; length = d.length }

abbrev from_swept : Swept → FrontSwept
from_swept s = record { number = s.number; pushed = s.pushed; consented = s.consented; redeemed = s.redeemed }

abbrev from_introspected : Introspected → FrontIntrospected
from_introspected i = record { number = i.number; length = i.length }

answer_one : (v : Outcome Answer) → OneOutcome (λ (x : FrontAnswer × List ℕ). left (as_answer x.0) x.1 ≡ v)
answer_one v =
    made_one (FrontAnswer × List ℕ) (Outcome Answer) (λ x. left (as_answer x.0) x.1) (λ o. (from_answer o.answer, o.ledger)) (λ x. refl) v

pub one_exported : OneExported
one_exported =
    record {
      perdigolh_start = λ l. one_each.start_one l;
      perdigolh_push = λ l t table p. answer_one (push l t table p);
      perdigolh_decide = λ l t reference client yes holder fresh out.
          made_one (FrontDecided × (List ℕ × List ℕ)) (Outcome Decided) (λ x. left_with (as_decided x.0) x.1.0 x.1.1)
          (λ o. (from_decided o.answer, (o.ledger, o.output))) (λ x. refl)
          (decide l t (record { reference = reference; client = client; yes = consents yes; holder = holder; fresh = fresh }) out);
      perdigolh_token = λ l t table q. answer_one (token l t table q);
      perdigolh_resource = λ l t q. answer_one (resource l t q);
      perdigolh_sweep = λ l t.
          made_one (FrontSwept × List ℕ) (Outcome Swept) (λ x. left (as_swept x.0) x.1) (λ o. (from_swept o.answer, o.ledger)) (λ x. refl) (sweep l t);
      perdigolh_pending = λ l t p out.
          made_one (FrontDecided × List ℕ) (Outcome Decided) (λ x. left_with (as_decided x.0) l x.1) (λ o. (from_decided o.answer, o.output)) (λ x. refl)
          (pending l t p out);
      perdigolh_introspect = λ l t v out.
          made_one (FrontIntrospected × List ℕ) (Outcome Introspected) (λ x. left_with (as_introspected x.0) l x.1)
          (λ o. (from_introspected o.answer, o.output)) (λ x. refl) (introspect l t v out);
    }
