-- Wrong desks are caught.
use Prim.Native.Nat.{ℕ, ◌≤◌}
use native.Mathlib.Omega.{arith}
use mathlib.Core.Path.{◌≡◌, refl, sym, ap, ◌∙◌}
use mathlib.Core.Logic.{◌≢◌, ⊎_elim}
use mathlib.Core.Bool.{Bool, true, false}
use mathlib.Core.List.{List, [], ◌∷◌, ◌++◌}
use lib.Dec.{lit≤, eqb}
use borrow.Author.Tests.{eqb-true, eqb-false}
use Rattle.octets.specs.Plain.{Bytes}
use Rattle.octets.proofs.Parts.{differ_is}
use lib.ListN.{length}
use Rattle.desk.specs.Checks.{first}
use Rattle.desk.specs.Requests.{PushRequest}
use Rattle.desk.specs.Push.{push_at}
use Rattle.desk.specs.Answers.{done}
use Rattle.ledger.specs.Sweep.{freed}
use Rattle.history.specs.Runs.{Call, push, sweep, TypedPush, step, number_in, started, last, AllTyped, Said, swept as says, grant_of}
use Rattle.ledger.specs.Fields.{next_number}
use Rattle.ledger.specs.declared.sweep.Freed.{Freed}
use Rattle.desk.specs.Outcome.{Outcome}
use Rattle.desk.specs.declared.answer.Answer.{Answer}
use Rattle.desk.specs.declared.answer.Swept.{Swept}
use Rattle.desk.proofs.Turns.{number_refused}
use Rattle.call_laws.proofs.Rows.{push_cases, sweep_cases}
use Rattle.call_laws.proofs.Facts.{push_facts}
use Rattle.history.proofs.Effects.{push_after}
use Rattle.cases.specs.Table.{shortest}
use Rattle.cases.specs.Desks.{Seen, Desk, Allowed, Kind, pushes, decides, sweeps, kind_of, before, Caught, Refuses, Answers, Idles, output_in, Withholds, Feigns, counts_in, InventsCounts, InventsNumbers, ShutOut}
use Rattle.history.specs.Example.{table, text43, room}
use Rattle.history.proofs.Example.{typed_push}
use Rattle.cases.proofs.Inputs.{asking, code, allowing}
use Rattle.cases.proofs.Tries.{soon, one_before, run_of, call_at, ledger_of, swept_first, other_first, computed, later, of_kind, typed_call, typed_run, typed_other}

-- ---- catching

abbrev DiffersOn : Desk → List Call → Call → Type 0
DiffersOn desk made c = (o : Seen) → Allowed (last (started 2) made) c o → desk made (last (started 2) made) c ≢ o

catch : (k : Kind) (desk : Desk) (made : List Call) (c : Call) → AllTyped (made ++ (c ∷ [])) → 1 ≤ length made → length made ≤ before k
    → kind_of c ≡ k → DiffersOn desk made c → Caught k desk
catch k desk made c y n m i d =
    record {
      slots = 2;
      least = lit≤ tt;
      most = lit≤ tt;
      made = made;
      call = c;
      typed = y;
      second = n;
      soon = m;
      of_kind = i;
      differs = d;
    }

-- on the call that is accepted, and on the one that comes too early
catch_accepted : (k : Kind) (desk : Desk) → DiffersOn desk (run_of k) (call_at 1030 k) → Caught k desk
catch_accepted k desk d = catch k desk (run_of k) (call_at 1030 k) (typed_run k) (later k) (soon k) (of_kind 1030 k) d

catch_early : (k : Kind) (desk : Desk) → DiffersOn desk swept_first (call_at 4 k) → Caught k desk
catch_early k desk d = catch k desk swept_first (call_at 4 k) (lit≤ tt, (typed_call 4 (lit≤ tt) k, tt)) (lit≤ tt) (one_before k) (of_kind 4 k) d

-- what the desk would have to show, were its outcome allowed
shows : {A : Type 0} (f : Seen → A) (desk : Desk) (made : List Call) (c : Call) (o : Seen) → Allowed (last (started 2) made) c o
    → desk made (last (started 2) made) c ≡ o
    → f (desk made (last (started 2) made) c) ≡ f (record { answer = (step (last (started 2) made) c).answer; after = (step (last (started 2) made) c).after })
shows f desk made c o a e = ap f (e ∙ a)

refuser : (k : Kind) (desk : Desk) → Refuses k desk → Caught k desk
refuser k desk r =
    catch_accepted k desk
    (λ o a e. r (run_of k) (ledger_of k) (call_at 1030 k) (later k) (of_kind 1030 k) (shows (λ (s : Seen). number_in s.answer) desk (run_of k) (call_at 1030 k) o a e ∙ computed.accepted k))

constant : (a : Said) (k : Kind) (desk : Desk) → Answers a k desk → Caught k desk
constant a k desk r = go (eqb (number_in a) done) refl
  where
    go : (b : Bool) → eqb (number_in a) done ≡ b → Caught k desk
    go true z =
        catch_early k desk
        (λ o w e.
        let n : number_in a ≡ 2 = ap number_in (sym (r swept_first (last (started 2) swept_first) (call_at 4 k) (lit≤ tt) (of_kind 4 k))) ∙ shows (λ (s : Seen). number_in s.answer) desk swept_first (call_at 4 k) o w e ∙ computed.early k in
        let m = eqb-true (number_in a) done z in
        absurd (omega arith))
    go false z =
        catch_accepted k desk
        (λ o w e.
        eqb-false (number_in a) done z
        (ap number_in (sym (r (run_of k) (ledger_of k) (call_at 1030 k) (later k) (of_kind 1030 k))) ∙ shows (λ (s : Seen). number_in s.answer) desk (run_of k) (call_at 1030 k) o w e ∙ computed.accepted k))

idler : (k : Kind) (desk : Desk) → Idles k desk → Caught k desk
idler k desk r =
    catch_accepted k desk
    (λ o a e.
    differ_is (step (ledger_of k) (call_at 1030 k)).after (ledger_of k) (computed.changes k)
    (sym (shows (λ (s : Seen). s.after) desk (run_of k) (call_at 1030 k) o a e) ∙ r (run_of k) (ledger_of k) (call_at 1030 k) (later k) (of_kind 1030 k)))

feigner : (k : Kind) (desk : Desk) → Feigns k desk → Caught k desk
feigner k desk f = ⊎_elim (λ r. refuser k desk r) (λ s. ⊎_elim (λ c. constant f.made_up k desk c) (λ i. idler k desk i) s) f.then

withholder : (desk : Desk) → Withholds desk → Caught decides desk
withholder desk r =
    catch_accepted decides desk
    (λ o a e.
    differ_is (output_in (step (ledger_of decides) (call_at 1030 decides)).answer) room computed.hands_out
    (sym (shows (λ (s : Seen). output_in s.answer) desk (run_of decides) (call_at 1030 decides) o a e) ∙ r (run_of decides) (ledger_of decides) 1030 (allowing code) room (lit≤ tt)))

-- a number that does not go by the ledger is wrong on one of two ledgers
module _ (k : Kind) (desk : Desk) (f : Seen → ℕ) (first second : List Call) (c : Call) (x y : ℕ) (differ : x ≢ y)
    (same_number : f (desk first (last (started 2) first) c) ≡ f (desk second (last (started 2) second) c))
    (at_first : DiffersOn desk first c → Caught k desk)
    (at_second : DiffersOn desk second c → Caught k desk)
    (is_first : f (record { answer = (step (last (started 2) first) c).answer; after = (step (last (started 2) first) c).after }) ≡ x)
    (is_second : f (record { answer = (step (last (started 2) second) c).answer; after = (step (last (started 2) second) c).after }) ≡ y) where
  invented : Caught k desk
  invented = go (eqb (f (desk first (last (started 2) first) c)) x) refl
    where
      go : (b : Bool) → eqb (f (desk first (last (started 2) first) c)) x ≡ b → Caught k desk
      go true z =
          at_second
          (λ o a e. differ (sym (eqb-true (f (desk first (last (started 2) first) c)) x z) ∙ same_number ∙ shows f desk second c o a e ∙ is_second))
      go false z = at_first (λ o a e. eqb-false (f (desk first (last (started 2) first) c)) x z (shows f desk first c o a e ∙ is_first))

counts : (desk : Desk) → InventsCounts desk → Caught sweeps desk
counts desk r =
    invented sweeps desk (λ (s : Seen). (counts_in s.answer).pushed) swept_first (run_of sweeps) (sweep 2000) 0 1 (λ e. omega arith)
    (ap (λ (f : Freed). f.pushed) (r swept_first (run_of sweeps) (last (started 2) swept_first) (ledger_of sweeps) 2000 (lit≤ tt) (lit≤ tt)))
    (catch sweeps desk swept_first (sweep 2000) (lit≤ tt, (lit≤ tt, tt)) (lit≤ tt) (lit≤ tt) refl)
    (catch sweeps desk (run_of sweeps) (sweep 2000) (typed_push 1000 (lit≤ tt), (lit≤ tt, tt)) (lit≤ tt) (lit≤ tt) refl)
    computed.frees_none computed.frees_one

numbers : (desk : Desk) → InventsNumbers desk → Caught pushes desk
numbers desk r =
    invented pushes desk (λ (s : Seen). grant_of s.answer) swept_first other_first (call_at 1030 pushes) 1 2 (λ e. omega arith)
    (r swept_first other_first (last (started 2) swept_first) (last (started 2) other_first) 1030 table (asking 4 text43 shortest) (lit≤ tt) (lit≤ tt))
    (catch pushes desk swept_first (call_at 1030 pushes) (lit≤ tt, (typed_push 1030 (lit≤ tt), tt)) (lit≤ tt) (lit≤ tt) refl)
    (catch pushes desk other_first (call_at 1030 pushes) (typed_other, (typed_push 1030 (lit≤ tt), tt)) (lit≤ tt) (lit≤ tt) refl)
    computed.first_number computed.second_number

-- ---- on every input

counts_only : (l : List ℕ) (t : ℕ) (o : Seen) → Allowed l (sweep t) o → number_in o.answer ≡ done → counts_in o.answer ≡ freed t l
unfolding step
counts_only l t o a e =
    ap (λ (s : Seen). counts_in s.answer) a
    ∙ sweep_cases l t (λ (w : Outcome Swept). w.answer.number ≡ done → counts_in (says w.answer) ≡ freed t l) (λ why u n. absurd (number_refused why n)) (λ ok n. refl)
    (sym (ap (λ (s : Seen). number_in s.answer) a) ∙ e)

number_only : (l : List ℕ) (t : ℕ) (table : List ℕ) (p : PushRequest) (o : Seen) → Bytes l → TypedPush t table p → Allowed l (push t table p) o
    → number_in o.answer ≡ done → grant_of o.answer ≡ next_number l
unfolding step push_at
number_only l t table p o b y a e =
    ap (λ (s : Seen). grant_of s.answer) a
    ∙ push_cases l t table p (λ (w : Outcome Answer). w.answer.number ≡ done → w.answer.grant ≡ next_number l) (λ why u n. absurd (number_refused why n))
    (λ ok n. (push_after l t table p b y (push_facts l t table p ok)).grant_is)
    (sym (ap (λ (s : Seen). number_in s.answer) a) ∙ e)

pub shut_out : ShutOut
shut_out =
    record {
      refuser = refuser;
      constant = constant;
      idler = idler;
      withholder = withholder;
      feigner = feigner;
      counts = counts;
      numbers = numbers;
      counts_only = counts_only;
      number_only = number_only;
    }
