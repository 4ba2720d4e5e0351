-- Demand 1 holds.
use Prim.Native.Nat.{ℕ}
use mathlib.Core.Path.{◌≡◌, refl, sym, ◌∙◌}
use mathlib.Core.Logic.{◌≢◌, ◌⊎◌, inl, inr, ⊎_elim}
use mathlib.Core.Bool.{Bool, true, false, true≢false, false≢true}
use mathlib.Core.List.{List, [], ◌∷◌, ◌++◌}
use lib.Dec.{eqb}
use borrow.Author.Tests.{eqb-true, eqb-false}
use Rattle.octets.specs.Lists.{some}
use Rattle.octets.specs.Parts.{zeros}
use Rattle.octets.specs.Plain.{AllZero}
use Rattle.octets.proofs.Bytes.{zeros_say}
use Rattle.ledger.specs.Sound.{sound}
use Rattle.ledger.specs.Checks.{untimely}
use Rattle.ledger_laws.specs.Sound.{SoundLedger}
use Rattle.ledger_laws.proofs.Says.{either}
use Rattle.ledger_laws.proofs.Plain.{ledger_says}
use Rattle.clients.specs.Plain.{SoundTable}
use Rattle.desk.specs.Answers.{number_of, done}
use Rattle.desk.specs.Push.{push_at}
use Rattle.desk.specs.Decide.{consent_at, decline_at}
use Rattle.desk.specs.Token.{token_at}
use Rattle.desk.specs.Pending.{pending_at}
use Rattle.desk.specs.Introspect.{introspect_with}
use Rattle.desk.specs.declared.answer.Refusal.{Refusal}
use Rattle.desk.specs.declared.answer.Refusal.TheVariants.{LedgerUnsound, TimeWrong, TableUnsound, CodeRedeemed}
use Rattle.call_laws.specs.Conditions.{InTime}
use Rattle.desk.proofs.Turns.{number_refused}
use Rattle.call_laws.proofs.Readings.{time_says}
use Rattle.call_laws.proofs.Rows.{start_numbers, push_numbers, decide_numbers, token_numbers, resource_numbers, sweep_numbers, introspect_numbers, push_cases, decide_cases, token_cases, resource_cases, sweep_cases, introspect_cases, pending_numbers, pending_cases}
use Rattle.call_laws.proofs.Alone.{either_way, start_unchanged, push_unchanged, decide_unchanged, token_unchanged, resource_unchanged, sweep_unchanged, introspect_unchanged, pending_unchanged}
use Rattle.demands.specs.Calls.{Start, Call, start, push, decide, token, resource, sweep, introspect, kind_of, lent, four, three, leaves, pending}
use Rattle.demands.specs.Demand1.{numbers, In, reads_table, Demand1, excepted}
use Rattle.demands.specs.Rows.{Not, Row, ◌given◌, Turn, begins, rows}
use Rattle.demands.proofs.Rows.{turns}
use Rattle.demands.proofs.Afterwards.{after_second_use}

-- ---- a number of the call's own list

one_of : (n : ℕ) (ns : List ℕ) → some (eqb n) ns ≡ true → In n ns
one_of n [] e = absurd (false≢true e)
one_of n (x ∷ xs) e =
    ⊎_elim {C = In n (x ∷ xs)} (λ a. inl (eqb-true n x a)) (λ b. inr (one_of n xs b)) (either (eqb n x) (some (eqb n) xs) e)

from_list : (l table : List ℕ) (c : Call) → ((leaves l table c).number ≡ done) ⊎ In (leaves l table c).number (numbers (kind_of c))
from_list l table start = one_of _ (done ∷ numbers (kind_of start)) (start_numbers l)
from_list l table (push t p) = one_of _ (done ∷ numbers (kind_of (push t p))) (push_numbers l t table p)
from_list l table (decide t d out) = one_of _ (done ∷ numbers (kind_of (decide t d out))) (decide_numbers l t d out)
from_list l table (token t q) = one_of _ (done ∷ numbers (kind_of (token t q))) (token_numbers l t table q)
from_list l table (resource t q) = one_of _ (done ∷ numbers (kind_of (resource t q))) (resource_numbers l t q)
from_list l table (sweep t) = one_of _ (done ∷ numbers (kind_of (sweep t))) (sweep_numbers l t)
from_list l table (pending t p out) = one_of _ (done ∷ numbers (kind_of (pending t p out))) (pending_numbers l t p out)
from_list l table (introspect t v out) = one_of _ (done ∷ numbers (kind_of (introspect t v out))) (introspect_numbers l t v out)

-- ---- 1 and 3 come first

ledger_first : (l table : List ℕ) (c : Call) → kind_of c ≢ Start → (SoundLedger l → ⊥) → (leaves l table c).number ≡ number_of LedgerUnsound
ledger_first l table start n u = absurd (n refl)
ledger_first l table (push t p) n u = (turns l table (push t p) LedgerUnsound).1 (inl (u, refl))
ledger_first l table (decide t d out) n u = (turns l table (decide t d out) LedgerUnsound).1 (inl (u, refl))
ledger_first l table (token t q) n u = (turns l table (token t q) LedgerUnsound).1 (inl (u, refl))
ledger_first l table (resource t q) n u = (turns l table (resource t q) LedgerUnsound).1 (inl (u, refl))
ledger_first l table (sweep t) n u = (turns l table (sweep t) LedgerUnsound).1 (inl (u, refl))
ledger_first l table (pending t p out) n u = (turns l table (pending t p out) LedgerUnsound).1 (inl (u, refl))
ledger_first l table (introspect t v out) n u = (turns l table (introspect t v out) LedgerUnsound).1 (inl (u, refl))

-- 1 and 2 are not given: the ledger is sound and the time in order
sound_passed : (l : List ℕ) (n : ℕ) → ((SoundLedger l → ⊥) → n ≡ number_of LedgerUnsound) → n ≢ number_of LedgerUnsound → SoundLedger l
sound_passed l n f d = go (sound l) refl
  where
    go : (b : Bool) → sound l ≡ b → SoundLedger l
    go true e = (ledger_says l).0 e
    go false e = absurd (d (f (λ s. true≢false (sym ((ledger_says l).1 s) ∙ e))))

time_passed : (l : List ℕ) (t n : ℕ) → ((InTime l t → ⊥) → n ≡ number_of TimeWrong) → n ≢ number_of TimeWrong → InTime l t
time_passed l t n f d = go (untimely l t) refl
  where
    go : (b : Bool) → untimely l t ≡ b → InTime l t
    go false e = (time_says l t).0 e
    go true e = absurd (d (f (λ i. true≢false (sym e ∙ (time_says l t).1 i))))

-- then 3 is next for a call that reads the table
third : (l table : List ℕ) (t : ℕ) (c : Call) (rs : List Row)
    → rows l table c ≡ begins l t ((TableUnsound given Not (SoundTable table)) ∷ rs)
    → (leaves l table c).number ≢ number_of LedgerUnsound → (leaves l table c).number ≢ number_of TimeWrong → (SoundTable table → ⊥)
    → (leaves l table c).number ≡ number_of TableUnsound
third l table t c rs e a b u =
    let at : (why : Refusal) → Turn why (begins l t ((TableUnsound given Not (SoundTable table)) ∷ rs)) → (leaves l table c).number ≡ number_of why
    = λ why x. (turns l table c why).1 (rw e x) in
    let s = sound_passed l (leaves l table c).number (λ n. at LedgerUnsound (inl (n, refl))) a in
    let i = time_passed l t (leaves l table c).number (λ n. at TimeWrong (inr (λ m. m s, inl (n, refl)))) b in
    at TableUnsound (inr (λ m. m s, inr (λ m. m i, inl (u, refl))))

table_third : (l table : List ℕ) (c : Call) → reads_table (kind_of c) ≡ true
    → (leaves l table c).number ≢ number_of LedgerUnsound → (leaves l table c).number ≢ number_of TimeWrong → (SoundTable table → ⊥)
    → (leaves l table c).number ≡ number_of TableUnsound
table_third l table start e = absurd (false≢true e)
table_third l table (push t p) e = third l table t (push t p) _ refl
table_third l table (decide t d out) e = absurd (false≢true e)
table_third l table (token t q) e = third l table t (token t q) _ refl
table_third l table (resource t q) e = absurd (false≢true e)
table_third l table (sweep t) e = absurd (false≢true e)
table_third l table (pending t p out) e = absurd (false≢true e)
table_third l table (introspect t v out) e = absurd (false≢true e)

no_table : (l table other : List ℕ) (c : Call) → reads_table (kind_of c) ≡ false → leaves l table c ≡ leaves l other c
no_table l table other start e = refl
no_table l table other (push t p) e = absurd (true≢false e)
no_table l table other (decide t d out) e = refl
no_table l table other (token t q) e = absurd (true≢false e)
no_table l table other (resource t q) e = refl
no_table l table other (sweep t) e = refl
no_table l table other (pending t p out) e = refl
no_table l table other (introspect t v out) e = refl

-- ---- zeros beside the number

no_values : AllZero []
unfolding zeros
no_values = (zeros_say []).0 refl

one_zero : AllZero (0 ∷ [])
unfolding zeros
one_zero = (zeros_say (0 ∷ [])).0 refl

three_zeros : AllZero (0 ∷ 0 ∷ 0 ∷ [])
unfolding zeros
three_zeros = (zeros_say (0 ∷ 0 ∷ 0 ∷ [])).0 refl

four_zeros : AllZero (0 ∷ 0 ∷ 0 ∷ 0 ∷ [])
unfolding zeros
four_zeros = (zeros_say (0 ∷ 0 ∷ 0 ∷ 0 ∷ [])).0 refl

five_zeros : AllZero (0 ∷ 0 ∷ 0 ∷ 0 ∷ 0 ∷ [])
unfolding zeros
five_zeros = (zeros_say (0 ∷ 0 ∷ 0 ∷ 0 ∷ 0 ∷ [])).0 refl

nothing_beside : (l table : List ℕ) (c : Call) → (leaves l table c).number ≢ done → AllZero (leaves l table c).beside
unfolding push_at consent_at decline_at token_at pending_at introspect_with
nothing_beside l table start = λ n. no_values
nothing_beside l table (push t p) =
    push_cases l t table p (λ o. o.answer.number ≢ done → AllZero (four o.answer)) (λ why u n. four_zeros) (λ ok n. absurd (n refl))
nothing_beside l table (decide t d out) =
    decide_cases l t d out
    (λ o. o.answer.answer.number ≢ done
    → AllZero (o.answer.answer.grant ∷ o.answer.answer.holder ∷ o.answer.answer.scope ∷ o.answer.answer.expiry ∷ o.answer.length ∷ []))
    (λ why u n. five_zeros)
    (λ ok.
    either_way l t d out
    (λ o. o.answer.answer.number ≢ done
    → AllZero (o.answer.answer.grant ∷ o.answer.answer.holder ∷ o.answer.answer.scope ∷ o.answer.answer.expiry ∷ o.answer.length ∷ []))
    (λ n. absurd (n refl)) (λ n. absurd (n refl)))
nothing_beside l table (token t q) =
    token_cases l t table q (λ o. o.answer.number ≢ done → AllZero (four o.answer)) (λ why u n. four_zeros) (λ ok n. absurd (n refl))
nothing_beside l table (resource t q) =
    resource_cases l t q (λ o. o.answer.number ≢ done → AllZero (four o.answer)) (λ why u n. four_zeros) (λ ok n. absurd (n refl))
nothing_beside l table (sweep t) =
    sweep_cases l t (λ o. o.answer.number ≢ done → AllZero (three o.answer)) (λ why u n. three_zeros) (λ ok n. absurd (n refl))
nothing_beside l table (pending t p out) =
    pending_cases l t p out (λ o. o.answer.answer.number ≢ done → AllZero (four o.answer.answer ++ (o.answer.length ∷ []))) (λ why u n. five_zeros)
    (λ ok n. absurd (n refl))
nothing_beside l table (introspect t v out) =
    introspect_cases l t v out (λ o. o.answer.number ≢ done → AllZero (o.answer.length ∷ [])) (λ why u n. one_zero) (λ ok n. absurd (n refl))

-- ---- no lent byte changed, but by the exception

lent_stays : (l table : List ℕ) (c : Call) (why : Refusal) → (leaves l table c).number ≡ number_of why → excepted (kind_of c) why ≡ false
    → ((leaves l table c).ledger ≡ l) × ((leaves l table c).output ≡ lent c)
lent_stays l table c why e x = by c e x (λ z. number_refused why (sym e ∙ z))
  where
    by : (c : Call) → (leaves l table c).number ≡ number_of why → excepted (kind_of c) why ≡ false → (leaves l table c).number ≢ done
        → ((leaves l table c).ledger ≡ l) × ((leaves l table c).output ≡ lent c)
    by start e x n = (start_unchanged l n, refl)
    by (push t p) e x n = (push_unchanged l t table p n, refl)
    by (decide t d out) e x n = decide_unchanged l t d out n
    by (token t q) e x n = (token_unchanged l t table q n (λ z. eqb-false (number_of why) (number_of CodeRedeemed) x (sym e ∙ z)), refl)
    by (resource t q) e x n = (resource_unchanged l t q n, refl)
    by (sweep t) e x n = (sweep_unchanged l t n, refl)
    by (pending t p out) e x n = pending_unchanged l t p out n
    by (introspect t v out) e x n = introspect_unchanged l t v out n

pub demand1 : Demand1
demand1 =
    record {
      from_table = from_list;
      checks_ledger = ledger_first;
      checks_table = table_third;
      reads_no_table = no_table;
      zeros_beside = nothing_beside;
      leaves_lent = lent_stays;
      second_use_frees = λ l table t q. after_second_use l t table q;
    }
