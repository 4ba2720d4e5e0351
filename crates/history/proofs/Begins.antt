-- The call start leaves the ledgers that runs begin at.
use Prim.Native.Nat.{ℕ, ◌+◌, ◌*◌, ◌-◌, ◌/◌, ◌%◌}
use native.Mathlib.Omega.{arith}
use mathlib.Core.Path.{◌≡◌, refl, ap, ◌∙◌}
use mathlib.Core.Bool.{Bool, true, false, cond}
use mathlib.Core.List.{List}
use lib.Dec.{leb}
use lib.ListN.{length}
use borrow.Author.Tests.{leb-true, le-leb, eqb-true, eq-eqb}
use Rattle.octets.proofs.Tests.{both, both_true}
use Rattle.ledger.specs.Limits.{head_size, record_size, records_least, records_most}
use Rattle.ledger.specs.Sound.{sized}
use Rattle.desk.specs.Answers.{number_of, done}
use Rattle.desk.specs.Outcome.{Outcome, left}
use Rattle.desk.specs.Start.{empty_ledger, start}
use Rattle.desk.specs.declared.answer.Refusal.TheVariants.{LedgerUnsound}
use Rattle.desk.proofs.Turns.{number_refused}
use Rattle.history.specs.Demand3.{RoomFor, RunsBegin}

-- the records that a buffer has room for
abbrev slots_in : List ℕ → ℕ
slots_in l = (length l - head_size) / record_size

sized_room : (l : List ℕ) → sized l ≡ true → RoomFor (slots_in l) l
unfolding sized
sized_room l e =
    let (a, r) = both (leb (head_size + records_least * record_size) (length l)) _ e in
    let (b, c) = both (leb (length l) (head_size + records_most * record_size)) _ r in
    let x = leb-true (head_size + records_least * record_size) (length l) a in
    let y = leb-true (length l) (head_size + records_most * record_size) b in
    let z = eqb-true ((length l - head_size) % record_size) 0 c in
    record { least = omega arith; most = omega arith; long = omega arith }

room_sized : (n : ℕ) (l : List ℕ) → RoomFor n l → sized l ≡ true
unfolding sized
room_sized n l r =
    let a = r.least in
    let b = r.most in
    let c = r.long in
    both_true (leb (head_size + records_least * record_size) (length l)) _ (le-leb (head_size + records_least * record_size) (length l) (omega arith))
    (both_true (leb (length l) (head_size + records_most * record_size)) _ (le-leb (length l) (head_size + records_most * record_size) (omega arith))
    (eq-eqb ((length l - head_size) % record_size) 0 (omega arith)))

start_sized : (l : List ℕ) → sized l ≡ true → start l ≡ left done (empty_ledger (length l))
unfolding start
start_sized l e = ap (λ (b : Bool). cond b (left done (empty_ledger (length l))) (left (number_of LedgerUnsound) l)) e

accepted_sized : (l : List ℕ) → (start l).answer ≡ done → sized l ≡ true
unfolding start
accepted_sized l = go (sized l)
  where
    go : (b : Bool) → (cond b (left done (empty_ledger (length l))) (left (number_of LedgerUnsound) l)).answer ≡ done → b ≡ true
    go true e = refl
    go false e = absurd (number_refused LedgerUnsound e)

pub runs_begin : RunsBegin
runs_begin =
    record {
      begun = λ l e.
          let s = accepted_sized l e in
          let r = sized_room l s in
          record { slots = slots_in l; room = r; leaves = ap (λ (o : Outcome ℕ). o.ledger) (start_sized l s) ∙ ap empty_ledger r.long };
      begins = λ n l r.
          let e = start_sized l (room_sized n l r) in
          (ap (λ (o : Outcome ℕ). o.answer) e, ap (λ (o : Outcome ℕ). o.ledger) e ∙ ap empty_ledger r.long);
    }
