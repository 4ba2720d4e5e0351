-- Start by the length of its buffer, byte by byte, and the sweep of a fresh ledger: P1 to P3 and P8.
use Prim.Native.Nat.{ℕ, ◌+◌, ◌*◌, ◌-◌, ◌%◌, ◌≤◌, ◌<◌}
use native.Mathlib.Omega.{arith}
use native.Mathlib.Decide.{dec_lt}
use mathlib.Core.Path.{◌≡◌, refl, sym, ap, ◌∙◌}
use mathlib.Core.Logic.{◌≢◌}
use mathlib.Core.Bool.{Bool, true, false, not, ◌&&◌, ◌||◌, cond}
use mathlib.Core.List.{List}
use lib.Dec.{eqb, ltb, leb}
use lib.ListN.{length, get_or, take}
use lib.Seq.{get_or-take}
use borrow.Author.Tests.{le-ltb}
use Rattle.octets.specs.Numbers.{digits}
use Rattle.octets.specs.Parts.{part, blank, zeros}
use Rattle.octets.proofs.Numbers.{length_digits}
use Rattle.octets.proofs.Parts.{length_blank, zeros_blank, put_in, put_ahead, put_past}
use Rattle.octets.proofs.Bytes.{zeros_part, zeros_at, num_zeros}
use Rattle.ledger.specs.Limits.{clock_limit, head_size, record_size, records_least, records_most}
use Rattle.ledger.specs.Fields.{clock, with_next}
use Rattle.ledger.specs.Sound.{sized, sound}
use Rattle.ledger.specs.Checks.{untimely}
use Rattle.ledger_laws.proofs.Heads.{clock_next}
use Rattle.ledger_laws.proofs.Kept.{sound_start}
use Rattle.desk.specs.Answers.{number_of, done}
use Rattle.desk.specs.Outcome.{left}
use Rattle.desk.specs.Start.{empty_ledger, start}
use Rattle.desk.specs.Sweep.{sweep_checks}
use Rattle.desk.specs.declared.answer.Refusal.TheVariants.{LedgerUnsound, TimeWrong}
use Rattle.history.specs.Runs.{sweep, step, number_in, started}
use Rattle.cases.specs.Order.{else_in_order}
use Rattle.cases.proofs.Order.{number_if, else_answers}

-- ---- start

-- the length is right, of a length
abbrev pub fits : ℕ → Bool
fits n = leb (head_size + records_least * record_size) n && (leb n (head_size + records_most * record_size) && eqb ((n - head_size) % record_size) 0)

sized_fits : (l : List ℕ) (n : ℕ) → length l ≡ n → sized l ≡ fits n
unfolding sized
sized_fits l n e = ap fits e

pub start_number : (l : List ℕ) (n : ℕ) (b : Bool) → length l ≡ n → fits n ≡ b → (start l).answer ≡ number_if LedgerUnsound (not b)
unfolding start
start_number l n b e f = rw (sized_fits l n e ∙ f) (by b)
  where
    by : (b : Bool) → (cond b (left done (empty_ledger (length l))) (left (number_of LedgerUnsound) l)).answer ≡ number_if LedgerUnsound (not b)
    by true = refl
    by false = refl

start_ledger : (l : List ℕ) (n : ℕ) → length l ≡ n → fits n ≡ true → (start l).ledger ≡ empty_ledger n
unfolding start
start_ledger l n e f = rw (sized_fits l n e ∙ f) (ap empty_ledger e)

one_leads : (j : ℕ) → j < 7 → get_or (digits 8 1) j 0 ≡ 0
unfolding digits zeros
one_leads j h = sym (get_or-take 7 (digits 8 1) j 0 h) ∙ zeros_at (take 7 (digits 8 1)) refl j

-- the bytes that start writes: byte 15 is the last of the next number, 1
fresh_bytes : (n i : ℕ) → 16 ≤ n → i < n → i ≢ 15 → get_or (empty_ledger n) i 0 ≡ 0
unfolding empty_ledger
fresh_bytes n i h k d = go (dec_lt i 8) (dec_lt i 16)
  where
    inside : i < length (blank n)
    inside = rw (length_blank n) k

    zero_at : get_or (blank n) i 0 ≡ 0
    zero_at = zeros_at (blank n) (zeros_blank n) i

    go : Dec (i < 8) → Dec (i < 16) → get_or (with_next 1 (blank n)) i 0 ≡ 0
    go (yes a) b = put_ahead (blank n) 8 (digits 8 1) i inside a ∙ zero_at
    go (no a) (yes b) =
        let m = length_digits 8 1 in
        put_in (blank n) 8 (digits 8 1) i inside (omega (arith, a)) (omega arith) ∙ one_leads (i - 8) (omega (arith, a, d))
    go (no a) (no b) =
        let m = length_digits 8 1 in
        put_past (blank n) 8 (digits 8 1) i inside (omega (arith, b)) ∙ zero_at

pub start_other_lem : (l : List ℕ) (n i : ℕ) → length l ≡ n → fits n ≡ true → 16 ≤ n → i < n → i ≢ 15 → get_or (start l).ledger i 0 ≡ 0
start_other_lem l n i e f h k d = ap (λ (m : List ℕ). get_or m i 0) (start_ledger l n e f) ∙ fresh_bytes n i h k d

pub start_fifteen : (l : List ℕ) (n : ℕ) → length l ≡ n → fits n ≡ true → 16 ≤ n → get_or (start l).ledger 15 0 ≡ 1
unfolding empty_ledger digits
start_fifteen l n e f h =
    ap (λ (m : List ℕ). get_or m 15 0) (start_ledger l n e f)
    ∙ put_in (blank n) 8 (digits 8 1) 15 (rw (length_blank n) (omega arith)) (omega arith) (omega arith)

-- ---- the sweep of a fresh ledger

fresh_clock : (n : ℕ) → clock (started n) ≡ 0
unfolding empty_ledger
fresh_clock n =
    let o = blank (head_size + n * record_size) in
    clock_next 1 o ∙ num_zeros (part o 0 8) (zeros_part o 0 8 (zeros_blank (head_size + n * record_size)))

fresh_untimely : (n t : ℕ) → untimely (started n) t ≡ leb clock_limit t
unfolding untimely
fresh_untimely n t = ap (λ (c : ℕ). ltb t c || leb clock_limit t) (fresh_clock n) ∙ ap (λ (b : Bool). b || leb clock_limit t) (le-ltb t 0 (omega arith))

fresh_sound : (n : ℕ) → records_least ≤ n → n ≤ records_most → sound (started n) ≡ true
unfolding empty_ledger
fresh_sound n h k = sound_start n h k

pub sweep_fresh : (n t : ℕ) (b : Bool) → records_least ≤ n → n ≤ records_most → leb clock_limit t ≡ b → number_in (step (started n) (sweep t)).answer ≡ number_if TimeWrong b
unfolding sweep_checks else_in_order
sweep_fresh n t b h k e = else_answers (started n) (sweep t) TimeWrong b (rw (fresh_sound n h k)) (fresh_untimely n t ∙ e)
