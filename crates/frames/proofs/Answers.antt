-- Laws of an answer's bytes.
use Prim.Native.Nat.{ℕ, ◌+◌, ◌/◌, ◌%◌, ◌≤◌}
use native.Mathlib.Omega.{arith}
use mathlib.Core.Path.{◌≡◌, ap, ◌∙◌}
use mathlib.Core.List.{List, [], ◌∷◌, ◌++◌}
use lib.ListN.{length, length-take, length-drop}
use Rattle.octets.specs.Numbers.{digits}
use Rattle.octets.specs.Parts.{blank, part}
use Rattle.octets.proofs.Parts.{part_length}
use Rattle.desk.specs.declared.answer.Answer.{Answer}
use Rattle.desk.specs.declared.answer.Decided.{Decided}
use Rattle.desk.specs.declared.answer.Swept.{Swept}
use Rattle.desk.specs.Outcome.{Outcome, left, left_with}
use Rattle.desk.specs.Limits.{output_least}
use Rattle.desk.specs.Requests.{DecideRequest}
use Rattle.desk.specs.Decide.{decide}
use Rattle.wire.specs.Answers.{answer_bytes, decided_bytes, swept_bytes}
use Rattle.frames.specs.Serve.{written, of_outcome, of_decision, of_sweeping}

-- two bytes hold a number's lowest sixteen bits
pub short_digits : (n : ℕ) → digits 2 (n % 65536) ≡ digits 2 n
unfolding digits
short_digits n =
    let a : n % 65536 / 256 % 256 ≡ n / 256 % 256 = omega arith in
    let b : n % 65536 % 256 ≡ n % 256 = omega arith in
    rw (a, b)

-- a call's answer and ledger, as bytes
pub by_outcome : {a : Answer} {l b : List ℕ} {o : Outcome Answer} → left a l ≡ o → b ≡ answer_bytes a → written l b ≡ of_outcome o
by_outcome {a} {l} {b} {o} e h = ap (written l) h ∙ ap of_outcome e

pub by_decision : (k : List ℕ) (t : ℕ) (q : DecideRequest) {a : Decided} {l b out p : List ℕ} → left_with a l out ≡ decide k t q p → p ≡ blank output_least
    → b ≡ decided_bytes a out → written l b ≡ of_decision (decide k t q (blank output_least))
by_decision k t q {a} {l} {b} {out} {p} e g h = ap (written l) h ∙ ap of_decision (e ∙ ap (decide k t q) g)

pub by_sweeping : {a : Swept} {l b : List ℕ} {o : Outcome Swept} → left a l ≡ o → b ≡ swept_bytes a → written l b ≡ of_sweeping o
by_sweeping {a} {l} {b} {o} e h = ap (written l) h ∙ ap of_sweeping e

-- a part is no longer than the whole, and as long as it says where there is room
pub part_most : (l : List ℕ) (a n : ℕ) (y : List ℕ) → y ≡ part l a n → length y ≤ length l
part_most l a n y e = rw e (simp (length-take, length-drop) (omega arith))

pub cut_length : (l : List ℕ) (a n : ℕ) (y : List ℕ) → y ≡ part l a n → a + n ≤ length l → length y ≡ n
cut_length l a n y e h = rw e (part_length l a n h)

-- the fields of an answer, one behind the other
pub counted : (a : Swept) {x1 x2 x3 x4 p c r : List ℕ} → x1 ≡ a.number ∷ [] → p ≡ digits 2 a.pushed → x2 ≡ x1 ++ p → c ≡ digits 2 a.consented
    → x3 ≡ x2 ++ c → r ≡ digits 2 a.redeemed → x4 ≡ x3 ++ r → x4 ≡ swept_bytes a
unfolding swept_bytes
counted a e1 hp e2 hc e3 hr e4 = rw (e4, e3, e2, e1, hp, hc, hr)

pub redirected : (d : Decided) (redirect : List ℕ) {x1 x2 x3 y : List ℕ} {n : ℕ} → x1 ≡ answer_bytes d.answer → x2 ≡ x1 ++ (d.length ∷ []) → n ≡ d.length
    → y ≡ part redirect 0 n → x3 ≡ x2 ++ y → x3 ≡ decided_bytes d redirect
unfolding decided_bytes
redirected d redirect e1 e2 en ey e3 = rw (e3, e2, e1, ey, en)
