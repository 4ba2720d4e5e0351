-- Laws of an answer's bytes: its fields, one behind the other.
use Prim.Native.Nat.{ℕ, ◌+◌, ◌≤◌}
use native.Mathlib.Omega.{arith}
use mathlib.Core.Path.{◌≡◌, refl, sym, ap, ◌∙◌}
use mathlib.Core.List.{List, [], ◌∷◌, ◌++◌, append_assoc}
use lib.ListN.{length, take, drop, length-append, length-take}
use lib.Seq.{take_at, take_all}
use Rattle.octets.specs.Numbers.{digits}
use Rattle.octets.specs.Parts.{put}
use Rattle.octets.proofs.Numbers.{length_digits}
use Rattle.octets.proofs.Parts.{put_splice, length_put}
use Rattle.desk.specs.declared.answer.Answer.{Answer}
use Rattle.desk.specs.declared.answer.Decided.{Decided}
use Rattle.desk.specs.declared.answer.Swept.{Swept}
use Rattle.desk.specs.Limits.{output_least}
use Rattle.wire.specs.Answers.{answer_size, answer_most, answer_bytes, decided_bytes, swept_bytes}

-- what is put behind the first a bytes
pub put_front : (l : List ℕ) (a : ℕ) (xs y : List ℕ) → a + length xs ≤ length l → y ≡ put l a xs → take (a + length xs) y ≡ take a l ++ xs
put_front l a xs y h e =
    let n : length (take a l) ≡ a = simp length-take (omega arith) in
    let k : length (take a l ++ xs) ≡ a + length xs = simp length-append (omega arith) in
    rw (e, put_splice l a xs h, ← append_assoc (take a l) xs (drop (length xs) (drop a l))) (take_at (take a l ++ xs) (drop (length xs) (drop a l)) (a + length xs) k)

-- one field more: what stands in front of it, and the length
next : (l : List ℕ) (a n : ℕ) (x xs y : List ℕ) → length l ≡ answer_size → length xs ≡ n → a + n ≤ answer_size → take a l ≡ x → y ≡ put l a xs
    → (length y ≡ answer_size) × (take (a + n) y ≡ x ++ xs)
next l a n x xs y s m h t e = (
  rw e (length_put l a xs ∙ s),
  rw (← m) (put_front l a xs y (omega arith) e ∙ ap (λ (v : List ℕ). v ++ xs) t),
)

pub answered : (a : Answer) (l : List ℕ) {y1 y2 y3 y4 y5 g h s e : List ℕ} → length l ≡ answer_size → y1 ≡ put l 0 (a.number ∷ [])
    → g ≡ digits 8 a.grant → y2 ≡ put y1 1 g → h ≡ digits 8 a.holder → y3 ≡ put y2 9 h → s ≡ digits 4 a.scope → y4 ≡ put y3 17 s
    → e ≡ digits 8 a.expiry → y5 ≡ put y4 21 e → y5 ≡ answer_bytes a
unfolding answer_bytes
answered a l {y1} {y2} {y3} {y4} {y5} {g} {h} {s} {e} z e1 hg e2 hh e3 hs e4 he e5 =
    let p1 = next l 0 1 [] (a.number ∷ []) y1 z refl (omega arith) refl e1 in
    let p2 = next y1 1 8 _ g y2 p1.0 (ap length hg ∙ length_digits 8 a.grant) (omega arith) p1.1 e2 in
    let p3 = next y2 9 8 _ h y3 p2.0 (ap length hh ∙ length_digits 8 a.holder) (omega arith) p2.1 e3 in
    let p4 = next y3 17 4 _ s y4 p3.0 (ap length hs ∙ length_digits 4 a.scope) (omega arith) p3.1 e4 in
    let p5 = next y4 21 8 _ e y5 p4.0 (ap length he ∙ length_digits 8 a.expiry) (omega arith) p4.1 e5 in
    sym (take_all 29 y5 (omega (arith, p5.0))) ∙ p5.1 ∙ rw (hg, hh, hs, he)

-- ---- how long each kind of answer is

pub answer_length : (a : Answer) → length (answer_bytes a) ≡ answer_size
unfolding answer_bytes
answer_length a = simp (length-append, length_digits) (omega arith)

pub swept_length : (s : Swept) → length (swept_bytes s) ≡ 7
unfolding swept_bytes
swept_length s = simp (length-append, length_digits) (omega arith)

pub decided_most : (d : Decided) (out : List ℕ) → length out ≤ output_least → length (decided_bytes d out) ≤ answer_most
unfolding decided_bytes
decided_most d out h = let n = answer_length d.answer in simp (length-append, length-take) (omega arith)
