-- A text that is laid over an output: over all of it, and character by character.
use Prim.Native.Nat.{ℕ, ◌-◌, ◌≤◌, ◌<◌, min}
use native.Mathlib.Nat.{min-eq_left, min-eq_right}
use native.Mathlib.Omega.{arith}
use mathlib.Core.Logic.{⊎_elim}
use mathlib.Core.Path.{◌≡◌, sym, ap, ◌∙◌}
use mathlib.Core.List.{List, ◌++◌}
use lib.ListN.{length, get_or, take, drop, drop_of_length-le, length-drop, length-take}
use lib.Seq.{take_all, get_or-take}
use Rattle.std.proofs.lemmas.List.{ext_get_or}
use Rattle.octets.specs.Parts.{laid, put}
use Rattle.octets.proofs.Parts.{laid_all}
use Rattle.octets.proofs.Tests.{lt_or_le}

pub put_all : (l xs : List ℕ) {y : List ℕ} → length xs ≡ length l → y ≡ put l 0 xs → y ≡ xs
unfolding put
put_all l xs n e = e ∙ laid_all xs l n

-- as much of a text as there is room for
front : (xs d : List ℕ) (n : ℕ) → n ≡ min (length xs) (length d) → take n xs ++ drop n d ≡ laid xs d
unfolding laid
front xs d n h =
    ⊎_elim
    (λ l. let k : n ≡ length xs = h ∙ min-eq_left (omega arith) in
    rw (k, take_all (length xs) xs (omega arith), take_all (length d) xs (omega arith)))
    (λ l. let k : n ≡ length d = h ∙ min-eq_right l in
    let w : length d ≤ length d = omega arith in
    rw (k, drop_of_length-le d l, drop_of_length-le d w))
    (lt_or_le (length xs) (length d))

-- the characters that a rule told for the places that there is room for
pub put_told : (l text y : List ℕ) (a k : ℕ) → a ≤ length l → k ≡ min (length text) (length l - a) → length y ≡ k
    → ((i : ℕ) → i < k → get_or y i 0 ≡ get_or text i 0) → take a l ++ (y ++ drop k (drop a l)) ≡ put l a text
unfolding put
put_told l text y a k h m s t =
    let n : length y ≡ length (take k text) = simp length-take (omega arith) in
    let e : y ≡ take k text = ext_get_or 0 y (take k text) n (λ i b. t i (omega arith) ∙ sym (get_or-take k text i 0 (omega arith))) in
    let j : k ≡ min (length text) (length (drop a l)) = simp length-drop m in
    rw e (ap (λ (x : List ℕ). take a l ++ x) (front text (drop a l) k j))
