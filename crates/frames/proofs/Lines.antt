-- Laws of a line: the frame that is read from it, and the answer's, written over the front of a buffer.
use Prim.Native.Nat.{ℕ, suc, ◌+◌, ◌*◌, ◌/◌, ◌≤◌, ◌<◌}
use native.Mathlib.Omega.{arith}
use mathlib.Core.Path.{◌≡◌, sym}
use mathlib.Core.Bool.{true}
use mathlib.Core.List.{List, [], ◌∷◌, ◌++◌, append_assoc}
use lib.ListN.{length, get_or, take, drop, set, length-append}
use lib.Seq.{take_all, drop-cons, set-append_seam, take-append_seam}
use Rattle.octets.specs.Parts.{laid, put}
use Rattle.texts.specs.Hex.{is_hex, decoded, decoded_over, hex}
use Rattle.texts.proofs.Hexes.{length_hex, length_decoded, over_hex}
use Rattle.frames.specs.Line.{line_of, line_end}

pub length_line : (bs : List ℕ) → length (line_of bs) ≡ 2 * length bs + 1
unfolding line_of
length_line bs = rw (length-append, length_hex bs)

-- one more byte behind what is laid
pub laid_snoc : (xs d : List ℕ) (v : ℕ) → length xs < length d → set (laid xs d) (length xs) v ≡ laid (xs ++ (v ∷ [])) d
unfolding laid
laid_snoc xs d v h =
    let a : length xs ≤ length d = omega arith in
    let b : length (xs ++ (v ∷ [])) ≡ suc (length xs) = rw (length-append) (omega arith) in
    let k : length (xs ++ (v ∷ [])) ≤ length d = omega arith in
    rw (take_all (length d) xs a, take_all (length d) (xs ++ (v ∷ [])) k, b, drop-cons d (length xs) 0 h, set-append_seam xs (get_or d (length xs) 0) (drop (suc (length xs)) d) v)
    (sym (append_assoc xs (v ∷ []) (drop (suc (length xs)) d)))

-- an answer's line: its digits, and the end of the line behind them
pub written : (bs d : List ℕ) {y : List ℕ} {n : ℕ} → 2 * length bs + 1 ≤ length d → n ≡ length (hex bs) → y ≡ put d 0 (hex bs)
    → set y n line_end ≡ laid (line_of bs) d
unfolding line_of put
written bs d h e f =
    let n = length_hex bs in
    rw (e, f) (laid_snoc (hex bs) d line_end (omega arith))

-- the bytes of a line, read into a buffer that has room for them
pub front_decoded : (t s : List ℕ) {y : List ℕ} → is_hex t ≡ true → length t ≤ 2 * length s → y ≡ decoded_over t s → take (length t / 2) y ≡ decoded t
unfolding laid
front_decoded t s h k e =
    let n = length_decoded t in
    let m : length (decoded t) ≤ length s = omega arith in
    rw (e, over_hex t s h, take_all (length s) (decoded t) m, ← n) (take-append_seam (decoded t) (drop (length (decoded t)) s))
