-- "A line that is no frame (odd digits, no hex, empty, unknown kind, wrong length, a yes byte above 01, more than 640 digits) prints `ff` once and changes
-- nothing.": the reasons of a line, what follows from every one, and that there is no other reason; those of its bytes are in wire's Fits.
use Prim.Native.Nat.{ℕ, zero, suc, ◌+◌, ◌%◌, ◌≤◌, ◌<◌}
use native.Mathlib.Omega.{arith}
use mathlib.Core.Path.{◌≡◌, refl, sym, ◌∙◌}
use mathlib.Core.Bool.{Bool, true, false, and-false, false≢true}
use mathlib.Core.List.{List, []}
use lib.Dec.{leb}
use lib.ListN.{length, get_or}
use borrow.Author.Tests.{le-leb, lt-leb, le-ltb}
use Rattle.std.proofs.Common.{None, Some}
use Rattle.frames.specs.Limits.{line_most}
use Rattle.texts.specs.Hex.{between, is_digit, digit, is_hex, decoded}
use Rattle.wire.specs.Kinds.{start, rows, fits, among, settled, yes_byte, kind_of}
use Rattle.frames.specs.Line.{frame_kind}
use Rattle.wire.specs.Answers.{no_frame}
use Rattle.frames.specs.Serve.{Desk, served, serve_line}
use Rattle.wire.proofs.Fits.{sized, kind_at}
use Rattle.texts.proofs.Digits.{within, from_lower, digit_upper, digit_lower, hex_odd, hex_at}

-- whatever the reason: `ff`, and nothing changes
pub no_frame_lem : (line : List ℕ) (d : Desk) → frame_kind line ≡ None → serve_line line d ≡ served d.ledger d.table no_frame
unfolding serve_line
no_frame_lem line d e = rw e

module _ (line : List ℕ) where
  not_hex : is_hex line ≡ false → frame_kind line ≡ None
  unfolding frame_kind
  not_hex e = rw (e, and-false (leb (length line) line_most))

  pub odd_digits : (length line % 2 ≡ 0 → ⊥) → frame_kind line ≡ None
  odd_digits n = not_hex (hex_odd line n)

  pub no_hex : (i : ℕ) → i < length line → is_digit (get_or line i 0) ≡ false → frame_kind line ≡ None
  no_hex i h e = go (is_hex line) refl
    where
      go : (b : Bool) → is_hex line ≡ b → frame_kind line ≡ None
      go true p = absurd (false≢true (sym e ∙ hex_at line i p h))
      go false p = not_hex p

  pub too_many_digits : line_most < length line → frame_kind line ≡ None
  unfolding frame_kind
  too_many_digits h = rw (lt-leb (length line) line_most h)

pub empty_line : frame_kind [] ≡ None
unfolding frame_kind is_hex decoded kind_of among fits
empty_line = refl

-- a line that has none of the reasons is the frame of its row
module _ (line : List ℕ) (short : length line ≤ line_most) (hex : is_hex line ≡ true) where
  at_row : (i : ℕ) → i < 7 → get_or (decoded line) 0 0 ≡ i → sized (get_or rows i start) (decoded line) ≡ true
      → frame_kind line ≡ settled (Some (get_or rows i start).kind) (decoded line)
  unfolding frame_kind kind_of
  at_row i h e s = rw (le-leb (length line) line_most short, hex, kind_at (decoded line) i h e, s)

  pub frame : (i : ℕ) → i < 7 → get_or (decoded line) 0 0 ≡ i → sized (get_or rows i start) (decoded line) ≡ true → (i ≡ 2 → yes_byte (decoded line) ≤ 1)
      → frame_kind line ≡ Some (get_or rows i start).kind
  frame zero h e s y = at_row 0 h e s
  frame (suc zero) h e s y = at_row 1 h e s
  frame (suc (suc zero)) h e s y = at_row 2 h e s ∙ rw (le-ltb 1 (yes_byte (decoded line)) (y refl))
  frame (suc (suc (suc zero))) h e s y = at_row 3 h e s
  frame (suc (suc (suc (suc zero)))) h e s y = at_row 4 h e s
  frame (suc (suc (suc (suc (suc zero))))) h e s y = at_row 5 h e s
  frame (suc (suc (suc (suc (suc (suc zero)))))) h e s y = at_row 6 h e s
  frame (suc (suc (suc (suc (suc (suc (suc i))))))) h e s y = absurd (omega arith)

-- "either case in": a digit from A to F stands for what its lower case stands for
pub either_case : (c : ℕ) → between 65 70 c ≡ true → (is_digit (c + 32) ≡ true) × (digit (c + 32) ≡ digit c)
either_case c e =
    let w = within 65 70 c e in (
      from_lower (c + 32) (omega arith) ∙ le-leb (c + 32) 102 (omega arith),
      digit_lower (c + 32) (omega arith) ∙ omega arith ∙ sym (digit_upper c (omega arith) (omega arith)),
    )
