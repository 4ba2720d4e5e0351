-- Laws of one byte with the output's buffer: a line's end, and a character more.
use Prim.Native.Nat.{ℕ, ◌+◌, ◌-◌, ◌≤◌, ◌<◌}
use native.Mathlib.Omega.{arith}
use mathlib.Core.Path.{◌≡◌, sym, ap, ◌∙◌}
use mathlib.Core.Bool.{true}
use mathlib.Core.List.{List, [], ◌++◌, append_assoc}
use lib.ListN.{length, take, drop, set, length-append, take-append-drop}
use lib.Seq.{take_at, drop_at, drop-drop, take-nil, length-take-le}
use borrow.Author.Tests.{eq-eqb, ne_eqb}
use Rattle.octets.specs.Parts.{laid, put, part, splice}
use Rattle.octets.proofs.Parts.{put_splice, put_rest, part_length}
use Rattle.frames.specs.Limits.{line_kept, answer_line}
use Rattle.frames.specs.Line.{line_end, line_of}
use Rattle.frames.specs.Hold.{place, Said, said, say, answer}
use Rattle.frames.proofs.Fitting.{fitting_of, answer_fits}
use Rattle.lines.specs.Turn.{Held, held, lengths, line_in, gathered, ending, ended, turn, says, fits}
use Rattle.lines.specs.Feed.{Turned, turned, putting}
use Rattle.lines.proofs.Feeding.{Fit, of_fits, gathered_full, gathered_more, turn_end, turn_more, says_end, says_more}

-- ---- what is put behind the first a bytes

module _ (l : List ℕ) (a : ℕ) (xs : List ℕ) (within : a + length xs ≤ length l) where
  front : length (take a l ++ xs) ≡ a + length xs
  front = let n : length (take a l) ≡ a = length-take-le a l (omega arith) in simp length-append (omega arith)

  split : put l a xs ≡ take a l ++ xs ++ drop (length xs) (drop a l)
  split = put_splice l a xs within ∙ sym (append_assoc (take a l) xs (drop (length xs) (drop a l)))

  pub take_put : take (a + length xs) (put l a xs) ≡ take a l ++ xs
  take_put = rw split (take_at (take a l ++ xs) (drop (length xs) (drop a l)) (a + length xs) front)

  pub drop_put : drop (a + length xs) (put l a xs) ≡ drop (a + length xs) l
  drop_put = rw split (drop_at (take a l ++ xs) (drop (length xs) (drop a l)) (a + length xs) front ∙ drop-drop (length xs) a l)

put_none : (l : List ℕ) (a : ℕ) → put l a [] ≡ l
unfolding put laid
put_none l a = rw (take-nil (length (drop a l))) (take-append-drop a l)

-- ---- a line's end

answered : (h : Held) (out : List ℕ) → Fit h → answer_line ≤ length out
    → answer (line_in h) h.state.ledger h.state.table h.ledger h.table out ≡ say (place (ending h) h.ledger h.table) out
answered h out f r =
    answer_fits h.state.ledger h.state.table h.ledger h.table out (line_in h)
    (fitting_of h.state.ledger h.state.table h.ledger h.table out f.used f.listed f.ledger f.table r)

pub told : (h : Held) (filled : ℕ) (out : List ℕ) → fits h ≡ true → filled + answer_line ≤ length out → {u v k : ℕ} {ledger table y : List ℕ}
    → said u v k ledger table y ≡ answer (line_in h) h.state.ledger h.state.table h.ledger h.table (part out filled (length out - filled))
    → turned (held (lengths 0 u v) h.line ledger table) (filled + k) (splice out filled (length out - filled) y)
    ≡ putting (ended h) (line_of (ending h).answer) filled out
unfolding ended say place
told h filled out e r {u} {v} {k} {ledger} {table} {y} q =
    let w = part out filled (length out - filled) in
    let n : length w ≡ length out - filled = part_length out filled (length out - filled) (omega arith) in
    let b : said u v k ledger table y ≡ say (place (ending h) h.ledger h.table) w = q ∙ answered h w (of_fits h e) (omega arith) in
    let b0 : u ≡ length (ending h).ledger = ap (λ (a : Said). a.used) b in
    let b1 : v ≡ length (ending h).table = ap (λ (a : Said). a.listed) b in
    let b2 : k ≡ length (line_of (ending h).answer) = ap (λ (a : Said). a.count) b in
    let b3 : ledger ≡ laid (ending h).ledger h.ledger = ap (λ (a : Said). a.ledger) b in
    let b4 : table ≡ laid (ending h).table h.table = ap (λ (a : Said). a.table) b in
    let b5 : y ≡ laid (line_of (ending h).answer) w = ap (λ (a : Said). a.out) b in
    rw (b0, b1, b2, b3, b4, put_rest out filled (line_of (ending h).answer) y b5)

-- ---- one byte

module _ (h : Held) (c filled : ℕ) (out : List ℕ) where
  pub turned_end : c ≡ line_end → {t : Turned} → t ≡ putting (ended h) (line_of (ending h).answer) filled out → t ≡ putting (turn h c) (says h c) filled out
  turned_end e {t} q = let p = eq-eqb c 10 e in rw (turn_end h c p, says_end h c p) q

  kept : (c ≡ line_end → ⊥) → {g : Held} → g ≡ gathered h c → turned g filled out ≡ putting (turn h c) (says h c) filled out
  kept n {g} k =
      let p = ne_eqb c 10 n in
      let z : filled + length {A = ℕ} [] ≡ filled = omega arith in
      rw (turn_more h c p, says_more h c p, k, put_none out filled, z)

  pub turned_full : (c ≡ line_end → ⊥) → line_kept ≤ h.state.line → turned h filled out ≡ putting (turn h c) (says h c) filled out
  turned_full n e = kept n (sym (gathered_full h c e))

  pub turned_more : (c ≡ line_end → ⊥) → h.state.line < line_kept
      → turned (held (lengths (h.state.line + 1) h.state.ledger h.state.table) (set h.line h.state.line c) h.ledger h.table) filled out
      ≡ putting (turn h c) (says h c) filled out
  turned_more n e = kept n (sym (gathered_more h c e))
