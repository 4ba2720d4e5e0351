-- Laws of what is kept from call to call: a byte more, a line's end.
use Prim.Native.Nat.{ℕ, suc, ◌+◌, ◌≤◌, ◌<◌, min}
use native.Mathlib.Omega.{arith}
use native.Mathlib.Numerals.{add-one}
use mathlib.Core.Path.{◌≡◌, refl, sym, ap, ◌∙◌}
use mathlib.Core.Bool.{Bool, true, false}
use mathlib.Core.List.{List, [], ◌∷◌, ◌++◌}
use lib.Dec.{eqb, leb}
use lib.ListN.{length, take, drop, set, length-append, length-take, length-set}
use lib.Seq.{take_all, take_at, length-take-le, take-append-le, take-suc-set}
use borrow.Author.Tests.{leb-true, leb-false, eqb-true, le-leb, lt-leb, eq-eqb, ne_eqb}
use Rattle.octets.specs.Parts.{laid}
use Rattle.octets.proofs.Parts.{length_laid}
use Rattle.octets.proofs.Tests.{both}
use Rattle.std.proofs.Common.{None}
use Rattle.frames.specs.Limits.{line_most, line_kept, ledger_most, table_most, answer_line}
use Rattle.texts.specs.Hex.{decoded}
use Rattle.frames.specs.Line.{line_end, line_of}
use Rattle.frames.specs.Line.{frame_kind}
use Rattle.frames.specs.Serve.{Desk, serve, serve_line}
use Rattle.frames.specs.Hold.{place}
use Rattle.lines.specs.Lines.{desk_of}
use Rattle.lines.specs.Turn.{Held, held, lengths, line_in, desk_of_held, gathered, ending, ended, turn, says, fits}
use Rattle.frames.proofs.Kept.{Sized, serve_fits}
use Rattle.lines.proofs.Said.{line_most_lem}

-- ---- the sizes

pub record Fit (h : Held) : Type 0 where
  pub line : length h.line ≡ line_kept
  pub ledger : length h.ledger ≡ ledger_most
  pub table : length h.table ≡ table_most
  pub gathered : h.state.line ≤ line_kept
  pub used : h.state.ledger ≤ ledger_most
  pub listed : h.state.table ≤ table_most

pub of_fits : (h : Held) → fits h ≡ true → Fit h
unfolding fits
of_fits h e =
    let a = both (eqb (length h.line) line_kept) _ e in
    let b = both (eqb (length h.ledger) ledger_most) _ a.1 in
    let c = both (eqb (length h.table) table_most) _ b.1 in
    let d = both (leb h.state.line line_kept) _ c.1 in
    let f = both (leb h.state.ledger ledger_most) (leb h.state.table table_most) d.1 in
    record {
      line = eqb-true (length h.line) line_kept a.0;
      ledger = eqb-true (length h.ledger) ledger_most b.0;
      table = eqb-true (length h.table) table_most c.0;
      gathered = leb-true h.state.line line_kept d.0;
      used = leb-true h.state.ledger ledger_most f.0;
      listed = leb-true h.state.table table_most f.1;
    }

pub to_fits : (h : Held) → Fit h → fits h ≡ true
unfolding fits
to_fits h f =
    rw (
      eq-eqb (length h.line) line_kept f.line,
      eq-eqb (length h.ledger) ledger_most f.ledger,
      eq-eqb (length h.table) table_most f.table,
      le-leb h.state.line line_kept f.gathered,
      le-leb h.state.ledger ledger_most f.used,
      le-leb h.state.table table_most f.listed,
    )

-- ---- a line's end

-- a line that is too long is no frame
long : (l : List ℕ) → line_most < length l → frame_kind l ≡ None
unfolding frame_kind
long l h = rw (lt-leb (length l) 640 h)

-- what is kept of a line is served as the line is
pub serve_kept : (l : List ℕ) (d : Desk) → serve_line (take line_kept l) d ≡ serve_line l d
unfolding serve_line
serve_kept l d = go (leb (length l) line_most) refl
  where
    go : (b : Bool) → leb (length l) line_most ≡ b → serve (frame_kind (take line_kept l)) (decoded (take line_kept l)) d ≡ serve (frame_kind l) (decoded l) d
    go true e = let h = leb-true (length l) 640 e in ap (λ (v : List ℕ). serve (frame_kind v) (decoded v) d) (take_all 641 l (omega arith))
    go false e =
        let h = leb-false (length l) 640 e in
        let n : length (take 641 l) ≡ 641 = length-take-le 641 l (omega arith) in
        let a : frame_kind (take 641 l) ≡ None = long (take 641 l) (omega arith) in
        let b : frame_kind l ≡ None = long l h in
        rw (a, b)

pub take_laid : (xs l : List ℕ) → length xs ≤ length l → take (length xs) (laid xs l) ≡ xs
unfolding laid
take_laid xs l h = rw (take_all (length l) xs h) (take_at xs (drop (length xs) l) (length xs) refl)

module _ (h : Held) (c : ℕ) where
  pub gathered_full : line_kept ≤ h.state.line → gathered h c ≡ h
  unfolding gathered
  gathered_full e = rw (le-leb line_kept h.state.line e)

  pub gathered_more : h.state.line < line_kept
      → gathered h c ≡ held (lengths (h.state.line + 1) h.state.ledger h.state.table) (set h.line h.state.line c) h.ledger h.table
  unfolding gathered
  gathered_more e = rw (lt-leb line_kept h.state.line e)

module _ (h : Held) (fit : Fit h) where
  pub line_length : length (line_in h) ≡ h.state.line
  line_length = length-take-le h.state.line h.line (let a = fit.line in let b = fit.gathered in omega arith)

  ending_sized : Sized (ending h)
  unfolding serve_line
  ending_sized =
      serve_fits (frame_kind (line_in h)) (decoded (line_in h)) (desk_of_held h)
      (let a = fit.used in simp length-take (omega arith)) (let a = fit.listed in simp length-take (omega arith))

  -- what lies in the buffers afterwards is what the line left
  pub ended_desk : desk_of_held (ended h) ≡ desk_of (ending h)
  unfolding ended place
  ended_desk =
      let s = ending_sized in
      let a = fit.ledger in
      let b = fit.table in
      let c : length (ending h).ledger ≤ length h.ledger = let z = s.ledger in omega arith in
      let d : length (ending h).table ≤ length h.table = let z = s.table in omega arith in
      rw (take_laid (ending h).ledger h.ledger c, take_laid (ending h).table h.table d)

  pub fit_ended : Fit (ended h)
  unfolding ended place
  fit_ended =
      let s = ending_sized in
      record {
        line = fit.line;
        ledger = length_laid (ending h).ledger h.ledger ∙ fit.ledger;
        table = length_laid (ending h).table h.table ∙ fit.table;
        gathered = omega arith;
        used = s.ledger;
        listed = s.table;
      }

  pub ended_line : line_in (ended h) ≡ []
  unfolding ended
  ended_line = refl

  -- ---- a byte more

  module _ (c : ℕ) where
    pub gathered_desk : desk_of_held (gathered h c) ≡ desk_of_held h
    gathered_desk = go (leb line_kept h.state.line) refl
      where
        go : (b : Bool) → leb line_kept h.state.line ≡ b → desk_of_held (gathered h c) ≡ desk_of_held h
        go true e = ap desk_of_held (gathered_full h c (leb-true line_kept h.state.line e))
        go false e = ap desk_of_held (gathered_more h c (leb-false line_kept h.state.line e))

    pub fit_gathered : Fit (gathered h c)
    fit_gathered = go (leb line_kept h.state.line) refl
      where
        go : (b : Bool) → leb line_kept h.state.line ≡ b → Fit (gathered h c)
        go true e = rw (gathered_full h c (leb-true line_kept h.state.line e)) fit
        go false e =
            let k = leb-false line_kept h.state.line e in
            rw (gathered_more h c k) (record {
              line = length-set h.line h.state.line c ∙ fit.line;
              ledger = fit.ledger;
              table = fit.table;
              gathered = omega arith;
              used = fit.used;
              listed = fit.listed;
            })

    -- the line so far, with the byte behind it
    pub gathered_line : (l : List ℕ) → line_in h ≡ take line_kept l → line_in (gathered h c) ≡ take line_kept (l ++ (c ∷ []))
    gathered_line l e = go (leb line_kept h.state.line) refl
      where
        sized : length (take 641 l) ≡ h.state.line
        sized = ap length (sym e) ∙ line_length

        go : (b : Bool) → leb line_kept h.state.line ≡ b → line_in (gathered h c) ≡ take line_kept (l ++ (c ∷ []))
        go true p =
            let k = leb-true 641 h.state.line p in
            let n : min 641 (length l) ≡ h.state.line = sym (length-take 641 l) ∙ sized in
            let m : 641 ≤ length l = omega arith in
            ap line_in (gathered_full h c k) ∙ e ∙ sym (take-append-le 641 l (c ∷ []) m)
        go false p =
            let k = leb-false 641 h.state.line p in
            let n : min 641 (length l) ≡ h.state.line = sym (length-take 641 l) ∙ sized in
            let a = fit.line in
            let m : length l ≤ 641 = omega arith in
            let w : length (l ++ (c ∷ [])) ≤ 641 = simp length-append (omega arith) in
            let z : h.state.line < length h.line = omega arith in
            let q : take (h.state.line + 1) (set h.line h.state.line c) ≡ line_in h ++ (c ∷ []) = rw add-one (take-suc-set h.line h.state.line c z) in
            ap line_in (gathered_more h c k) ∙ q ∙ ap (λ (v : List ℕ). v ++ (c ∷ [])) (e ∙ take_all 641 l m)
            ∙ sym (take_all 641 (l ++ (c ∷ [])) w)

-- ---- one byte

module _ (h : Held) (c : ℕ) where
  pub turn_end : eqb c line_end ≡ true → turn h c ≡ ended h
  unfolding turn
  turn_end e = rw e

  pub turn_more : eqb c line_end ≡ false → turn h c ≡ gathered h c
  unfolding turn
  turn_more e = rw e

  pub says_end : eqb c line_end ≡ true → says h c ≡ line_of (ending h).answer
  unfolding says
  says_end e = rw e

  pub says_more : eqb c line_end ≡ false → says h c ≡ []
  unfolding says
  says_more e = rw e

  pub says_most : length (says h c) ≤ answer_line
  says_most = go (eqb c line_end) refl
    where
      go : (b : Bool) → eqb c line_end ≡ b → length (says h c) ≤ answer_line
      go true e = rw (says_end e) (line_most_lem (line_in h) (desk_of_held h))
      go false e = rw (says_more e) (omega arith)

  pub fit_turn : Fit h → Fit (turn h c)
  fit_turn f = go (eqb c line_end) refl
    where
      go : (b : Bool) → eqb c line_end ≡ b → Fit (turn h c)
      go true e = rw (turn_end e) (fit_ended h f)
      go false e = rw (turn_more e) (fit_gathered h f c)

pub line_empty : (h : Held) → Fit h → line_in h ≡ [] → h.state.line ≡ 0
line_empty h f e = sym (line_length h f) ∙ ap length e

pub line_begun : (h : Held) → Fit h → (x : ℕ) (xs : List ℕ) → line_in h ≡ x ∷ xs → eqb h.state.line 0 ≡ false
line_begun h f x xs e = ne_eqb h.state.line 0 (λ z. let n : h.state.line ≡ suc (length xs) = sym (line_length h f) ∙ ap length e in absurd (omega arith))
