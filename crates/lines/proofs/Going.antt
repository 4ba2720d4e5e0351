-- Laws of the loop over a chunk, of a call that does nothing, and of the end of input.
use Prim.Native.Nat.{ℕ, ◌+◌, ◌-◌, ◌≤◌, ◌<◌}
use native.Mathlib.Omega.{arith}
use native.Mathlib.Numerals.{add-one}
use mathlib.Core.Path.{◌≡◌, refl, sym, ap, ◌∙◌}
use mathlib.Core.Bool.{true, false, not, ◌&&◌, and-false}
use mathlib.Core.List.{List, [], ◌∷◌, ◌++◌}
use lib.Dec.{eqb, leb}
use lib.ListN.{length, get_or, take, drop, length-drop, take-append-drop, drop_of_length-le}
use lib.Seq.{drop-cons, take_all, drop-drop, take-nil, length-take-le}
use borrow.Author.Tests.{le-leb, lt-leb, eq-eqb, ne_eqb}
use Rattle.octets.specs.Parts.{laid, put}
use Rattle.octets.proofs.Parts.{length_put}
use Rattle.lines.specs.declared.feed.State.{State}
use Rattle.frames.specs.Limits.{answer_line}
use Rattle.frames.specs.Line.{line_end}
use Rattle.lines.specs.Turn.{Held, held, turn, says, fits}
use Rattle.lines.specs.Feed.{Turned, turned, putting, Fed, fed, feed_from, left, leaves, feed, finish}
use Rattle.lines.proofs.Feeding.{Fit, of_fits, to_fits, says_most, fit_turn}
use Rattle.lines.proofs.Turning.{take_put, drop_put}

-- the output's buffer is filled so far, so much of the input is taken, and what is left to do gives what was to be done
pub record Going (h₀ : Held) (out₀ input : List ℕ) (h : Held) (filled at : ℕ) (out : List ℕ) : Type 0 where
  pub begun : Fit h₀
  pub fit : Fit h
  pub within : at ≤ length input
  pub room : filled ≤ length out
  pub sized : length out ≡ length out₀
  pub behind : drop filled out ≡ drop filled out₀
  pub goes : feed_from (length out₀) h₀ [] input ≡ feed_from (length out₀) h (take filled out) (drop at input)

pub going_none : (h : Held) (out input : List ℕ) → fits h ≡ true → Going h out input h 0 0 out
going_none h out input e =
    let f = of_fits h e in
    record { begun = f; fit = f; within = omega arith; room = omega arith; sized = refl; behind = refl; goes = refl }

feed_step : (room : ℕ) (h : Held) (o : List ℕ) (c : ℕ) (cs : List ℕ) → length o + answer_line ≤ room
    → feed_from room h o (c ∷ cs) ≡ feed_from room (turn h c) (o ++ says h c) cs
unfolding feed_from
feed_step room h o c cs e = rw (le-leb (length o + 189) room e)

feed_full : (room : ℕ) (h : Held) (o cs : List ℕ) → room < length o + answer_line → feed_from room h o cs ≡ fed h o cs
unfolding feed_from
feed_full room h o [] e = refl
feed_full room h o (c ∷ cs) e = rw (lt-leb (length o + 189) room e)

feed_none : (room : ℕ) (h : Held) (o : List ℕ) → feed_from room h o [] ≡ fed h o []
unfolding feed_from
feed_none room h o = refl

feed_of : (h : Held) (input out : List ℕ) → Fit h → feed h input out ≡ leaves (feed_from (length out) h [] input) input out
unfolding feed
feed_of h input out f = rw (to_fits h f)

module _ (h₀ : Held) (out₀ input : List ℕ) (h : Held) (filled at : ℕ) (out : List ℕ) (g : Going h₀ out₀ input h filled at out) where
  filled_length : length (take filled out) ≡ filled
  filled_length = length-take-le filled out g.room

  pub going_more : at < length input → filled + answer_line ≤ length out → {h₁ : Held} {n : ℕ} {x : List ℕ}
      → turned h₁ n x ≡ putting (turn h (get_or input at 0)) (says h (get_or input at 0)) filled out → Going h₀ out₀ input h₁ n (at + 1) x
  going_more k r {h₁} {n} {x} q =
      let c = get_or input at 0 in
      let m = says_most h c in
      let w : filled + length (says h c) ≤ length out = omega arith in
      let q0 : h₁ ≡ turn h c = ap (λ (t : Turned). t.held) q in
      let q1 : n ≡ filled + length (says h c) = ap (λ (t : Turned). t.filled) q in
      let q2 : x ≡ put out filled (says h c) = ap (λ (t : Turned). t.out) q in
      let s = g.sized in
      let l = filled_length in
      let d : drop at input ≡ c ∷ drop (at + 1) input = rw add-one (drop-cons input at 0 k) in
      let u : drop (filled + length (says h c)) out ≡ drop (filled + length (says h c)) out₀ =
      sym (drop-drop (length (says h c)) filled out) ∙ ap (drop (length (says h c))) g.behind ∙ drop-drop (length (says h c)) filled out₀ in
      rw (q0, q1, q2) (record {
        begun = g.begun;
        fit = fit_turn h c g.fit;
        within = omega arith;
        room = rw (length_put out filled (says h c)) w;
        sized = length_put out filled (says h c) ∙ s;
        behind = drop_put out filled (says h c) w ∙ u;
        goes = g.goes ∙ ap (feed_from (length out₀) h (take filled out)) d
            ∙ feed_step (length out₀) h (take filled out) c (drop (at + 1) input) (omega arith)
            ∙ ap (λ (v : List ℕ). feed_from (length out₀) (turn h c) v (drop (at + 1) input)) (sym (take_put out filled (says h c) w));
      })

  filled_laid : laid (take filled out) out₀ ≡ out
  unfolding laid
  filled_laid =
      let l = filled_length in
      let s = g.sized in
      let r = g.room in
      let z : length (take filled out) ≤ length out₀ = omega arith in
      rw (take_all (length out₀) (take filled out) z, l, ← g.behind) (take-append-drop filled out)

  stopped : feed_from (length out₀) h (take filled out) (drop at input) ≡ fed h (take filled out) (drop at input)
      → left h at filled out ≡ feed h₀ input out₀
  stopped e =
      let b : feed h₀ input out₀ ≡ leaves (fed h (take filled out) (drop at input)) input out₀ =
      feed_of h₀ input out₀ g.begun ∙ ap (λ (f : Fed). leaves f input out₀) (g.goes ∙ e) in
      let l = filled_length in
      let k = g.within in
      let t : length input - length (drop at input) ≡ at = simp length-drop (omega arith) in
      let o = filled_laid in
      let m : leaves (fed h (take filled out) (drop at input)) input out₀ ≡ left h at filled out = rw (t, l, o) in
      sym (b ∙ m)

  pub going_all : length input ≤ at → left h (length input) filled out ≡ feed h₀ input out₀
  going_all k =
      let d : drop at input ≡ [] = drop_of_length-le input k in
      let w = g.within in
      let e : length input ≡ at = omega arith in
      rw e (stopped (rw d (feed_none (length out₀) h (take filled out))))

  pub going_full : length out < filled + answer_line → left h at filled out ≡ feed h₀ input out₀
  going_full k =
      let l = filled_length in
      let s = g.sized in
      stopped (feed_full (length out₀) h (take filled out) (drop at input) (omega arith))

-- ---- a call that does nothing, and the end of input

module _ (h : Held) (out : List ℕ) {s : State} {n m : ℕ} (same : s ≡ h.state) (taken : n ≡ 0) (filled : m ≡ 0) where
  untouched : (input : List ℕ) → left (held s h.line h.ledger h.table) n m out ≡ leaves (fed h [] input) input out
  unfolding laid
  untouched input =
      let z : length input - length input ≡ 0 = omega arith in
      rw (same, taken, filled, z, take-nil (length out))

  pub unfed : (input : List ℕ) → fits h ≡ false → left (held s h.line h.ledger h.table) n m out ≡ feed h input out
  unfolding feed
  unfed input e = rw e (untouched input)

  unfinished : (fits h && (not (eqb h.state.line 0) && leb answer_line (length out))) ≡ false
      → left (held s h.line h.ledger h.table) n m out ≡ finish h out
  unfolding finish
  unfinished e = rw e (untouched [])

  pub unfitting : fits h ≡ false → left (held s h.line h.ledger h.table) n m out ≡ finish h out
  unfitting e = unfinished (rw e)

  pub unbegun : h.state.line ≡ 0 → left (held s h.line h.ledger h.table) n m out ≡ finish h out
  unbegun e = unfinished (rw (eq-eqb h.state.line 0 e) (and-false (fits h)))

  pub roomless : length out < answer_line → left (held s h.line h.ledger h.table) n m out ≡ finish h out
  roomless e = unfinished (simp (lt-leb 189 (length out) e, and-false))

pub finished : (h : Held) (out : List ℕ) → fits h ≡ true → (h.state.line ≡ 0 → ⊥) → answer_line ≤ length out → {g : Held} {n : ℕ} {x : List ℕ}
    → turned g n x ≡ putting (turn h line_end) (says h line_end) 0 out → (left g 0 n x ≡ finish h out) × (n ≤ length out)
unfolding finish put
finished h out e b r {g} {n} {x} q =
    let m = says_most h line_end in
    let q0 : g ≡ turn h line_end = ap (λ (t : Turned). t.held) q in
    let q1 : n ≡ 0 + length (says h line_end) = ap (λ (t : Turned). t.filled) q in
    let q2 : x ≡ laid (says h line_end) out = ap (λ (t : Turned). t.out) q in
    let z : n ≡ length (says h line_end) = omega arith in
    (rw (e, ne_eqb h.state.line 0 b, le-leb 189 (length out) r, q0, z, q2), omega arith)
