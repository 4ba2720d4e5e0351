-- Call after call and chunk after chunk is byte after byte.
use Prim.Native.Nat.{ℕ, zero, suc, ◌+◌, ◌-◌, ◌≤◌, ◌<◌}
use native.Mathlib.Omega.{arith}
use mathlib.Core.Path.{◌≡◌, refl, sym, ap, ◌∙◌}
use mathlib.Core.Bool.{Bool, true, false, not, ◌&&◌, cond}
use mathlib.Core.List.{List, [], ◌∷◌, ◌++◌, append_assoc}
use lib.Dec.{eqb, leb}
use lib.ListN.{length, drop, length-append}
use lib.Seq.{drop_at}
use borrow.Author.Tests.{le-leb, leb-true}
use Rattle.octets.proofs.Parts.{length_laid}
use Rattle.frames.specs.Limits.{answer_line}
use Rattle.frames.specs.Line.{line_end}
use Rattle.lines.specs.Turn.{Held, turn, says}
use Rattle.lines.specs.Feed.{Fed, fed, feed_from, Left, leaves, feed, finish}
use Rattle.lines.specs.Run.{puts, Passed, passed, pass_on, pass_all, session, joined}
use Rattle.lines.proofs.Feeding.{Fit, to_fits, take_laid, says_most}
use Rattle.lines.proofs.Bytes.{after, said, after_cons, said_cons, nothing, after_append, said_append, fit_after, closing}

-- ---- a call takes bytes from the front of its chunk, and has room for what it puts out

record Took (room : ℕ) (h : Held) (o cs : List ℕ) (f : Fed) : Type 0 where
  front : List ℕ
  split : cs ≡ front ++ f.rest
  keeps : f.held ≡ after h front
  says : f.output ≡ o ++ said h front
  fits : length f.output ≤ room

took : (room : ℕ) (h : Held) (o cs : List ℕ) → length o ≤ room → Took room h o cs (feed_from room h o cs)
unfolding feed_from
took room h o [] k = record { front = []; split = refl; keeps = (nothing h o).0; says = (nothing h o).1; fits = k }
took room h o (c ∷ cs) k = go (leb (length o + answer_line) room) refl (took room (turn h c) (o ++ says h c) cs)
  where
    go : (b : Bool) → leb (length o + answer_line) room ≡ b
        → (length (o ++ says h c) ≤ room → Took room (turn h c) (o ++ says h c) cs (feed_from room (turn h c) (o ++ says h c) cs))
        → Took room h o (c ∷ cs) (cond b (feed_from room (turn h c) (o ++ says h c) cs) (fed h o (c ∷ cs)))
    go true p ih =
        let q = leb-true (length o + 189) room p in
        let m = says_most h c in
        let t = ih (rw (length-append o (says h c)) (omega arith)) in
        record {
          front = c ∷ t.front;
          split = ap (λ (v : List ℕ). c ∷ v) t.split;
          keeps = t.keeps ∙ sym (after_cons h c t.front);
          says = t.says ∙ append_assoc o (says h c) (said (turn h c) t.front) ∙ ap (λ (v : List ℕ). o ++ v) (sym (said_cons h c t.front));
          fits = t.fits;
        }
    go false p ih = record { front = []; split = refl; keeps = (nothing h o).0; says = (nothing h o).1; fits = k }

-- a chunk's first byte is always taken
fed_first : (h : Held) (c : ℕ) (cs out : List ℕ) → answer_line ≤ length out → Fit h
    → feed h (c ∷ cs) out ≡ leaves (feed_from (length out) (turn h c) (says h c) cs) (c ∷ cs) out
unfolding feed feed_from
fed_first h c cs out r f = rw (to_fits h f, le-leb 189 (length out) r)

record Fed-on (h : Held) (out cs : List ℕ) (l : Left) : Type 0 where
  front : List ℕ
  split : cs ≡ front ++ drop l.taken cs
  more : length (drop l.taken cs) < length cs
  keeps : l.held ≡ after h front
  says : puts l ≡ said h front
  sized : length l.out ≡ length out

fed_on : (h : Held) (c : ℕ) (cs out : List ℕ) → answer_line ≤ length out → Fit h → Fed-on h out (c ∷ cs) (feed h (c ∷ cs) out)
fed_on h c cs out r f =
    let m = says_most h c in
    let g = feed_from (length out) (turn h c) (says h c) cs in
    let t = took (length out) (turn h c) (says h c) cs (omega arith) in
    let n : length cs ≡ length t.front + length g.rest = ap length t.split ∙ length-append t.front g.rest in
    let k : length (c ∷ t.front) ≡ suc (length cs) - length g.rest = omega arith in
    let d : drop (suc (length cs) - length g.rest) (c ∷ cs) ≡ g.rest =
    ap (λ (v : List ℕ). drop (suc (length cs) - length g.rest) (c ∷ v)) t.split ∙ drop_at (c ∷ t.front) g.rest _ k in
    rw (fed_first h c cs out r f) (record {
      front = c ∷ t.front;
      split = ap (λ (v : List ℕ). c ∷ v) t.split ∙ ap (λ (v : List ℕ). c ∷ t.front ++ v) (sym d);
      more = rw d (omega arith);
      keeps = t.keeps ∙ sym (after_cons h c t.front);
      says = take_laid g.output out t.fits ∙ t.says ∙ sym (said_cons h c t.front);
      sized = length_laid g.output out;
    })

-- ---- a chunk is byte after byte

pub record Passes (h : Held) (out cs : List ℕ) (p : Passed) : Type 0 where
  pub keeps : p.held ≡ after h cs
  pub says : p.written ≡ said h cs
  pub sized : length p.out ≡ length out

passes_none : (h : Held) (out : List ℕ) → Passes h out [] (passed h out [])
unfolding after said
passes_none h out = record { keeps = refl; says = refl; sized = refl }

passes : (n : ℕ) (h : Held) (out cs : List ℕ) → answer_line ≤ length out → Fit h → length cs ≤ n → Passes h out cs (pass_on n h out cs)
unfolding pass_on
passes zero h out [] r f k = passes_none h out
passes zero h out (c ∷ cs) r f k = absurd (omega arith)
passes (suc n) h out [] r f k = passes_none h out
passes (suc n) h out (c ∷ cs) r f k =
    let l = feed h (c ∷ cs) out in
    let t = fed_on h c cs out r f in
    let z = t.sized in
    let m = t.more in
    let g : Fit l.held = rw t.keeps (fit_after h t.front f) in
    let p = passes n l.held l.out (drop l.taken (c ∷ cs)) (omega arith) g (omega arith) in
    record {
      keeps = p.keeps ∙ ap (λ (v : Held). after v (drop l.taken (c ∷ cs))) t.keeps
          ∙ sym (after_append h t.front (drop l.taken (c ∷ cs))) ∙ ap (after h) (sym t.split);
      says = ap (λ (v : List ℕ). v ++ (pass_on n l.held l.out (drop l.taken (c ∷ cs))).written) t.says
          ∙ ap (λ (v : List ℕ). said h t.front ++ v) (p.says ∙ ap (λ (v : Held). said v (drop l.taken (c ∷ cs))) t.keeps)
          ∙ sym (said_append h t.front (drop l.taken (c ∷ cs))) ∙ ap (said h) (sym t.split);
      sized = p.sized ∙ z;
    }

pub passes_all : (h : Held) (out : List ℕ) (chunks : List (List ℕ)) → answer_line ≤ length out → Fit h → Passes h out (joined chunks) (pass_all h out chunks)
unfolding pass_all
passes_all h out [] r f = passes_none h out
passes_all h out (c ∷ cs) r f =
    let q = pass_on (length c) h out c in
    let p = passes (length c) h out c r f (omega arith) in
    let z = p.sized in
    let g : Fit q.held = rw p.keeps (fit_after h c f) in
    let i = passes_all q.held q.out cs (omega arith) g in
    record {
      keeps = i.keeps ∙ ap (λ (v : Held). after v (joined cs)) p.keeps ∙ sym (after_append h c (joined cs));
      says = ap (λ (v : List ℕ). v ++ (pass_all q.held q.out cs).written) p.says
          ∙ ap (λ (v : List ℕ). said h c ++ v) (i.says ∙ ap (λ (v : Held). said v (joined cs)) p.keeps) ∙ sym (said_append h c (joined cs));
      sized = i.sized ∙ z;
    }

-- ---- the end of input

finished : (h : Held) (out : List ℕ) → answer_line ≤ length out → Fit h → puts (finish h out) ≡ closing h
unfolding finish closing
finished h out r f = rw (to_fits h f, le-leb 189 (length out) r) (go (eqb h.state.line 0))
  where
    m : length (says h line_end) ≤ length out
    m = let k = says_most h line_end in omega arith

    go : (b : Bool) → puts (leaves (cond (not b && true) (fed (turn h line_end) (says h line_end) []) (fed h [] [])) [] out) ≡ cond b [] (says h line_end)
    go true = refl
    go false = take_laid (says h line_end) out m

pub sessions : (h : Held) (out : List ℕ) (chunks : List (List ℕ)) → answer_line ≤ length out → Fit h
    → session h out chunks ≡ said h (joined chunks) ++ closing (after h (joined chunks))
unfolding session
sessions h out chunks r f =
    let q = pass_all h out chunks in
    let p = passes_all h out chunks r f in
    let z = p.sized in
    let g : Fit q.held = rw p.keeps (fit_after h (joined chunks) f) in
    ap (λ (v : List ℕ). v ++ puts (finish q.held q.out)) p.says
    ∙ ap (λ (v : List ℕ). said h (joined chunks) ++ v) (finished q.held q.out (omega arith) g ∙ ap closing p.keeps)
