-- Byte after byte: what is left and what is put out, and that it is line after line.
use Prim.Native.Nat.{ℕ}
use mathlib.Core.Path.{◌≡◌, refl, sym, ap, ◌∙◌}
use mathlib.Core.Bool.{Bool, true, false, cond}
use mathlib.Core.List.{List, [], ◌∷◌, ◌++◌, append_assoc, append-nil}
use lib.Dec.{eqb}
use lib.ListN.{take}
use borrow.Author.Tests.{eq-eqb}
use Rattle.frames.specs.Limits.{line_kept}
use Rattle.frames.specs.Line.{line_end, line_of}
use Rattle.frames.specs.Serve.{Desk, serve_line}
use Rattle.lines.specs.Lines.{lines_from, counted, awaited, answers, desk_of}
use Rattle.lines.specs.Turn.{Held, line_in, desk_of_held, ending, turn, says}
use Rattle.lines.proofs.Feeding.{Fit, serve_kept, ended_desk, ended_line, gathered_desk, gathered_line, turn_end, turn_more, says_end, says_more, fit_turn, line_empty, line_begun}

unfoldable pub after : Held → List ℕ → Held
after h [] = h
after h (c ∷ cs) = after (turn h c) cs

unfoldable pub said : Held → List ℕ → List ℕ
said h [] = []
said h (c ∷ cs) = says h c ++ said (turn h c) cs

pub after_cons : (h : Held) (c : ℕ) (cs : List ℕ) → after h (c ∷ cs) ≡ after (turn h c) cs
unfolding after
after_cons h c cs = refl

pub said_cons : (h : Held) (c : ℕ) (cs : List ℕ) → said h (c ∷ cs) ≡ says h c ++ said (turn h c) cs
unfolding said
said_cons h c cs = refl

pub nothing : (h : Held) (o : List ℕ) → (h ≡ after h []) × (o ≡ o ++ said h [])
unfolding after said
nothing h o = (refl, sym (append-nil o))

pub after_append : (h : Held) (xs ys : List ℕ) → after h (xs ++ ys) ≡ after (after h xs) ys
unfolding after
after_append h [] ys = refl
after_append h (x ∷ xs) ys = after_append (turn h x) xs ys

pub said_append : (h : Held) (xs ys : List ℕ) → said h (xs ++ ys) ≡ said h xs ++ said (after h xs) ys
unfolding said after
said_append h [] ys = refl
said_append h (x ∷ xs) ys =
    ap (λ (v : List ℕ). says h x ++ v) (said_append (turn h x) xs ys) ∙ sym (append_assoc (says h x) (said (turn h x) xs) (said (after (turn h x) xs) ys))

pub fit_after : (h : Held) (cs : List ℕ) → Fit h → Fit (after h cs)
unfolding after
fit_after h [] f = f
fit_after h (c ∷ cs) f = fit_after (turn h c) cs (fit_turn h c f)

-- ---- byte after byte is line after line

answers_cons : (d : Desk) (l : List ℕ) (ls : List (List ℕ)) → answers d (l ∷ ls) ≡ line_of (serve_line l d).answer ++ answers (desk_of (serve_line l d)) ls
unfolding answers
answers_cons d l ls = refl

-- what is served of a begun line is what is kept of it
ending_line : (h : Held) (l : List ℕ) → line_in h ≡ take line_kept l → ending h ≡ serve_line l (desk_of_held h)
ending_line h l e = ap (λ (v : List ℕ). serve_line v (desk_of_held h)) e ∙ serve_kept l (desk_of_held h)

-- `close` says what `last` makes of a begun line
abbrev Closes : (Held → List ℕ) → (List ℕ → List (List ℕ)) → Type 0
Closes close last = (h : Held) (l : List ℕ) → Fit h → line_in h ≡ take line_kept l → close h ≡ answers (desk_of_held h) (last l)

pub by_lines : (close : Held → List ℕ) (last : List ℕ → List (List ℕ)) → Closes close last
    → (h : Held) (l cs : List ℕ) → Fit h → line_in h ≡ take line_kept l → said h cs ++ close (after h cs) ≡ answers (desk_of_held h) (lines_from last l cs)
unfolding said after lines_from
by_lines close last k h l [] f e = k h l f e
by_lines close last k h l (c ∷ cs) f e =
    go (eqb c line_end) refl (by_lines close last k (turn h c) [] cs (fit_turn h c f)) (by_lines close last k (turn h c) (l ++ (c ∷ [])) cs (fit_turn h c f))
  where
    go : (b : Bool) → eqb c line_end ≡ b
        → (line_in (turn h c) ≡ [] → said (turn h c) cs ++ close (after (turn h c) cs) ≡ answers (desk_of_held (turn h c)) (lines_from last [] cs))
        → (line_in (turn h c) ≡ take line_kept (l ++ (c ∷ []))
        → said (turn h c) cs ++ close (after (turn h c) cs) ≡ answers (desk_of_held (turn h c)) (lines_from last (l ++ (c ∷ [])) cs))
        → says h c ++ said (turn h c) cs ++ close (after (turn h c) cs)
        ≡ answers (desk_of_held h) (cond (eqb c line_end) (l ∷ lines_from last [] cs) (lines_from last (l ++ (c ∷ [])) cs))
    go true p ih jh =
        let t = turn_end h c p in
        let s = ending_line h l e in
        let i = ih (ap line_in t ∙ ended_line h f) in
        let d : desk_of_held (turn h c) ≡ desk_of (serve_line l (desk_of_held h)) = ap desk_of_held t ∙ ended_desk h f ∙ ap desk_of s in
        rw (p, says_end h c p, s) (append_assoc (line_of (serve_line l (desk_of_held h)).answer) (said (turn h c) cs) (close (after (turn h c) cs))
        ∙ ap (λ (v : List ℕ). line_of (serve_line l (desk_of_held h)).answer ++ v) (i ∙ ap (λ (v : Desk). answers v (lines_from last [] cs)) d)
        ∙ sym (answers_cons (desk_of_held h) l (lines_from last [] cs)))
    go false p ih jh =
        let t = turn_more h c p in
        let i = jh (ap line_in t ∙ gathered_line h f c l e) in
        let d : desk_of_held (turn h c) ≡ desk_of_held h = ap desk_of_held t ∙ gathered_desk h f c in
        rw (p, says_more h c p) (i ∙ ap (λ (v : Desk). answers v (lines_from last (l ++ (c ∷ [])) cs)) d)

-- at the end of input a begun line counts
unfoldable pub closing : Held → List ℕ
closing h = cond (eqb h.state.line 0) [] (says h line_end)

pub closes_counted : Closes closing counted
unfolding closing answers
closes_counted h [] f e = let n = line_empty h f e in rw (eq-eqb h.state.line 0 n)
closes_counted h (x ∷ xs) f e =
    let b = line_begun h f x (take 640 xs) e in
    let s = ending_line h (x ∷ xs) e in
    rw (b, says_end h line_end refl, s) (sym (append-nil (line_of (serve_line (x ∷ xs) (desk_of_held h)).answer)))

-- before it nothing is put out
pub closes_awaited : Closes (λ h. []) awaited
unfolding answers
closes_awaited h l f e = refl
