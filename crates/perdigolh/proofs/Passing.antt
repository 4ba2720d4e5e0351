-- Laws of a chunk that is passed on, call after call.
use Rattle.std.proofs.Common.{◌≡◌, ℕ, zero, suc, ◌+◌, ◌-◌, ◌%◌, ◌^◌, ◌<◌, List, [], ◌∷◌, length, take, drop, length-drop, take_all, sym, refl, ap, ◌∙◌, arith, length-append, ◌++◌, append_assoc, append-nil, Option, subst}
use Rattle.std.specs.Io.KnownBytes.{Appends}
use Rattle.lines.specs.Turn.{Held}
use Rattle.lines.specs.Feed.{feed}
use Rattle.lines.specs.Run.{Passed, passed, behind, puts, pass_on}
use Rattle.perdigolh.proofs.Bytes.{appends_same, appends_more, begins_all, begins_more, begins_longer}
use Rattle.perdigolh.specs.Chunk.{kept, LeavesAs, EndsAs, Begins}
use Rattle.perdigolh.specs.declared.Desk.{Desk}

more : (n : ℕ) (h : Held) (out cs : List ℕ) → 0 < length cs
    → pass_on (suc n) h out cs
    ≡ behind (puts (feed h cs out)) (pass_on n (feed h cs out).held (feed h cs out).out (drop (feed h cs out).taken cs))
unfolding pass_on
more n h out [] k = absurd (omega arith)
more n h out (c ∷ cs) k = refl

-- all is taken
pub none_left : (n : ℕ) (h : Held) (out cs : List ℕ) → length cs ≡ 0 → pass_on n h out cs ≡ passed h out []
unfolding pass_on
none_left zero h out cs z = refl
none_left (suc n) h out [] z = refl
none_left (suc n) h out (c ∷ cs) z = absurd (omega arith)

-- or no call is left
pub no_call : (n : ℕ) (h : Held) (out cs : List ℕ) → n ≡ 0 → pass_on n h out cs ≡ passed h out []
unfolding pass_on
no_call zero h out cs z = refl
no_call (suc n) h out cs z = absurd (omega arith)

-- with the bytes that were written so far, p is what n more calls leave, with cs still to be taken
pub record Going (p : Passed) (n : ℕ) (d e : Desk) (cs : List ℕ) (contents contents' : Option (List ℕ)) : Type 0 where
  pub bytes : List ℕ
  pub so_far : Appends contents contents' bytes
  pub count : e.handed ≡ (d.handed + length bytes) % 2 ^ 64
  pub whole : p ≡ behind bytes (pass_on n (kept e) e.out cs)

pub going_first : (d : Desk) (cs : List ℕ) (n : ℕ) (contents : Option (List ℕ)) → n ≡ length cs → d.handed < 2 ^ 64
    → Going (pass_on (length cs) (kept d) d.out cs) n d d cs contents contents
going_first d cs n contents e k =
    record { bytes = []; so_far = appends_same contents; count = omega arith; whole = sym (ap (λ (x : ℕ). pass_on x (kept d) d.out cs) e) }

module _ (p : Passed) (d e : Desk) (cs : List ℕ) (a b : Option (List ℕ)) where
  pub going_on : (n m : ℕ) → n ≡ suc m → 0 < length cs → Going p n d e cs a b → (f : Desk) (t : ℕ) → EndsAs (feed (kept e) cs e.out) e f
      → t ≡ (feed (kept e) cs e.out).taken → (c : Option (List ℕ)) → Appends b c (puts (feed (kept e) cs e.out))
      → Going p m d f (take (length cs - t) (drop t cs)) a c
  going_on n m z k g f t h u c w =
      let l = feed (kept e) cs e.out in
      let r : take (length cs - t) (drop t cs) ≡ drop t cs = take_all (length cs - t) (drop t cs) (omega (arith, length-drop t cs)) in
      let q : pass_on m l.held l.out (drop l.taken cs) ≡ pass_on m (kept f) f.out (drop t cs) = rw (← h.0, ← h.1, ← u) in
      let y : pass_on n (kept e) e.out cs ≡ behind (puts l) (pass_on m (kept f) f.out (drop t cs)) =
      ap (λ (x : ℕ). pass_on x (kept e) e.out cs) z ∙ more m (kept e) e.out cs k ∙ ap (behind (puts l)) q in
      let x = pass_on m (kept f) f.out (drop t cs) in
      rw r (record {
        bytes = g.bytes ++ puts l;
        so_far = appends_more a b c g.bytes (puts l) g.so_far w;
        count = omega (arith, g.count, h.2, length-append g.bytes (puts l));
        whole = g.whole ∙ ap (behind g.bytes) y ∙ ap (passed x.held x.out) (sym (append_assoc g.bytes (puts l) x.written));
      })

  -- no call is made any more
  pub going_end : (n : ℕ) → pass_on n (kept e) e.out cs ≡ passed (kept e) e.out [] → Going p n d e cs a b → LeavesAs p d e × Appends a b p.written × Begins a b p.written
  going_end n z g =
      let q : p ≡ passed (kept e) e.out g.bytes = g.whole ∙ ap (behind g.bytes) z ∙ ap (passed (kept e) e.out) (append-nil g.bytes) in
      let A : List ℕ → Type 0 = λ v. Appends a b v in
      let w : Appends a b p.written = subst A (sym (ap (λ (x : Passed). x.written) q)) g.so_far in (
        (sym (ap (λ (x : Passed). x.held) q), sym (ap (λ (x : Passed). x.out) q), omega (arith, g.count, ap (λ (x : Passed). length x.written) q)),
        w,
        begins_all a b p.written w,
      )

  -- a call of which the beginning was written
  pub going_begun : (n : ℕ) → 0 < n → 0 < length cs → Going p n d e cs a b → (c : Option (List ℕ)) → Begins b c (puts (feed (kept e) cs e.out))
      → Begins a c p.written
  going_begun zero z k g c u = absurd (omega arith)
  going_begun (suc n) z k g c u =
      let l = feed (kept e) cs e.out in
      let r = (pass_on n l.held l.out (drop l.taken cs)).written in
      let q : p.written ≡ g.bytes ++ (puts l ++ r) = ap (λ (x : Passed). x.written) (g.whole ∙ ap (behind g.bytes) (more n (kept e) e.out cs k)) in
      let B : List ℕ → Type 0 = λ v. Begins a c v in
      subst B (sym q) (begins_more a b c g.bytes (puts l ++ r) g.so_far (begins_longer b c (puts l) r u))
