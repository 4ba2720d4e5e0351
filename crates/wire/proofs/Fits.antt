-- Laws of the table of kinds.
use Prim.Native.Nat.{ℕ, zero, suc, ◌≤◌, ◌<◌}
use native.Mathlib.Omega.{arith}
use mathlib.Core.Path.{◌≡◌, refl}
use mathlib.Core.Bool.{Bool, true, false, cond}
use mathlib.Core.List.{List, [], ◌∷◌}
use lib.Dec.{eqb, leb}
use lib.ListN.{length, get_or}
use borrow.Author.Tests.{eq-eqb, ne_eqb, le-leb, lt-leb, lt-ltb}
use Rattle.std.proofs.Common.{None, Some}
use Rattle.wire.specs.Kinds.{Row, start, decide, rows, width, fits, among, settled, yes_byte, kind_of}

-- as long as its kind's fields
abbrev pub sized : Row → List ℕ → Bool
sized r f = cond r.rest (leb (width r) (length f)) (eqb (length f) (width r))

pub no_bytes : (f : List ℕ) → length f < 1 → kind_of f ≡ None
unfolding kind_of among fits
no_bytes [] h = refl
no_bytes (x ∷ f) h = absurd (omega arith)

module _ (f : List ℕ) where
  -- the kind's byte is the place of its row
  pub kind_at : (i : ℕ) → i < 7 → get_or f 0 0 ≡ i → among rows f ≡ cond (sized (get_or rows i start) f) (Some (get_or rows i start).kind) None
  unfolding among fits
  kind_at zero h e = rw e
  kind_at (suc zero) h e = rw e
  kind_at (suc (suc zero)) h e = rw e
  kind_at (suc (suc (suc zero))) h e = rw e
  kind_at (suc (suc (suc (suc zero)))) h e = rw e
  kind_at (suc (suc (suc (suc (suc zero))))) h e = rw e
  kind_at (suc (suc (suc (suc (suc (suc zero)))))) h e = rw e
  kind_at (suc (suc (suc (suc (suc (suc (suc i))))))) h e = absurd (omega arith)

  pub wrong_length : (i : ℕ) → i < 7 → get_or f 0 0 ≡ i → sized (get_or rows i start) f ≡ false → kind_of f ≡ None
  unfolding kind_of
  wrong_length i h e n = rw (kind_at i h e, n)

  pub unknown_kind : 6 < get_or f 0 0 → kind_of f ≡ None
  unfolding kind_of among fits
  unknown_kind h =
      let other : (i : ℕ) → i < 7 → eqb (get_or f 0 0) i ≡ false = λ i k. ne_eqb (get_or f 0 0) i (λ e. absurd (omega arith)) in
      rw (other 0 (omega arith), other 1 (omega arith), other 2 (omega arith), other 3 (omega arith), other 4 (omega arith), other 5 (omega arith), other 6 (omega arith))

  pub yes_above : get_or f 0 0 ≡ 2 → 1 < yes_byte f → kind_of f ≡ None
  unfolding kind_of
  yes_above e h = rw (kind_at 2 (omega arith) e) (go (sized decide f))
    where
      go : (b : Bool) → settled (cond b (Some decide.kind) None) f ≡ None
      go true = rw (lt-ltb 1 (yes_byte f) h)
      go false = refl

-- the same by the length alone: a kind whose fields are all fixed, and one whose last field takes the rest
module _ (f : List ℕ) (i : ℕ) (within : i < 7) (byte : get_or f 0 0 ≡ i) where
  sized_kind : sized (get_or rows i start) f ≡ true → kind_of f ≡ settled (Some (get_or rows i start).kind) f
  unfolding kind_of
  sized_kind s = rw (kind_at f i within byte, s)

  pub fixed : (get_or rows i start).rest ≡ false → length f ≡ width (get_or rows i start) → kind_of f ≡ settled (Some (get_or rows i start).kind) f
  fixed r e = sized_kind (rw r (eq-eqb _ _ e))

  pub other_length : (get_or rows i start).rest ≡ false → (length f ≡ width (get_or rows i start) → ⊥) → kind_of f ≡ None
  other_length r n = wrong_length f i within byte (rw r (ne_eqb _ _ n))

  pub with_rest : (get_or rows i start).rest ≡ true → width (get_or rows i start) ≤ length f → kind_of f ≡ settled (Some (get_or rows i start).kind) f
  with_rest r h = sized_kind (rw r (le-leb _ _ h))

  pub too_short : (get_or rows i start).rest ≡ true → length f < width (get_or rows i start) → kind_of f ≡ None
  too_short r h = wrong_length f i within byte (rw r (lt-leb _ _ h))
