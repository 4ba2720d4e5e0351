-- Laws of the buffers' sizes, and of an answer's line in the output.
use Prim.Native.Nat.{ℕ, ◌≤◌, ◌<◌}
use mathlib.Core.Path.{◌≡◌, refl, sym, ◌∙◌}
use mathlib.Core.Bool.{Bool, true, false, and-false}
use mathlib.Core.List.{List}
use lib.Dec.{eqb, leb}
use lib.ListN.{length}
use borrow.Author.Tests.{leb-true, le-leb, lt-leb, eq-eqb, ne_eqb}
use Rattle.octets.specs.Parts.{laid}
use Rattle.frames.specs.Limits.{ledger_most, table_most, answer_line}
use Rattle.frames.specs.Line.{line_of}
use Rattle.frames.specs.Serve.{serve_line}
use Rattle.frames.specs.Hold.{desk_in, Placed, placed, place, Said, said, say, fitting, answer}

module _ (n m : ℕ) (ledger table out : List ℕ) where
  pub fitting_of : n ≤ ledger_most → m ≤ table_most → length ledger ≡ ledger_most → length table ≡ table_most → answer_line ≤ length out
      → fitting n m ledger table out ≡ true
  unfolding fitting
  fitting_of u v l t o = rw (le-leb n ledger_most u, le-leb m table_most v, eq-eqb (length ledger) ledger_most l, eq-eqb (length table) table_most t, le-leb answer_line (length out) o)

  -- what is served, over the front of the output
  pub answer_fits : (line : List ℕ) → fitting n m ledger table out ≡ true
      → answer line n m ledger table out ≡ say (place (serve_line line (desk_in n m ledger table)) ledger table) out
  unfolding answer
  answer_fits line e = rw e

  -- where one of the sizes is not met, nothing changes
  misfit : (line : List ℕ) → fitting n m ledger table out ≡ false → {u v k : ℕ} → u ≡ n → v ≡ m → k ≡ 0
      → said u v k ledger table out ≡ answer line n m ledger table out
  unfolding answer
  misfit line e hu hv hk = rw (e, hu, hv, hk)

  pub misfit_used : (line : List ℕ) → (n ≤ ledger_most × m ≤ table_most → ⊥) → {u v k : ℕ} → u ≡ n → v ≡ m → k ≡ 0
      → said u v k ledger table out ≡ answer line n m ledger table out
  unfolding fitting
  misfit_used line h = misfit line (go (leb n ledger_most) refl (leb m table_most) refl)
    where
      go : (a : Bool) → leb n ledger_most ≡ a → (b : Bool) → leb m table_most ≡ b → fitting n m ledger table out ≡ false
      go true p true q = absurd (h (leb-true n ledger_most p, leb-true m table_most q))
      go false p b q = rw p refl
      go true p false q = rw (p, q) refl

  pub misfit_ledger : (line : List ℕ) → (length ledger ≡ ledger_most → ⊥) → {u v k : ℕ} → u ≡ n → v ≡ m → k ≡ 0
      → said u v k ledger table out ≡ answer line n m ledger table out
  unfolding fitting
  misfit_ledger line h = misfit line (rw (ne_eqb (length ledger) ledger_most h, and-false (leb m table_most), and-false (leb n ledger_most)) refl)

  pub misfit_table : (line : List ℕ) → (length table ≡ table_most → ⊥) → {u v k : ℕ} → u ≡ n → v ≡ m → k ≡ 0
      → said u v k ledger table out ≡ answer line n m ledger table out
  unfolding fitting
  misfit_table line h =
      misfit line (rw (ne_eqb (length table) table_most h, and-false (eqb (length ledger) ledger_most), and-false (leb m table_most), and-false (leb n ledger_most)) refl)

  pub misfit_out : (line : List ℕ) → length out < answer_line → {u v k : ℕ} → u ≡ n → v ≡ m → k ≡ 0
      → said u v k ledger table out ≡ answer line n m ledger table out
  unfolding fitting
  misfit_out line h =
      misfit line (rw (
        lt-leb answer_line (length out) h,
        and-false (eqb (length table) table_most),
        and-false (eqb (length ledger) ledger_most),
        and-false (leb m table_most),
        and-false (leb n ledger_most),
      ) refl)

  -- where all are met, what is served in these very buffers is the answer
  pub served_in : (line : List ℕ) → fitting n m ledger table out ≡ true → {u v : ℕ} {l t : List ℕ} → u ≡ n → v ≡ m → l ≡ ledger → t ≡ table
      → {s : Said} → s ≡ say (place (serve_line line (desk_in u v l t)) l t) out → s ≡ answer line n m ledger table out
  served_in line e hu hv hl ht h = h ∙ rw (hu, hv, hl, ht) (sym (answer_fits line e))

-- the answer's line, behind the work of its frame
pub told : (p : Placed) (a o : List ℕ) {i j u v k : ℕ} {ledger table out : List ℕ} → placed i j ledger table a ≡ p → out ≡ laid (line_of a) o → u ≡ i → v ≡ j
    → k ≡ length (line_of a) → said u v k ledger table out ≡ say p o
unfolding say
told p a o e h hu hv hk = rw (← e, h, hu, hv, hk)
