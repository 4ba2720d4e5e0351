-- Laws of a buffer whose front is in use: what a frame writes there, and what stays.
use Prim.Native.Nat.{ℕ, ◌+◌, ◌*◌, ◌-◌, ◌%◌, ◌≤◌, ◌<◌}
use native.Mathlib.Omega.{arith}
use mathlib.Core.Path.{◌≡◌, refl, sym, ap, ◌∙◌}
use mathlib.Core.Bool.{true, false}
use mathlib.Core.List.{List, ◌++◌, append_assoc}
use lib.ListN.{length, take, drop, length-append, length-drop, take-append-drop}
use lib.Seq.{take_all, drop-drop, length-take-le}
use borrow.Author.Tests.{le-leb, lt-leb, eq-eqb}
use Rattle.octets.specs.Parts.{laid, put, part}
use Rattle.octets.proofs.Parts.{put_splice, part_length, length_put, length_blank}
use Rattle.ledger.specs.Sound.{sized}
use Rattle.desk.specs.Answers.{done, number_of}
use Rattle.desk.specs.declared.answer.Refusal.TheVariants.{LedgerUnsound, TableUnsound}
use Rattle.desk.specs.Outcome.{Outcome, left}
use Rattle.desk.specs.Start.{start, empty_ledger}
use Rattle.std.proofs.Common.{Option, Some}
use Rattle.wire.specs.declared.kind.Kind.{Kind}
use Rattle.wire.specs.declared.kind.Kind.TheVariants.{Start, Push, Decide, Token, Resource, Sweep, Client}
use Rattle.texts.specs.Hex.{between}
use Rattle.wire.specs.Kinds.{kind_of}
use Rattle.wire.specs.Calls.{slot_count}
use Rattle.wire.specs.Answers.{number_bytes, no_frame}
use Rattle.frames.specs.Serve.{Desk, Written, written, Served, served, started, appended, on_ledger, on_table, called, serve}
use Rattle.frames.specs.Hold.{desk_in, Filled, filled, fill, Placed, placed, place}
use Rattle.texts.proofs.Digits.{inside, below, above}

-- a front laid over its own buffer
pub laid_front : (n : ℕ) (l : List ℕ) → n ≤ length l → laid (take n l) l ≡ l
unfolding laid
laid_front n l h =
    let k : length (take n l) ≡ n = length-take-le n l h in
    let m : length (take n l) ≤ length l = omega arith in
    rw (take_all (length l) (take n l) m, k) (take-append-drop n l)

-- a front as long as the old one
pub laid_part : (l xs : List ℕ) (n : ℕ) → length xs ≡ n → n ≤ length l → laid xs l ≡ xs ++ drop n l
unfolding laid
laid_part l xs n e h =
    let m : length xs ≤ length l = omega arith in
    rw (take_all (length l) xs m, e)

module _ (l : List ℕ) (n : ℕ) (within : n ≤ length l) where
  pub fill_same : {u : ℕ} {a b : List ℕ} → u ≡ n → a ≡ b → filled u l a ≡ fill (written (take n l) b) l
  unfolding fill
  fill_same e h = rw (e, h, length-take-le n l within, laid_front n l within)

  pub fill_part : (w : Written) {x a : List ℕ} → written x a ≡ w → length x ≡ length (take n l) → filled n (x ++ drop n l) a ≡ fill w l
  unfolding fill
  fill_part w {x} {a} e h =
      let k : length x ≡ n = h ∙ length-take-le n l within in
      rw (← e, k, laid_part l x n k within)

-- ---- start

module _ (f l : List ℕ) (n : ℕ) (within : n ≤ length l) where
  few : between 1 200 (slot_count f) ≡ false → {u : ℕ} {a : List ℕ} → u ≡ n → a ≡ number_bytes (number_of LedgerUnsound) → filled u l a ≡ fill (started f (take n l)) l
  unfolding started
  few b e h = rw b (fill_same l n within e h)

  pub start_few : {s u : ℕ} {a : List ℕ} → s ≡ slot_count f → s < 1 → u ≡ n → a ≡ number_bytes (number_of LedgerUnsound) → filled u l a ≡ fill (started f (take n l)) l
  start_few g h = few (below 1 200 (slot_count f) (rw g at h))

  pub start_many : {s u : ℕ} {a : List ℕ} → s ≡ slot_count f → 200 < s → u ≡ n → a ≡ number_bytes (number_of LedgerUnsound) → filled u l a ≡ fill (started f (take n l)) l
  start_many g h = few (above 1 200 (slot_count f) (rw g at h))

pub length_empty : (n : ℕ) → length (empty_ledger n) ≡ n
unfolding empty_ledger
length_empty n = length_put _ 8 _ ∙ length_blank n

sized_of : (l : List ℕ) (s : ℕ) → 1 ≤ s → s ≤ 200 → length l ≡ 32 + s * 256 → sized l ≡ true
unfolding sized
sized_of l s h k e =
    let a : 288 ≤ length l = omega arith in
    let b : length l ≤ 51232 = omega arith in
    let c : (length l - 32) % 256 ≡ 0 = omega arith in
    rw (le-leb 288 (length l) a, le-leb (length l) 51232 b, eq-eqb ((length l - 32) % 256) 0 c)

start_is : (l : List ℕ) → sized l ≡ true → start l ≡ left done (empty_ledger (length l))
unfolding start
start_is l e = rw e

pub start_done : (f l : List ℕ) (m s : ℕ) {k : ℕ} {x a : List ℕ} → s ≡ slot_count f → 1 ≤ s → s ≤ 200 → length l ≡ 51232
    → left k x ≡ start (take (32 + s * 256) l) → a ≡ number_bytes k → filled (32 + s * 256) (x ++ drop (32 + s * 256) l) a ≡ fill (started f (take m l)) l
unfolding started fill
start_done f l m s {k} {x} {a} g h i j e q =
    let n : length (take (32 + s * 256) l) ≡ 32 + s * 256 = length-take-le (32 + s * 256) l (omega arith) in
    let b : left k x ≡ left done (empty_ledger (32 + s * 256)) = e ∙ start_is (take (32 + s * 256) l) (sized_of (take (32 + s * 256) l) s h i n) ∙ ap (λ (v : ℕ). left done (empty_ledger v)) n in
    let c : x ≡ empty_ledger (32 + s * 256) = ap (λ (o : Outcome ℕ). o.ledger) b in
    let d : k ≡ done = ap (λ (o : Outcome ℕ). o.answer) b in
    let o = length_empty (32 + s * 256) in
    rw (← g, inside 1 200 s h i, q, d, c, o, laid_part l (empty_ledger (32 + s * 256)) (32 + s * 256) o (omega arith))

-- ---- a client's record

module _ (f t : List ℕ) (n : ℕ) (within : n ≤ length t) where
  pub append_full : {u : ℕ} {a : List ℕ} → 4096 < n + 64 → u ≡ n → a ≡ number_bytes (number_of TableUnsound) → filled u t a ≡ fill (appended f (take n t)) t
  unfolding appended
  append_full h e k =
      let m = length-take-le n t within in
      rw (m, lt-leb (n + 64) 4096 h) (fill_same t n within e k)

  pub append_done : {x y a : List ℕ} → n + 64 ≤ 4096 → length t ≡ 4096 → 65 ≤ length f → y ≡ part f 1 64 → x ≡ put t n y → a ≡ number_bytes done
      → filled (n + 64) x a ≡ fill (appended f (take n t)) t
  unfolding appended fill
  append_done {x} {y} {a} h s k e g q =
      let m = length-take-le n t within in
      let r : length (part f 1 64) ≡ 64 = part_length f 1 64 (omega arith) in
      let w : n + length (part f 1 64) ≤ length t = omega arith in
      let z : length (take n t ++ part f 1 64) ≡ n + 64 = simp length-append (omega arith) in
      let b : put t n (part f 1 64) ≡ laid (take n t ++ part f 1 64) t =
      put_splice t n (part f 1 64) w ∙ sym (append_assoc (take n t) (part f 1 64) (drop (length (part f 1 64)) (drop n t)))
      ∙ ap (λ (d : List ℕ). take n t ++ part f 1 64 ++ d) (rw r (drop-drop 64 n t)) ∙ sym (laid_part t (take n t ++ part f 1 64) (n + 64) z (omega arith)) in
      rw (m, le-leb (n + 64) 4096 h, q, z, g, e, b)

-- ---- by the kind of frame

pub by_call : (k : Kind) (f l t : List ℕ) {j : Kind} {w : Written} → j ≡ k → w ≡ called k f l t → w ≡ called j f l t
by_call k f l t {j} {w} e h = h ∙ ap (λ (i : Kind). called i f l t) (sym e)

-- a kind that names a call
pub serve_call : (k : Kind) (f : List ℕ) (d : Desk) → (k ≡ Start → ⊥) → (k ≡ Client → ⊥) → serve (Some k) f d ≡ on_ledger (called k f d.ledger d.table) d
serve_call Start f d h g = absurd (h refl)
serve_call Push f d h g = refl
serve_call Decide f d h g = refl
serve_call Token f d h g = refl
serve_call Resource f d h g = refl
serve_call Sweep f d h g = refl
serve_call Client f d h g = absurd (g refl)

module _ (l t : List ℕ) (n m : ℕ) (used : n ≤ length l) (listed : m ≤ length t) where
  -- a frame that writes to the ledger, and one that writes to the table
  pub on_ledger_lem : (w : Written) {u j : ℕ} {x a : List ℕ} → j ≡ m → filled u x a ≡ fill w l → placed u j x t a ≡ place (on_ledger w (desk_in n m l t)) l t
  unfolding fill place
  on_ledger_lem w {u} {j} {x} {a} hj h =
      let o : filled u x a ≡ filled (length w.bytes) (laid w.bytes l) w.answer = h in
      let o1 : u ≡ length w.bytes = ap (λ (v : Filled). v.used) o in
      let o2 : x ≡ laid w.bytes l = ap (λ (v : Filled). v.buffer) o in
      let o3 : a ≡ w.answer = ap (λ (v : Filled). v.answer) o in
      rw (hj, o1, o2, o3, length-take-le m t listed, laid_front m t listed)

  pub on_table_lem : (w : Written) {u i : ℕ} {x a : List ℕ} → i ≡ n → filled u x a ≡ fill w t → placed i u l x a ≡ place (on_table w (desk_in n m l t)) l t
  unfolding fill place
  on_table_lem w {u} {i} {x} {a} hi h =
      let o : filled u x a ≡ filled (length w.bytes) (laid w.bytes t) w.answer = h in
      let o1 : u ≡ length w.bytes = ap (λ (v : Filled). v.used) o in
      let o2 : x ≡ laid w.bytes t = ap (λ (v : Filled). v.buffer) o in
      let o3 : a ≡ w.answer = ap (λ (v : Filled). v.answer) o in
      rw (hi, o1, o2, o3, length-take-le n l used, laid_front n l used)

  -- a call that was lent the front of the ledger's buffer
  pub on_front : (w : Written) {x a : List ℕ} → written x a ≡ w → length (x ++ drop n l) ≡ length l
      → placed n m (x ++ drop n l) t a ≡ place (on_ledger w (desk_in n m l t)) l t
  on_front w {x} {a} e h =
      let k : length x ≡ length (take n l) = omega (arith, length-append x (drop n l), length-drop n l, length-take-le n l used) in
      on_ledger_lem w refl (fill_part l n used w e k)

  -- what is no frame changes nothing
  pub at_none : (s : Served) → s ≡ served (take n l) (take m t) no_frame → {a : List ℕ} → a ≡ no_frame → placed n m l t a ≡ place s l t
  unfolding place
  at_none s e h = rw (e, h, length-take-le n l used, length-take-le m t listed, laid_front n l used, laid_front m t listed)

-- the kind that was found
pub by_kind : (k : Option Kind) (f l t : List ℕ) (d : Desk) → kind_of f ≡ k → {p : Placed} → p ≡ place (serve k f d) l t → p ≡ place (serve (kind_of f) f d) l t
by_kind k f l t d e h = h ∙ ap (λ (j : Option Kind). place (serve j f d) l t) (sym e)
