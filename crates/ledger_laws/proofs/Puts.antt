-- What is read of a record after fields of it were written: each field written says what was put there, each other part what it said.
use Prim.Native.Nat.{ℕ, ◌+◌, ◌≤◌, ◌<◌}
use native.Mathlib.Omega.{arith}
use native.Mathlib.Decide.{dec_lt}
use mathlib.Core.Path.{◌≡◌, refl, sym, ap, ap₂, ◌∙◌}
use mathlib.Core.Bool.{Bool, true, false, ◌||◌, ◌&&◌, cond}
use mathlib.Core.List.{List, [], ◌∷◌, ◌++◌, append-nil}
use lib.Dec.{eqb, leb, lit≤}
use lib.ListN.{length, get_or, take, drop, length-append, length-take, length-drop, drop_of_length-le}
use lib.Seq.{get_or-take, get_or-drop, take_all, take-take, take-append-le}
use borrow.Author.Tests.{leb-true, eqb-true}
use Rattle.octets.specs.Parts.{part, laid, put}
use Rattle.octets.specs.Numbers.{digits}
use Rattle.octets.specs.Spans.{field, with_field}
use Rattle.octets.specs.declared.span.Span.{Span}
use Rattle.octets.proofs.Tests.{both}
use Rattle.octets.proofs.Parts.{length_put, put_end, put_splice, put_same, put_before, put_behind}
use Rattle.octets.proofs.Numbers.{length_digits}
use Rattle.ledger.specs.Limits.{record_size}

-- ---- one thing put into a list of any length

-- what stands behind it stays
pub drop_put : (l : List ℕ) (a : ℕ) (xs : List ℕ) (b : ℕ) → a + length xs ≤ b → drop b (put l a xs) ≡ drop b l
drop_put l a xs b h = go (dec_lt b (length l))
  where
    go : Dec (b < length l) → drop b (put l a xs) ≡ drop b l
    go (yes k) =
        let e = put_behind l a (length xs) xs refl (omega arith) b (length l) h in
        sym (take_all (length l) (drop b (put l a xs)) (simp (length-drop, length_put) (omega arith)))
        ∙ e ∙ take_all (length l) (drop b l) (simp length-drop (omega arith))
    go (no k) =
        let m : length l ≤ b = omega (arith, k) in
        let n : length (put l a xs) ≤ b = rw (length_put l a xs) m in
        drop_of_length-le (put l a xs) n ∙ sym (drop_of_length-le l m)

-- and so does what stands before it
pub take_put : (l : List ℕ) (a : ℕ) (xs : List ℕ) (b : ℕ) → b ≤ a → take b (put l a xs) ≡ take b l
unfolding put
take_put l a xs b h = go (dec_lt a (length l))
  where
    go : Dec (a < length l) → take b (put l a xs) ≡ take b l
    go (yes k) =
        let n : length (take a l) ≡ a = simp length-take (omega arith) in
        take-append-le b (take a l) (laid xs (drop a l)) (omega arith) ∙ take-take b a l h
    go (no k) = ap (take b) (put_end l a xs (omega (arith, k)))

-- what is put at the front of the last m bytes is put there with those behind it
pub put_wide : (l : List ℕ) (a m : ℕ) (xs : List ℕ) → length xs ≤ m → a + m ≡ length l → put l a xs ≡ put l a (xs ++ drop (length xs) (part l a m))
put_wide l a m xs h e =
    let p : length (drop a l) ≤ m = simp length-drop (omega arith) in
    let q : length (xs ++ drop (length xs) (drop a l)) ≡ m = simp (length-append, length-drop) (omega arith) in
    rw (put_splice l a xs (omega arith), take_all m (drop a l) p, put_splice l a (xs ++ drop (length xs) (drop a l)) (omega arith), q, drop_of_length-le (drop a l) p, append-nil)

-- one byte, as a field of one byte
pub byte_at : (r : List ℕ) (a : ℕ) → get_or r a 0 ≡ get_or (part r a 1) 0 0
byte_at r a =
    let e : a + 0 ≡ a = omega arith in
    sym (get_or-take 1 (drop a r) 0 0 (lit≤ tt) ∙ get_or-drop a r 0 0 ∙ ap (λ (i : ℕ). get_or r i 0) e)

-- ---- fields stored in a record, one after the other

pub record Store : Type 0 where
  pub span : Span
  pub bytes : List ℕ
  pub sized : length bytes ≡ span.width
  pub room : span.place + span.width ≤ record_size

-- a number, as wide as its field
abbrev pub of_number : (s : Span) (v : ℕ) → s.place + s.width ≤ record_size → Store
of_number s v h = record { span = s; bytes = digits s.width v; sized = length_digits s.width v; room = h }

abbrev pub of_bytes : (s : Span) (xs : List ℕ) → length xs ≡ s.width → s.place + s.width ≤ record_size → Store
of_bytes s xs e h = record { span = s; bytes = xs; sized = e; room = h }

-- the record after these, the last one first
abbrev pub stored : List Store → List ℕ → List ℕ
stored [] r = r
stored (w ∷ ws) r = with_field w.span w.bytes (stored ws r)

-- two fields that do not meet, by a test that computes
abbrev pub aside : Span → Span → Bool
aside s t = leb (t.place + t.width) s.place || leb (s.place + s.width) t.place

abbrev pub hits : Store → Span → Bool
hits w t = eqb w.span.place t.place && eqb w.span.width t.width

-- the field is one of those stored, or aside of all of them
abbrev pub clean : List Store → Span → Bool
clean [] t = true
clean (w ∷ ws) t = hits w t || (aside w.span t && clean ws t)

-- and this is what is read there
abbrev pub reads : List Store → List ℕ → Span → List ℕ
reads [] r t = field t r
reads (w ∷ ws) r t = cond (hits w t) w.bytes (reads ws r t)

pub length_stored : (ws : List Store) (r : List ℕ) → length (stored ws r) ≡ length r
length_stored [] r = refl
length_stored (w ∷ ws) r = length_put (stored ws r) w.span.place w.bytes ∙ length_stored ws r

pub put_field : (r : List ℕ) (s : Span) (xs : List ℕ) → length xs ≡ s.width → s.place + s.width ≤ length r → (t : Span) → aside s t ≡ true
    → field t (with_field s xs r) ≡ field t r
put_field r s xs e h t z = go (leb (t.place + t.width) s.place) refl
  where
    go : (p : Bool) → leb (t.place + t.width) s.place ≡ p → field t (with_field s xs r) ≡ field t r
    go true p = put_before r s.place s.width xs e h t.place t.width (leb-true (t.place + t.width) s.place p)
    go false p = put_behind r s.place s.width xs e h t.place t.width (leb-true (s.place + s.width) t.place (rw p at z))

pub stored_reads : (ws : List Store) (r : List ℕ) → length r ≡ record_size → (t : Span) → clean ws t ≡ true → field t (stored ws r) ≡ reads ws r t
stored_reads [] r h t z = refl
stored_reads (w ∷ ws) r h t z = go (hits w t) refl (stored_reads ws r h t)
  where
    room : w.span.place + w.span.width ≤ length (stored ws r)
    room = rw (length_stored ws r, h) w.room

    go : (p : Bool) → hits w t ≡ p → (clean ws t ≡ true → field t (stored ws r) ≡ reads ws r t)
        → field t (with_field w.span w.bytes (stored ws r)) ≡ cond p w.bytes (reads ws r t)
    go true p ih =
        let (x, y) = both (eqb w.span.place t.place) (eqb w.span.width t.width) p in
        let e : t.place ≡ w.span.place = sym (eqb-true w.span.place t.place x) in
        let f : t.width ≡ w.span.width = sym (eqb-true w.span.width t.width y) in
        ap₂ (λ (a n : ℕ). part (with_field w.span w.bytes (stored ws r)) a n) e f
        ∙ put_same (stored ws r) w.span.place w.span.width w.bytes w.sized room
    go false p ih =
        let (x, y) = both (aside w.span t) (clean ws t) (rw p at z) in
        put_field (stored ws r) w.span w.bytes w.sized room t x ∙ ih y

-- aside of all of them
abbrev pub spared : List Store → Span → Bool
spared [] t = true
spared (w ∷ ws) t = aside w.span t && spared ws t

pub stored_spared : (ws : List Store) (r : List ℕ) → length r ≡ record_size → (t : Span) → spared ws t ≡ true → field t (stored ws r) ≡ field t r
stored_spared [] r h t z = refl
stored_spared (w ∷ ws) r h t z =
    let (x, y) = both (aside w.span t) (spared ws t) z in
    put_field (stored ws r) w.span w.bytes w.sized (rw (length_stored ws r, h) w.room) t x ∙ stored_spared ws r h t y
