-- Laws of parts, splices, zeros and equality.
use mathlib.Core.Path.{◌≡◌, refl, sym, ap, ◌∙◌}
use mathlib.Core.List.{List, [], ◌∷◌, ◌++◌, append_assoc, append-nil}
use mathlib.Core.Bool.{Bool, true, false, not, ◌&&◌, false≢true, true≢false, and-true, and_assoc}
use mathlib.Core.Logic.{◌≢◌}
use Prim.Native.Nat.{ℕ, zero, suc, ◌+◌, ◌-◌, ◌≤◌, ◌<◌, min}
use native.Mathlib.Nat.{min-eq_left, min-eq_right}
use native.Mathlib.Omega.{arith}
use lib.Dec.{eqb, leb}
use lib.Pointwise.{pointwise}
use Rattle.std.specs.Prelude.{nat_eq}
use lib.ListN.{length, get_or, take, drop, replicate, drop_of_length-le, length-append, length-take, length-drop, length-replicate, take-append-drop, get_or-append}
use lib.Seq.{take_all, take_at, drop_at, drop-append-le, take-append-le, drop-append-add, drop-drop, drop-nil, get_or-take, get_or-drop, get_or-append-add}
use borrow.Author.Tests.{eq-eqb, eqb-true, leb-true, leb-false, not-true}
use Rattle.octets.proofs.Tests.{both, false_of}
use Rattle.octets.specs.Parts.{part, splice, laid, put, blank, zeros, same}

-- ---- what looks at each byte

-- one byte more
pub zeros_last : (xs : List ℕ) (x : ℕ) → zeros (xs ++ (x ∷ [])) ≡ (zeros xs && eqb x 0)
unfolding zeros
zeros_last [] x = and-true (eqb x 0)
zeros_last (y ∷ ys) x = rw (zeros_last ys x) (sym (and_assoc (eqb y 0) (zeros ys) (eqb x 0)))

-- the library's equality
pub pointwise_same : (s t : List ℕ) → pointwise nat_eq s t ≡ same s t
unfolding same
pointwise_same [] [] = refl
pointwise_same [] (y ∷ ys) = refl
pointwise_same (x ∷ xs) [] = refl
pointwise_same (x ∷ xs) (y ∷ ys) = rw (pointwise_same xs ys)

-- ---- what the tests say

pub same_eq : (s t : List ℕ) → same s t ≡ true → s ≡ t
unfolding same
same_eq [] [] e = refl
same_eq [] (y ∷ ys) e = absurd (false≢true e)
same_eq (x ∷ xs) [] e = absurd (false≢true e)
same_eq (x ∷ xs) (y ∷ ys) e = both (eqb x y) refl e (same_eq xs ys)
  where
    both : (b : Bool) → eqb x y ≡ b → (b && same xs ys) ≡ true → (same xs ys ≡ true → xs ≡ ys) → (x ∷ xs) ≡ (y ∷ ys)
    both true p q more = let a : x ≡ y = eqb-true x y p in let b : xs ≡ ys = more q in cc
    both false p q more = absurd (false≢true q)

pub same_refl : (s : List ℕ) → same s s ≡ true
unfolding same
same_refl [] = refl
same_refl (x ∷ xs) = rw (eq-eqb x x refl) (same_refl xs)

pub same_of : (s t : List ℕ) → s ≡ t → same s t ≡ true
same_of s t e = ap (λ (x : List ℕ). same s x) (sym e) ∙ same_refl s

pub differ_is : (s t : List ℕ) → same s t ≡ false → s ≢ t
differ_is s t f e = true≢false (sym (same_of s t e) ∙ f)

pub differ_of : (s t : List ℕ) → s ≢ t → same s t ≡ false
differ_of s t f = false_of _ (λ e. f (same_eq s t e))

-- all zeros says which list it is
pub zeros_eq : (s : List ℕ) → zeros s ≡ true → s ≡ blank (length s)
unfolding zeros blank
zeros_eq [] e = refl
zeros_eq (x ∷ xs) e = both (eqb x 0) refl e (zeros_eq xs)
  where
    both : (b : Bool) → eqb x 0 ≡ b → (b && zeros xs) ≡ true → (zeros xs ≡ true → xs ≡ replicate (length xs) 0) → (x ∷ xs) ≡ (0 ∷ replicate (length xs) 0)
    both true p q more = let a : x ≡ 0 = eqb-true x 0 p in let b : xs ≡ replicate (length xs) 0 = more q in cc
    both false p q more = absurd (false≢true q)

-- a list of zeros in two pieces
pub zeros_append : (xs ys : List ℕ) → zeros (xs ++ ys) ≡ true → (zeros xs ≡ true) × (zeros ys ≡ true)
unfolding zeros
zeros_append [] ys e = (refl, e)
zeros_append (x ∷ xs) ys e =
    let b = both (eqb x 0) (zeros (xs ++ ys)) e in
    let m = zeros_append xs ys b.1 in
    (rw (b.0, m.0), m.1)

pub zeros_blank : (n : ℕ) → zeros (blank n) ≡ true
unfolding zeros blank
zeros_blank zero = refl
zeros_blank (suc n) = zeros_blank n

-- not all zeros
pub given_is : (s : List ℕ) (n : ℕ) → not (zeros s) ≡ true → s ≢ blank n
given_is s n g z = true≢false (sym (zeros_blank n) ∙ ap zeros (sym z) ∙ not-true _ g)

pub given_of : (s : List ℕ) (n : ℕ) → length s ≡ n → s ≢ blank n → not (zeros s) ≡ true
given_of s n l f = ap not (false_of (zeros s) (λ e. f (zeros_eq s e ∙ ap blank l)))

pub length_blank : (n : ℕ) → length (blank n) ≡ n
unfolding blank
length_blank n = length-replicate n 0

-- ---- a part, a splice

pub part_length : (l : List ℕ) (a n : ℕ) → a + n ≤ length l → length (part l a n) ≡ n
part_length l a n h = simp (length-take, length-drop) (omega arith)

pub splice_length : (l : List ℕ) (a n : ℕ) (xs : List ℕ) → length xs ≡ n → a + n ≤ length l → length (splice l a n xs) ≡ length l
splice_length l a n xs e h = simp (length-append, length-take, length-drop) (omega arith)

part_front : (p y : List ℕ) (b m : ℕ) → b + m ≤ length p → part (p ++ y) b m ≡ part p b m
part_front p y b m h =
    let h1 : b ≤ length p = omega arith in
    let h2 : m ≤ length (drop b p) = simp length-drop (omega arith) in
    rw (drop-append-le b p y h1) (take-append-le m (drop b p) y h2)

drop_back : (p y : List ℕ) (c b : ℕ) → length p ≡ c → c ≤ b → drop b (p ++ y) ≡ drop (b - c) y
drop_back p y c b e h =
    let k : b ≡ length p + (b - c) = omega arith in
    rw k (drop-append-add p y (b - c) ∙ rw (← k))

module _ (l : List ℕ) (a n : ℕ) (xs : List ℕ) (sized : length xs ≡ n) (within : a + n ≤ length l) where
  -- read inside its place
  pub part_same : part (splice l a n xs) a n ≡ xs
  part_same =
      let e : length (take a l) ≡ a = simp length-take (omega arith) in
      rw (drop_at (take a l) (xs ++ drop n (drop a l)) a e) (take_at xs (drop n (drop a l)) n sized)

  -- read outside its place
  pub part_before : (b m : ℕ) → b + m ≤ a → part (splice l a n xs) b m ≡ part l b m
  part_before b m h =
      let k : b + m ≤ length (take a l) = simp length-take (omega arith) in
      part_front (take a l) (xs ++ drop n (drop a l)) b m k
      ∙ sym (part_front (take a l) (drop a l) b m k)
      ∙ rw (take-append-drop a l)

  pub part_behind : (b m : ℕ) → a + n ≤ b → part (splice l a n xs) b m ≡ part l b m
  part_behind b m h =
      let e : length (take a l ++ xs) ≡ a + n = simp (length-append, length-take) (omega arith) in
      let k : a + n + (b - (a + n)) ≡ b = omega arith in
      rw (← append_assoc (take a l) xs (drop n (drop a l)), drop_back (take a l ++ xs) (drop n (drop a l)) (a + n) b e h, drop-drop n a l, drop-drop (b - (a + n)) (a + n) l, k)

splice_front : (p y : List ℕ) (a n : ℕ) (xs : List ℕ) → a + n ≤ length p → splice (p ++ y) a n xs ≡ splice p a n xs ++ y
splice_front p y a n xs h =
    let h1 : a ≤ length p = omega arith in
    let h2 : n ≤ length (drop a p) = simp length-drop (omega arith) in
    rw (take-append-le a p y h1, drop-append-le a p y h1, drop-append-le n (drop a p) y h2)
    (ap (λ (t : List ℕ). take a p ++ t) (sym (append_assoc xs (drop n (drop a p)) y)) ∙ sym (append_assoc (take a p) (xs ++ drop n (drop a p)) y))

-- two splices that do not overlap may change places
pub splice_swap : (l : List ℕ) (a n b m : ℕ) (xs ys : List ℕ) → length xs ≡ n → a + n ≤ b → b ≤ length l
    → splice (splice l a n xs) b m ys ≡ splice (splice l b m ys) a n xs
splice_swap l a n b m xs ys sized apart within =
    let e : length (take b l) ≡ b = simp length-take (omega arith) in
    let h : a + n ≤ length (take b l) = rw e apart in
    let f : splice l a n xs ≡ splice (take b l) a n xs ++ drop b l = ap (λ (t : List ℕ). splice t a n xs) (sym (take-append-drop b l)) ∙ splice_front (take b l) (drop b l) a n xs h in
    let k : length (splice (take b l) a n xs) ≡ b = splice_length (take b l) a n xs sized h ∙ e in
    ap (λ (t : List ℕ). splice t b m ys) f
    ∙ rw (take_at (splice (take b l) a n xs) (drop b l) b k, drop_at (splice (take b l) a n xs) (drop b l) b k)
    (sym (splice_front (take b l) (ys ++ drop m (drop b l)) a n xs h))

-- ---- what is laid over a part

pub length_laid : (xs s : List ℕ) → length (laid xs s) ≡ length s
unfolding laid
length_laid xs s = simp (length-append, length-take, length-drop) (omega arith)

pub laid_all : (xs s : List ℕ) → length xs ≡ length s → laid xs s ≡ xs
unfolding laid
laid_all xs s e =
    let h : length s ≤ length xs = omega arith in
    let k : length xs ≤ length s = omega arith in
    rw (take_all (length s) xs k, drop_of_length-le s h) (append-nil xs)

-- ---- what is written from the front

-- all is written that there is room for
pub laid_front : (xs d : List ℕ) (n : ℕ) → n ≡ min (length xs) (length d) → take n xs ++ drop n d ≡ laid xs d
unfolding laid
laid_front xs d n h = ends (leb (length xs) (length d)) refl
  where
    ends : (t : Bool) → leb (length xs) (length d) ≡ t → take n xs ++ drop n d ≡ take (length d) xs ++ drop (length xs) d
    ends true p =
        let le = leb-true (length xs) (length d) p in
        let k : n ≡ length xs = h ∙ min-eq_left le in
        rw (k, take_all (length xs) xs (omega arith), take_all (length d) xs le)
    ends false p =
        let lt = leb-false (length xs) (length d) p in
        let k : n ≡ length d = h ∙ min-eq_right (omega arith) in
        let z : length d ≤ length xs = omega arith in
        let w : length d ≤ length d = omega arith in
        rw (k, drop_of_length-le d z, drop_of_length-le d w)

-- ---- what is put into a list

pub length_put : (l : List ℕ) (a : ℕ) (xs : List ℕ) → length (put l a xs) ≡ length l
unfolding put
length_put l a xs = simp (length-append, length_laid, length-take, length-drop) (omega arith)

-- nothing is put behind the end
pub put_end : (l : List ℕ) (a : ℕ) (xs : List ℕ) → length l ≤ a → put l a xs ≡ l
unfolding put laid
put_end l a xs h = rw (take_all a l h, drop_of_length-le l h) (ap (λ (t : List ℕ). l ++ t) (drop-nil (length xs)) ∙ append-nil l)

-- where there is room it is a splice
pub put_splice : (l : List ℕ) (a : ℕ) (xs : List ℕ) → a + length xs ≤ length l → put l a xs ≡ splice l a (length xs) xs
unfolding put laid
put_splice l a xs h =
    let k : length xs ≤ length (drop a l) = simp length-drop (omega arith) in
    rw (take_all (length (drop a l)) xs k)

module _ (l : List ℕ) (a n : ℕ) (xs : List ℕ) (sized : length xs ≡ n) (within : a + n ≤ length l) where
  is_splice : put l a xs ≡ splice l a n xs
  is_splice = put_splice l a xs (rw sized within) ∙ ap (λ (m : ℕ). splice l a m xs) sized

  pub put_same : part (put l a xs) a n ≡ xs
  put_same = rw is_splice (part_same l a n xs sized within)

  pub put_before : (b m : ℕ) → b + m ≤ a → part (put l a xs) b m ≡ part l b m
  put_before b m h = rw is_splice (part_before l a n xs sized within b m h)

  pub put_behind : (b m : ℕ) → a + n ≤ b → part (put l a xs) b m ≡ part l b m
  put_behind b m h = rw is_splice (part_behind l a n xs sized within b m h)

-- ---- what is laid and put, byte by byte

pub laid_in : (xs s : List ℕ) (i : ℕ) → i < length xs → i < length s → get_or (laid xs s) i 0 ≡ get_or xs i 0
unfolding laid
laid_in xs s i h k =
    let m : i < length (take (length s) xs) = simp length-take (omega arith) in
    get_or-append (take (length s) xs) (drop (length xs) s) 0 i m ∙ get_or-take (length s) xs i 0 k

pub laid_past : (xs s : List ℕ) (i : ℕ) → length xs ≤ i → i < length s → get_or (laid xs s) i 0 ≡ get_or s i 0
unfolding laid
laid_past xs s i h k =
    let m : length xs ≤ length s = omega arith in
    let e : length xs + (i - length xs) ≡ i = omega arith in
    rw (take_all (length s) xs m)
    (ap (λ (j : ℕ). get_or (xs ++ drop (length xs) s) j 0) (sym e)
    ∙ get_or-append-add xs (drop (length xs) s) (i - length xs) 0 ∙ get_or-drop (length xs) s (i - length xs) 0
    ∙ ap (λ (j : ℕ). get_or s j 0) e)

module _ (l : List ℕ) (a : ℕ) (xs : List ℕ) (i : ℕ) (inside : i < length l) where
  put_from : a ≤ i → get_or (put l a xs) i 0 ≡ get_or (laid xs (drop a l)) (i - a) 0
  unfolding put
  put_from h =
      let n : length (take a l) ≡ a = simp length-take (omega arith) in
      let e : length (take a l) + (i - a) ≡ i = omega arith in
      ap (λ (j : ℕ). get_or (take a l ++ laid xs (drop a l)) j 0) (sym e) ∙ get_or-append-add (take a l) (laid xs (drop a l)) (i - a) 0

  pub put_in : a ≤ i → i < a + length xs → get_or (put l a xs) i 0 ≡ get_or xs (i - a) 0
  put_in h k =
      let m : i - a < length (drop a l) = simp length-drop (omega arith) in
      put_from h ∙ laid_in xs (drop a l) (i - a) (omega arith) m

  pub put_ahead : i < a → get_or (put l a xs) i 0 ≡ get_or l i 0
  unfolding put
  put_ahead h =
      let m : i < length (take a l) = simp length-take (omega arith) in
      get_or-append (take a l) (laid xs (drop a l)) 0 i m ∙ get_or-take a l i 0 h

  pub put_past : a + length xs ≤ i → get_or (put l a xs) i 0 ≡ get_or l i 0
  put_past h =
      let m : i - a < length (drop a l) = simp length-drop (omega arith) in
      let e : a + (i - a) ≡ i = omega arith in
      put_from (omega arith) ∙ laid_past xs (drop a l) (i - a) (omega arith) m ∙ get_or-drop a l (i - a) 0 ∙ ap (λ (j : ℕ). get_or l j 0) e

-- ---- the part that `put` lends

pub put_rest : (l : List ℕ) (a : ℕ) (xs y : List ℕ) → y ≡ laid xs (part l a (length l - a)) → splice l a (length l - a) y ≡ put l a xs
unfolding put
put_rest l a xs y e =
    let p : length (drop a l) ≤ length l - a = simp length-drop (omega arith) in
    rw (e, take_all (length l - a) (drop a l) p, drop_of_length-le (drop a l) p, append-nil)
