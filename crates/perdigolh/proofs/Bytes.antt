-- Laws of the bytes that a writer holds and of those that a reader has left, where they are known.
use Rattle.std.proofs.Common.{◌≡◌, ℕ, ◌+◌, ◌-◌, ◌<◌, ◌≤◌, List, [], ◌++◌, length, take, drop, Option, None, Some, refl, sym, ap, ◌∙◌, append_assoc, append-nil, arith, length-append, length-drop, take_all, min, Result, Ok, Err, OnOk, OnErr, subst}
use Rattle.std.proofs.Math.Seq.{take-append-add, take-append_seam}
use Rattle.std.proofs.lemmas.List.{take-append-drop, take-append-le, take_min}
use Rattle.std.specs.Io.KnownBytes.{Keeps, Appends, Consumes}
use Rattle.perdigolh.specs.Chunk.{Begins}

pub appends_same : (a : Option (List ℕ)) → Appends a a []
appends_same None = tt
appends_same (Some x) = sym (append-nil x)

pub appends_more : (a b c : Option (List ℕ)) (xs ys : List ℕ) → Appends a b xs → Appends b c ys → Appends a c (xs ++ ys)
appends_more None b c xs ys p q = tt
appends_more (Some x) None c xs ys p q = absurd p
appends_more (Some x) (Some y) None xs ys p q = absurd q
appends_more (Some x) (Some y) (Some z) xs ys p q = q ∙ ap (λ (v : List ℕ). v ++ ys) p ∙ append_assoc x xs ys

-- what is kept has grown by nothing
pub appends_kept : (a b : Option (List ℕ)) → Keeps a b → Appends a b []
appends_kept None b p = tt
appends_kept (Some x) None p = absurd p
appends_kept (Some x) (Some y) p = p ∙ sym (append-nil x)

pub consumes_same : (a : Option (List ℕ)) → Consumes a a []
consumes_same None = tt
consumes_same (Some x) = refl

pub consumes_more : (a b c : Option (List ℕ)) (xs ys : List ℕ) → Consumes a b xs → Consumes b c ys → Consumes a c (xs ++ ys)
consumes_more None b c xs ys p q = tt
consumes_more (Some x) None c xs ys p q = absurd p
consumes_more (Some x) (Some y) None xs ys p q = absurd q
consumes_more (Some x) (Some y) (Some z) xs ys p q = p ∙ ap (λ (v : List ℕ). xs ++ v) q ∙ sym (append_assoc xs ys z)

-- some of the bytes are written, and the rest are to be
pub record Partly (a b : Option (List ℕ)) (bs rest : List ℕ) : Type 0 where
  pub done : List ℕ
  pub parts : bs ≡ done ++ rest
  pub so_far : Appends a b done

-- a write more
pub partly_more : (a b c : Option (List ℕ)) (bs rest : List ℕ) (n : ℕ) → Partly a b bs rest → n ≤ length rest → Appends b c (take n rest)
    → Partly a c bs (take (length rest - n) (drop n rest))
partly_more a b c bs rest n p k q =
    record {
      done = p.done ++ take n rest;
      parts = p.parts ∙ ap (λ (v : List ℕ). p.done ++ v) (sym (take-append-drop n rest)) ∙ sym (append_assoc p.done (take n rest) (drop n rest))
          ∙ ap (λ (v : List ℕ). (p.done ++ take n rest) ++ v) (sym (take_all (length rest - n) (drop n rest) (omega (arith, length-drop n rest))));
      so_far = appends_more a b c p.done (take n rest) p.so_far q;
    }

-- a write that took nothing, before all was written
pub partly_front : (a b c : Option (List ℕ)) (bs rest : List ℕ) → Partly a b bs rest → 0 < length rest → Appends b c []
    → (n : ℕ) × (n < length bs) × Appends a c (take n bs)
partly_front a b c bs rest p k q =
    let A : List ℕ → Type 0 = λ v. Appends a c v in
    let e : p.done ++ [] ≡ take (length p.done) bs =
    append-nil p.done ∙ sym (ap (take (length p.done)) p.parts ∙ take-append_seam p.done rest) in
    (length p.done, omega (arith, ap length p.parts, length-append p.done rest), subst A e (appends_more a b c p.done [] p.so_far q))

pub on_err : {T E P : Type 0} (r : Result T E) → P → OnErr r P
on_err (Ok v) p = tt
on_err (Err x) p = p

-- ---- the beginning of what is to be written

pub begins_all : (a b : Option (List ℕ)) (bs : List ℕ) → Appends a b bs → Begins a b bs
begins_all a b bs p = record { count = length bs; front = rw (take_all (length bs) bs (omega arith)) p }

-- all of it, or where the write failed its beginning
pub begins_either : {T E : Type 0} (r : Result T E) (a b : Option (List ℕ)) (bs : List ℕ) → OnOk r (Appends a b bs)
    → OnErr r ((n : ℕ) × (n < length bs) × Appends a b (take n bs)) → Begins a b bs
begins_either (Ok v) a b bs p q = begins_all a b bs p
begins_either (Err x) a b bs p q = record { count = q.0; front = q.2 }

pub begins_more : (a b c : Option (List ℕ)) (xs ys : List ℕ) → Appends a b xs → Begins b c ys → Begins a c (xs ++ ys)
begins_more a b c xs ys p q =
    record { count = length xs + q.count; front = rw (take-append-add xs ys q.count) (appends_more a b c xs (take q.count ys) p q.front) }

pub begins_longer : (a b : Option (List ℕ)) (xs ys : List ℕ) → Begins a b xs → Begins a b (xs ++ ys)
begins_longer a b xs ys p =
    let n = p.count in
    let e : take (min n (length xs)) (xs ++ ys) ≡ take n xs = take-append-le (min n (length xs)) xs ys (omega arith) ∙ take_min n xs in
    record { count = min n (length xs); front = rw e p.front }

-- ---- a line in parts

pub told : {T E : Type 0} (r : Result T E) (a b c d e : Option (List ℕ)) (what mark words last : List ℕ) → Appends a b what → Appends b c mark → Appends c d words
    → OnOk r (Appends d e last) → OnOk r ((x : List ℕ) × Appends a e (what ++ mark ++ x ++ last))
told (Err x) a b c d e what mark words last p q s t = tt
told (Ok v) a b c d e what mark words last p q s t =
    (words, appends_more a d e (what ++ mark ++ words) last (appends_more a c d (what ++ mark) words (appends_more a b c what mark p q) s) t)
