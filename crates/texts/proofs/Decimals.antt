-- Laws of decimal: the text of a number is its digits and no other text is, its length, and what a loop that writes it keeps.
use Prim.Native.Nat.{ℕ, zero, suc, ◌+◌, ◌-◌, ◌*◌, ◌/◌, ◌%◌, ◌^◌, ◌≤◌, ◌<◌}
use native.Mathlib.Omega.{arith}
use mathlib.Core.Path.{◌≡◌, refl, sym, ap, ◌∙◌}
use mathlib.Core.Logic.{⊎_elim}
use mathlib.Core.Bool.{Bool, true}
use mathlib.Core.List.{List, [], ◌∷◌, ◌++◌, append_assoc}
use lib.Dec.{leb}
use lib.ListN.{length, get_or, take, drop, set, length-append, length-drop, length-set, get_or-append}
use lib.Seq.{take-suc, take_all, drop-cons, drop-set-lt, get_or-set_same}
use borrow.Author.Tests.{lt-ltb, le-ltb, le-leb, leb-true}
use Rattle.octets.specs.Lists.{every}
use Rattle.octets.proofs.Lists.{every_at}
use Rattle.octets.proofs.Tests.{both, lt_or_le}
use Rattle.texts.specs.Decimal.{is_decimal, value_from, value, decimal_in, decimal, TheDigits, decimal_most}

-- ---- one digit, or one more

in_one : (k n : ℕ) → n < 10 → decimal_in (suc k) n ≡ (48 + n) ∷ []
unfolding decimal_in
in_one k n h = rw (lt-ltb n 10 h)

in_more : (k n : ℕ) → 10 ≤ n → decimal_in (suc k) n ≡ decimal_in k (n / 10) ++ ((48 + n % 10) ∷ [])
unfolding decimal_in
in_more k n h = rw (le-ltb n 10 h)

-- any number above n will do
in_any : (k m n : ℕ) → n < k → n < m → decimal_in k n ≡ decimal_in m n
in_any zero m n h i = absurd (omega arith)
in_any (suc k) zero n h i = absurd (omega arith)
in_any (suc k) (suc m) n h i =
    ⊎_elim (λ l. in_one k n l ∙ sym (in_one m n l))
    (λ l. in_more k n l ∙ ap (λ (t : List ℕ). t ++ ((48 + n % 10) ∷ [])) (in_any k m (n / 10) (omega arith) (omega arith)) ∙ sym (in_more m n l))
    (lt_or_le n 10)

pub decimal_one : (n : ℕ) → n < 10 → decimal n ≡ (48 + n) ∷ []
unfolding decimal
decimal_one n h = in_one n n h

pub decimal_more : (n : ℕ) → 10 ≤ n → decimal n ≡ decimal (n / 10) ++ ((48 + n % 10) ∷ [])
unfolding decimal
decimal_more n h = in_more n n h ∙ ap (λ (t : List ℕ). t ++ ((48 + n % 10) ∷ [])) (in_any n (suc (n / 10)) (n / 10) (omega arith) (omega arith))

-- ---- its value, its digits, its first digit, its length

value_last : (acc : ℕ) (xs : List ℕ) (c : ℕ) → value_from acc (xs ++ (c ∷ [])) ≡ value_from acc xs * 10 + (c - 48)
unfolding value_from
value_last acc [] c = refl
value_last acc (x ∷ xs) c = value_last (acc * 10 + (x - 48)) xs c

value_one : (c : ℕ) → value (c ∷ []) ≡ c - 48
unfolding value value_from
value_one c = omega arith

value_more : (xs : List ℕ) (c : ℕ) → value (xs ++ (c ∷ [])) ≡ value xs * 10 + (c - 48)
unfolding value
value_more xs c = value_last 0 xs c

digit_is : (d : ℕ) → d < 10 → is_decimal (48 + d) ≡ true
unfolding is_decimal
digit_is d h = let a : 48 ≤ 48 + d = omega arith in let b : 48 + d ≤ 57 = omega arith in rw (le-leb 48 (48 + d) a, le-leb (48 + d) 57 b)

every_snoc : (q : ℕ → Bool) (xs : List ℕ) (c : ℕ) → every q xs ≡ true → q c ≡ true → every q (xs ++ (c ∷ [])) ≡ true
every_snoc q [] c e f = rw f
every_snoc q (x ∷ xs) c e f = let b = both (q x) (every q xs) e in rw b.0 (every_snoc q xs c b.1 f)

-- what a text of n has, for every number k above n
module _ (P : ℕ → List ℕ → Type 0) (one : (n : ℕ) → n < 10 → P n ((48 + n) ∷ []))
    (more : (n : ℕ) (t : List ℕ) → 10 ≤ n → P (n / 10) t → P n (t ++ ((48 + n % 10) ∷ []))) where
  in_all : (k n : ℕ) → n < k → P n (decimal_in k n)
  in_all zero n h = absurd (omega arith)
  in_all (suc k) n h =
      ⊎_elim (λ l. rw (in_one k n l) (one n l)) (λ l. rw (in_more k n l) (more n (decimal_in k (n / 10)) l (in_all k (n / 10) (omega arith)))) (lt_or_le n 10)

  pub by_digits : (n : ℕ) → P n (decimal n)
  unfolding decimal
  by_digits n = in_all (suc n) n (omega arith)

pub value_decimal : (n : ℕ) → value (decimal n) ≡ n
value_decimal =
    by_digits (λ n t. value t ≡ n) (λ n h. value_one (48 + n) ∙ omega arith)
    (λ n t h e. value_more t (48 + n % 10) ∙ omega (arith, e))

pub digits_decimal : (n : ℕ) → every is_decimal (decimal n) ≡ true
digits_decimal =
    by_digits (λ n t. every is_decimal t ≡ true) (λ n h. rw (digit_is n h))
    (λ n t h e. every_snoc is_decimal t (48 + n % 10) e (digit_is (n % 10) (omega arith)))

pub some_decimal : (n : ℕ) → 0 < length (decimal n)
some_decimal = by_digits (λ n t. 0 < length t) (λ n h. omega arith) (λ n t h e. simp length-append (omega arith))

-- the first digit of a number that is not 0
lead_decimal : (n : ℕ) → (0 < length (decimal n)) × (0 < n → 48 < get_or (decimal n) 0 0)
lead_decimal =
    by_digits (λ n t. (0 < length t) × (0 < n → 48 < get_or t 0 0)) (λ n h. (omega arith, λ z. omega arith))
    (λ n t h e. (simp length-append (omega arith), λ z. rw (get_or-append t ((48 + n % 10) ∷ []) 0 0 e.0) (e.1 (omega arith))))

alone_decimal : (n : ℕ) → get_or (decimal n) 0 0 ≡ 48 → length (decimal n) ≡ 1
alone_decimal n e =
    ⊎_elim (λ h. ap length (decimal_one n h)) (λ h. absurd (omega (arith, (lead_decimal n).1 (omega arith)))) (lt_or_le n 10)

pub most_in : (k n : ℕ) → n < 10 ^ suc k → length (decimal n) ≤ suc k
most_in zero n h = let e = ap length (decimal_one n (omega arith)) in omega arith
most_in (suc k) n h =
    ⊎_elim (λ l. let e = ap length (decimal_one n l) in omega arith)
    (λ l. rw (decimal_more n l) (simp length-append (omega (arith, most_in k (n / 10) (omega arith)))))
    (lt_or_le n 10)

pub length_decimal : (n : ℕ) → n < 2 ^ 64 → length (decimal n) ≤ decimal_most
length_decimal n h = most_in 19 n (omega arith)

-- ---- no other text

module _ (t : List ℕ) (digits : every is_decimal t ≡ true) where
  digit_at : (i : ℕ) → i < length t → (48 ≤ get_or t i 0) × (get_or t i 0 ≤ 57)
  unfolding is_decimal
  digit_at i h =
      let p = both (leb 48 (get_or t i 0)) (leb (get_or t i 0) 57) (every_at is_decimal t 0 digits i h) in
      (leb-true 48 (get_or t i 0) p.0, leb-true (get_or t i 0) 57 p.1)

  first_one : 0 < length t → take 1 t ≡ get_or t 0 0 ∷ []
  first_one h = take-suc t 0 0 h

  begun : (m : ℕ) → suc m ≤ length t → (0 < m → 48 < get_or t 0 0)
      → (take (suc m) t ≡ decimal (value (take (suc m) t))) × (48 < get_or t 0 0 → 0 < value (take (suc m) t))
  begun zero h z =
      let d = digit_at 0 (omega arith) in
      let v : value (get_or t 0 0 ∷ []) ≡ get_or t 0 0 - 48 = value_one (get_or t 0 0) in
      let e : 48 + (get_or t 0 0 - 48) ≡ get_or t 0 0 = omega arith in
      rw (first_one (omega arith), v)
      (sym (decimal_one (get_or t 0 0 - 48) (omega arith) ∙ ap (λ (c : ℕ). c ∷ []) e), λ l. omega arith)
  begun (suc m) h z =
      let i = begun m (omega arith) (λ l. z (omega arith)) in
      let d = digit_at (suc m) (omega arith) in
      let c = get_or t (suc m) 0 in
      let w = value (take (suc m) t) in
      let p : 0 < w = i.1 (z (omega arith)) in
      let v : value (take (suc m) t ++ (c ∷ [])) ≡ w * 10 + (c - 48) = value_more (take (suc m) t) c in
      let q : (w * 10 + (c - 48)) / 10 ≡ w = omega arith in
      let r : 48 + (w * 10 + (c - 48)) % 10 ≡ c = omega arith in
      rw (take-suc t (suc m) 0 (omega arith), v)
      (sym (decimal_more (w * 10 + (c - 48)) (omega arith) ∙ rw (q, r, ← i.0)), λ l. omega arith)

pub the_digits : TheDigits
the_digits n = (
  record { digits = digits_decimal n; some = some_decimal n; stands = value_decimal n; alone = alone_decimal n },
  λ t d.
      let s = d.some in
      let k : suc (length t - 1) ≡ length t = omega arith in
      let lead : 0 < length t - 1 → 48 < get_or t 0 0 = λ l. ⊎_elim (λ x. x) (λ x. absurd (omega (arith, d.alone (omega (arith, digit_at t d.digits 0 s)), l))) (lt_or_le 48 (get_or t 0 0)) in
      let e : take (suc (length t - 1)) t ≡ decimal (value (take (suc (length t - 1)) t)) = (begun t d.digits (length t - 1) (omega arith) lead).0 in
      let a : take (length t) t ≡ t = take_all (length t) t (omega arith) in
      sym a ∙ rw k at e ∙ ap decimal (ap value a ∙ d.stands),
)

-- two numbers with one text are equal
pub decimal_injective : (n m : ℕ) → decimal n ≡ decimal m → n ≡ m
decimal_injective n m e = sym (value_decimal n) ∙ ap value e ∙ value_decimal m

-- ---- a loop that writes the digits from the end

-- a digit in front of those from place a on
in_front : (t : List ℕ) (a v : ℕ) → 0 < a → a ≤ length t → drop (a - 1) (set t (a - 1) v) ≡ v ∷ drop a t
in_front t a v z h =
    let l : a - 1 < length (set t (a - 1) v) = simp length-set (omega arith) in
    let s : suc (a - 1) ≡ a = omega arith in
    drop-cons (set t (a - 1) v) (a - 1) 0 l ∙ rw (get_or-set_same t (a - 1) v 0 (omega arith), s, drop-set-lt a t (a - 1) v (omega arith))

-- the digits behind place at are written, and rest is what is left of n
pub record Spelled (n : ℕ) (t : List ℕ) (at rest : ℕ) : Type 0 where
  pub some : 0 < at
  pub within : at ≤ decimal_most
  pub sized : length t ≡ decimal_most
  pub fits : rest < 10 ^ at
  pub goes : decimal n ≡ decimal rest ++ drop at t

fewer : (a r : ℕ) → 10 ≤ r → r < 10 ^ a → (1 < a) × (r / 10 < 10 ^ (a - 1))
fewer zero r h k = absurd (omega arith)
fewer (suc zero) r h k = absurd (omega arith)
fewer (suc (suc a)) r h k = let e : suc (suc a) - 1 ≡ suc a = omega arith in (omega arith, rw e (omega arith))

module _ (n : ℕ) (t : List ℕ) (at rest v : ℕ) (s : Spelled n t at rest) where
  pub spelled_more : 10 ≤ rest → v ≡ 48 + rest % 10 → Spelled n (set t (at - 1) v) (at - 1) (rest / 10)
  spelled_more h e =
      let f = fewer at rest h s.fits in
      let w = s.within in
      let l = s.sized in
      record {
        some = omega arith;
        within = omega arith;
        sized = length-set t (at - 1) v ∙ l;
        fits = f.1;
        goes = s.goes ∙ ap (λ (x : List ℕ). x ++ drop at t) (decimal_more rest h)
            ∙ append_assoc (decimal (rest / 10)) ((48 + rest % 10) ∷ []) (drop at t)
            ∙ ap (λ (x : List ℕ). decimal (rest / 10) ++ x) (ap (λ (c : ℕ). c ∷ drop at t) (sym e) ∙ sym (in_front t at v s.some (omega arith)));
      }

  pub spelled_last : rest < 10 → v ≡ 48 + rest → (at - 1 + length (decimal n) ≡ decimal_most) × (drop (at - 1) (set t (at - 1) v) ≡ decimal n)
  spelled_last h e =
      let z = s.some in
      let w = s.within in
      let l = s.sized in
      let d : drop (at - 1) (set t (at - 1) v) ≡ decimal n =
      in_front t at v z (omega arith) ∙ sym (s.goes ∙ ap (λ (x : List ℕ). x ++ drop at t) (decimal_one rest h) ∙ ap (λ (c : ℕ). c ∷ drop at t) (sym e)) in
      let k : length (decimal n) ≡ length (set t (at - 1) v) - (at - 1) = sym (ap length d) ∙ length-drop (at - 1) (set t (at - 1) v) in
      let j = length-set t (at - 1) v in
      (omega arith, d)
