-- The names of a scope tell its bits, and its bits tell the scope.
use Prim.Native.Nat.{ℕ, zero, suc, ◌+◌, ◌*◌, ◌/◌, ◌%◌, ◌^◌, ◌<◌}
use native.Mathlib.Omega.{arith}
use mathlib.Core.Path.{◌≡◌, refl, sym, ap, ap₂, ◌∙◌}
use mathlib.Core.Bool.{Bool, true, false}
use mathlib.Core.List.{List, [], ◌∷◌, ◌++◌, map, append_assoc}
use lib.ListN.{length, get_or, drop}
use lib.Pow.{mod-pow-add}
use borrow.Author.Tests.{eqb-true, eqb-false}
use Rattle.texts.specs.Decimal.{is_decimal, decimal}
use Rattle.texts.proofs.Decimals.{digits_decimal, decimal_injective}
use Rattle.texts.proofs.Apart.{by_length, by_end}
use Rattle.description.specs.Scope.{scope_width, scope_name, is_set, bits_below, spaced, names_below, scope_names}
use Rattle.description.proofs.Names.{bits_set, bits_clear}

-- ---- from names to bits

-- a name and the character behind it
name_end : (b c x y : ℕ) (s t : List ℕ) → is_decimal x ≡ false → is_decimal y ≡ false → scope_name b ++ (x ∷ s) ≡ scope_name c ++ (y ∷ t) → (b ≡ c) × (x ≡ y) × (s ≡ t)
unfolding scope_name
name_end b c x y s t p q e =
    let f : decimal b ++ (x ∷ s) ≡ decimal c ++ (y ∷ t) = ap (drop 1) e in
    let g = by_end is_decimal (decimal b) (decimal c) x y s t (digits_decimal b) (digits_decimal c) p q f in
    let k = (by_length (decimal b) (decimal c) (x ∷ s) (y ∷ t) (ap length g.0) f).1 in
    (decimal_injective b c g.0, ap (λ (l : List ℕ). get_or l 0 0) k, g.1)

first_letter : (b : ℕ) (bs r : List ℕ) → get_or (spaced (map scope_name (b ∷ bs)) ++ r) 0 0 ≡ 115
unfolding spaced scope_name
first_letter b [] r = refl
first_letter b (c ∷ bs) r = refl

quote_first : (b : ℕ) (bs s r : List ℕ) → 34 ∷ s ≡ spaced (map scope_name (b ∷ bs)) ++ r → ⊥
quote_first b bs s r e = let f = ap (λ (l : List ℕ). get_or l 0 0) e in let g = first_letter b bs r in omega arith

blank_next : (b c : ℕ) (bs r : List ℕ) → spaced (map scope_name (b ∷ c ∷ bs)) ++ r ≡ scope_name b ++ (32 ∷ (spaced (map scope_name (c ∷ bs)) ++ r))
unfolding spaced
blank_next b c bs r = append_assoc (scope_name b) _ r

pub names_apart : (bs cs s t : List ℕ) → spaced (map scope_name bs) ++ (34 ∷ s) ≡ spaced (map scope_name cs) ++ (34 ∷ t) → (bs ≡ cs) × (s ≡ t)
unfolding spaced is_decimal
names_apart [] [] s t e = (refl, ap (drop 1) e)
names_apart [] (c ∷ cs) s t e = absurd (quote_first c cs s (34 ∷ t) e)
names_apart (b ∷ bs) [] s t e = absurd (quote_first b bs t (34 ∷ s) (sym e))
names_apart (b ∷ []) (c ∷ []) s t e = let n = name_end b c 34 34 s t refl refl e in (ap (λ (i : ℕ). i ∷ []) n.0, n.2)
names_apart (b ∷ []) (c ∷ d ∷ cs) s t e = absurd (let n = (name_end b c 34 32 s _ refl refl (e ∙ blank_next c d cs (34 ∷ t))).1 in omega arith)
names_apart (b ∷ a ∷ bs) (c ∷ []) s t e = absurd (let n = (name_end c b 34 32 t _ refl refl (sym e ∙ blank_next b a bs (34 ∷ s))).1 in omega arith)
names_apart (b ∷ a ∷ bs) (c ∷ d ∷ cs) s t e =
    let n = name_end b c 32 32 _ _ refl refl (sym (blank_next b a bs (34 ∷ s)) ∙ e ∙ blank_next c d cs (34 ∷ t)) in
    let r = names_apart (a ∷ bs) (d ∷ cs) s t n.2 in
    (ap₂ (λ (i : ℕ) (l : List ℕ). i ∷ l) n.0 r.0, r.1)

-- ---- from bits to the scope

weight : List ℕ → ℕ
weight [] = 0
weight (b ∷ bs) = 2 ^ b + weight bs

weight_more : (bs : List ℕ) (n : ℕ) → weight (bs ++ (n ∷ [])) ≡ weight bs + 2 ^ n
unfolding weight
weight_more [] n = omega arith
weight_more (b ∷ bs) n = omega (arith, weight_more bs n)

weight_none : (s : ℕ) → weight (bits_below s 0) ≡ s % 2 ^ 0
unfolding weight bits_below
weight_none s = omega arith

-- one bit more
low_more : (s n : ℕ) → s % 2 ^ suc n ≡ s / 2 ^ n % 2 * 2 ^ n + s % 2 ^ n
low_more s n = let e : 1 + n ≡ suc n = omega arith in rw e at (mod-pow-add s 1 n)

low_set : (s n : ℕ) → is_set s n ≡ true → s % 2 ^ suc n ≡ s % 2 ^ n + 2 ^ n
unfolding is_set
low_set s n e = low_more s n ∙ rw (eqb-true (s / 2 ^ n % 2) 1 e) (omega arith)

low_clear : (s n : ℕ) → is_set s n ≡ false → s % 2 ^ suc n ≡ s % 2 ^ n
unfolding is_set
low_clear s n e =
    let x = s / 2 ^ n % 2 in
    let f : x ≡ 0 = zero_of x (omega arith) (eqb-false x 1 e) in
    low_more s n ∙ rw f (omega arith)
  where
    zero_of : (x : ℕ) → x < 2 → (x ≡ 1 → ⊥) → x ≡ 0
    zero_of zero h f = refl
    zero_of (suc zero) h f = absurd (f refl)
    zero_of (suc (suc x)) h f = absurd (omega arith)

weight_bits : (s n : ℕ) → weight (bits_below s n) ≡ s % 2 ^ n
weight_bits s zero = weight_none s
weight_bits s (suc n) = by (is_set s n) refl (weight_bits s n)
  where
    by : (b : Bool) → is_set s n ≡ b → weight (bits_below s n) ≡ s % 2 ^ n → weight (bits_below s (suc n)) ≡ s % 2 ^ suc n
    by true e i = ap weight (bits_set s n e) ∙ weight_more (bits_below s n) n ∙ ap (λ (w : ℕ). w + 2 ^ n) i ∙ sym (low_set s n e)
    by false e i = ap weight (bits_clear s n e) ∙ i ∙ sym (low_clear s n e)

pub scope_apart : (s t : ℕ) (x y : List ℕ) → s < 2 ^ scope_width → t < 2 ^ scope_width → scope_names s ++ (34 ∷ x) ≡ scope_names t ++ (34 ∷ y) → (s ≡ t) × (x ≡ y)
unfolding scope_names names_below
scope_apart s t x y h k e =
    let n = names_apart (bits_below s scope_width) (bits_below t scope_width) x y e in
    let w : s % 2 ^ scope_width ≡ t % 2 ^ scope_width = sym (weight_bits s scope_width) ∙ ap weight n.0 ∙ weight_bits t scope_width in
    (omega arith, n.1)
