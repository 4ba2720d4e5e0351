-- Questions on a list: do all pass a test, do some, how many, where is the first, do no two clash.
use Rattle.std.specs.Prelude.{ℕ, zero, suc, ◌+◌, ◌≡◌, Bool, true, false, not, ◌&&◌, ◌||◌, cond, List, [], ◌∷◌, ◌++◌}

-- a test that is passed on answers what q does, whatever post says that it may answer
abbrev pub Computes {ℓ} : {A : Type ℓ} → (A → Bool → Type 0) → (A → Bool) → Type ℓ
Computes {A = A} post q = (x : A) (b : Bool) → post x b → b ≡ q x

-- a test's answer as a number
abbrev pub bit : Bool → ℕ
bit true = 1
bit false = 0

-- all pass
abbrev pub every {ℓ} : {A : Type ℓ} → (A → Bool) → List A → Bool
every q [] = true
every q (x ∷ xs) = q x && every q xs

-- at least one passes
abbrev pub some {ℓ} : {A : Type ℓ} → (A → Bool) → List A → Bool
some q [] = false
some q (x ∷ xs) = q x || some q xs

-- how many pass
abbrev pub count {ℓ} : {A : Type ℓ} → (A → Bool) → List A → ℕ
count q [] = 0
count q (x ∷ xs) = bit (q x) + count q xs

-- the place of the first that passes, the length if none does
abbrev pub place {ℓ} : {A : Type ℓ} → (A → Bool) → List A → ℕ
place q [] = 0
place q (x ∷ xs) = cond (q x) 0 (suc (place q xs))

-- no element clashes with a later one
abbrev pub apart {ℓ} : {A : Type ℓ} → (A → A → Bool) → List A → Bool
apart clash [] = true
apart clash (x ∷ xs) = not (some (clash x) xs) && apart clash xs

-- f 0, f 1, .., f (n - 1)
unfoldable pub tabulate {ℓ} : {A : Type ℓ} → (ℕ → A) → ℕ → List A
tabulate f zero = []
tabulate f (suc n) = tabulate f n ++ (f n ∷ [])
