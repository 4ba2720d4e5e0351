-- A list cut into pieces of one size.
use Rattle.std.proofs.Common.{◌≡◌, ℕ, zero, suc, ◌+◌, ◌*◌, ◌<◌, List, [], get_or, take, drop, ap, ◌∙◌, arith}
use Rattle.std.proofs.lemmas.List.{drop-drop}
use Rattle.std.specs.Simd.{first_chunks}

pub get_or-first_chunks : {A : Type 0} (n k i : ℕ) (xs : List A) → i < k → get_or (first_chunks n k xs) i [] ≡ take n (drop (n * i) xs)
get_or-first_chunks n zero i xs h = absurd (omega arith)
get_or-first_chunks n (suc k) zero xs h = let e : 0 ≡ n * 0 = omega arith in ap (λ (j : ℕ). take n (drop j xs)) e
get_or-first_chunks n (suc k) (suc i) xs h =
    let e : n + n * i ≡ n * suc i = omega arith in
    get_or-first_chunks n k i (drop n xs) (omega arith) ∙ ap (take n) (drop-drop (n * i) n xs ∙ ap (λ (j : ℕ). drop j xs) e)
