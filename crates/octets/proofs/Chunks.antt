-- A list cut into pieces of one size, as std's as_chunks cuts it.
use Rattle.std.proofs.Common.{◌≡◌, ℕ, zero, suc, ◌+◌, ◌*◌, ◌<◌, List, [], length, get_or, drop, refl, ap, sym, ◌∙◌, arith, ext_get_or}
use Rattle.std.proofs.lemmas.List.{drop-drop}
use Rattle.std.specs.Simd.{first_chunks}
use Rattle.octets.specs.Lists.{tabulate}
use Rattle.octets.specs.Parts.{part}
use Rattle.octets.proofs.Tabulate.{length_tabulate, get_d_tabulate}

length_chunks : (n m : ℕ) (l : List ℕ) → length (first_chunks n m l) ≡ m
length_chunks n zero l = refl
length_chunks n (suc m) l = ap suc (length_chunks n m (drop n l))

chunk_at : (n m k : ℕ) (l : List ℕ) → k < m → get_or (first_chunks n m l) k [] ≡ part l (n * k) n
chunk_at n zero k l h = absurd (omega arith)
chunk_at n (suc m) zero l h = let e : n * 0 ≡ 0 = omega arith in rw e
chunk_at n (suc m) (suc k) l h =
    let e : n + n * k ≡ n * suc k = omega arith in
    chunk_at n m k (drop n l) (omega arith) ∙ rw (drop-drop, e)

pub chunks_tabulate : (n m : ℕ) (l : List ℕ) → first_chunks n m l ≡ tabulate (λ k. part l (n * k) n) m
chunks_tabulate n m l =
    let f = λ (k : ℕ). part l (n * k) n in
    ext_get_or [] _ (tabulate f m)
    (length_chunks n m l ∙ sym (length_tabulate f m))
    (λ k h. let i : k < m = rw (length_chunks n m l) at h in chunk_at n m k l i ∙ sym (get_d_tabulate f [] m k i))
