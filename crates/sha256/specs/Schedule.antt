-- FIPS 180-4, section 6.2.2, step 1: the message schedule of a block.
use Rattle.std.specs.Prelude.{ℕ, zero, suc, ◌+◌, ◌-◌, List, [], ◌∷◌, ◌++◌, slice_index}
use Rattle.octets.specs.Lists.{tabulate}
use Rattle.sha256.specs.Word.{σ0, σ1, sum32}
use Rattle.sha256.specs.Pad.{word_at}

-- σ1(W_t-2) + W_t-7 + σ0(W_t-15) + W_t-16, of the words ws
unfoldable pub next : List ℕ → ℕ → ℕ
next ws t =
    sum32 (sum32 (sum32 (σ1 (slice_index ws (t - 2))) (slice_index ws (t - 7))) (σ0 (slice_index ws (t - 15)))) (slice_index ws (t - 16))

-- the first 16 + j words: M_0, .., M_15, then each from those before it
unfoldable pub words : List ℕ → ℕ → List ℕ
words b zero = tabulate (word_at b) 16
words b (suc j) = words b j ++ (next (words b j) (16 + j) ∷ [])

-- the message schedule, W_t for t from 0 to 63
unfoldable pub schedule : List ℕ → List ℕ
schedule b = words b 48

-- W_t of a block
abbrev pub W : List ℕ → ℕ → ℕ
W b t = slice_index (schedule b) t
