-- Laws of the message schedule (FIPS 180-4, section 6.2.2, step 1).
use Rattle.std.proofs.Common.{◌≡◌, ℕ, zero, suc, ◌+◌, ◌-◌, ◌*◌, ◌/◌, ◌<◌, ◌≤◌, List, [], ◌∷◌, ◌++◌, length, get_or, take, set, sym, refl, ap, ◌∙◌, add-zero, add-suc, arith, length-append, take_all, get_or-take}
use lib.Seq.{take-append-le, get_or_at}
use Rattle.std.specs.Int.{w32, from_be_bytes}
use Rattle.std.specs.Simd.{first_chunks}
use Rattle.octets.specs.Numbers.{num, num_from}
use Rattle.octets.specs.Parts.{part}
use Rattle.octets.proofs.Parts.{part_length}
use Rattle.octets.proofs.Tabulate.{length_tabulate, get_d_tabulate, grow}
use Rattle.sha256.proofs.Chunks.{get_or-first_chunks}
use Rattle.sha256.specs.Word.{σ0, σ1, sum32}
use Rattle.sha256.specs.Pad.{word_at}
use Rattle.sha256.specs.Schedule.{next, words, schedule, W}

-- ---- the words of a schedule

length_words : (b : List ℕ) (j : ℕ) → length (words b j) ≡ 16 + j
unfolding words
length_words b zero = length_tabulate (word_at b) 16
length_words b (suc j) = rw (length-append, length_words b j) (omega arith)

-- a word depends on those before it only
next_take : (ws : List ℕ) (t : ℕ) → 16 ≤ t → next (take t ws) t ≡ next ws t
unfolding next
next_take ws t h =
    let at : (k : ℕ) → 1 ≤ k → k ≤ 16 → get_or (take t ws) (t - k) 0 ≡ get_or ws (t - k) 0 = λ k p q. get_or-take t ws (t - k) 0 (omega arith) in
    rw (at 2 (omega arith) (omega arith), at 7 (omega arith) (omega arith), at 15 (omega arith) (omega arith), at 16 (omega arith) (omega arith))

take_step : (b : List ℕ) (j n : ℕ) → j ≤ n → take (16 + j) (words b (suc n)) ≡ take (16 + j) (words b n)
unfolding words
take_step b j n h = take-append-le (16 + j) (words b n) _ (omega (arith, length_words b n))

take_words : (b : List ℕ) (j k n : ℕ) → n ≡ j + k → take (16 + j) (words b n) ≡ words b j
take_words b j zero n e = rw e (ap (take (16 + j)) (ap (words b) (add-zero j)) ∙ take_all (16 + j) (words b j) (omega (arith, length_words b j)))
take_words b j (suc k) n e = rw (e, add-suc) (take_step b j (j + k) (omega arith) ∙ take_words b j k (j + k) refl)

last_word : (b : List ℕ) (j : ℕ) → get_or (words b (suc j)) (16 + j) 0 ≡ next (words b j) (16 + j)
unfolding words
last_word b j = get_or_at (words b j) _ [] 0 (16 + j) (length_words b j)

later_word : (b : List ℕ) (j n : ℕ) → j < n → get_or (words b n) (16 + j) 0 ≡ next (words b n) (16 + j)
later_word b j n h =
    sym (get_or-take (16 + suc j) (words b n) (16 + j) 0 (omega arith))
    ∙ ap (λ l. get_or l (16 + j) 0) (take_words b (suc j) (n - suc j) n (omega arith))
    ∙ last_word b j
    ∙ ap (λ l. next l (16 + j)) (sym (take_words b j (n - j) n (omega arith)))
    ∙ next_take (words b n) (16 + j) (omega arith)

first_word : (b : List ℕ) (t n : ℕ) → t < 16 → get_or (words b n) t 0 ≡ word_at b t
unfolding words
first_word b t n h =
    sym (get_or-take 16 (words b n) t 0 h) ∙ ap (λ l. get_or l t 0) (take_words b 0 n n (omega arith)) ∙ get_d_tabulate (word_at b) 0 16 t h

-- ---- as the standard writes them

pub length_schedule : (b : List ℕ) → length (schedule b) ≡ 64
unfolding schedule
length_schedule b = length_words b 48

-- W_t = M_t, t from 0 to 15
pub W-first : (b : List ℕ) (t : ℕ) → t < 16 → W b t ≡ word_at b t
unfolding schedule
W-first b t h = first_word b t 48 h

W-next : (b : List ℕ) (t : ℕ) → 16 ≤ t → t < 64 → W b t ≡ next (schedule b) t
unfolding schedule
W-next b t h k =
    let e : t ≡ 16 + (t - 16) = omega arith in
    rw e (later_word b (t - 16) 48 (omega arith))

-- W_t = σ1(W_t-2) + W_t-7 + σ0(W_t-15) + W_t-16, t from 16 to 63
pub W-later : (b : List ℕ) (t : ℕ) → 16 ≤ t → t < 64
    → W b t ≡ sum32 (sum32 (sum32 (σ1 (W b (t - 2))) (W b (t - 7))) (σ0 (W b (t - 15)))) (W b (t - 16))
unfolding next
W-later b t h k = W-next b t h k

-- ---- for the code

-- the four bytes of a word
num_be : (xs : List ℕ) → length xs ≡ 4 → from_be_bytes w32 xs ≡ num xs
unfolding num num_from
num_be [] h = absurd (omega arith)
num_be (a ∷ []) h = absurd (omega arith)
num_be (a ∷ b ∷ []) h = absurd (omega arith)
num_be (a ∷ b ∷ c ∷ []) h = absurd (omega arith)
num_be (a ∷ b ∷ c ∷ d ∷ []) h = omega arith
num_be (a ∷ b ∷ c ∷ d ∷ x ∷ xs) h = absurd (omega arith)

-- a word, where its block is cut into sixteen
pub chunk_word : (b : List ℕ) (cs : List (List ℕ)) (t : ℕ) → cs ≡ first_chunks 4 (length b / 4) b → length b ≡ 64 → t < 16
    → from_be_bytes w32 (get_or cs t []) ≡ word_at b t
chunk_word b cs t c e h =
    ap (λ (x : List (List ℕ)). from_be_bytes w32 (get_or x t [])) c ∙ ap (from_be_bytes w32) (get_or-first_chunks 4 (length b / 4) t b (omega arith))
    ∙ num_be (part b (4 * t) 4) (part_length b (4 * t) 4 (omega arith))

-- one more word, at its place in an array that holds the words before it
pub grow_words : (b w : List ℕ) (t : ℕ) → 16 ≤ t → t < length w → take t w ≡ words b (t - 16)
    → take (t + 1) (set w t (next w t)) ≡ words b (t + 1 - 16)
unfolding words
grow_words b w t l k h =
    let e : t + 1 - 16 ≡ suc (t - 16) = omega arith in
    let f : 16 + (t - 16) ≡ t = omega arith in
    rw (e, f, grow w t (next w t) h k)
    (ap (λ x. words b (t - 16) ++ (x ∷ [])) (sym (next_take w t l) ∙ ap (λ ws. next ws t) h))
