-- Every byte stays below 256, whatever is written.
use Prim.Native.Nat.{ℕ, zero, suc, ◌+◌, ◌*◌, ◌≤◌, ◌<◌}
use native.Mathlib.Omega.{arith}
use native.Mathlib.Decide.{dec_lt}
use mathlib.Core.Path.{◌≡◌}
use mathlib.Core.Bool.{Bool, true, false, ◌&&◌, cond}
use mathlib.Core.List.{List, [], ◌∷◌}
use lib.Dec.{lit<}
use lib.ListN.{length, get_or, get_or-eq_default}
use Rattle.octets.specs.Parts.{blank}
use Rattle.octets.specs.Numbers.{digits}
use Rattle.octets.proofs.Numbers.{Octets, octets_digits}
use Rattle.octets.proofs.Bytes.{octets_part, octets_put, octets_splice, octets_blank}
use Rattle.forms.specs.Forms.{challenge_formed, redirect_formed}
use Rattle.forms.proofs.Laws.{challenge_ascii, redirect_says}
use Rattle.ledger.specs.Fields.{with_clock, with_next, rec, slots, with_record, used}
use Rattle.ledger.specs.Checks.{expired}
use Rattle.ledger.specs.Write.{pushed, consented, redeemed, free}
use Rattle.ledger.specs.Sweep.{swept_record, swept_to, swept}

-- ---- what is written

-- bytes that are such as far as the list goes are such
octets_within : (xs : List ℕ) → ((i : ℕ) → i < length xs → get_or xs i 0 < 256) → Octets xs
octets_within xs f i = go (dec_lt i (length xs))
  where
    go : Dec (i < length xs) → get_or xs i 0 < 256
    go (yes h) = f i h
    go (no h) =
        let m : length xs ≤ i = omega (arith, h) in
        rw (get_or-eq_default xs 0 m) (omega arith)

pub octets_challenge : (s : List ℕ) → challenge_formed s ≡ true → Octets s
octets_challenge s e = octets_within s (λ i h. omega (arith, challenge_ascii s e i h))

pub octets_redirect : (s : List ℕ) → redirect_formed s ≡ true → Octets s
octets_redirect s e = octets_within s (λ i h. omega (arith, ((redirect_says s).0 e).each i h))

octets_one : (x : ℕ) → x < 256 → Octets (x ∷ [])
octets_one x h zero = h
octets_one x h (suc i) = omega arith

-- ---- records

pub octets_free : Octets free
unfolding free
octets_free = octets_blank 256

pub octets_rec : (l : List ℕ) (k : ℕ) → Octets l → Octets (rec l k)
unfolding rec
octets_rec l k o = octets_part l (32 + k * 256) 256 o

pub octets_pushed : (bits number until : ℕ) (id text fresh target r : List ℕ) → Octets id → Octets text → Octets fresh → Octets target → Octets r
    → Octets (pushed bits number until id text fresh target r)
unfolding pushed
octets_pushed bits number until id text fresh target r i t f u o =
    octets_put _ 192 target
    (octets_put _ 96 fresh
    (octets_put _ 48 text
    (octets_put _ 32 id
    (octets_put _ 16 (digits 8 until)
    (octets_put _ 8 (digits 8 number)
    (octets_put _ 4 (digits 4 bits)
    (octets_put _ 1 (digits 1 (length target)) (octets_put r 0 (1 ∷ []) o (octets_one 1 (lit< tt))) (octets_digits 1 (length target)))
    (octets_digits 4 bits))
    (octets_digits 8 number))
    (octets_digits 8 until))
    i)
    t)
    f)
    u

pub octets_consented : (until who : ℕ) (fresh r : List ℕ) → Octets fresh → Octets r → Octets (consented until who fresh r)
unfolding consented
octets_consented until who fresh r f o =
    octets_put _ 96 fresh
    (octets_put _ 24 (digits 8 who)
    (octets_put _ 16 (digits 8 until) (octets_put r 0 (2 ∷ []) o (octets_one 2 (lit< tt))) (octets_digits 8 until)) (octets_digits 8 who))
    f

pub octets_redeemed : (until : ℕ) (fresh key r : List ℕ) → Octets fresh → Octets key → Octets r → Octets (redeemed until fresh key r)
unfolding redeemed
octets_redeemed until fresh key r f u o =
    octets_put _ 160 key
    (octets_put _ 128 fresh (octets_put _ 16 (digits 8 until) (octets_put r 0 (3 ∷ []) o (octets_one 3 (lit< tt))) (octets_digits 8 until)) f)
    u

-- ---- ledgers

pub octets_clock : (t : ℕ) (l : List ℕ) → Octets l → Octets (with_clock t l)
octets_clock t l o = octets_put l 0 (digits 8 t) o (octets_digits 8 t)

pub octets_next : (n : ℕ) (l : List ℕ) → Octets l → Octets (with_next n l)
octets_next n l o = octets_put l 8 (digits 8 n) o (octets_digits 8 n)

pub octets_with : (l : List ℕ) (k : ℕ) (r : List ℕ) → Octets l → Octets r → Octets (with_record l k r)
octets_with l k r o p = octets_splice l (32 + k * 256) 256 r o p

pub octets_started : (n : ℕ) → Octets (with_next 1 (blank n))
octets_started n = octets_next 1 (blank n) (octets_blank n)

octets_kept : (t : ℕ) (r : List ℕ) → Octets r → Octets (swept_record t r)
unfolding swept_record
octets_kept t r o = elim (used r && expired t r) as (λ (b : Bool). Octets (cond b free r)) [ true ↦ octets_free | false ↦ o ]

pub octets_swept : (t : ℕ) (l : List ℕ) → Octets l → Octets (swept t l)
unfolding swept swept_to
octets_swept t l o = to (slots l)
  where
    to : (k : ℕ) → Octets (swept_to t l k)
    to zero = o
    to (suc k) = octets_with (swept_to t l k) k (swept_record t (rec l k)) (to k) (octets_kept t (rec l k) (octets_rec l k o))
