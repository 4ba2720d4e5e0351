-- FIPS 180-4, section 6.2.2: the hash value of a block, of the first blocks, and the digest of a message.
use Rattle.std.specs.Prelude.{ℕ, zero, suc, List, [], ◌∷◌, ◌++◌, slice_index}
use Rattle.octets.specs.Numbers.{digits}
use Rattle.sha256.specs.declared.round.Working.{Working}
use Rattle.sha256.specs.Word.{sum32}
use Rattle.sha256.specs.Constants.{initial}
use Rattle.sha256.specs.Pad.{pad, blocks, block}
use Rattle.sha256.specs.Schedule.{schedule}
use Rattle.sha256.specs.Round.{rounds}

-- step 2: the working variables a to h begin as the words of the hash value before
abbrev pub working : List ℕ → Working
working h =
    record {
      a = slice_index h 0;
      b = slice_index h 1;
      c = slice_index h 2;
      d = slice_index h 3;
      e = slice_index h 4;
      f = slice_index h 5;
      g = slice_index h 6;
      h = slice_index h 7;
    }

-- step 4: the next hash value is a + H_0, .., h + H_7, sums modulo 2^32
unfoldable pub added : Working → List ℕ → List ℕ
added s h =
    sum32 s.a (slice_index h 0) ∷ sum32 s.b (slice_index h 1) ∷ sum32 s.c (slice_index h 2) ∷ sum32 s.d (slice_index h 3) ∷
    sum32 s.e (slice_index h 4) ∷ sum32 s.f (slice_index h 5) ∷ sum32 s.g (slice_index h 6) ∷ sum32 s.h (slice_index h 7) ∷
    []

-- steps 1 to 4: the next hash value, from the one before and a block
unfoldable pub compress : List ℕ → List ℕ → List ℕ
compress h b = added (rounds (schedule b) (working h) 64) h

-- H(i), after the first i blocks of the padded message p
unfoldable pub hash_value : List ℕ → ℕ → List ℕ
hash_value p zero = initial
hash_value p (suc i) = compress (hash_value p i) (block p i)

-- H_0 ‖ H_1 ‖ .. ‖ H_7: words one after the other, four bytes each
unfoldable pub joined : List ℕ → List ℕ
joined [] = []
joined (w ∷ ws) = digits 4 w ++ joined ws

-- the digest of the message m: the words of H(N), N its number of blocks
unfoldable pub sha256 : List ℕ → List ℕ
sha256 m = joined (hash_value (pad m) (blocks m))
