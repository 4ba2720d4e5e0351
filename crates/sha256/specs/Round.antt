-- FIPS 180-4, section 6.2.2, step 3: a round, and the first t rounds. The working variables a, .., h are a record.
use Rattle.std.specs.Prelude.{ℕ, zero, suc, List, slice_index}
use Rattle.sha256.specs.declared.round.Working.{Working}
use Rattle.sha256.specs.Word.{Ch, Maj, Σ0, Σ1, sum32}
use Rattle.sha256.specs.Constants.{K}

-- T1 = h + Σ1(e) + Ch(e, f, g) + K_t + W_t
unfoldable pub T1 : ℕ → ℕ → Working → ℕ
T1 k w s = sum32 (sum32 (sum32 (sum32 s.h (Σ1 s.e)) (Ch s.e s.f s.g)) k) w

-- T2 = Σ0(a) + Maj(a, b, c)
abbrev pub T2 : Working → ℕ
T2 s = sum32 (Σ0 s.a) (Maj s.a s.b s.c)

-- h = g, g = f, f = e, e = d + T1, d = c, c = b, b = a, a = T1 + T2
unfoldable pub round : ℕ → ℕ → Working → Working
round k w s =
    record {
      a = sum32 (T1 k w s) (T2 s);
      b = s.a;
      c = s.b;
      d = s.c;
      e = sum32 s.d (T1 k w s);
      f = s.e;
      g = s.f;
      h = s.g;
    }

-- t goes from 0 to 63: the variables after the first t rounds, on the schedule w
unfoldable pub rounds : List ℕ → Working → ℕ → Working
rounds w s zero = s
rounds w s (suc t) = round (slice_index K t) (slice_index w t) (rounds w s t)
