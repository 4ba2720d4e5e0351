-- The inputs that the cases are met with: those of history's example, with another scope, text, redirect, fresh value or verifier.
use Prim.Native.Nat.{ℕ}
use mathlib.Core.Bool.{true}
use mathlib.Core.List.{List, [], ◌∷◌, ◌++◌}
use lib.ListN.{replicate}
use Rattle.desk.specs.Requests.{PushRequest, DecideRequest, TokenRequest}
use Rattle.history.specs.Example.{program, program_key}

-- the texts of the digests of the character a, 42 and 129 times, as an outside program gives them

-- elOGB_2quSlplZKfRRVlu7gULhhEEXMiqv0rPXawGv8
abbrev pub text42 : List ℕ
text42 =
    0x65 ∷ 0x6C ∷ 0x4F ∷ 0x47 ∷ 0x42 ∷ 0x5F ∷ 0x32 ∷ 0x71 ∷ 0x75 ∷ 0x53 ∷ 0x6C ∷ 0x70 ∷ 0x6C ∷ 0x5A ∷ 0x4B ∷ 0x66 ∷
    0x52 ∷ 0x52 ∷ 0x56 ∷ 0x6C ∷ 0x75 ∷ 0x37 ∷ 0x67 ∷ 0x55 ∷ 0x4C ∷ 0x68 ∷ 0x68 ∷ 0x45 ∷ 0x45 ∷ 0x58 ∷ 0x4D ∷ 0x69 ∷
    0x71 ∷ 0x76 ∷ 0x30 ∷ 0x72 ∷ 0x50 ∷ 0x58 ∷ 0x61 ∷ 0x77 ∷ 0x47 ∷ 0x76 ∷ 0x38 ∷ []

-- wSywJKLlVRzKDgj86PHF4xRVXMP-9jKe6ZSj23UhZq4
abbrev pub text129 : List ℕ
text129 =
    0x77 ∷ 0x53 ∷ 0x79 ∷ 0x77 ∷ 0x4A ∷ 0x4B ∷ 0x4C ∷ 0x6C ∷ 0x56 ∷ 0x52 ∷ 0x7A ∷ 0x4B ∷ 0x44 ∷ 0x67 ∷ 0x6A ∷ 0x38 ∷
    0x36 ∷ 0x50 ∷ 0x48 ∷ 0x46 ∷ 0x34 ∷ 0x78 ∷ 0x52 ∷ 0x56 ∷ 0x58 ∷ 0x4D ∷ 0x50 ∷ 0x2D ∷ 0x39 ∷ 0x6A ∷ 0x4B ∷ 0x65 ∷
    0x36 ∷ 0x5A ∷ 0x53 ∷ 0x6A ∷ 0x32 ∷ 0x33 ∷ 0x55 ∷ 0x68 ∷ 0x5A ∷ 0x71 ∷ 0x34 ∷ []

-- the table of that example for a harbour kiosk: its record says 599
abbrev pub kiosk : List ℕ
kiosk = program ++ (program_key ++ (0 ∷ 0 ∷ 0 ∷ 5 ∷ 0x02 ∷ 0x57 ∷ replicate 10 0))

-- the requests of a grant: bits asked, challenge and redirect; fresh value of the consent; verifier
abbrev pub asking : ℕ → List ℕ → List ℕ → PushRequest
asking bits text target =
    record {
      client = program;
      key = program_key;
      scope = bits;
      challenge = text;
      redirect = target;
      fresh = replicate 32 5;
    }

abbrev pub allowing : List ℕ → DecideRequest
allowing fresh = record { reference = replicate 32 5; client = program; yes = true; holder = 9; fresh = fresh }

abbrev pub code : List ℕ
code = replicate 32 6

abbrev pub redeeming : List ℕ → TokenRequest
redeeming verifier =
    record {
      client = program;
      key = program_key;
      presented = replicate 32 7;
      code = code;
      verifier = verifier;
      fresh = replicate 32 8;
    }
