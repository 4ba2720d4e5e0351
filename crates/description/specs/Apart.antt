-- What is promised of the texts: two descriptions never have one text, a live text is never the inactive one, and how long one can be (document 02, Q-1).
use Rattle.std.specs.Prelude.{ℕ, ◌+◌, ◌*◌, ◌/◌, ◌^◌, ◌≤◌, ◌<◌, ◌≡◌, ◌≢◌, length}
use Rattle.octets.specs.Plain.{Bytes}
use Rattle.texts.specs.Decimal.{decimal_most}
use Rattle.description.specs.Scope.{scope_width, scope_most, scope_names}
use Rattle.description.specs.Description.{Description, live_text, inactive_text}

-- any bytes as client and key, any numbers as holder and expiry, any bits as scope
pub record Described (d : Description) : Type 0 where
  pub client : Bytes d.client
  pub scope : d.scope < 2 ^ scope_width
  pub key : Bytes d.key

-- "Two different live descriptions never give one text."
abbrev pub Apart : Type 0
Apart = (d e : Description) → Described d → Described e → live_text d ≡ live_text e → d ≡ e

-- "`{"active":false}` when it is unknown or expired, else one object": the one is never the other
abbrev pub NeverInactive : Type 0
NeverInactive = (d : Description) → live_text d ≢ inactive_text

-- ---- "20 when the buffer is shorter than the text": a buffer of this length never is

-- the fields' widths: so many bytes of client and key, two numbers of 64 bits; a scope has 32 names at most, whatever it is
abbrev pub client_size : ℕ
client_size = 16

abbrev pub key_size : ℕ
key_size = 32

pub record Fielded (d : Description) : Type 0 where
  pub client : length d.client ≡ client_size
  pub holder : d.holder < 2 ^ 64
  pub expiry : d.expiry < 2 ^ 64
  pub key : length d.key ≡ key_size

-- with n digits of expiry: the opening, then client_id of 32 digits, sub of at most 20, exp, scope of at most 117 characters and cnf of 43, each with what
-- stands around it and the comma or brace behind it
abbrev pub most_with : ℕ → ℕ
most_with n =
    15 + (14 + 2 * client_size + 1) + (8 + decimal_most + 1) + (6 + n + 1) + (10 + scope_most + 1) + (21 + (4 * key_size + 2) / 3 + 1)

-- any values of these widths: 311
abbrev pub widest_most : ℕ
widest_most = most_with decimal_most

-- those of a sound record, whose expiry is below the ledger's limit and so has at most 13 digits: 304
abbrev pub expiry_digits : ℕ
expiry_digits = 13

abbrev pub live_most : ℕ
live_most = most_with expiry_digits

pub record Longest : Type 0 where
  pub scope : (s : ℕ) → length (scope_names s) ≤ scope_most
  pub widest : (d : Description) → Fielded d → length (live_text d) ≤ widest_most
  pub sound : (d : Description) → Fielded d → d.expiry < 10 ^ expiry_digits → length (live_text d) ≤ live_most
