-- Lifetimes and limits, each under the kind it belongs to. They stand here and in no other definition.
use Rattle.std.specs.Prelude.{ℕ, ◌-◌, ◌^◌}

-- "Lifetimes (.., 60, 300)"; that of a reference is the client's
abbrev pub code_lifetime : ℕ
code_lifetime = 60

abbrev pub token_lifetime : ℕ
token_lifetime = 300

-- "The profile's own limits are: .. code at most 60."
abbrev pub profile_code : ℕ
profile_code = 60

-- "clock below 2^40"
abbrev pub clock_limit : ℕ
clock_limit = 2 ^ 40

-- "expiry below 2^41"
abbrev pub expiry_limit : ℕ
expiry_limit = 2 ^ 41

-- "A 32-byte head and 1 to 200 records of 256 bytes"
abbrev pub head_size : ℕ
head_size = 32

abbrev pub record_size : ℕ
record_size = 256

abbrev pub records_least : ℕ
records_least = 1

abbrev pub records_most : ℕ
records_most = 200

-- "next grant number is 2^64 - 1": the last one, which is never given
abbrev pub last_number : ℕ
last_number = 2 ^ 64 - 1
