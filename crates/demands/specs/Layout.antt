-- The numbers of a ledger as the bytes that they stand in, and the widths that values are handed in with (document 01, section "Ledger").
use Rattle.std.specs.Prelude.{ℕ, List}
use Rattle.octets.specs.Numbers.{digits}
use Rattle.octets.specs.Spans.{field}
use Rattle.ledger.specs.Fields.{clock_span, next_span, state_span, redirect_length_span, scope_span, grant_span, expiry_span, holder_span, value_span, bound_key_span}

-- "Head: 0..8 clock; 8..16 next grant number"
abbrev pub clock_bytes : List ℕ → List ℕ
clock_bytes l = field clock_span l

abbrev pub next_bytes : List ℕ → List ℕ
next_bytes l = field next_span l

-- of a record: 0 "state", 1 "redirect length", 4..8 "scope bits", 8..16 "grant number", 16..24 "expiry", 24..32 "holder"
abbrev pub state_byte : List ℕ → List ℕ
state_byte r = field state_span r

abbrev pub length_byte : List ℕ → List ℕ
length_byte r = field redirect_length_span r

abbrev pub scope_bytes : List ℕ → List ℕ
scope_bytes r = field scope_span r

abbrev pub grant_bytes : List ℕ → List ℕ
grant_bytes r = field grant_span r

abbrev pub expiry_bytes : List ℕ → List ℕ
expiry_bytes r = field expiry_span r

abbrev pub holder_bytes : List ℕ → List ℕ
holder_bytes r = field holder_span r

-- a number as one byte, as four, as eight
abbrev pub byte : ℕ → List ℕ
byte n = digits state_span.width n

abbrev pub four_bytes : ℕ → List ℕ
four_bytes n = digits scope_span.width n

abbrev pub eight_bytes : ℕ → List ℕ
eight_bytes n = digits grant_span.width n

-- how long a value and a key are
abbrev pub value_long : ℕ
value_long = value_span.width

abbrev pub key_long : ℕ
key_long = bound_key_span.width
