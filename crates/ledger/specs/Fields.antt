-- Where the fields of a ledger are (document 01, section "Ledger"): each place named once, to read it and to write it.
use Rattle.std.specs.Prelude.{ℕ, zero, suc, ◌+◌, ◌-◌, ◌*◌, ◌/◌, Bool, not, List, [], ◌∷◌, length, drop, ◌==◌, slice_index, Option, Some, None}
use Rattle.octets.specs.Lists.{tabulate}
use Rattle.octets.specs.Numbers.{num, digits}
use Rattle.octets.specs.Parts.{part, splice}
use Rattle.octets.specs.Spans.{span, field, with_field}
use Rattle.octets.specs.declared.span.Span.{Span}
use Rattle.ledger.specs.Limits.{head_size, record_size}
use Rattle.ledger.specs.declared.state.State.{State}
use Rattle.ledger.specs.declared.state.State.TheVariants.{Free, Pushed, Consented, Redeemed}

-- ---- "Head: 0..8 clock; 8..16 next grant number; 16..32 zero."

abbrev pub clock_span : Span
clock_span = span 0 8

abbrev pub clock : List ℕ → ℕ
clock l = num (field clock_span l)

abbrev pub with_clock : ℕ → List ℕ → List ℕ
with_clock t l = with_field clock_span (digits clock_span.width t) l

abbrev pub next_span : Span
next_span = span 8 16

abbrev pub next_number : List ℕ → ℕ
next_number l = num (field next_span l)

abbrev pub with_next : ℕ → List ℕ → List ℕ
with_next n l = with_field next_span (digits next_span.width n) l

abbrev pub head_rest_span : Span
head_rest_span = span 16 32

abbrev pub head_rest : List ℕ → List ℕ
head_rest l = field head_rest_span l

-- ---- "A 32-byte head and .. records of 256 bytes"

-- where record k begins
abbrev pub address : ℕ → ℕ
address k = head_size + k * record_size

-- record k
unfoldable pub rec : List ℕ → ℕ → List ℕ
rec l k = part l (address k) record_size

-- how many records there are
unfoldable pub slots : List ℕ → ℕ
slots l = (length l - head_size) / record_size

-- the records, in ledger order
unfoldable pub records : List ℕ → List (List ℕ)
records l = tabulate (rec l) (slots l)

-- the ledger with record k replaced
abbrev pub with_record : List ℕ → ℕ → List ℕ → List ℕ
with_record l k r = splice l (address k) record_size r

-- ---- the fields of a record, in the order of the table

-- 0: "state: 0 free, 1 pushed, 2 consented, 3 redeemed"
abbrev pub state_span : Span
state_span = span 0 1

abbrev pub state_number : State → ℕ
state_number Free = 0
state_number Pushed = 1
state_number Consented = 2
state_number Redeemed = 3

-- the state of which this is the number
unfoldable pub stated : ℕ → Option State
stated zero = Some Free
stated (suc zero) = Some Pushed
stated (suc (suc zero)) = Some Consented
stated (suc (suc (suc zero))) = Some Redeemed
stated (suc (suc (suc (suc n)))) = None

abbrev pub state : List ℕ → ℕ
state r = slice_index r state_span.place

abbrev pub state_of : List ℕ → Option State
state_of r = stated (state r)

abbrev pub in_state : State → List ℕ → Bool
in_state s r = state r == state_number s

-- in use: in no way free
abbrev pub used : List ℕ → Bool
used r = not (in_state Free r)

abbrev pub with_state : State → List ℕ → List ℕ
with_state s r = with_field state_span (state_number s ∷ []) r

-- 1: "redirect length, 9 to 64"
abbrev pub redirect_length_span : Span
redirect_length_span = span 1 2

abbrev pub redirect_length : List ℕ → ℕ
redirect_length r = slice_index r redirect_length_span.place

abbrev pub with_redirect_length : ℕ → List ℕ → List ℕ
with_redirect_length n r = with_field redirect_length_span (digits redirect_length_span.width n) r

-- 2..4 and 91..96: "zero"
abbrev pub gap_one_span : Span
gap_one_span = span 2 4

abbrev pub gap_one : List ℕ → List ℕ
gap_one r = field gap_one_span r

abbrev pub gap_two_span : Span
gap_two_span = span 91 96

abbrev pub gap_two : List ℕ → List ℕ
gap_two r = field gap_two_span r

-- 4..8: "scope bits"
abbrev pub scope_span : Span
scope_span = span 4 8

abbrev pub scope : List ℕ → ℕ
scope r = num (field scope_span r)

abbrev pub with_scope : ℕ → List ℕ → List ℕ
with_scope n r = with_field scope_span (digits scope_span.width n) r

-- 8..16: "grant number"
abbrev pub grant_span : Span
grant_span = span 8 16

abbrev pub grant : List ℕ → ℕ
grant r = num (field grant_span r)

abbrev pub with_grant : ℕ → List ℕ → List ℕ
with_grant n r = with_field grant_span (digits grant_span.width n) r

-- 16..24: "expiry"
abbrev pub expiry_span : Span
expiry_span = span 16 24

abbrev pub expiry : List ℕ → ℕ
expiry r = num (field expiry_span r)

abbrev pub with_expiry : ℕ → List ℕ → List ℕ
with_expiry n r = with_field expiry_span (digits expiry_span.width n) r

-- 24..32: "holder"
abbrev pub holder_span : Span
holder_span = span 24 32

abbrev pub holder : List ℕ → ℕ
holder r = num (field holder_span r)

abbrev pub with_holder : ℕ → List ℕ → List ℕ
with_holder n r = with_field holder_span (digits holder_span.width n) r

-- 32..48: "client id"
abbrev pub client_span : Span
client_span = span 32 48

abbrev pub client : List ℕ → List ℕ
client r = field client_span r

abbrev pub with_client : List ℕ → List ℕ → List ℕ
with_client xs r = with_field client_span xs r

-- 48..91: "challenge, 43 characters"
abbrev pub challenge_span : Span
challenge_span = span 48 91

abbrev pub challenge : List ℕ → List ℕ
challenge r = field challenge_span r

abbrev pub with_challenge : List ℕ → List ℕ → List ℕ
with_challenge xs r = with_field challenge_span xs r

-- 96..128: "value: reference in state 1, code in 2 and 3"
abbrev pub value_span : Span
value_span = span 96 128

abbrev pub value : List ℕ → List ℕ
value r = field value_span r

abbrev pub with_value : List ℕ → List ℕ → List ℕ
with_value xs r = with_field value_span xs r

-- 128..160: "token"
abbrev pub token_span : Span
token_span = span 128 160

abbrev pub token : List ℕ → List ℕ
token r = field token_span r

abbrev pub with_token : List ℕ → List ℕ → List ℕ
with_token xs r = with_field token_span xs r

-- 160..192: "bound key"
abbrev pub bound_key_span : Span
bound_key_span = span 160 192

abbrev pub bound_key : List ℕ → List ℕ
bound_key r = field bound_key_span r

abbrev pub with_bound_key : List ℕ → List ℕ → List ℕ
with_bound_key xs r = with_field bound_key_span xs r

-- 192..256: "redirect, zeros behind it"
abbrev pub redirect_span : Span
redirect_span = span 192 256

abbrev pub redirect_field : List ℕ → List ℕ
redirect_field r = field redirect_span r

abbrev pub redirect : List ℕ → List ℕ
redirect r = part r redirect_span.place (redirect_length r)

abbrev pub behind_redirect : List ℕ → List ℕ
behind_redirect r = drop (redirect_length r) (redirect_field r)

abbrev pub with_redirect : List ℕ → List ℕ → List ℕ
with_redirect xs r = with_field redirect_span xs r
