-- When a ledger is sound (document 01, section "Ledger", "Sound: .."), rule by rule in its order.
use Rattle.std.specs.Prelude.{ℕ, ◌+◌, ◌-◌, ◌*◌, ◌%◌, Bool, false, not, ◌&&◌, ◌||◌, List, length, ◌==◌, nat_le, nat_lt, Option, Some, None}
use Rattle.octets.specs.Lists.{every, apart}
use Rattle.octets.specs.Parts.{zeros, same}
use Rattle.forms.specs.Limits.{redirect_least, redirect_most}
use Rattle.forms.specs.Forms.{challenge_formed, redirect_formed}
use Rattle.ledger.specs.Limits.{clock_limit, expiry_limit, head_size, record_size, records_least, records_most}
use Rattle.ledger.specs.Fields.{
  clock,
  next_number,
  head_rest,
  records,
  state_of,
  used,
  redirect_length,
  gap_one,
  gap_two,
  scope,
  grant,
  expiry,
  holder,
  client,
  challenge,
  value,
  token,
  bound_key,
  redirect,
  behind_redirect,
}
use Rattle.ledger.specs.declared.state.State.{State}
use Rattle.ledger.specs.declared.state.State.TheVariants.{Free, Pushed, Consented, Redeemed}

-- "A 32-byte head and 1 to 200 records of 256 bytes, so 288 to 51,232 bytes."
unfoldable pub sized : List ℕ → Bool
sized l =
    nat_le (head_size + records_least * record_size) (length l)
    && (nat_le (length l) (head_size + records_most * record_size) && (length l - head_size) % record_size == 0)

-- "clock below 2^40"
abbrev pub clock_sound : List ℕ → Bool
clock_sound l = nat_lt (clock l) clock_limit

-- "next number at least 1"
abbrev pub next_sound : List ℕ → Bool
next_sound l = nat_le 1 (next_number l)

-- "zero fields zero": of the head
abbrev pub head_zero : List ℕ → Bool
head_zero l = zeros (head_rest l)

-- ---- a record, rule by rule

-- "zero fields zero"
abbrev pub gaps_zero : List ℕ → Bool
gaps_zero r = zeros (gap_one r) && zeros (gap_two r)

-- "grant number from 1 to one less than the next"
abbrev pub grant_sound : ℕ → List ℕ → Bool
grant_sound next r = nat_le 1 (grant r) && nat_lt (grant r) next

-- "scope, client id and value not zero"
abbrev pub scope_sound : List ℕ → Bool
scope_sound r = not (scope r == 0)

abbrev pub client_sound : List ℕ → Bool
client_sound r = not (zeros (client r))

abbrev pub value_sound : List ℕ → Bool
value_sound r = not (zeros (value r))

-- "expiry below 2^41"
abbrev pub expiry_sound : List ℕ → Bool
expiry_sound r = nat_lt (expiry r) expiry_limit

-- "challenge and redirect well formed, zeros behind the redirect", and the redirect's length is 9 to 64
abbrev pub challenge_sound : List ℕ → Bool
challenge_sound r = challenge_formed (challenge r)

abbrev pub length_sound : List ℕ → Bool
length_sound r = nat_le redirect_least (redirect_length r) && nat_le (redirect_length r) redirect_most

abbrev pub redirect_sound : List ℕ → Bool
redirect_sound r = length_sound r && (redirect_formed (redirect r) && zeros (behind_redirect r))

-- "In every other record": the rules of all states but free, on numbers and on bytes
unfoldable pub numbers_sound : ℕ → List ℕ → Bool
numbers_sound next r = gaps_zero r && (grant_sound next r && (scope_sound r && expiry_sound r))

unfoldable pub bytes_sound : List ℕ → Bool
bytes_sound r = client_sound r && (value_sound r && (challenge_sound r && redirect_sound r))

unfoldable pub used_sound : ℕ → List ℕ → Bool
used_sound next r = numbers_sound next r && bytes_sound r

-- "Holder is zero ..", or ".. nonzero"
abbrev pub no_holder : List ℕ → Bool
no_holder r = holder r == 0

abbrev pub some_holder : List ℕ → Bool
some_holder r = not (holder r == 0)

-- "Token and bound key are zero ..", or ".. nonzero"
unfoldable pub no_token : List ℕ → Bool
no_token r = zeros (token r) && zeros (bound_key r)

unfoldable pub some_token : List ℕ → Bool
some_token r = not (zeros (token r)) && not (zeros (bound_key r))

-- "a free record all zeros. In every other record: .. Holder is zero in state 1 and nonzero in 2 and 3. Token and bound key are zero in 1 and 2 and
-- nonzero in 3."
abbrev pub sound_in : State → ℕ → List ℕ → Bool
sound_in Free next r = zeros r
sound_in Pushed next r = used_sound next r && (no_holder r && no_token r)
sound_in Consented next r = used_sound next r && (some_holder r && no_token r)
sound_in Redeemed next r = used_sound next r && (some_holder r && some_token r)

-- and "no state above 3"
abbrev pub sound_as : Option State → ℕ → List ℕ → Bool
sound_as (Some s) next r = sound_in s next r
sound_as None next r = false

-- a record, by its state
unfoldable pub record_sound : ℕ → List ℕ → Bool
record_sound next r = sound_as (state_of r) next r

-- ---- records together

-- "grant number .. distinct"
unfoldable pub same_grant : List ℕ → List ℕ → Bool
same_grant r s = used r && (used s && grant r == grant s)

-- "Values and tokens that are not all zeros form one pool": whether a record holds v in it
unfoldable pub holds : List ℕ → List ℕ → Bool
holds v r = not (zeros v) && (same v (value r) || same v (token r))

-- "two records never hold the same value or token": whether these two do
unfoldable pub meets : List ℕ → List ℕ → Bool
meets r s = holds (value r) s || holds (token r) s

-- "nor does one record hold it in both fields"
unfoldable pub own_apart : List ℕ → Bool
own_apart r = zeros (value r) || not (same (value r) (token r))

-- "Sound": all of these, with the length right
unfoldable pub head_sound : List ℕ → Bool
head_sound l = clock_sound l && (next_sound l && head_zero l)

unfoldable pub sound : List ℕ → Bool
sound l =
    sized l
    && (head_sound l
    && (every (record_sound (next_number l)) (records l)
    && (every own_apart (records l) && (apart same_grant (records l) && apart meets (records l)))))
