-- The sound ledger in plain words (document 01, section "Ledger", "Sound: .."): the head, every record, every two records.
-- That the test `sound` says the same is a law beside it.
use Rattle.std.specs.Prelude.{ℕ, ◌+◌, ◌*◌, ◌≤◌, ◌<◌, ◌≡◌, ◌≢◌, ◌⊎◌, List, length}
use Rattle.octets.specs.Plain.{AllZero, NotZero}
use Rattle.forms.specs.Limits.{redirect_least, redirect_most}
use Rattle.forms.specs.Plain.{ChallengeWell, RedirectWell}
use Rattle.ledger.specs.Limits.{clock_limit, expiry_limit, head_size, record_size, records_least, records_most}
use Rattle.ledger.specs.Fields.{clock, next_number, head_rest, rec, slots, state, state_number, redirect_length, gap_one, gap_two, scope, grant, expiry, holder, client, challenge, value, token, bound_key, redirect, behind_redirect}
use Rattle.ledger.specs.declared.state.State.TheVariants.{Free, Pushed, Redeemed}

-- "In every other record", that is in one that is not free, under the next grant number
pub record SoundInUse (next : ℕ) (r : List ℕ) : Type 0 where
  -- "zero fields zero; no state above 3"
  pub gap_one_lem : AllZero (gap_one r)
  pub gap_two_lem : AllZero (gap_two r)
  pub state_most : state r ≤ state_number Redeemed
  -- "grant number from 1 to one less than the next"
  pub grant_least : 1 ≤ grant r
  pub grant_most : grant r < next
  -- "scope, client id and value not zero"
  pub scope_set : scope r ≢ 0
  pub client_set : NotZero (client r)
  pub value_set : NotZero (value r)
  -- "expiry below 2^41"
  pub expiry_most : expiry r < expiry_limit
  -- "challenge and redirect well formed, zeros behind the redirect"; its length is 9 to 64
  pub challenge_well : ChallengeWell (challenge r)
  pub redirect_well : RedirectWell (redirect r)
  pub behind_zero : AllZero (behind_redirect r)
  pub length_least : redirect_least ≤ redirect_length r
  pub length_most : redirect_length r ≤ redirect_most
  -- "Holder is zero in state 1 and nonzero in 2 and 3."
  pub holder_none : state r ≡ state_number Pushed → holder r ≡ 0
  pub holder_set : state r ≢ state_number Pushed → holder r ≢ 0
  -- "Token and bound key are zero in 1 and 2 and nonzero in 3."
  pub token_none : state r ≢ state_number Redeemed → AllZero (token r)
  pub token_set : state r ≡ state_number Redeemed → NotZero (token r)
  pub key_none : state r ≢ state_number Redeemed → AllZero (bound_key r)
  pub key_set : state r ≡ state_number Redeemed → NotZero (bound_key r)

-- "a free record all zeros"; every other one as above
pub record SoundRecord (next : ℕ) (r : List ℕ) : Type 0 where
  pub when_free : state r ≡ state_number Free → AllZero r
  pub when_used : state r ≢ state_number Free → SoundInUse next r

-- the record has v as its value or as its token
abbrev pub Has : List ℕ → List ℕ → Type 0
Has v r = (value r ≡ v) ⊎ (token r ≡ v)

-- "A 32-byte head and 1 to 200 records of 256 bytes"
pub record Sized (l : List ℕ) : Type 0 where
  pub n : ℕ
  pub least : records_least ≤ n
  pub most : n ≤ records_most
  pub long : length l ≡ head_size + n * record_size

pub record SoundLedger (l : List ℕ) : Type 0 where
  pub sized : Sized l
  -- "clock below 2^40; next number at least 1; zero fields zero"
  pub clock_below : clock l < clock_limit
  pub next_least : 1 ≤ next_number l
  pub rest_zero : AllZero (head_rest l)
  pub each : (k : ℕ) → k < slots l → SoundRecord (next_number l) (rec l k)
  -- "grant number .. distinct"
  pub grants : (i j : ℕ) → i < slots l → j < slots l → i ≢ j → state (rec l i) ≢ state_number Free → state (rec l j) ≢ state_number Free
      → grant (rec l i) ≢ grant (rec l j)
  -- "two records never hold the same value or token", unless it is all zeros
  pub pool : (i j : ℕ) → i < slots l → j < slots l → i ≢ j → (v : List ℕ) → NotZero v → Has v (rec l i) → Has v (rec l j) → ⊥
  -- "nor does one record hold it in both fields"
  pub own : (k : ℕ) → k < slots l → NotZero (value (rec l k)) → value (rec l k) ≢ token (rec l k)
