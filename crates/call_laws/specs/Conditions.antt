-- What several calls ask, in plain words (document 01, section "Numbers returned"). Each is the reverse of a row of the table.
use Rattle.std.specs.Prelude.{ℕ, ◌≤◌, ◌<◌, ◌≡◌, ◌≢◌, List}
use Rattle.std.specs.Int.Bits.{bit_and}
use Rattle.octets.specs.Plain.{NotZero}
use Rattle.description.specs.Description.{live_text, inactive_text}
use Rattle.ledger.specs.Limits.{clock_limit}
use Rattle.ledger.specs.Fields.{clock, rec, slots, state, state_number, expiry, client, value, token}
use Rattle.ledger.specs.declared.state.State.{State}
use Rattle.ledger.specs.declared.state.State.TheVariants.{Free, Redeemed}
use Rattle.desk.specs.Introspect.{describes}

-- 2: "now is below the clock, or 2^40 or more" is not so
pub record InTime (l : List ℕ) (t : ℕ) : Type 0 where
  pub clock_reached : clock l ≤ t
  pub below_limit : t < clock_limit

-- 6: "scope 0, or not within the .. bits" is not so
pub record ScopeWithin (asked given : ℕ) : Type 0 where
  pub nonzero : asked ≢ 0
  pub within_bits : bit_and asked given ≡ asked

-- 7: "fresh value all zeros, or in the pool" is not so
pub record FreshValue (l v : List ℕ) : Type 0 where
  pub nonzero : NotZero v
  pub no_value : (j : ℕ) → j < slots l → value (rec l j) ≢ v
  pub no_token : (j : ℕ) → j < slots l → token (rec l j) ≢ v

-- 8: record k is "the first free record in ledger order"
pub record FirstFree (l : List ℕ) (k : ℕ) : Type 0 where
  pub inside : k < slots l
  pub is_free : state (rec l k) ≡ state_number Free
  pub before : (j : ℕ) → j < k → state (rec l j) ≢ state_number Free

-- 10 and 14: record k is in this state, with this value and client id
pub record StandsAt (s : State) (l v who : List ℕ) (k : ℕ) : Type 0 where
  pub inside : k < slots l
  pub state_is : state (rec l k) ≡ state_number s
  pub value_is : value (rec l k) ≡ v
  pub client_is : client (rec l k) ≡ who

-- 17: record k is in state 3, with this token
pub record TokenAt (l v : List ℕ) (k : ℕ) : Type 0 where
  pub inside : k < slots l
  pub state_is : state (rec l k) ≡ state_number Redeemed
  pub token_is : token (rec l k) ≡ v

-- "For a token at a time, write `{"active":false}` when it is unknown or expired, else one object" (document 02, Q-1)
pub record TextFor (l : List ℕ) (t : ℕ) (v text : List ℕ) : Type 0 where
  pub when_live : (k : ℕ) → TokenAt l v k → t < expiry (rec l k) → text ≡ live_text (describes (rec l k))
  -- unknown or expired: no record has this token but an expired one
  pub when_not : ((k : ℕ) → TokenAt l v k → expiry (rec l k) ≤ t) → text ≡ inactive_text
