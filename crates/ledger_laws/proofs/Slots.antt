-- A record by named fields: what the accessors read off its bytes, and what each writer makes of it.
use Prim.Native.Nat.{ℕ}
use mathlib.Core.List.{List, ◌++◌}
use lib.ListN.{length, drop}
use Rattle.ledger.specs.Fields.{state, state_number, redirect_length, scope, grant, expiry, holder, client, challenge, value, token, bound_key, redirect_field}
use Rattle.ledger.specs.declared.state.State.TheVariants.{Pushed, Consented, Redeemed}

-- a record: the fields of the table, in its order; the zero fields say nothing
pub record Slot : Type 0 where
  pub state : ℕ
  pub redirect_length : ℕ
  pub scope : ℕ
  pub grant : ℕ
  pub expiry : ℕ
  pub holder : ℕ
  pub client : List ℕ
  pub challenge : List ℕ
  pub value : List ℕ
  pub token : List ℕ
  pub bound_key : List ℕ
  pub redirect_field : List ℕ

unfoldable pub slot_of : List ℕ → Slot
slot_of r =
    record {
      state = state r;
      redirect_length = redirect_length r;
      scope = scope r;
      grant = grant r;
      expiry = expiry r;
      holder = holder r;
      client = client r;
      challenge = challenge r;
      value = value r;
      token = token r;
      bound_key = bound_key r;
      redirect_field = redirect_field r;
    }

-- push: "becomes state 1 with the next grant number, value = fresh, expiry = .."
abbrev pub pushed_slot : ℕ → ℕ → ℕ → List ℕ → List ℕ → List ℕ → List ℕ → Slot → Slot
pushed_slot bits number until id text fresh target s =
    record {
      state = state_number Pushed;
      redirect_length = length target;
      scope = bits;
      grant = number;
      expiry = until;
      holder = s.holder;
      client = id;
      challenge = text;
      value = fresh;
      token = s.token;
      bound_key = s.bound_key;
      redirect_field = target ++ drop (length target) s.redirect_field;
    }

-- decide, yes: "state 2, that holder, value = fresh, expiry = .."
abbrev pub consented_slot : ℕ → ℕ → List ℕ → Slot → Slot
consented_slot until who fresh s =
    record {
      state = state_number Consented;
      redirect_length = s.redirect_length;
      scope = s.scope;
      grant = s.grant;
      expiry = until;
      holder = who;
      client = s.client;
      challenge = s.challenge;
      value = fresh;
      token = s.token;
      bound_key = s.bound_key;
      redirect_field = s.redirect_field;
    }

-- token: "state 3: token = fresh, the presented key bound, expiry = .. The code stays in it."
abbrev pub redeemed_slot : ℕ → List ℕ → List ℕ → Slot → Slot
redeemed_slot until fresh key s =
    record {
      state = state_number Redeemed;
      redirect_length = s.redirect_length;
      scope = s.scope;
      grant = s.grant;
      expiry = until;
      holder = s.holder;
      client = s.client;
      challenge = s.challenge;
      value = s.value;
      token = fresh;
      bound_key = key;
      redirect_field = s.redirect_field;
    }
