-- What a call writes to its record: each field that it names, and no other byte.
use Rattle.std.specs.Prelude.{ℕ, List, length}
use Rattle.octets.specs.Parts.{blank}
use Rattle.ledger.specs.Limits.{record_size}
use Rattle.ledger.specs.Fields.{
  with_state,
  with_redirect_length,
  with_scope,
  with_grant,
  with_expiry,
  with_holder,
  with_client,
  with_challenge,
  with_value,
  with_token,
  with_bound_key,
  with_redirect,
}
use Rattle.ledger.specs.declared.state.State.TheVariants.{Pushed, Consented, Redeemed}

-- push: "becomes state 1 with the next grant number, value = fresh, expiry = .."
unfoldable pub pushed : ℕ → ℕ → ℕ → List ℕ → List ℕ → List ℕ → List ℕ → List ℕ → List ℕ
pushed bits number until id text fresh target r =
    with_redirect target
    (with_value fresh
    (with_challenge text
    (with_client id (with_expiry until (with_grant number (with_scope bits (with_redirect_length (length target) (with_state Pushed r))))))))

-- decide, yes: "state 2, that holder, value = fresh, expiry = .."
unfoldable pub consented : ℕ → ℕ → List ℕ → List ℕ → List ℕ
consented until who fresh r = with_value fresh (with_holder who (with_expiry until (with_state Consented r)))

-- token: "state 3: token = fresh, the presented key bound, expiry = .. The code stays in it."
unfoldable pub redeemed : ℕ → List ℕ → List ℕ → List ℕ → List ℕ
redeemed until fresh key r = with_bound_key key (with_token fresh (with_expiry until (with_state Redeemed r)))

-- decide, no, and sweep: "becomes free"
unfoldable pub free : List ℕ
free = blank record_size
