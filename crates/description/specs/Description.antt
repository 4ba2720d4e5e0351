-- What a live token is described by, and the text of it (document 02, Q-1).
use Rattle.std.specs.Prelude.{ℕ, List, ◌++◌}
use Rattle.texts.specs.Hex.{hex}
use Rattle.texts.specs.Decimal.{decimal}
use Rattle.texts.specs.Base64url.{base64url}
use Rattle.description.specs.Literal.{bytes}
use Rattle.description.specs.Scope.{scope_names}
use Rattle.description.specs.declared.Description.{Description as LentDescription}

pub record Description : Type 0 where
  pub client : List ℕ
  pub holder : ℕ
  pub expiry : ℕ
  pub scope : ℕ
  pub key : List ℕ

abbrev pub described : List ℕ → ℕ → ℕ → ℕ → List ℕ → Description
described client holder expiry scope key = record { client = client; holder = holder; expiry = expiry; scope = scope; key = key }

-- the same as the code lends it
abbrev pub telling : LentDescription → Description
telling d = described d.client.now d.holder d.expiry d.scope d.key.now

-- "client_id (32 lower-case hex digits)"
unfoldable pub client_member : List ℕ → List ℕ
client_member id = bytes "\"client_id\":\"" ++ (hex id ++ bytes "\"")

-- "sub (decimal string)"
unfoldable pub sub_member : ℕ → List ℕ
sub_member who = bytes "\"sub\":\"" ++ (decimal who ++ bytes "\"")

-- "exp (number)"
unfoldable pub exp_member : ℕ → List ℕ
exp_member until = bytes "\"exp\":" ++ decimal until

-- "scope (s0 to s31 for bits 2^0 to 2^31, ascending, one blank between)"
unfoldable pub scope_member : ℕ → List ℕ
scope_member bits = bytes "\"scope\":\"" ++ (scope_names bits ++ bytes "\"")

-- "cnf with x5t#S256 holding the bound key in base64url"
unfoldable pub cnf_member : List ℕ → List ℕ
cnf_member key = bytes "\"cnf\":{\"x5t#S256\":\"" ++ (base64url key ++ bytes "\"}")

-- "one object, no blanks outside scope, members in this order"
unfoldable pub live_text : Description → List ℕ
live_text d =
    bytes "{\"active\":true,"
    ++ (client_member d.client
    ++ (bytes ","
    ++ (sub_member d.holder
    ++ (bytes "," ++ (exp_member d.expiry ++ (bytes "," ++ (scope_member d.scope ++ (bytes "," ++ (cnf_member d.key ++ bytes "}")))))))))

-- "`{"active":false}` when it is unknown or expired"
unfoldable pub inactive_text : List ℕ
inactive_text = bytes "{\"active\":false}"
