-- What each call is handed beside the ledger, the time and the client table; and the same as the code lends it, field by field.
use Rattle.std.specs.Prelude.{ℕ, Bool, List}
use Rattle.desk.specs.declared.request.PushRequest.{PushRequest as LentPush}
use Rattle.desk.specs.declared.request.DecideRequest.{DecideRequest as LentDecide}
use Rattle.desk.specs.declared.request.TokenRequest.{TokenRequest as LentToken}
use Rattle.desk.specs.declared.request.ResourceRequest.{ResourceRequest as LentResource}

-- "Push (client id, authentication key, scope, challenge, redirect, fresh value)"
pub record PushRequest : Type 0 where
  pub client : List ℕ
  pub key : List ℕ
  pub scope : ℕ
  pub challenge : List ℕ
  pub redirect : List ℕ
  pub fresh : List ℕ

abbrev pub pushing : LentPush → PushRequest
pushing q =
    record { client = q.client.now; key = q.key.now; scope = q.scope; challenge = q.challenge.now; redirect = q.redirect.now; fresh = q.fresh.now }

-- "Decide (reference, client id, yes or no, holder, fresh value, output buffer)"
pub record DecideRequest : Type 0 where
  pub reference : List ℕ
  pub client : List ℕ
  pub yes : Bool
  pub holder : ℕ
  pub fresh : List ℕ

abbrev pub deciding : LentDecide → DecideRequest
deciding q = record { reference = q.reference.now; client = q.client.now; yes = q.yes; holder = q.holder; fresh = q.fresh.now }

-- "Token (client id, authentication key, presented key, code, verifier, fresh value)"
pub record TokenRequest : Type 0 where
  pub client : List ℕ
  pub key : List ℕ
  pub presented : List ℕ
  pub code : List ℕ
  pub verifier : List ℕ
  pub fresh : List ℕ

abbrev pub redeeming : LentToken → TokenRequest
redeeming q =
    record { client = q.client.now; key = q.key.now; presented = q.presented.now; code = q.code.now; verifier = q.verifier.now; fresh = q.fresh.now }

-- "Resource (token, presented key, scope asked, holder asked)"
pub record ResourceRequest : Type 0 where
  pub token : List ℕ
  pub presented : List ℕ
  pub scope : ℕ
  pub holder : ℕ

abbrev pub reading : LentResource → ResourceRequest
reading q = record { token = q.token.now; presented = q.presented.now; scope = q.scope; holder = q.holder }

-- beyond document 01: what the holder is shown before she decides, by decide's reference and client id
pub record PendingRequest : Type 0 where
  pub reference : List ℕ
  pub client : List ℕ
