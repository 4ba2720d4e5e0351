-- Acceptance in plain words: what must be so for a call to answer 0. No definition of a call rests on these; that they say the same as its checks is shown beside.
use Rattle.std.specs.Prelude.{ℕ, ◌≤◌, ◌<◌, ◌≡◌, ◌≢◌, true, List, length}
use Rattle.octets.specs.Plain.{NotZero}
use Rattle.forms.specs.Plain.{RedirectWell, ChallengeWell, VerifierWell}
use Rattle.sha256.specs.Hash.{sha256}
use Rattle.texts.specs.Base64url.{base64url}
use Rattle.ledger.specs.Limits.{last_number}
use Rattle.ledger.specs.Fields.{next_number, rec, scope, expiry, holder, challenge, bound_key}
use Rattle.ledger.specs.declared.state.State.TheVariants.{Pushed, Consented}
use Rattle.ledger_laws.specs.Sound.{Sized, SoundLedger}
use Rattle.clients.specs.Fields.{client as entry, permitted}
use Rattle.clients.specs.Plain.{SoundTable, KnownAt}
use Rattle.desk.specs.Limits.{output_least}
use Rattle.desk.specs.Requests.{PushRequest, DecideRequest, TokenRequest, ResourceRequest}
use Rattle.call_laws.specs.Conditions.{InTime, ScopeWithin, FreshValue, FirstFree, StandsAt, TokenAt, TextFor}
use Rattle.desk.specs.Requests.{PendingRequest}

-- "Start (ledger buffer, old content ignored): 1 if the length is wrong."
abbrev pub StartAccepted : List ℕ → Type 0
StartAccepted l = Sized l

-- "Push (client id, authentication key, scope, challenge, redirect, fresh value): 3, 4, 5, 6, 7, 8, 9": client `client_place` of the table asks, and record `room` is the first free one
pub record PushAccepted (l : List ℕ) (t : ℕ) (table : List ℕ) (p : PushRequest) : Type 0 where
  pub ledger_sound : SoundLedger l
  pub in_time : InTime l t
  pub table_sound : SoundTable table
  pub client_place : ℕ
  pub known : KnownAt table p.client p.key client_place
  pub redirect_well : RedirectWell p.redirect
  pub challenge_well : ChallengeWell p.challenge
  pub scope_permitted : ScopeWithin p.scope (permitted (entry table client_place))
  pub fresh_new : FreshValue l p.fresh
  pub room : ℕ
  pub room_free : FirstFree l room
  pub number_left : next_number l ≢ last_number

-- "Decide (reference, client id, yes or no, holder, fresh value, output buffer): 20, 10, 11, 12. .. On yes, 7 is checked": record k waits under this reference, for this client
pub record DecideAccepted (l : List ℕ) (t : ℕ) (d : DecideRequest) (out : List ℕ) : Type 0 where
  pub ledger_sound : SoundLedger l
  pub in_time : InTime l t
  pub output_room : output_least ≤ length out
  pub k : ℕ
  pub waits : StandsAt Pushed l d.reference d.client k
  pub alive : t < expiry (rec l k)
  pub holder_given : d.holder ≢ 0
  pub fresh_new : d.yes ≡ true → FreshValue l d.fresh

-- "Token (client id, authentication key, presented key, code, verifier, fresh value): 3, 4, 13, 5, then 14 or 15, 11, 16, 7": client `client_place` of the table asks, and
-- record k waits under this code, for this client
pub record TokenAccepted (l : List ℕ) (t : ℕ) (table : List ℕ) (q : TokenRequest) : Type 0 where
  pub ledger_sound : SoundLedger l
  pub in_time : InTime l t
  pub table_sound : SoundTable table
  pub client_place : ℕ
  pub known : KnownAt table q.client q.key client_place
  pub key_presented : NotZero q.presented
  pub verifier_well : VerifierWell q.verifier
  pub k : ℕ
  pub waits : StandsAt Consented l q.code q.client k
  pub alive : t < expiry (rec l k)
  -- "base64url without padding of SHA-256 of the verifier equals the stored challenge"
  pub verified : base64url (sha256 q.verifier) ≡ challenge (rec l k)
  pub fresh_new : FreshValue l q.fresh

-- "Resource (token, presented key, scope asked, holder asked): 17, 11, 18, 6, 19": record k has this token, bound to this key
pub record ResourceAccepted (l : List ℕ) (t : ℕ) (q : ResourceRequest) : Type 0 where
  pub ledger_sound : SoundLedger l
  pub in_time : InTime l t
  pub k : ℕ
  pub issued : TokenAt l q.token k
  pub alive : t < expiry (rec l k)
  pub key_is : bound_key (rec l k) ≡ q.presented
  pub scope_granted : ScopeWithin q.scope (scope (rec l k))
  pub holder_is : holder (rec l k) ≡ q.holder

-- "Sweep": 1, then 2
pub record SweepAccepted (l : List ℕ) (t : ℕ) : Type 0 where
  pub ledger_sound : SoundLedger l
  pub in_time : InTime l t

-- beyond document 01, pending (reference, client id, output buffer): 20, 10, 11 as decide has them: record k waits under this reference, for this client
pub record PendingAccepted (l : List ℕ) (t : ℕ) (p : PendingRequest) (out : List ℕ) : Type 0 where
  pub ledger_sound : SoundLedger l
  pub in_time : InTime l t
  pub output_room : output_least ≤ length out
  pub k : ℕ
  pub waits : StandsAt Pushed l p.reference p.client k
  pub alive : t < expiry (rec l k)

-- "Refusals: 1, 2, then 20 when the buffer is shorter than the text." (document 02, Q-1)
pub record IntrospectAccepted (l : List ℕ) (t : ℕ) (v out : List ℕ) : Type 0 where
  pub ledger_sound : SoundLedger l
  pub in_time : InTime l t
  pub text : List ℕ
  pub text_is : TextFor l t v text
  pub output_room : length text ≤ length out
