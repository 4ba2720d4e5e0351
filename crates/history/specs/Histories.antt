-- The history of a grant number, and what must stand behind a granted reading.
use Rattle.std.specs.Prelude.{ℕ, ◌+◌, ◌<◌, ◌≤◌, ◌≡◌, Bool, true, false, ◌&&◌, List, [], ◌∷◌, ◌++◌, eqb}
use Rattle.octets.specs.Lists.{some}
use Rattle.octets.specs.Parts.{same}
use Rattle.s256.specs.Rule.{matches}
use Rattle.ledger.specs.Limits.{code_lifetime, token_lifetime}
use Rattle.clients.specs.Limits.{profile_reference}
use Rattle.desk.specs.Checks.{within}
use Rattle.desk.specs.Push.{lifetime}
use Rattle.desk.specs.Requests.{PushRequest, DecideRequest, TokenRequest, ResourceRequest}
use Rattle.history.specs.Runs.{Call, push, decide, token, resource, sweep}
use Rattle.history.specs.Events.{EventKind, Push, Consent, No, Token, Drop, SecondUse, Reading, Event, event, is, listed}

-- pushes, consents, noes and tokens make the history of their grant number
abbrev pub enters : EventKind → Bool
enters Push = true
enters Consent = true
enters No = true
enters Token = true
enters Drop = false
enters SecondUse = false
enters Reading = false

abbrev pub concerns : ℕ → Event → Bool
concerns g e = enters e.kind && eqb g e.grant

-- the history of a grant number: the calls of those events, in order
abbrev pub history : ℕ → List Event → List Call
history g es = listed (concerns g) (λ (e : Event). e.call) es

-- the grant numbers of the pushes, in order
abbrev pub numbers_of : List Event → List ℕ
numbers_of es = listed (is Push) (λ (e : Event). e.grant) es

-- the value was issued as a token: a token's call had it as fresh value
abbrev pub as_token : List ℕ → Call → Bool
as_token v (push t table p) = false
as_token v (decide t d out) = false
as_token v (token t table q) = same q.fresh v
as_token v (resource t q) = false
as_token v (sweep t) = false

abbrev pub issued : List ℕ → List Event → Bool
issued v es = some (λ (e : Event). is Token e && as_token v e.call) es

-- a granted reading among the events of a run: those before it, its time and request, the grant number that it names
pub record Granted (es : List Event) : Type 0 where
  pub before : List Event
  pub client : List ℕ
  pub holder : ℕ
  pub grant : ℕ
  pub time : ℕ
  pub request : ResourceRequest
  pub after : List Event
  pub whole : es ≡ before ++ (event Reading client holder grant (resource time request) ∷ after)

-- "a grant number whose history has exactly one push, one consent and one token, in that order", behind a reading at time t
pub record Chain (t : ℕ) (q : ResourceRequest) (h : List Call) : Type 0 where
  pub push_time : ℕ
  pub push_table : List ℕ
  pub pushed : PushRequest
  pub decide_time : ℕ
  pub consent : DecideRequest
  pub output : List ℕ
  pub token_time : ℕ
  pub token_table : List ℕ
  pub redeemed : TokenRequest
  pub order : h ≡ push push_time push_table pushed ∷ decide decide_time consent output ∷ token token_time token_table redeemed ∷ []
  pub yes : consent.yes ≡ true
  -- "the same client"
  pub same_client : (consent.client ≡ pushed.client) × (redeemed.client ≡ pushed.client)
  -- "the consenting holder"
  pub holder : q.holder ≡ consent.holder
  -- "a subset of the scope"
  pub scope : within q.scope pushed.scope ≡ true
  -- "the token issued then"
  pub token_issued : q.token ≡ redeemed.fresh
  -- "under 300 seconds old": a token's lifetime, and not issued after the reading
  pub young : (token_time ≤ t) × (t < token_time + token_lifetime)
  -- "the key presented at redemption"
  pub key : q.presented ≡ redeemed.presented
  -- "and a verifier matching the pushed challenge"
  pub verified : matches redeemed.verifier pushed.challenge ≡ true

-- a decision at time b on what p pushed at time a: not before it, and under the lifetime of the client in the push's own table x; for the profile, under 600 seconds for every table
pub record DecidedInTime (a : ℕ) (x : List ℕ) (p : PushRequest) (b : ℕ) : Type 0 where
  pub after : a ≤ b
  pub alive : b < a + lifetime x p
  pub profile : b < a + profile_reference

-- a token call with the code and the client id of that one
abbrev pub shows : TokenRequest → Call → Bool
shows q (push t table p) = false
shows q (decide t d out) = false
shows q (token t table w) = same w.code q.code && same w.client q.client
shows q (resource t w) = false
shows q (sweep t) = false

-- a second use of its code, by its client: such a call that was answered 15
abbrev pub repeats : TokenRequest → Event → Bool
repeats q e = is SecondUse e && shows q e.call

-- document 02, Q-3: "a granted reading has no such second use between its token and itself": of the events before the reading, `between` are those behind its token
pub record Unrepeated (g t : ℕ) (table : List ℕ) (q : TokenRequest) (es : List Event) : Type 0 where
  pub earlier : List Event
  pub client : List ℕ
  pub holder : ℕ
  pub between : List Event
  pub whole : es ≡ earlier ++ (event Token client holder g (token t table q) ∷ between)
  pub none : some (repeats q) between ≡ false

-- what the history of a grant number can be at any moment: nothing; a push; a push and a decision, in time; a push, a consent and a token, in time
pub data Life (h : List Call) : Type 0 where
  unborn : h ≡ [] → Life h
  asked : (a : ℕ) (x : List ℕ) (p : PushRequest) → h ≡ push a x p ∷ [] → Life h
  decided : (a : ℕ) (x : List ℕ) (p : PushRequest) (b : ℕ) (d : DecideRequest) (out : List ℕ)
      → h ≡ push a x p ∷ decide b d out ∷ []
      → DecidedInTime a x p b → Life h
  redeemed : (a : ℕ) (x : List ℕ) (p : PushRequest) (b : ℕ) (d : DecideRequest) (out : List ℕ) (c : ℕ) (y : List ℕ) (q : TokenRequest)
      → h ≡ push a x p ∷ decide b d out ∷ token c y q ∷ []
      → d.yes ≡ true → DecidedInTime a x p b → (b ≤ c) × (c < b + code_lifetime) → Life h
