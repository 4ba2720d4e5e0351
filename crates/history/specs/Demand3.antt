-- Demand 3, a field a sentence: what holds of every run on n records. Its calls `cs` are in the order in which they are made, each with its own
-- request and client table; `events_in n cs` are its events and `last_in n cs` is the ledger that it leaves. "At every moment": the calls made so far are such a run.
use Rattle.std.specs.Prelude.{ℕ, ◌+◌, ◌*◌, ◌≤◌, ◌≡◌, ◌≢◌, Bool, true, false, ◌&&◌, List, [], ◌∷◌, ◌++◌, length}
use Rattle.octets.specs.Lists.{some, tabulate}
use Rattle.octets.specs.Parts.{same}
use Rattle.ledger.specs.Limits.{head_size, record_size, records_least, records_most}
use Rattle.ledger.specs.Fields.{rec, records, used, grant, value}
use Rattle.ledger.specs.Sound.{sound}
use Rattle.desk.specs.Answers.{number_of, done}
use Rattle.desk.specs.Requests.{TokenRequest, ResourceRequest}
use Rattle.desk.specs.Start.{start}
use Rattle.desk.specs.Token.{code_place}
use Rattle.desk.specs.declared.answer.Refusal.TheVariants.{LedgerUnsound, CodeRedeemed}
use Rattle.history.specs.Runs.{Call, token, resource, Typed, AllTyped, Said, step, number_in, accepted, grant_of, holder_of, started, steps, last_in}
use Rattle.history.specs.Events.{Reading, event, reader_of, events, events_in}
use Rattle.history.specs.Counts.{just, anyone, consents, tokens, drops, waiting}
use Rattle.history.specs.Histories.{history, numbers_of, issued, Granted, Chain, Unrepeated, Life}

-- what a reading at time t is answered on the ledger l
abbrev pub reading : List ℕ → ℕ → ResourceRequest → Said
reading l t q = (step l (resource t q)).answer

-- a record in use has this value, a reference or a code
abbrev pub stands : List ℕ → List ℕ → Bool
stands v l = some (λ (r : List ℕ). used r && same (value r) v) (records l)

pub record Demand3 (n : ℕ) : Type 0 where
  -- "At every moment, for each client and holder, consents accepted equal tokens issued, plus codes dropped by sweeps, plus codes still waiting,
  -- expired or not."
  pub balance : (cs : List Call) → AllTyped cs → (k : List ℕ) (h : ℕ)
      → consents (just k h) (events_in n cs) ≡ tokens (just k h) (events_in n cs) + drops (just k h) (events_in n cs) + waiting (just k h) (last_in n cs)
  -- "permissions out never exceed consents in": for each client and holder ..
  pub permissions : (cs : List Call) → AllTyped cs → (k : List ℕ) (h : ℕ) → tokens (just k h) (events_in n cs) ≤ consents (just k h) (events_in n cs)
  -- .. and in all
  pub permissions_all : (cs : List Call) → AllTyped cs → tokens anyone (events_in n cs) ≤ consents anyone (events_in n cs)
  -- "Each granted reading names a grant number whose history has exactly one push, one consent and one token, in that order: .."
  pub readings : (cs : List Call) → AllTyped cs → (r : Granted (events_in n cs)) → Chain r.time r.request (history r.grant r.before)
  -- document 02, Q-3: "In demand 3 a granted reading has no such second use between its token and itself."
  pub no_second_use : (cs : List Call) → AllTyped cs → (r : Granted (events_in n cs))
      → (x : Chain r.time r.request (history r.grant r.before)) → Unrepeated r.grant x.token_time x.token_table x.redeemed r.before
  -- and from her side: once a token call is answered 15, no reading that comes later names the grant number of the record that it freed, as the ledger had it
  pub ends : (cs : List Call) → AllTyped cs → (t : ℕ) (table : List ℕ) (q : TokenRequest) → Typed (token t table q)
      → number_in (step (last_in n cs) (token t table q)).answer ≡ number_of CodeRedeemed
      → (ds : List Call) → AllTyped ds → (r : Granted (events (steps (step (last_in n cs) (token t table q)).after ds)))
      → r.grant ≢ grant (rec (last_in n cs) (code_place (last_in n cs) q))
  -- (every reading that is granted is such an event, the last of the events so far, with the grant number answered)
  pub reading_told : (cs : List Call) (t : ℕ) (q : ResourceRequest) → accepted (reading (last_in n cs) t q) ≡ true
      → events_in n (cs ++ (resource t q ∷ []))
      ≡ events_in n cs ++ (event Reading (reader_of (last_in n cs) q) (holder_of (reading (last_in n cs) t q)) (grant_of (reading (last_in n cs) t q)) (resource t q) ∷ [])
  -- and whatever is called later, that history does not change
  pub stays : (cs : List Call) → AllTyped cs → (r : Granted (events_in n cs)) → history r.grant (events_in n cs) ≡ history r.grant r.before
  -- the consent comes under the lifetime of the client in the push's own table after its push, and under the profile's 600 seconds for every table, the token under 60 after its
  -- consent: of every grant number, read or not
  pub in_time : (cs : List Call) → AllTyped cs → (g : ℕ) → Life (history g (events_in n cs))
  -- the grant numbers of accepted pushes are 1, 2, 3 and so on, in order: distinct, and rising by one
  pub numbers : (cs : List Call) → AllTyped cs → numbers_of (events_in n cs) ≡ tabulate (λ (i : ℕ). i + 1) (length (numbers_of (events_in n cs)))
  -- "how many programs can read my landed weights?" One: two granted readings of one grant number have the same client at redemption and the same key
  pub one_program : (cs : List Call) → AllTyped cs → (r s : Granted (events_in n cs)) → r.grant ≡ s.grant
      → (x : Chain r.time r.request (history r.grant r.before))
      → (y : Chain s.time s.request (history s.grant s.before))
      → (x.redeemed.client ≡ y.redeemed.client) × (r.request.presented ≡ s.request.presented)
  -- "The reference opens nothing": a reading is granted only on a token issued before it in the run ..
  pub opens_nothing : (cs : List Call) → AllTyped cs → (r : Granted (events_in n cs)) → issued r.request.token r.before ≡ true
  -- .. and never on a reference or a code that stands in the ledger
  pub values_open_nothing : (cs : List Call) → AllTyped cs → (t : ℕ) (q : ResourceRequest) → stands q.token (last_in n cs) ≡ true
      → accepted (reading (last_in n cs) t q) ≡ false
  -- every ledger of a run is sound ..
  pub sound_always : (cs : List Call) → AllTyped cs → sound (last_in n cs) ≡ true
  -- .. so that a desk that nobody else writes to never answers 1
  pub never_unsound : (cs : List Call) → AllTyped cs → (c : Call) → number_in (step (last_in n cs) c).answer ≢ number_of LedgerUnsound

-- "A 32-byte head and 1 to 200 records"
abbrev pub EveryRun : Type 0
EveryRun = (n : ℕ) → records_least ≤ n → n ≤ records_most → Demand3 n

-- a buffer with room for n records, as many as a ledger may have
pub record RoomFor (n : ℕ) (l : List ℕ) : Type 0 where
  pub least : records_least ≤ n
  pub most : n ≤ records_most
  pub long : length l ≡ head_size + n * record_size

-- start has left the ledger of as many records as the buffer has room for
pub record Begun (l : List ℕ) : Type 0 where
  pub slots : ℕ
  pub room : RoomFor slots l
  pub leaves : (start l).ledger ≡ started slots

-- "Start a ledger once": an accepted start, on any buffer, leaves a ledger that runs begin at, and on every buffer with such room start is accepted
pub record RunsBegin : Type 0 where
  pub begun : (l : List ℕ) → (start l).answer ≡ done → Begun l
  pub begins : (n : ℕ) (l : List ℕ) → RoomFor n l → ((start l).answer ≡ done) × ((start l).ledger ≡ started n)
