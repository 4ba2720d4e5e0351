-- In a run a live text has one push, one consent and one token behind it, its client theirs.
-- Introspect is no step of a run: "The ledger is only read, clock included" (document 02, Q-1), so it is made on the ledger that a run leaves, and the run is the
-- same with it and without it.
use Rattle.std.specs.Prelude.{ℕ, ◌≤◌, ◌≡◌, List}
use Rattle.description.specs.Description.{Description, live_text}
use Rattle.description.specs.Apart.{Described}
use Rattle.ledger.specs.Limits.{records_least, records_most}
use Rattle.desk.specs.Answers.{done}
use Rattle.desk.specs.Introspect.{introspect}
use Rattle.call_laws.specs.Live.{text_in, own_request}
use Rattle.history.specs.Runs.{Call, AllTyped, last_in}
use Rattle.history.specs.Events.{Event, events_in}
use Rattle.history.specs.Histories.{history, Chain}

-- behind a text of d for the token v at time t, as behind a reading with that token and the text's own key, scope and holder
pub record Behind (t : ℕ) (v : List ℕ) (d : Description) (es : List Event) : Type 0 where
  pub grant : ℕ
  -- "exactly one push, one consent and one token, in that order"
  pub chain : Chain t (own_request v d) (history grant es)
  -- "the same client": the text's
  pub pushed_by : chain.pushed.client ≡ d.client
  pub consented_by : chain.consent.client ≡ d.client
  pub redeemed_by : chain.redeemed.client ≡ d.client

-- every live text that introspect writes from the ledger that a run leaves
abbrev pub TextsBehind : ℕ → Type 0
TextsBehind n =
    (cs : List Call) → AllTyped cs → (t : ℕ) (v out : List ℕ) (d : Description) → Described d
    → (introspect (last_in n cs) t v out).answer.number ≡ done → text_in (introspect (last_in n cs) t v out) ≡ live_text d
    → Behind t v d (events_in n cs)

-- "A 32-byte head and 1 to 200 records"
abbrev pub EveryText : Type 0
EveryText = (n : ℕ) → records_least ≤ n → n ≤ records_most → TextsBehind n
