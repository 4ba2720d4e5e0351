-- What happened in a step: one map from the whole step, its call, its answer and the ledgers before and after, to a list of events.
-- Counts, numbers and histories are read off these events and off nothing else.
use Rattle.std.specs.Prelude.{ℕ, Bool, ◌&&◌, cond, List, [], ◌∷◌, ◌++◌, eqb}
use Rattle.ledger.specs.Fields.{records, rec, in_state, client, holder, grant}
use Rattle.ledger.specs.declared.state.State.TheVariants.{Free, Consented}
use Rattle.desk.specs.Answers.{number_of}
use Rattle.desk.specs.Requests.{ResourceRequest}
use Rattle.desk.specs.Token.{code_place}
use Rattle.desk.specs.Resource.{token_place}
use Rattle.desk.specs.declared.answer.Refusal.TheVariants.{CodeRedeemed}
use Rattle.history.specs.Runs.{Call, push, decide, token, resource, sweep, Said, Step, number_in, accepted, grant_of, holder_of, started, steps}

-- a push, a consent, a no and a token: calls that were accepted; a code dropped by a sweep; a second use of a code; a granted reading
pub data EventKind : Type 0 where
  Push : EventKind
  Consent : EventKind
  No : EventKind
  Token : EventKind
  Drop : EventKind
  SecondUse : EventKind
  Reading : EventKind

-- an event: its client, holder and grant number, and the call that it came of, with its time and request
pub record Event : Type 0 where
  pub kind : EventKind
  pub client : List ℕ
  pub holder : ℕ
  pub grant : ℕ
  pub call : Call

abbrev pub event : EventKind → List ℕ → ℕ → ℕ → Call → Event
event k id who g c = record { kind = k; client = id; holder = who; grant = g; call = c }

-- an event of a record: with its client, holder and grant number
abbrev pub of_record : EventKind → List ℕ → Call → Event
of_record k r c = event k (client r) (holder r) (grant r) c

-- the event where the test passes, else none
abbrev pub provided : Bool → Event → List Event
provided b e = cond b (e ∷ []) []

-- "its drops are the state 2 records that sweeps turned free": an event for each, by the records before and after
abbrev pub dropped : Call → List (List ℕ) → List (List ℕ) → List Event
dropped c [] ss = []
dropped c (r ∷ rs) [] = []
dropped c (r ∷ rs) (s ∷ ss) = provided (in_state Consented r && in_state Free s) (of_record Drop r c) ++ dropped c rs ss

-- the client of the record that has the token shown
abbrev pub reader_of : List ℕ → ResourceRequest → List ℕ
reader_of l q = client (rec l (token_place l q))

-- the map: call, answer, ledger before, ledger after
abbrev pub happened : Call → Said → List ℕ → List ℕ → List Event
-- a push that was accepted: its client, and the grant number answered; no holder yet, 0 is answered
happened (push t table p) a l m = provided (accepted a) (event Push p.client (holder_of a) (grant_of a) (push t table p))
-- a decide that was accepted, a consent or a no: the client and the holder that it was made with, the grant number answered
happened (decide t d out) a l m = provided (accepted a) (event (cond d.yes Consent No) d.client d.holder (grant_of a) (decide t d out))
-- a token call that was accepted: the client that it was made with, the holder and the grant number answered;
-- one that was answered 15: what the record says whose code it showed
happened (token t table q) a l m =
    provided (accepted a) (event Token q.client (holder_of a) (grant_of a) (token t table q))
    ++ provided (eqb (number_in a) (number_of CodeRedeemed)) (of_record SecondUse (rec l (code_place l q)) (token t table q))
-- a reading that was granted: the client of the token's record, the holder and the grant number answered
happened (resource t q) a l m =
    provided (accepted a) (event Reading (reader_of l q) (holder_of a) (grant_of a) (resource t q))
happened (sweep t) a l m = dropped (sweep t) (records l) (records m)

abbrev pub events_of : Step → List Event
events_of s = happened s.call s.answer s.before s.after

-- the events of steps, one after the other
abbrev pub events : List Step → List Event
events [] = []
events (s ∷ ss) = events_of s ++ events ss

-- the events of a run: calls on a ledger started for n records
abbrev pub events_in : ℕ → List Call → List Event
events_in n cs = events (steps (started n) cs)

-- ---- which event it is: kinds are compared by numbers

abbrev pub rank : EventKind → ℕ
rank Push = 0
rank Consent = 1
rank No = 2
rank Token = 3
rank Drop = 4
rank SecondUse = 5
rank Reading = 6

abbrev pub is : EventKind → Event → Bool
is k e = eqb (rank e.kind) (rank k)

-- what is told of the events that pass a test, in order
unfoldable pub listed : {A : Type 0} → (Event → Bool) → (Event → A) → List Event → List A
listed q f [] = []
listed q f (e ∷ es) = cond (q e) (f e ∷ listed q f es) (listed q f es)
