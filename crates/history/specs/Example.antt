-- Demand 3 is not empty: three runs on one record, of calls whose inputs are what their types say, with the events that happen in them.
use Rattle.std.specs.Prelude.{ℕ, ◌≡◌, true, false, List, [], ◌∷◌, ◌++◌, replicate}
use Rattle.forms.specs.Limits.{verifier_least}
use Rattle.desk.specs.Limits.{output_least}
use Rattle.desk.specs.Requests.{PushRequest, DecideRequest, TokenRequest, ResourceRequest}
use Rattle.history.specs.Runs.{Call, push, decide, token, resource, sweep, AllTyped, last_in}
use Rattle.history.specs.Events.{Push, Consent, No, Token, Drop, SecondUse, Reading, event, events_in}
use Rattle.history.specs.Counts.{just, consents, tokens, drops, waiting}
use Rattle.history.specs.Histories.{history, Granted}

-- ---- one client, permitted the bits 1 and 4

abbrev pub program : List ℕ
program = replicate 16 1

abbrev pub program_key : List ℕ
program_key = replicate 32 2

abbrev pub table : List ℕ
table = program ++ (program_key ++ (0 ∷ 0 ∷ 0 ∷ 5 ∷ replicate 12 0))

-- the verifier is the character a, 43 times; the text of its digest is ZtNPunH49FD35FWYhT5Tv8I7vRKQJ8uxMaL0_9eHjNA, as an outside program gives it
abbrev pub secret : ℕ → List ℕ
secret n = replicate n 0x61

abbrev pub text43 : List ℕ
text43 =
    0x5A ∷ 0x74 ∷ 0x4E ∷ 0x50 ∷ 0x75 ∷ 0x6E ∷ 0x48 ∷ 0x34 ∷ 0x39 ∷ 0x46 ∷ 0x44 ∷ 0x33 ∷ 0x35 ∷ 0x46 ∷ 0x57 ∷ 0x59 ∷
    0x68 ∷ 0x54 ∷ 0x35 ∷ 0x54 ∷ 0x76 ∷ 0x38 ∷ 0x49 ∷ 0x37 ∷ 0x76 ∷ 0x52 ∷ 0x4B ∷ 0x51 ∷ 0x4A ∷ 0x38 ∷ 0x75 ∷ 0x78 ∷
    0x4D ∷ 0x61 ∷ 0x4C ∷ 0x30 ∷ 0x5F ∷ 0x39 ∷ 0x65 ∷ 0x48 ∷ 0x6A ∷ 0x4E ∷ 0x41 ∷ []

-- `https://a`
abbrev pub target : List ℕ
target = 0x68 ∷ 0x74 ∷ 0x74 ∷ 0x70 ∷ 0x73 ∷ 0x3A ∷ 0x2F ∷ 0x2F ∷ 0x61 ∷ []

-- an output buffer
abbrev pub room : List ℕ
room = replicate output_least 0

-- ---- the requests of a grant, by holder 9

abbrev pub asks : PushRequest
asks = record { client = program; key = program_key; scope = 4; challenge = text43; redirect = target; fresh = replicate 32 5 }

abbrev pub allows : DecideRequest
allows = record { reference = replicate 32 5; client = program; yes = true; holder = 9; fresh = replicate 32 6 }

abbrev pub declines : DecideRequest
declines = record { reference = replicate 32 5; client = program; yes = false; holder = 9; fresh = replicate 32 6 }

abbrev pub redeems : TokenRequest
redeems =
    record {
      client = program;
      key = program_key;
      presented = replicate 32 7;
      code = replicate 32 6;
      verifier = secret verifier_least;
      fresh = replicate 32 8;
    }

abbrev pub reads : ResourceRequest
reads = record { token = replicate 32 8; presented = replicate 32 7; scope = 4; holder = 9 }

-- ---- the runs

-- a push, a consent, a token and a reading; the code once more, which ends the token; and the same reading again
abbrev pub opening : List Call
opening =
    push 100 table asks ∷ decide 110 allows room ∷ token 120 table redeems ∷ resource 130 reads ∷ token 140 table redeems ∷ resource 150 reads ∷ []

-- a push and a consent, and a sweep when the code has expired
abbrev pub dropping : List Call
dropping = push 100 table asks ∷ decide 110 allows room ∷ sweep 170 ∷ []

-- a push and a no
abbrev pub declining : List Call
declining = push 100 table asks ∷ decide 110 declines room ∷ []

pub record Example : Type 0 where
  pub opening_typed : AllTyped opening
  -- the second reading is no event: it is refused
  pub opening_events : events_in 1 opening
      ≡ event Push program 0 1 (push 100 table asks)
      ∷ event Consent program 9 1 (decide 110 allows room)
      ∷ event Token program 9 1 (token 120 table redeems)
      ∷ event Reading program 9 1 (resource 130 reads)
      ∷ event SecondUse program 9 1 (token 140 table redeems)
      ∷ []
  -- a granted reading, with its history
  pub granted : Granted (events_in 1 opening)
  pub its_history : history 1 (events_in 1 opening) ≡ push 100 table asks ∷ decide 110 allows room ∷ token 120 table redeems ∷ []
  -- one consent, one token
  pub opened : (consents (just program 9) (events_in 1 opening) ≡ 1) × (tokens (just program 9) (events_in 1 opening) ≡ 1)
  pub opened_rest : (drops (just program 9) (events_in 1 opening) ≡ 0) × (waiting (just program 9) (last_in 1 opening) ≡ 0)
  pub dropping_typed : AllTyped dropping
  pub dropping_events : events_in 1 dropping
      ≡ event Push program 0 1 (push 100 table asks) ∷ event Consent program 9 1 (decide 110 allows room) ∷ event Drop program 9 1 (sweep 170) ∷ []
  -- one consent, one code dropped
  pub dropped_one : (consents (just program 9) (events_in 1 dropping) ≡ 1) × (drops (just program 9) (events_in 1 dropping) ≡ 1)
  pub dropped_rest : (tokens (just program 9) (events_in 1 dropping) ≡ 0) × (waiting (just program 9) (last_in 1 dropping) ≡ 0)
  -- a no stands in the history of its number, and is no consent
  pub declining_typed : AllTyped declining
  pub declining_events : events_in 1 declining
      ≡ event Push program 0 1 (push 100 table asks) ∷ event No program 9 1 (decide 110 declines room) ∷ []
  pub declined_history : history 1 (events_in 1 declining) ≡ declining
  pub declined_none : consents (just program 9) (events_in 1 declining) ≡ 0
