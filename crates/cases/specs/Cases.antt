-- The kinds of case in document 01's section "At the edges": what is varied, on which inputs all else is in order, and the number that comes out.
use Rattle.std.specs.Prelude.{ℕ, ◌≤◌, ◌<◌, ◌≡◌, ◌≢◌, true, cond, List, length, get_or}
use Rattle.octets.specs.Plain.{Bytes}
use Rattle.octets.specs.Lists.{every}
use Rattle.forms.specs.Forms.{unreserved, challenge_formed, verifier_formed}
use Rattle.sha256.specs.Pad.{blocks}
use Rattle.ledger.specs.Limits.{records_least, records_most}
use Rattle.clients.specs.Fields.{permitted, lifetime_said}
use Rattle.desk.specs.Answers.{number_of, done}
use Rattle.desk.specs.Requests.{PushRequest, DecideRequest, TokenRequest, ResourceRequest}
use Rattle.desk.specs.Start.{start}
use Rattle.desk.specs.Push.{client_record, push_checks}
use Rattle.desk.specs.Decide.{reference_place, decide_checks}
use Rattle.desk.specs.Token.{code_place, token_checks}
use Rattle.desk.specs.Resource.{token_place, resource_checks}
use Rattle.desk.specs.declared.answer.Refusal.TheVariants.{IllFormed, ScopeRefused, FreshTaken, RecordExpired}
use Rattle.history.specs.Runs.{Call, push, decide, token, resource, sweep, TypedPush, TypedDecide, TypedToken, step, number_in, started}
use Rattle.cases.specs.Order.{else_in_order}

-- the call, and the one thing that is varied in it
pub data Varied : Type 0 where
  -- start on a buffer of so many bytes; on as many, the byte at this index afterwards, and every other byte
  start_length : ℕ → Varied
  start_byte : ℕ → ℕ → Varied
  start_other : ℕ → ℕ → Varied
  -- for a client whose record says this lifetime, a push at the first time, and decide of it at the second; a consent, and token of it; a token, and resource of it
  decide_time : ℕ → ℕ → ℕ → Varied
  token_time : ℕ → ℕ → Varied
  resource_time : ℕ → ℕ → Varied
  -- push, of permitted bits, the bits asked
  push_scope : ℕ → ℕ → Varied
  -- sweep of a fresh ledger at this time
  sweep_time : ℕ → Varied
  -- token with a verifier of so many bytes; the form of such a verifier alone
  token_verifier : ℕ → Varied
  form_verifier : ℕ → Varied
  -- push with this redirect
  push_redirect : List ℕ → Varied
  -- decide with the reference that it would replace as fresh value
  decide_fresh : Varied
  -- the SHA-256 blocks of a message of so many bytes
  message_length : ℕ → Varied

-- ---- on which inputs all else is in order: l is the ledger that call c finds

-- c decides at time b on what was pushed at time a by a client whose record says this lifetime
pub record DecideAfter (said a b : ℕ) (l : List ℕ) (c : Call) : Type 0 where
  pub before : List ℕ
  pub table : List ℕ
  pub asked : PushRequest
  pub lifetime_is : lifetime_said (client_record table asked) ≡ said
  pub bytes : Bytes before
  pub typed : TypedPush a table asked
  pub accepted : number_in (step before (push a table asked)).answer ≡ done
  pub leaves : l ≡ (step before (push a table asked)).after
  pub request : DecideRequest
  pub output : List ℕ
  pub is : c ≡ decide b request output
  pub same_reference : request.reference ≡ asked.fresh
  pub same_client : request.client ≡ asked.client
  pub in_order : else_in_order RecordExpired (decide_checks l b request output (reference_place l request)) ≡ true

-- c redeems at time b what was consented at time a
pub record TokenAfter (a b : ℕ) (l : List ℕ) (c : Call) : Type 0 where
  pub before : List ℕ
  pub allowed : DecideRequest
  pub output : List ℕ
  pub typed : TypedDecide a allowed output
  pub yes : allowed.yes ≡ true
  pub accepted : number_in (step before (decide a allowed output)).answer ≡ done
  pub leaves : l ≡ (step before (decide a allowed output)).after
  pub table : List ℕ
  pub request : TokenRequest
  pub is : c ≡ token b table request
  pub same_code : request.code ≡ allowed.fresh
  pub same_client : request.client ≡ allowed.client
  pub in_order : else_in_order RecordExpired (token_checks l b table request (code_place l request)) ≡ true

-- c reads at time b with a token issued at time a
pub record ResourceAfter (a b : ℕ) (l : List ℕ) (c : Call) : Type 0 where
  pub before : List ℕ
  pub table : List ℕ
  pub redeemed : TokenRequest
  pub typed : TypedToken a table redeemed
  pub accepted : number_in (step before (token a table redeemed)).answer ≡ done
  pub leaves : l ≡ (step before (token a table redeemed)).after
  pub request : ResourceRequest
  pub is : c ≡ resource b request
  pub same_token : request.token ≡ redeemed.fresh
  pub in_order : else_in_order RecordExpired (resource_checks l b request (token_place l request)) ≡ true

-- c pushes for bits of a client that has these permitted
pub record PushScope (given bits : ℕ) (l : List ℕ) (c : Call) : Type 0 where
  pub time : ℕ
  pub table : List ℕ
  pub request : PushRequest
  pub is : c ≡ push time table request
  pub permitted_are : permitted (client_record table request) ≡ given
  pub asked_are : request.scope ≡ bits
  pub in_order : else_in_order ScopeRefused (push_checks l time table request) ≡ true

-- c sweeps a ledger as start leaves it
pub record SweepFresh (t : ℕ) (l : List ℕ) (c : Call) : Type 0 where
  pub slots : ℕ
  pub least : records_least ≤ slots
  pub most : slots ≤ records_most
  pub leaves : l ≡ started slots
  pub is : c ≡ sweep t

-- c redeems with a verifier of so many bytes
pub record TokenVerifier (n : ℕ) (l : List ℕ) (c : Call) : Type 0 where
  pub time : ℕ
  pub table : List ℕ
  pub request : TokenRequest
  pub is : c ≡ token time table request
  pub long : length request.verifier ≡ n
  pub in_order : else_in_order IllFormed (token_checks l time table request (code_place l request)) ≡ true

-- c pushes with this redirect; the challenge, which check 5 looks at too, is well formed
pub record PushRedirect (target : List ℕ) (l : List ℕ) (c : Call) : Type 0 where
  pub time : ℕ
  pub table : List ℕ
  pub request : PushRequest
  pub is : c ≡ push time table request
  pub redirect_is : request.redirect ≡ target
  pub challenge_well : challenge_formed request.challenge ≡ true
  pub in_order : else_in_order IllFormed (push_checks l time table request) ≡ true

-- c consents with the reference as fresh value
pub record DecideFresh (l : List ℕ) (c : Call) : Type 0 where
  pub time : ℕ
  pub request : DecideRequest
  pub output : List ℕ
  pub is : c ≡ decide time request output
  pub yes : request.yes ≡ true
  pub fresh_is : request.fresh ≡ request.reference
  pub in_order : else_in_order FreshTaken (decide_checks l time request output (reference_place l request)) ≡ true

-- ---- a case: its inputs, which of them are in order, and the number that comes out

-- a ledger and a call, a buffer and an index, or bytes
abbrev pub Input : Varied → Type 0
Input (start_length n) = List ℕ
Input (start_byte n i) = List ℕ
Input (start_other n i) = List ℕ × ℕ
Input (decide_time said a b) = List ℕ × Call
Input (token_time a b) = List ℕ × Call
Input (resource_time a b) = List ℕ × Call
Input (push_scope given bits) = List ℕ × Call
Input (sweep_time t) = List ℕ × Call
Input (token_verifier n) = List ℕ × Call
Input (form_verifier n) = List ℕ
Input (push_redirect target) = List ℕ × Call
Input decide_fresh = List ℕ × Call
Input (message_length n) = List ℕ

abbrev pub InOrder : (v : Varied) → Input v → Type 0
InOrder (start_length n) l = length l ≡ n
InOrder (start_byte n i) l = length l ≡ n
InOrder (start_other n i) x = (length x.0 ≡ n) × ((x.1 < n) × (x.1 ≢ i))
InOrder (decide_time said a b) x = DecideAfter said a b x.0 x.1
InOrder (token_time a b) x = TokenAfter a b x.0 x.1
InOrder (resource_time a b) x = ResourceAfter a b x.0 x.1
InOrder (push_scope given bits) x = PushScope given bits x.0 x.1
InOrder (sweep_time t) x = SweepFresh t x.0 x.1
InOrder (token_verifier n) x = TokenVerifier n x.0 x.1
InOrder (form_verifier n) s = (length s ≡ n) × (every unreserved s ≡ true)
InOrder (push_redirect target) x = PushRedirect target x.0 x.1
InOrder decide_fresh x = DecideFresh x.0 x.1
InOrder (message_length n) m = length m ≡ n

-- the number that a call answers
abbrev pub answers : List ℕ × Call → ℕ
answers x = number_in (step x.0 x.1).answer

-- the number answered; a byte; for a form what check 5 alone would give, 0 or 5; a number of blocks
abbrev pub outcome : (v : Varied) → Input v → ℕ
outcome (start_length n) l = (start l).answer
outcome (start_byte n i) l = get_or (start l).ledger i 0
outcome (start_other n i) x = get_or (start x.0).ledger x.1 0
outcome (decide_time said a b) x = answers x
outcome (token_time a b) x = answers x
outcome (resource_time a b) x = answers x
outcome (push_scope given bits) x = answers x
outcome (sweep_time t) x = answers x
outcome (token_verifier n) x = answers x
outcome (form_verifier n) s = cond (verifier_formed s) done (number_of IllFormed)
outcome (push_redirect target) x = answers x
outcome decide_fresh x = answers x
outcome (message_length n) m = blocks m
