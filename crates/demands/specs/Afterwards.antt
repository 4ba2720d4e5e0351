-- What an accepted call leaves: the record that it writes, field by field in the order of document 01's table; every other record; the head; the answer; the output.
-- And what a second use of a code leaves, which is refused by 15.
use Rattle.std.specs.Prelude.{ℕ, ◌+◌, ◌-◌, ◌≤◌, ◌<◌, ◌≡◌, ◌≢◌, ◌⊎◌, true, false, List, [], ◌∷◌, ◌++◌, length, drop}
use Rattle.octets.specs.Plain.{Bytes}
use Rattle.octets.specs.Parts.{blank}
use Rattle.forms.specs.Limits.{redirect_most}
use Rattle.ledger.specs.Limits.{record_size, code_lifetime, token_lifetime}
use Rattle.ledger.specs.Fields.{next_number, head_rest, rec, slots, state, state_number, redirect_length, gap_one, scope, grant, expiry, holder, client, challenge, gap_two, value, token, bound_key, redirect_field, redirect}
use Rattle.ledger.specs.Sweep.{freed_of}
use Rattle.ledger.specs.declared.state.State.TheVariants.{Free, Pushed, Consented, Redeemed}
use Rattle.clients.specs.Fields.{client as entry}
use Rattle.clients.specs.Lifetime.{lifetime_of}
use Rattle.clients.specs.Plain.{KnownAt}
use Rattle.desk.specs.Limits.{output_least}
use Rattle.desk.specs.Requests.{PushRequest, DecideRequest, TokenRequest, ResourceRequest}
use Rattle.call_laws.specs.Conditions.{FirstFree, StandsAt, TokenAt, TextFor}
use Rattle.desk.specs.Requests.{PendingRequest}
use Rattle.demands.specs.Layout.{clock_bytes, next_bytes, state_byte, length_byte, scope_bytes, grant_bytes, expiry_bytes, holder_bytes, byte, four_bytes, eight_bytes, value_long, key_long}
use Rattle.demands.specs.Calls.{Left}

-- ---- the record written: s is what r became

-- push: "becomes state 1 with the next grant number, value = fresh, expiry = now + ..", the lifetime of the client, whose record is c; with the scope, the client id, the
-- challenge and the redirect of the request
pub record Entered (l : List ℕ) (t : ℕ) (c : List ℕ) (p : PushRequest) (r s : List ℕ) : Type 0 where
  pub state_is : state_byte s ≡ state_number Pushed ∷ []
  pub length_is : length_byte s ≡ byte (length p.redirect)
  pub gap_one_stays : gap_one s ≡ gap_one r
  pub scope_is : scope_bytes s ≡ four_bytes p.scope
  pub grant_is : grant_bytes s ≡ eight_bytes (next_number l)
  pub expiry_is : expiry_bytes s ≡ eight_bytes (t + lifetime_of c)
  pub holder_stays : holder_bytes s ≡ holder_bytes r
  pub client_is : client s ≡ p.client
  pub challenge_is : challenge s ≡ p.challenge
  pub gap_two_stays : gap_two s ≡ gap_two r
  pub value_is : value s ≡ p.fresh
  pub token_stays : token s ≡ token r
  pub key_stays : bound_key s ≡ bound_key r
  pub redirect_is : redirect_field s ≡ p.redirect ++ blank (redirect_most - length p.redirect)

-- decide, yes: "state 2, that holder, value = fresh, expiry = now + 60"
pub record Consenting (t : ℕ) (d : DecideRequest) (r s : List ℕ) : Type 0 where
  pub state_is : state_byte s ≡ state_number Consented ∷ []
  pub length_stays : length_byte s ≡ length_byte r
  pub gap_one_stays : gap_one s ≡ gap_one r
  pub scope_stays : scope_bytes s ≡ scope_bytes r
  pub grant_stays : grant_bytes s ≡ grant_bytes r
  pub expiry_is : expiry_bytes s ≡ eight_bytes (t + code_lifetime)
  pub holder_is : holder_bytes s ≡ eight_bytes d.holder
  pub client_stays : client s ≡ client r
  pub challenge_stays : challenge s ≡ challenge r
  pub gap_two_stays : gap_two s ≡ gap_two r
  pub value_is : value s ≡ d.fresh
  pub token_stays : token s ≡ token r
  pub key_stays : bound_key s ≡ bound_key r
  pub redirect_stays : redirect_field s ≡ redirect_field r

-- token: "state 3: token = fresh, the presented key bound, expiry = now + 300. The code stays in it."
pub record Redeeming (t : ℕ) (q : TokenRequest) (r s : List ℕ) : Type 0 where
  pub state_is : state_byte s ≡ state_number Redeemed ∷ []
  pub length_stays : length_byte s ≡ length_byte r
  pub gap_one_stays : gap_one s ≡ gap_one r
  pub scope_stays : scope_bytes s ≡ scope_bytes r
  pub grant_stays : grant_bytes s ≡ grant_bytes r
  pub expiry_is : expiry_bytes s ≡ eight_bytes (t + token_lifetime)
  pub holder_stays : holder_bytes s ≡ holder_bytes r
  pub client_stays : client s ≡ client r
  pub challenge_stays : challenge s ≡ challenge r
  pub gap_two_stays : gap_two s ≡ gap_two r
  pub value_stays : value s ≡ value r
  pub token_is : token s ≡ q.fresh
  pub key_is : bound_key s ≡ q.presented
  pub redirect_stays : redirect_field s ≡ redirect_field r

-- ---- the rest of the ledger: m is what l became

-- "the clock becomes now. All other bytes keep their content": every record but k, and 16..32 of the head
pub record AllButOne (t : ℕ) (l m : List ℕ) (k : ℕ) : Type 0 where
  pub others : (j : ℕ) → j ≢ k → rec m j ≡ rec l j
  pub clock_is : clock_bytes m ≡ eight_bytes t
  pub rest_stays : head_rest m ≡ head_rest l
  pub long : length m ≡ length l

-- "grant number, holder, scope, expiry, as the record has them after the call"
abbrev pub told : List ℕ → List ℕ
told s = grant s ∷ holder s ∷ scope s ∷ expiry s ∷ []

-- ---- the calls. Where a field needs that an array is as long as its type says, it says so.

-- "Writes zeros and next number 1." "Start answers only its number."
pub record AfterStart (l : List ℕ) (a : Left) : Type 0 where
  pub ledger_is : a.ledger ≡ eight_bytes 0 ++ (eight_bytes 1 ++ blank (length l - 16))
  pub answer_is : a.beside ≡ []

-- "The first free record in ledger order becomes state 1 ..", "The next number rises by one."
pub record AfterPush (l : List ℕ) (t : ℕ) (table : List ℕ) (p : PushRequest) (a : Left) : Type 0 where
  pub k : ℕ
  pub place : FirstFree l k
  pub client_place : ℕ
  pub known : KnownAt table p.client p.key client_place
  pub written : length p.fresh ≡ value_long → Entered l t (entry table client_place) p (rec l k) (rec a.ledger k)
  pub others : AllButOne t l a.ledger k
  pub next_is : next_bytes a.ledger ≡ eight_bytes (next_number l + 1)
  pub next_rises : Bytes l → next_number a.ledger ≡ next_number l + 1
  pub answer_is : a.beside ≡ told (rec a.ledger k)

-- "On no, the record becomes free. On yes, .. On yes and on no the redirect goes into the first 64 output bytes, zero-padded; later bytes stay."
pub record AfterDecide (l : List ℕ) (t : ℕ) (d : DecideRequest) (out : List ℕ) (a : Left) : Type 0 where
  pub k : ℕ
  pub place : StandsAt Pushed l d.reference d.client k
  pub on_yes : d.yes ≡ true → length d.fresh ≡ value_long → Consenting t d (rec l k) (rec a.ledger k)
  pub on_no : d.yes ≡ false → rec a.ledger k ≡ blank record_size
  pub others : AllButOne t l a.ledger k
  pub next_stays : next_bytes a.ledger ≡ next_bytes l
  pub answer_yes : d.yes ≡ true → a.beside ≡ told (rec a.ledger k) ++ (redirect_length (rec l k) ∷ [])
  -- "After a no: the grant number, the holder given, scope 0, expiry 0."
  pub answer_no : d.yes ≡ false → a.beside ≡ grant (rec l k) ∷ d.holder ∷ 0 ∷ 0 ∷ redirect_length (rec l k) ∷ []
  pub output_is : a.output ≡ redirect (rec l k) ++ (blank (output_least - redirect_length (rec l k)) ++ drop output_least out)

-- "The record becomes state 3: .."
pub record AfterToken (l : List ℕ) (t : ℕ) (q : TokenRequest) (a : Left) : Type 0 where
  pub k : ℕ
  pub place : StandsAt Consented l q.code q.client k
  pub written : length q.presented ≡ key_long → length q.fresh ≡ value_long → Redeeming t q (rec l k) (rec a.ledger k)
  pub others : AllButOne t l a.ledger k
  pub next_stays : next_bytes a.ledger ≡ next_bytes l
  pub answer_is : a.beside ≡ told (rec a.ledger k)

-- document 02, Q-3: "When 15 is due, the record now becomes free and the clock becomes now."; "A refusal returns its number with zeros" still
pub record AfterSecondUse (l : List ℕ) (t : ℕ) (q : TokenRequest) (a : Left) : Type 0 where
  pub k : ℕ
  pub place : StandsAt Redeemed l q.code q.client k
  pub freed : rec a.ledger k ≡ blank record_size
  pub others : AllButOne t l a.ledger k
  pub next_stays : next_bytes a.ledger ≡ next_bytes l
  pub answer_is : a.beside ≡ 0 ∷ 0 ∷ 0 ∷ 0 ∷ []

-- "Only the clock changes."
pub record AfterResource (l : List ℕ) (t : ℕ) (q : ResourceRequest) (a : Left) : Type 0 where
  pub k : ℕ
  pub place : TokenAt l q.token k
  pub others : AllButOne t l a.ledger k
  pub stays : rec a.ledger k ≡ rec l k
  pub next_stays : next_bytes a.ledger ≡ next_bytes l
  pub answer_is : a.beside ≡ told (rec l k)

-- "every expired record becomes free"; "three counts: pushed, consented and redeemed records freed"
pub record AfterSweep (l : List ℕ) (t : ℕ) (a : Left) : Type 0 where
  pub freed : (j : ℕ) → j < slots l → state (rec l j) ≢ state_number Free → expiry (rec l j) ≤ t → rec a.ledger j ≡ blank record_size
  pub kept : (j : ℕ) → (state (rec l j) ≡ state_number Free) ⊎ (t < expiry (rec l j)) → rec a.ledger j ≡ rec l j
  pub clock_is : clock_bytes a.ledger ≡ eight_bytes t
  pub next_stays : next_bytes a.ledger ≡ next_bytes l
  pub rest_stays : head_rest a.ledger ≡ head_rest l
  pub long : length a.ledger ≡ length l
  pub answer_is : a.beside ≡ freed_of Pushed t l ∷ freed_of Consented t l ∷ freed_of Redeemed t l ∷ []

-- beyond document 01, pending: the request as it waits, with holder 0, and its redirect as decide hands it out; the ledger is only read
pub record AfterPending (l : List ℕ) (p : PendingRequest) (out : List ℕ) (a : Left) : Type 0 where
  pub k : ℕ
  pub place : StandsAt Pushed l p.reference p.client k
  pub ledger_is : a.ledger ≡ l
  pub answer_is : a.beside ≡ grant (rec l k) ∷ 0 ∷ scope (rec l k) ∷ expiry (rec l k) ∷ redirect_length (rec l k) ∷ []
  pub output_is : a.output ≡ redirect (rec l k) ++ (blank (output_least - redirect_length (rec l k)) ++ drop output_least out)

-- "The ledger is only read, clock included. The answer is the number and the text's length; bytes behind the text stay." (document 02, Q-1)
pub record AfterIntrospect (l : List ℕ) (t : ℕ) (v out : List ℕ) (a : Left) : Type 0 where
  pub text : List ℕ
  pub text_is : TextFor l t v text
  pub ledger_stays : a.ledger ≡ l
  pub answer_is : a.beside ≡ length text ∷ []
  pub output_is : a.output ≡ text ++ drop (length text) out
