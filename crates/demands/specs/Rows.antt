-- The table "Numbers returned" in plain words: each call's rows in the order of its checks, and when a row's turn comes.
use Rattle.std.specs.Prelude.{ℕ, ◌≤◌, ◌<◌, ◌≡◌, ◌≢◌, ◌⊎◌, true, List, [], ◌∷◌, length}
use Rattle.octets.specs.Plain.{AllZero}
use Rattle.forms.specs.Plain.{RedirectWell, ChallengeWell, VerifierWell}
use Rattle.sha256.specs.Hash.{sha256}
use Rattle.texts.specs.Base64url.{base64url}
use Rattle.ledger.specs.Limits.{last_number}
use Rattle.ledger.specs.Fields.{next_number, rec, slots, state, state_number, scope, expiry, holder, challenge, bound_key}
use Rattle.ledger.specs.declared.state.State.TheVariants.{Free, Pushed, Consented, Redeemed}
use Rattle.ledger_laws.specs.Sound.{Sized, SoundLedger}
use Rattle.clients.specs.Fields.{client as entry, permitted}
use Rattle.clients.specs.Plain.{SoundTable, KnownAt}
use Rattle.desk.specs.Limits.{output_least}
use Rattle.desk.specs.Requests.{PushRequest, DecideRequest, TokenRequest, ResourceRequest}
use Rattle.desk.specs.declared.answer.Refusal.{Refusal}
use Rattle.desk.specs.declared.answer.Refusal.TheVariants.{
  LedgerUnsound,
  TimeWrong,
  TableUnsound,
  ClientUnknown,
  IllFormed,
  ScopeRefused,
  FreshTaken,
  LedgerFull,
  NumbersSpent,
  NoReference,
  RecordExpired,
  NoHolder,
  NoKey,
  NoCode,
  CodeRedeemed,
  VerifierDiffers,
  NoToken,
  KeyDiffers,
  HolderDiffers,
  OutputShort,
}
use Rattle.call_laws.specs.Conditions.{InTime, ScopeWithin, FreshValue, StandsAt, TokenAt, TextFor}
use Rattle.demands.specs.Calls.{Call, start, push, decide, token, resource, sweep, introspect}
use Rattle.desk.specs.Requests.{PendingRequest}
use Rattle.demands.specs.Calls.{pending}

abbrev pub Not : Type 0 → Type 0
Not P = P → ⊥

-- a row of the table and its condition
pub record Row : Type 1 where
  pub why : Refusal
  pub condition : Type 0

infixr 20 ◌given◌
abbrev pub ◌given◌ : Refusal → Type 0 → Row
why given P = record { why = why; condition = P }

-- "Given exactly when its turn comes and ..": no condition before it holds, and its own does
abbrev pub Turn : Refusal → List Row → Type 0
Turn why [] = ⊥
Turn why (r ∷ rs) = (r.condition × (r.why ≡ why)) ⊎ (Not r.condition × Turn why rs)

-- "Each call but start begins with 1, then 2."
abbrev pub begins : List ℕ → ℕ → List Row → List Row
begins l t rs = (LedgerUnsound given Not (SoundLedger l)) ∷ (TimeWrong given Not (InTime l t)) ∷ rs

-- "Start: 1 if the length is wrong"
abbrev pub start_rows : List ℕ → List Row
start_rows l = (LedgerUnsound given Not (Sized l)) ∷ []

-- "Push: 3, 4, 5, 6, 7, 8, 9"; the client that asks is the one known by this id and key
abbrev pub push_rows : List ℕ → ℕ → List ℕ → PushRequest → List Row
push_rows l t table p =
    begins l t
    ((TableUnsound given Not (SoundTable table))
    ∷ (ClientUnknown given ((k : ℕ) → Not (KnownAt table p.client p.key k)))
    ∷ (IllFormed given (Not (RedirectWell p.redirect) ⊎ Not (ChallengeWell p.challenge)))
    ∷ (ScopeRefused given ((k : ℕ) × KnownAt table p.client p.key k × Not (ScopeWithin p.scope (permitted (entry table k)))))
    ∷ (FreshTaken given Not (FreshValue l p.fresh))
    ∷ (LedgerFull given ((k : ℕ) → k < slots l → state (rec l k) ≢ state_number Free))
    ∷ (NumbersSpent given (next_number l ≡ last_number))
    ∷ [])

-- "Decide: 20, 10, 11, 12. .. On yes, 7 is checked"; the record is the one in state 1 with this reference and client id
abbrev pub decide_rows : List ℕ → ℕ → DecideRequest → List ℕ → List Row
decide_rows l t d out =
    begins l t
    ((OutputShort given (length out < output_least))
    ∷ (NoReference given ((k : ℕ) → Not (StandsAt Pushed l d.reference d.client k)))
    ∷ (RecordExpired given ((k : ℕ) × StandsAt Pushed l d.reference d.client k × (expiry (rec l k) ≤ t)))
    ∷ (NoHolder given (d.holder ≡ 0))
    ∷ (FreshTaken given ((d.yes ≡ true) × Not (FreshValue l d.fresh)))
    ∷ [])

-- "Token: 3, 4, 13, 5, then 14 or 15, 11, 16, 7"; behind 15 the record is the one in state 2 with this code and client id
abbrev pub token_rows : List ℕ → ℕ → List ℕ → TokenRequest → List Row
token_rows l t table q =
    begins l t
    ((TableUnsound given Not (SoundTable table))
    ∷ (ClientUnknown given ((k : ℕ) → Not (KnownAt table q.client q.key k)))
    ∷ (NoKey given AllZero q.presented)
    ∷ (IllFormed given Not (VerifierWell q.verifier))
    ∷ (NoCode given ((k : ℕ) → Not (StandsAt Consented l q.code q.client k ⊎ StandsAt Redeemed l q.code q.client k)))
    ∷ (CodeRedeemed given ((k : ℕ) × StandsAt Redeemed l q.code q.client k))
    ∷ (RecordExpired given ((k : ℕ) × StandsAt Consented l q.code q.client k × (expiry (rec l k) ≤ t)))
    ∷ (VerifierDiffers
    given ((k : ℕ) × StandsAt Consented l q.code q.client k × (base64url (sha256 q.verifier) ≢ challenge (rec l k))))
    ∷ (FreshTaken given Not (FreshValue l q.fresh))
    ∷ [])

-- "Resource: 17, 11, 18, 6, 19"; the record is the one in state 3 with this token
abbrev pub resource_rows : List ℕ → ℕ → ResourceRequest → List Row
resource_rows l t q =
    begins l t
    ((NoToken given ((k : ℕ) → Not (TokenAt l q.token k)))
    ∷ (RecordExpired given ((k : ℕ) × TokenAt l q.token k × (expiry (rec l k) ≤ t)))
    ∷ (KeyDiffers given ((k : ℕ) × TokenAt l q.token k × (bound_key (rec l k) ≢ q.presented)))
    ∷ (ScopeRefused given ((k : ℕ) × TokenAt l q.token k × Not (ScopeWithin q.scope (scope (rec l k)))))
    ∷ (HolderDiffers given ((k : ℕ) × TokenAt l q.token k × (holder (rec l k) ≢ q.holder)))
    ∷ [])

-- beyond document 01, pending: 20, 10, 11 as decide has them; the record is the one in state 1 with this reference and client id
abbrev pub pending_rows : List ℕ → ℕ → PendingRequest → List ℕ → List Row
pending_rows l t p out =
    begins l t
    ((OutputShort given (length out < output_least))
    ∷ (NoReference given ((k : ℕ) → Not (StandsAt Pushed l p.reference p.client k)))
    ∷ (RecordExpired given ((k : ℕ) × StandsAt Pushed l p.reference p.client k × (expiry (rec l k) ≤ t)))
    ∷ [])

-- introspect: "1, 2, then 20 when the buffer is shorter than the text" (document 02, Q-1)
abbrev pub introspect_rows : List ℕ → ℕ → List ℕ → List ℕ → List Row
introspect_rows l t v out = begins l t ((OutputShort given ((text : List ℕ) × TextFor l t v text × (length out < length text))) ∷ [])

-- the rows of a call, on this ledger and this client table
abbrev pub rows : List ℕ → List ℕ → Call → List Row
rows l table start = start_rows l
rows l table (push t p) = push_rows l t table p
rows l table (decide t d out) = decide_rows l t d out
rows l table (token t q) = token_rows l t table q
rows l table (resource t q) = resource_rows l t q
rows l table (sweep t) = begins l t []
rows l table (pending t p out) = pending_rows l t p out
rows l table (introspect t v out) = introspect_rows l t v out
