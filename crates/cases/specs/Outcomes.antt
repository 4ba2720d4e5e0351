-- "The statement settles the answer and each lent byte afterwards for all inputs, refused ones too; prove that any two outcomes allowed by it are equal".
-- An outcome is all that a caller sees of a call: what is returned, and the bytes of each buffer that was lent to be written.
-- A contract says of an outcome whether it is allowed. Of the calls and of the functions exported for them it is proved that any two outcomes
-- allowed are equal. For every other public function it is proved of the form, and docs/OUTCOMES.md lists the form that its contract has, as a script reads it.
use Rattle.std.specs.Prelude.{ℕ, ◌≡◌, List}
use Rattle.desk.specs.Requests.{PushRequest, DecideRequest, TokenRequest, ResourceRequest, PendingRequest}
use Rattle.desk.specs.Outcome.{left, left_with}
use Rattle.desk.specs.Start.{start}
use Rattle.desk.specs.Push.{push}
use Rattle.desk.specs.Decide.{decide}
use Rattle.desk.specs.Token.{token}
use Rattle.desk.specs.Resource.{resource}
use Rattle.desk.specs.Sweep.{sweep}
use Rattle.desk.specs.Pending.{pending}
use Rattle.desk.specs.Introspect.{introspect}
use Rattle.desk.specs.declared.answer.Answer.{Answer}
use Rattle.desk.specs.declared.answer.Decided.{Decided}
use Rattle.desk.specs.declared.answer.Swept.{Swept}
use Rattle.desk.specs.declared.answer.Introspected.{Introspected}
use Rattle.front.specs.Consent.{consents}
use Rattle.front.specs.Seen.{as_answer, as_decided, as_swept, as_introspected}
use Rattle.front.specs.declared.answer.Answer.{Answer as FrontAnswer}
use Rattle.front.specs.declared.answer.Decided.{Decided as FrontDecided}
use Rattle.front.specs.declared.answer.Swept.{Swept as FrontSwept}
use Rattle.front.specs.declared.answer.Introspected.{Introspected as FrontIntrospected}

-- any two outcomes that are allowed are equal
abbrev pub OneOutcome : {A : Type 0} → (A → Type 0) → Type 0
OneOutcome {A} Allows = (x y : A) → Allows x → Allows y → x ≡ y

-- ---- the forms of a contract

-- "value", "slice" and "bytes": one equation, of what is returned, of the bytes of a slice returned, or of the bytes lent
abbrev pub Is : {A : Type 0} → A → A → Type 0
Is v x = x ≡ v

-- "both": an equation of what is returned, and one of the bytes lent
abbrev pub Are : {A B : Type 0} → A → B → A × B → Type 0
Are v w x = (x.0 ≡ v) × (x.1 ≡ w)

-- "call": one equation of what is returned and the bytes lent, put together by k
abbrev pub Made : {A B : Type 0} → (A → B) → B → A → Type 0
Made k v x = k x ≡ v

-- ---- one outcome, for each form, for each call and for each function exported

pub record OneEach : Type 1 where
  pub of_is : (A : Type 0) (v : A) → OneOutcome (Is v)
  pub of_are : (A B : Type 0) (v : A) (w : B) → OneOutcome (Are v w)
  -- where k loses nothing
  pub of_made : (A B : Type 0) (k : A → B) (back : B → A) → ((x : A) → back (k x) ≡ x) → (v : B) → OneOutcome (Made k v)
  -- the contracts of the calls, word for word
  pub start_one : (l : List ℕ) → OneOutcome (λ (x : ℕ × List ℕ). left x.0 x.1 ≡ start l)
  pub push_one : (l : List ℕ) (t : ℕ) (table : List ℕ) (p : PushRequest) → OneOutcome (λ (x : Answer × List ℕ). left x.0 x.1 ≡ push l t table p)
  pub decide_one : (l : List ℕ) (t : ℕ) (d : DecideRequest) (out : List ℕ)
      → OneOutcome (λ (x : Decided × (List ℕ × List ℕ)). left_with x.0 x.1.0 x.1.1 ≡ decide l t d out)
  pub token_one : (l : List ℕ) (t : ℕ) (table : List ℕ) (q : TokenRequest) → OneOutcome (λ (x : Answer × List ℕ). left x.0 x.1 ≡ token l t table q)
  pub resource_one : (l : List ℕ) (t : ℕ) (q : ResourceRequest) → OneOutcome (λ (x : Answer × List ℕ). left x.0 x.1 ≡ resource l t q)
  pub sweep_one : (l : List ℕ) (t : ℕ) → OneOutcome (λ (x : Swept × List ℕ). left x.0 x.1 ≡ sweep l t)
  -- and of pending and introspect, to which the ledger is lent to be read only: it stands in the contract as it was
  pub pending_one : (l : List ℕ) (t : ℕ) (p : PendingRequest) (out : List ℕ)
      → OneOutcome (λ (x : Decided × List ℕ). left_with x.0 l x.1 ≡ pending l t p out)
  pub introspect_one : (l : List ℕ) (t : ℕ) (v out : List ℕ)
      → OneOutcome (λ (x : Introspected × List ℕ). left_with x.0 l x.1 ≡ introspect l t v out)

-- the contracts of the functions exported to C, word for word: the desk's equation, read through the structs that C reads
pub record OneExported : Type 0 where
  pub perdigolh_start : (l : List ℕ) → OneOutcome (λ (x : ℕ × List ℕ). left x.0 x.1 ≡ start l)
  pub perdigolh_push : (l : List ℕ) (t : ℕ) (table : List ℕ) (p : PushRequest)
      → OneOutcome (λ (x : FrontAnswer × List ℕ). left (as_answer x.0) x.1 ≡ push l t table p)
  pub perdigolh_decide : (l : List ℕ) (t : ℕ) (reference client : List ℕ) (yes holder : ℕ) (fresh out : List ℕ)
      → OneOutcome (λ (x : FrontDecided × (List ℕ × List ℕ)).
      left_with (as_decided x.0) x.1.0 x.1.1
      ≡ decide l t (record { reference = reference; client = client; yes = consents yes; holder = holder; fresh = fresh }) out)
  pub perdigolh_token : (l : List ℕ) (t : ℕ) (table : List ℕ) (q : TokenRequest)
      → OneOutcome (λ (x : FrontAnswer × List ℕ). left (as_answer x.0) x.1 ≡ token l t table q)
  pub perdigolh_resource : (l : List ℕ) (t : ℕ) (q : ResourceRequest)
      → OneOutcome (λ (x : FrontAnswer × List ℕ). left (as_answer x.0) x.1 ≡ resource l t q)
  pub perdigolh_sweep : (l : List ℕ) (t : ℕ) → OneOutcome (λ (x : FrontSwept × List ℕ). left (as_swept x.0) x.1 ≡ sweep l t)
  pub perdigolh_pending : (l : List ℕ) (t : ℕ) (p : PendingRequest) (out : List ℕ)
      → OneOutcome (λ (x : FrontDecided × List ℕ). left_with (as_decided x.0) l x.1 ≡ pending l t p out)
  pub perdigolh_introspect : (l : List ℕ) (t : ℕ) (v out : List ℕ)
      → OneOutcome (λ (x : FrontIntrospected × List ℕ). left_with (as_introspected x.0) l x.1 ≡ introspect l t v out)
