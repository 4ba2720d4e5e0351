-- "Try these against it: a desk that refuses everything, one with a constant answer, one that writes nothing, one that serves the first call and
-- then feigns, one whose sweep counts or grant numbers are invented." Each of them is caught by a call of a run that starts as demand 3's runs do.
use Rattle.std.specs.Prelude.{ℕ, ◌≤◌, ◌≡◌, ◌≢◌, ◌⊎◌, List, [], ◌∷◌, ◌++◌, length}
use Rattle.octets.specs.Plain.{Bytes}
use Rattle.ledger.specs.Limits.{records_least, records_most}
use Rattle.ledger.specs.Fields.{next_number}
use Rattle.ledger.specs.Sweep.{freed}
use Rattle.ledger.specs.declared.sweep.Freed.{Freed}
use Rattle.desk.specs.Answers.{done}
use Rattle.desk.specs.Requests.{PushRequest, DecideRequest}
use Rattle.history.specs.Runs.{Call, push, decide, token, resource, sweep, TypedPush, AllTyped, Said, answered, decided, swept, step, number_in, grant_of, started, last}

-- ---- a desk, and what the promises allow it

-- what is seen of a call: its answer, with what decide leaves in the output, and the ledger afterwards
pub record Seen : Type 0 where
  pub answer : Said
  pub after : List ℕ

-- a desk answers a call on the ledger that it finds; it may remember the calls made so far
abbrev pub Desk : Type 0
Desk = List Call → List ℕ → Call → Seen

-- the contracts of the calls are equations with the definitions that a step is made of
abbrev pub Allowed : List ℕ → Call → Seen → Type 0
Allowed l c o = o ≡ record { answer = (step l c).answer; after = (step l c).after }

-- the kinds of call
pub data Kind : Type 0 where
  pushes : Kind
  decides : Kind
  redeems : Kind
  reads : Kind
  sweeps : Kind

abbrev pub kind_of : Call → Kind
kind_of (push t table p) = pushes
kind_of (decide t d out) = decides
kind_of (token t table q) = redeems
kind_of (resource t q) = reads
kind_of (sweep t) = sweeps

-- the calls made before one of this kind, at most: one, and before a token or a reading the calls of its grant
abbrev pub before : Kind → ℕ
before pushes = 1
before decides = 1
before redeems = 2
before reads = 3
before sweeps = 1

-- caught: a run of calls, at least one, and one more call of this kind on which the desk differs from every outcome allowed
pub record Caught (k : Kind) (desk : Desk) : Type 0 where
  pub slots : ℕ
  pub least : records_least ≤ slots
  pub most : slots ≤ records_most
  pub made : List Call
  pub call : Call
  pub typed : AllTyped (made ++ (call ∷ []))
  pub second : 1 ≤ length made
  pub soon : length made ≤ before k
  pub of_kind : kind_of call ≡ k
  pub differs : (o : Seen) → Allowed (last (started slots) made) call o → desk made (last (started slots) made) call ≢ o

-- ---- wrong desks, each by what it does at every call of one kind but perhaps the first call of all

-- "a desk that refuses everything"
abbrev pub Refuses : Kind → Desk → Type 0
Refuses k desk = (made : List Call) (l : List ℕ) (c : Call) → 1 ≤ length made → kind_of c ≡ k → number_in (desk made l c).answer ≢ done

-- "one with a constant answer"
abbrev pub Answers : Said → Kind → Desk → Type 0
Answers a k desk = (made : List Call) (l : List ℕ) (c : Call) → 1 ≤ length made → kind_of c ≡ k → (desk made l c).answer ≡ a

-- "one that writes nothing": to the ledger, or to the output
abbrev pub Idles : Kind → Desk → Type 0
Idles k desk = (made : List Call) (l : List ℕ) (c : Call) → 1 ≤ length made → kind_of c ≡ k → (desk made l c).after ≡ l

abbrev pub output_in : Said → List ℕ
output_in (answered a) = []
output_in (decided d out) = out
output_in (swept s) = []

abbrev pub Withholds : Desk → Type 0
Withholds desk =
    (made : List Call) (l : List ℕ) (t : ℕ) (d : DecideRequest) (out : List ℕ) → 1 ≤ length made → output_in (desk made l (decide t d out)).answer ≡ out

-- "one that serves the first call and then feigns": it refuses, or gives an answer it has made up, or pretends to have written
pub record Feigns (k : Kind) (desk : Desk) : Type 0 where
  pub serves : (l : List ℕ) (c : Call) → Allowed l c (desk [] l c)
  pub made_up : Said
  pub then : Refuses k desk ⊎ (Answers made_up k desk ⊎ Idles k desk)

-- "one whose sweep counts .. are invented": they are the same whatever stands in the ledger
abbrev pub counts_in : Said → Freed
counts_in (answered a) = record { pushed = 0; consented = 0; redeemed = 0 }
counts_in (decided d out) = record { pushed = 0; consented = 0; redeemed = 0 }
counts_in (swept s) = record { pushed = s.pushed; consented = s.consented; redeemed = s.redeemed }

abbrev pub InventsCounts : Desk → Type 0
InventsCounts desk =
    (made also : List Call) (l m : List ℕ) (t : ℕ) → 1 ≤ length made → 1 ≤ length also
    → counts_in (desk made l (sweep t)).answer ≡ counts_in (desk also m (sweep t)).answer

-- ".. or grant numbers"
abbrev pub InventsNumbers : Desk → Type 0
InventsNumbers desk =
    (made also : List Call) (l m : List ℕ) (t : ℕ) (table : List ℕ) (p : PushRequest) → 1 ≤ length made → 1 ≤ length also
    → grant_of (desk made l (push t table p)).answer ≡ grant_of (desk also m (push t table p)).answer

-- ---- all of them are caught

pub record ShutOut : Type 0 where
  pub refuser : (k : Kind) (desk : Desk) → Refuses k desk → Caught k desk
  pub constant : (a : Said) (k : Kind) (desk : Desk) → Answers a k desk → Caught k desk
  pub idler : (k : Kind) (desk : Desk) → Idles k desk → Caught k desk
  pub withholder : (desk : Desk) → Withholds desk → Caught decides desk
  pub feigner : (k : Kind) (desk : Desk) → Feigns k desk → Caught k desk
  pub counts : (desk : Desk) → InventsCounts desk → Caught sweeps desk
  pub numbers : (desk : Desk) → InventsNumbers desk → Caught pushes desk
  -- and on every input: the counts allowed are those of the records freed, the grant number allowed is the next
  pub counts_only : (l : List ℕ) (t : ℕ) (o : Seen) → Allowed l (sweep t) o → number_in o.answer ≡ done → counts_in o.answer ≡ freed t l
  pub number_only : (l : List ℕ) (t : ℕ) (table : List ℕ) (p : PushRequest) (o : Seen) → Bytes l → TypedPush t table p
      → Allowed l (push t table p) o → number_in o.answer ≡ done → grant_of o.answer ≡ next_number l
