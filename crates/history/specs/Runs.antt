-- "Start a ledger once, then make the other calls in any order, refused ones included, nobody else writing to it."
use Rattle.std.specs.Prelude.{ℕ, ◌+◌, ◌*◌, ◌<◌, ◌^◌, Bool, List, [], ◌∷◌, eqb}
use Rattle.octets.specs.Plain.{Bytes, Array}
use Rattle.ledger.specs.Limits.{head_size, record_size}
use Rattle.desk.specs.Answers.{done}
use Rattle.desk.specs.Requests.{PushRequest, DecideRequest, TokenRequest, ResourceRequest}
use Rattle.desk.specs.Start.{empty_ledger}
use Rattle.desk.specs.Push.{push as do_push}
use Rattle.desk.specs.Decide.{decide as do_decide}
use Rattle.desk.specs.Token.{token as do_token}
use Rattle.desk.specs.Resource.{resource as do_resource}
use Rattle.desk.specs.Sweep.{sweep as do_sweep}
use Rattle.desk.specs.declared.answer.Answer.{Answer}
use Rattle.desk.specs.declared.answer.Decided.{Decided}
use Rattle.desk.specs.declared.answer.Swept.{Swept}

-- a call: its time, the client table or the output buffer where it has one, and its request
pub data Call : Type 0 where
  push : ℕ → List ℕ → PushRequest → Call
  decide : ℕ → DecideRequest → List ℕ → Call
  token : ℕ → List ℕ → TokenRequest → Call
  resource : ℕ → ResourceRequest → Call
  sweep : ℕ → Call

-- ---- what the types of a call's inputs say of them, and nothing else

pub record TypedPush (t : ℕ) (table : List ℕ) (p : PushRequest) : Type 0 where
  pub now : t < 2 ^ 64
  pub clients : Bytes table
  pub client : Array 16 p.client
  pub key : Array 32 p.key
  pub scope : p.scope < 2 ^ 32
  pub challenge : Bytes p.challenge
  pub redirect : Bytes p.redirect
  pub fresh : Array 32 p.fresh

pub record TypedDecide (t : ℕ) (d : DecideRequest) (out : List ℕ) : Type 0 where
  pub now : t < 2 ^ 64
  pub reference : Array 32 d.reference
  pub client : Array 16 d.client
  pub holder : d.holder < 2 ^ 64
  pub fresh : Array 32 d.fresh
  pub output : Bytes out

pub record TypedToken (t : ℕ) (table : List ℕ) (q : TokenRequest) : Type 0 where
  pub now : t < 2 ^ 64
  pub clients : Bytes table
  pub client : Array 16 q.client
  pub key : Array 32 q.key
  pub presented : Array 32 q.presented
  pub code : Array 32 q.code
  pub verifier : Bytes q.verifier
  pub fresh : Array 32 q.fresh

pub record TypedResource (t : ℕ) (q : ResourceRequest) : Type 0 where
  pub now : t < 2 ^ 64
  pub token : Array 32 q.token
  pub presented : Array 32 q.presented
  pub scope : q.scope < 2 ^ 32
  pub holder : q.holder < 2 ^ 64

abbrev pub Typed : Call → Type 0
Typed (push t table p) = TypedPush t table p
Typed (decide t d out) = TypedDecide t d out
Typed (token t table q) = TypedToken t table q
Typed (resource t q) = TypedResource t q
Typed (sweep t) = t < 2 ^ 64

abbrev pub AllTyped : List Call → Type 0
AllTyped [] = Unit {0}
AllTyped (c ∷ cs) = Typed c × AllTyped cs

-- ---- a step: a call, the ledger that it finds, what it answers, the ledger that it leaves

pub data Said : Type 0 where
  answered : Answer → Said
  decided : Decided → List ℕ → Said
  swept : Swept → Said

pub record Step : Type 0 where
  pub call : Call
  pub before : List ℕ
  pub answer : Said
  pub after : List ℕ

abbrev pub made : Call → List ℕ → Said → List ℕ → Step
made c l a m = record { call = c; before = l; answer = a; after = m }

-- each call as desk defines it; decide's answer is given with what it leaves in the output
unfoldable pub step : List ℕ → Call → Step
step l (push t table p) = made (push t table p) l (answered (do_push l t table p).answer) (do_push l t table p).ledger
step l (decide t d out) =
    made (decide t d out) l (decided (do_decide l t d out).answer (do_decide l t d out).output) (do_decide l t d out).ledger
step l (token t table q) = made (token t table q) l (answered (do_token l t table q).answer) (do_token l t table q).ledger
step l (resource t q) = made (resource t q) l (answered (do_resource l t q).answer) (do_resource l t q).ledger
step l (sweep t) = made (sweep t) l (swept (do_sweep l t).answer) (do_sweep l t).ledger

-- the number answered
abbrev pub number_in : Said → ℕ
number_in (answered a) = a.number
number_in (decided d out) = d.answer.number
number_in (swept s) = s.number

-- accepted: answered with 0, "done"
abbrev pub accepted : Said → Bool
accepted a = eqb (number_in a) done

-- the grant number and the holder answered
abbrev pub grant_of : Said → ℕ
grant_of (answered a) = a.grant
grant_of (decided d out) = d.answer.grant
grant_of (swept s) = 0

abbrev pub holder_of : Said → ℕ
holder_of (answered a) = a.holder
holder_of (decided d out) = d.answer.holder
holder_of (swept s) = 0

-- ---- a run: "Start a ledger once", for n records, "then make the other calls in any order"

abbrev pub started : ℕ → List ℕ
started n = empty_ledger (head_size + n * record_size)

-- the steps that the calls take, one after the other, and the ledger that they leave
abbrev pub steps : List ℕ → List Call → List Step
steps l [] = []
steps l (c ∷ cs) = step l c ∷ steps (step l c).after cs

abbrev pub last : List ℕ → List Call → List ℕ
last l [] = l
last l (c ∷ cs) = last (step l c).after cs

-- the ledger that a run leaves: calls on a ledger started for n records
abbrev pub last_in : ℕ → List Call → List ℕ
last_in n cs = last (started n) cs
