-- The six calls, and the two beside them that only read, under one roof: what each is handed beside the ledger and the client table, and what it leaves.
use Rattle.std.specs.Prelude.{ℕ, List, [], ◌∷◌, ◌++◌}
use Rattle.desk.specs.Requests.{PushRequest, DecideRequest, TokenRequest, ResourceRequest}
use Rattle.desk.specs.Start.{start as do_start}
use Rattle.desk.specs.Push.{push as do_push}
use Rattle.desk.specs.Decide.{decide as do_decide}
use Rattle.desk.specs.Token.{token as do_token}
use Rattle.desk.specs.Resource.{resource as do_resource}
use Rattle.desk.specs.Sweep.{sweep as do_sweep}
use Rattle.desk.specs.Requests.{PendingRequest}
use Rattle.desk.specs.Pending.{pending as do_pending}
use Rattle.desk.specs.Introspect.{introspect as do_introspect}
use Rattle.desk.specs.declared.answer.Answer.{Answer}
use Rattle.desk.specs.declared.answer.Swept.{Swept}

pub data Kind : Type 0 where
  Start : Kind
  Push : Kind
  Decide : Kind
  Token : Kind
  Resource : Kind
  Sweep : Kind
  Pending : Kind
  Introspect : Kind

-- a call: its time, its request, and the output buffer of decide, pending and introspect
pub data Call : Type 0 where
  start : Call
  push : ℕ → PushRequest → Call
  decide : ℕ → DecideRequest → List ℕ → Call
  token : ℕ → TokenRequest → Call
  resource : ℕ → ResourceRequest → Call
  sweep : ℕ → Call
  pending : ℕ → PendingRequest → List ℕ → Call
  introspect : ℕ → List ℕ → List ℕ → Call

abbrev pub kind_of : Call → Kind
kind_of start = Start
kind_of (push t p) = Push
kind_of (decide t d out) = Decide
kind_of (token t q) = Token
kind_of (resource t q) = Resource
kind_of (sweep t) = Sweep
kind_of (pending t p out) = Pending
kind_of (introspect t v out) = Introspect

-- the bytes lent as output: decide, pending and introspect have them
abbrev pub lent : Call → List ℕ
lent start = []
lent (push t p) = []
lent (decide t d out) = out
lent (token t q) = []
lent (resource t q) = []
lent (sweep t) = []
lent (pending t p out) = out
lent (introspect t v out) = out

-- what a call leaves: its number, the values beside it in the answer's order, the ledger's bytes, the output's bytes
pub record Left : Type 0 where
  pub number : ℕ
  pub beside : List ℕ
  pub ledger : List ℕ
  pub output : List ℕ

-- "An answer holds number, grant number, holder, scope, expiry"
abbrev pub four : Answer → List ℕ
four a = a.grant ∷ a.holder ∷ a.scope ∷ a.expiry ∷ []

-- "Sweep instead adds three counts: pushed, consented and redeemed records freed."
abbrev pub three : Swept → List ℕ
three a = a.pushed ∷ a.consented ∷ a.redeemed ∷ []

-- each call as desk defines it, on this ledger and this client table; "Start answers only its number", "Decide adds the redirect length";
-- introspect: "The answer is the number and the text's length" (document 02, Q-1)
abbrev pub leaves : List ℕ → List ℕ → Call → Left
leaves l table start = record { number = (do_start l).answer; beside = []; ledger = (do_start l).ledger; output = [] }
leaves l table (push t p) =
    record {
      number = (do_push l t table p).answer.number;
      beside = four (do_push l t table p).answer;
      ledger = (do_push l t table p).ledger;
      output = [];
    }
leaves l table (decide t d out) =
    record {
      number = (do_decide l t d out).answer.answer.number;
      beside = four (do_decide l t d out).answer.answer ++ ((do_decide l t d out).answer.length ∷ []);
      ledger = (do_decide l t d out).ledger;
      output = (do_decide l t d out).output;
    }
leaves l table (token t q) =
    record {
      number = (do_token l t table q).answer.number;
      beside = four (do_token l t table q).answer;
      ledger = (do_token l t table q).ledger;
      output = [];
    }
leaves l table (resource t q) =
    record {
      number = (do_resource l t q).answer.number;
      beside = four (do_resource l t q).answer;
      ledger = (do_resource l t q).ledger;
      output = [];
    }
leaves l table (sweep t) =
    record { number = (do_sweep l t).answer.number; beside = three (do_sweep l t).answer; ledger = (do_sweep l t).ledger; output = [] }
leaves l table (pending t p out) =
    record {
      number = (do_pending l t p out).answer.answer.number;
      beside = four (do_pending l t p out).answer.answer ++ ((do_pending l t p out).answer.length ∷ []);
      ledger = (do_pending l t p out).ledger;
      output = (do_pending l t p out).output;
    }
leaves l table (introspect t v out) =
    record {
      number = (do_introspect l t v out).answer.number;
      beside = (do_introspect l t v out).answer.length ∷ [];
      ledger = (do_introspect l t v out).ledger;
      output = (do_introspect l t v out).output;
    }
