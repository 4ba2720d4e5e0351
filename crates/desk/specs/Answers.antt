-- What the calls answer (document 01, section "Numbers returned").
use Rattle.std.specs.Prelude.{ℕ, List}
use Rattle.ledger.specs.Fields.{grant, holder, scope, expiry}
use Rattle.ledger.specs.declared.sweep.Freed.{Freed}
use Rattle.desk.specs.declared.answer.Refusal.{Refusal}
use Rattle.desk.specs.declared.answer.Refusal.TheVariants.{
  LedgerUnsound,
  TimeWrong,
  TableUnsound,
  ClientUnknown,
  IllFormed,
  ScopeRefused,
  FreshTaken,
  LedgerFull,
  NumbersSpent,
  NoReference,
  RecordExpired,
  NoHolder,
  NoKey,
  NoCode,
  CodeRedeemed,
  VerifierDiffers,
  NoToken,
  KeyDiffers,
  HolderDiffers,
  OutputShort,
}
use Rattle.desk.specs.declared.answer.Answer.{Answer}
use Rattle.desk.specs.declared.answer.Decided.{Decided}
use Rattle.desk.specs.declared.answer.Swept.{Swept}
use Rattle.desk.specs.declared.answer.Introspected.{Introspected}

-- the table's number of each row
abbrev pub number_of : Refusal → ℕ
number_of LedgerUnsound = 1
number_of TimeWrong = 2
number_of TableUnsound = 3
number_of ClientUnknown = 4
number_of IllFormed = 5
number_of ScopeRefused = 6
number_of FreshTaken = 7
number_of LedgerFull = 8
number_of NumbersSpent = 9
number_of NoReference = 10
number_of RecordExpired = 11
number_of NoHolder = 12
number_of NoKey = 13
number_of NoCode = 14
number_of CodeRedeemed = 15
number_of VerifierDiffers = 16
number_of NoToken = 17
number_of KeyDiffers = 18
number_of HolderDiffers = 19
number_of OutputShort = 20

-- 0: "done"
abbrev pub done : ℕ
done = 0

-- "An answer holds number, grant number, holder, scope, expiry, as the record has them after the call."
abbrev pub answer_of : List ℕ → Answer
answer_of r = record { number = done; grant = grant r; holder = holder r; scope = scope r; expiry = expiry r }

-- "After a no: the grant number, the holder given, scope 0, expiry 0."
abbrev pub answer_no : ℕ → ℕ → Answer
answer_no number who = record { number = done; grant = number; holder = who; scope = 0; expiry = 0 }

-- "A refusal has zeros beside its number"
abbrev pub refused : Refusal → Answer
refused why = record { number = number_of why; grant = 0; holder = 0; scope = 0; expiry = 0 }

-- "Decide adds the redirect length, on yes and on no."
abbrev pub decided : Answer → ℕ → Decided
decided a n = record { answer = a; length = n }

abbrev pub undecided : Refusal → Decided
undecided why = decided (refused why) 0

-- "Sweep instead adds three counts: pushed, consented and redeemed records freed."
abbrev pub swept_of : Freed → Swept
swept_of f = record { number = done; pushed = f.pushed; consented = f.consented; redeemed = f.redeemed }

abbrev pub unswept : Refusal → Swept
unswept why = record { number = number_of why; pushed = 0; consented = 0; redeemed = 0 }

-- "The answer is the number and the text's length" (document 02, Q-1)
abbrev pub introspected : ℕ → Introspected
introspected n = record { number = done; length = n }

abbrev pub untold : Refusal → Introspected
untold why = record { number = number_of why; length = 0 }
