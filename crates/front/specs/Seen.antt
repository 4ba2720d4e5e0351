-- "An answer holds number, grant number, holder, scope, expiry" .. "Decide adds the redirect length" .. "Sweep instead adds three counts" .. "The answer is the
-- number and the text's length" (document 02, Q-1):
-- each struct that C reads says the desk's answer, field by field.
use Rattle.desk.specs.declared.answer.Answer.{Answer as DeskAnswer}
use Rattle.desk.specs.declared.answer.Decided.{Decided as DeskDecided}
use Rattle.desk.specs.declared.answer.Swept.{Swept as DeskSwept}
use Rattle.desk.specs.declared.answer.Introspected.{Introspected as DeskIntrospected}
use Rattle.front.specs.declared.answer.Answer.{Answer}
use Rattle.front.specs.declared.answer.Decided.{Decided}
use Rattle.front.specs.declared.answer.Swept.{Swept}
use Rattle.front.specs.declared.answer.Introspected.{Introspected}

abbrev pub as_answer : Answer → DeskAnswer
as_answer a = record { number = a.number; grant = a.grant; holder = a.holder; scope = a.scope; expiry = a.expiry }

abbrev pub as_decided : Decided → DeskDecided
as_decided d = record { answer = as_answer d.answer; length = d.length }

abbrev pub as_swept : Swept → DeskSwept
as_swept s = record { number = s.number; pushed = s.pushed; consented = s.consented; redeemed = s.redeemed }

abbrev pub as_introspected : Introspected → DeskIntrospected
as_introspected i = record { number = i.number; length = i.length }
