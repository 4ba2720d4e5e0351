-- A struct that C reads holds all of the desk's answer and nothing else: two structs that say the same are the same.
use mathlib.Core.Path.{◌≡◌, ap}
use Rattle.desk.specs.declared.answer.Answer.{Answer as DeskAnswer}
use Rattle.desk.specs.declared.answer.Decided.{Decided as DeskDecided}
use Rattle.desk.specs.declared.answer.Swept.{Swept as DeskSwept}
use Rattle.desk.specs.declared.answer.Introspected.{Introspected as DeskIntrospected}
use Rattle.front.specs.declared.answer.Answer.{Answer}
use Rattle.front.specs.declared.answer.Decided.{Decided}
use Rattle.front.specs.declared.answer.Swept.{Swept}
use Rattle.front.specs.declared.answer.Introspected.{Introspected}
use Rattle.front.specs.Seen.{as_answer, as_decided, as_swept, as_introspected}

of_answer : DeskAnswer → Answer
of_answer a = record { number = a.number; grant = a.grant; holder = a.holder; scope = a.scope; expiry = a.expiry }

pub answer_whole : (a b : Answer) → as_answer a ≡ as_answer b → a ≡ b
unfolding of_answer
answer_whole a b e = ap of_answer e

pub decided_whole : (a b : Decided) → as_decided a ≡ as_decided b → a ≡ b
unfolding of_answer
decided_whole a b e = ap (λ (d : DeskDecided). record { answer = of_answer d.answer; length = d.length }) e

pub swept_whole : (a b : Swept) → as_swept a ≡ as_swept b → a ≡ b
swept_whole a b e = ap (λ (s : DeskSwept). record { number = s.number; pushed = s.pushed; consented = s.consented; redeemed = s.redeemed }) e

pub introspected_whole : (a b : Introspected) → as_introspected a ≡ as_introspected b → a ≡ b
introspected_whole a b e = ap (λ (i : DeskIntrospected). record { number = i.number; length = i.length }) e
