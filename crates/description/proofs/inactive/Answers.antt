use Rattle.std.proofs.Common.{arith, refl}
use Rattle.description.proofs.Writings.{no_room, has_room}
use Rattle.description.specs.Description.{inactive_text}
use Rattle.description.proofs.inactive.Goals as goal

pub returns-then-out-lt16 : goal.returns-then-out-lt16
unfolding inactive_text
returns-then-out-lt16 c = no_room inactive_text _ (omega arith)

pub returns : goal.returns
unfolding inactive_text
returns c = has_room inactive_text _ (omega arith) refl c.put.ensures
