use Rattle.std.proofs.Common.{arith, sym}
use Rattle.ledger.proofs.States.{stated_is, stated_above}
use Rattle.ledger.specs.declared.state.State.TheVariants.{Free, Pushed, Consented, Redeemed}
use Rattle.ledger.proofs.state.State.of.Goals as goal

pub returns-in-0 : goal.returns-in-0
returns-in-0 c = sym (stated_is _ Free (omega arith))

pub returns-in-1 : goal.returns-in-1
returns-in-1 c = sym (stated_is _ Pushed (omega arith))

pub returns-in-2 : goal.returns-in-2
returns-in-2 c = sym (stated_is _ Consented (omega arith))

pub returns-in-3 : goal.returns-in-3
returns-in-3 c = sym (stated_is _ Redeemed (omega arith))

pub returns-in_default : goal.returns-in_default
returns-in_default c = sym (stated_above _ (omega arith))
