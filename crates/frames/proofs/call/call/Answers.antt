use Rattle.std.proofs.Common.{refl}
use Rattle.octets.specs.Parts.{blank}
use Rattle.frames.proofs.Answers.{by_outcome, by_decision, by_sweeping}
use Rattle.frames.proofs.Holding.{by_call}
use Rattle.frames.specs.Serve.{pushed, decided, redeemed, read, swept}
use Rattle.wire.specs.declared.kind.Kind.TheVariants.{Push, Decide, Token, Resource, Sweep}
use Rattle.frames.proofs.call.call.Goals as goal

pub returns-in-Push : goal.returns-in-Push
unfolding pushed
returns-in-Push c =
    let a = c.args in
    by_call Push a.f.now a.ledger.now a.table.now c.in-Push.is (by_outcome c.push.ensures c.answer.ensures)

pub returns-in-Decide : goal.returns-in-Decide
unfolding decided blank
returns-in-Decide c =
    let a = c.args in
    by_call Decide a.f.now a.ledger.now a.table.now c.in-Decide.is (by_decision _ _ _ c.decide-d.ensures refl c.decided.ensures)

pub returns-in-Token : goal.returns-in-Token
unfolding redeemed
returns-in-Token c =
    let a = c.args in
    by_call Token a.f.now a.ledger.now a.table.now c.in-Token.is (by_outcome c.token.ensures c.answer-in-Token.ensures)

pub returns-in-Resource : goal.returns-in-Resource
unfolding read
returns-in-Resource c =
    let a = c.args in
    by_call Resource a.f.now a.ledger.now a.table.now c.in-Resource.is (by_outcome c.resource.ensures c.answer-in-Resource.ensures)

pub returns-in-Sweep : goal.returns-in-Sweep
unfolding swept
returns-in-Sweep c =
    let a = c.args in
    by_call Sweep a.f.now a.ledger.now a.table.now c.in-Sweep.is (by_sweeping c.sweep.ensures c.swept.ensures)
