use Rattle.std.proofs.Common.{rules, ap, ◌∙◌}
use Rattle.octets.specs.Lists.{some}
use Rattle.octets.proofs.Lists.{some_any}
use Rattle.ledger.specs.Sound.{holds}
use Rattle.finding.proofs.pool.has.Goals as goal

pub returns : goal.returns
returns c =
    let a = c.args in
    some_any (holds a.v.now) c.records.result.now c.any.result (search rules) ∙ ap (some (holds a.v.now)) c.records.ensures
