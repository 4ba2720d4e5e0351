use Rattle.std.proofs.Common.{rules, ◌≡◌, ◌∙◌}
use Rattle.std.specs.List.{count_by}
use Rattle.octets.proofs.Lists.{count_is}
use Rattle.ledger.specs.Fields.{records}
use Rattle.ledger.specs.Sweep.{due, freed_of}
use Rattle.ledger.proofs.sweep.freed_of.Goals as goal

pub returns : goal.returns
unfolding freed_of
returns c =
    let a = c.args in
    let e : c.count.result ≡ count_by (due a.s a.time) (records a.l.now) = search rules in
    e ∙ count_is (due a.s a.time) (records a.l.now)
