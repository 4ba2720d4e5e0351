use Rattle.std.proofs.Common.{arith, sym, ◌∙◌, ◌≡◌}
use Rattle.ledger.proofs.Records.{rec_none}
use Rattle.ledger.specs.Fields.{address, rec, slots}
use Rattle.ledger.proofs.record.at.Goals as goal

pub returns-then-slots-k : goal.returns-then-slots-k
returns-then-slots-k c = let a = c.args in c.cut.ensures ∙ sym (rec_none a.l.now a.k (omega (arith, c.slots.ensures)))

pub returns : goal.returns
unfolding rec slots
returns c =
    let a = c.args in
    let e : c.address.result ≡ address a.k = omega (arith, c.address.ensures, c.slots.ensures) in
    c.cut-2.ensures ∙ rw e
