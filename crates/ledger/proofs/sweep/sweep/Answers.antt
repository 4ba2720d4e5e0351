use Rattle.std.proofs.Common.{refl, rules, ◌∙◌}
use Rattle.ledger.proofs.Swept.{slot_so, swept_all, freed_is, swept_more}
use Rattle.ledger.specs.Sweep.{swept_to}
use Rattle.ledger.proofs.sweep.sweep.Goals as goal

pub loop-k-init : goal.loop-k-init
unfolding swept_to
loop-k-init c = refl

pub sweep_at-requires : goal.sweep_at-requires
sweep_at-requires c = let p = c.loop-k in slot_so _ _ _ p.k p.invariant (search rules)

pub loop-k-preserved : goal.loop-k-preserved
loop-k-preserved c = let p = c.loop-k in let a = c.args in c.sweep_at.ensures ∙ swept_more a.time a.l.now p.k p.l (search rules) p.invariant

pub returns : goal.returns
returns c =
    let p = c.loop-k in
    let a = c.args in
    (freed_is a.time a.l.now _ c.freed_of.ensures c.freed_of-2.ensures c.freed_of-3.ensures, swept_all a.time a.l.now p.l p.k p.invariant (search rules))
