use Rattle.std.proofs.Common.{arith}
use Rattle.description.proofs.Names.{named_none, named_most, named_more, named_all}
use Rattle.description.proofs.writer.Writer.scope.Goals as goal

pub loop-i-init : goal.loop-i-init
loop-i-init c = named_none _ _

pub add-requires : goal.add-requires
add-requires c =
    let l = c.loop-i in
    let m = named_most c.args.scope l.i l.invariant (omega arith) in
    (m.0, omega arith, omega arith)

pub loop-i-preserved : goal.loop-i-preserved
loop-i-preserved c = named_more _ _ c.loop-i.invariant c.add.ensures

pub returns-clause-wrote : goal.returns-clause-wrote
returns-clause-wrote c = named_all _ _ c.loop-i.invariant (omega arith)

pub returns-clause-most : goal.returns-clause-most
returns-clause-most c = let l = c.loop-i in (named_most c.args.scope l.i l.invariant (omega arith)).1
