use Rattle.std.proofs.Common.{arith, rules}
use Rattle.texts.proofs.Decimals.{spelled_more, spelled_last}
use Rattle.texts.proofs.decimal.spell.Goals as goal

pub loop-at-preserved : goal.loop-at-preserved
loop-at-preserved c =
    let l = c.loop-at in
    spelled_more _ l.text l.at l.rest _ l.invariant (search rules) c.glyph.ensures

pub returns-then-rest-lt10 : goal.returns-then-rest-lt10
returns-then-rest-lt10 c =
    let l = c.loop-at in
    spelled_last _ l.text l.at l.rest _ l.invariant (search rules) (omega (arith, c.glyph.ensures))
