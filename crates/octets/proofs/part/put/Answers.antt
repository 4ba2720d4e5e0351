use Rattle.std.proofs.Common.{arith, sym}
use Rattle.octets.proofs.Parts.{put_rest, put_end}
use Rattle.octets.proofs.part.put.Goals as goal

pub returns-then-a-s : goal.returns-then-a-s
returns-then-a-s c = let a = c.args in put_rest a.s.now a.a a.xs.now _ c.copy.ensures

pub returns-else-a-s : goal.returns-else-a-s
returns-else-a-s c = let a = c.args in sym (put_end a.s.now a.a a.xs.now (omega arith))
