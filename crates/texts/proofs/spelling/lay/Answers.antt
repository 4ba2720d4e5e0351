use Rattle.std.proofs.Common.{arith, sym, ◌+◌, ◌-◌, drop, get_or, length-take, length-drop}
use Rattle.octets.proofs.Parts.{put_end}
use Rattle.texts.proofs.Over.{put_told}
use Rattle.texts.proofs.spelling.lay.Goals as goal

pub returns-then-at-out : goal.returns-then-at-out
returns-then-at-out g c = λ text s.
    let a = c.args in
    let h = c.fill.ensures in
    let m = c.min.ensures in
    let e = s.sized in
    put_told a.out.now text c.fill.new.out a.at (a.at + c.min.result - a.at) (omega arith) (omega arith)
    (omega (arith, h.sized, length-take (a.at + c.min.result - a.at) (drop a.at a.out.now), length-drop a.at a.out.now))
    (λ i k. s.tells i (get_or c.fill.new.out i 0) (omega arith) (h.told i (simp (length-take, length-drop) (omega arith))))

pub returns-else-at-out : goal.returns-else-at-out
returns-else-at-out g c = λ text s. sym (put_end c.args.out.now c.args.at text (omega arith))
