use Rattle.std.proofs.Common.{rules, length, min, take-append-drop, sym, ◌≡◌, ◌∙◌}
use Rattle.octets.proofs.Parts.{laid_front}
use Rattle.octets.proofs.part.copy.Goals as goal

pub returns : goal.returns
returns c =
    let a = c.args in
    let l = c.loop-i in
    let n : l.i ≡ min (length a.s.now) (length a.d.now) = search rules in
    sym (take-append-drop l.i l.d) ∙ rw (l.invariant.1, l.invariant.2) (laid_front a.s.now a.d.now l.i n)
