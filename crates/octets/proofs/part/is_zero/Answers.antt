use Rattle.std.proofs.Common.{refl, sym, ap, ◌∙◌, ◌&&◌, add-one, take, nat_eq, get_or}
use lib.Seq.{take-suc}
use Rattle.octets.specs.Parts.{zeros}
use Rattle.octets.proofs.Parts.{zeros_last}
use Rattle.octets.proofs.part.is_zero.Goals as goal

pub loop-x-init : goal.loop-x-init
unfolding zeros
loop-x-init c = refl

pub loop-x-preserved : goal.loop-x-preserved
loop-x-preserved c =
    let l = c.loop-x in
    let s = c.args.s.now in
    rw (add-one, take-suc s l.x-index 0 c.loop-x-test.true) (ap (λ b. b && nat_eq (get_or s l.x-index 0) 0) l.invariant ∙ sym (zeros_last (take l.x-index s) (get_or s l.x-index 0)))
