use Rattle.std.proofs.Common.{arith, refl, ◌+◌}
use Rattle.sha256.specs.Constants.{K}
use Rattle.sha256.specs.Round.{rounds}
use Rattle.sha256.proofs.Turns.{one_more}
use Rattle.sha256.proofs.round.rounds.Goals as goal

pub loop-t-init : goal.loop-t-init
unfolding rounds
loop-t-init c = record { in_range = omega arith; in_fours = refl; so_far = refl }

pub loop-t-preserved : goal.loop-t-preserved
unfolding K
loop-t-preserved c =
    let s = c.args.s in
    let t = c.loop-t.t in
    let s1 = one_more _ s t (t + 1) (omega arith) c.round.ensures c.loop-t.invariant.so_far in
    let s2 = one_more _ s (t + 1) (t + 2) (omega arith) c.round-in-loop-t.ensures s1 in
    let s3 = one_more _ s (t + 2) (t + 3) (omega arith) c.round-in-loop-t-2.ensures s2 in
    record { in_range = omega arith; in_fours = omega arith; so_far = one_more _ s (t + 3) (t + 4) (omega arith) c.round-s.ensures s3 }
