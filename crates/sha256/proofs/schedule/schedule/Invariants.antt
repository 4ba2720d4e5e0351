use Rattle.std.proofs.Common.{length, take, ◌-◌, ◌≡◌}
use Rattle.sha256.specs.Schedule.{words}
use Rattle.sha256.proofs.schedule.schedule.Given as goal

abbrev pub invariant-loop-t : goal.invariant-loop-t
invariant-loop-t l = (length l.w ≡ 64) × (take l.t l.w ≡ words l.b (l.t - 16))
