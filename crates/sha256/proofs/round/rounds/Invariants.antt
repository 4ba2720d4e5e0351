use Rattle.std.proofs.Common.{◌%◌, ◌≡◌, ◌≤◌}
use Rattle.sha256.specs.Round.{rounds}
use Rattle.sha256.proofs.round.rounds.Given as goal

abbrev pub invariant-loop-t : goal.invariant-loop-t
invariant-loop-t l = record { in_range : l.t ≤ 64; in_fours : l.t % 4 ≡ 0; so_far : l.s ≡ rounds l.w l.fn.s l.t }
