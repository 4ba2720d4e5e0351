use Rattle.std.proofs.Common.{List, ap, not, refl, sym, true, ℕ, ◌∙◌, ◌≡◌}
use Rattle.desk.proofs.Turns.{nth, Come, passes, stops, all_pass}
use Rattle.desk.proofs.Written.{sweep_written, refuses}
use Rattle.desk.specs.Answers.{swept_of, unswept}
use Rattle.desk.specs.Checks.{Check, Verdict}
use Rattle.desk.specs.Outcome.{Outcome, left, concludes}
use Rattle.desk.specs.Sweep.{sweep_checks, sweep_leaves, sweep}
use Rattle.desk.specs.declared.answer.Swept.{Swept}
use Rattle.ledger.proofs.Tests.{sound_told, time_told}
use Rattle.ledger.specs.Checks.{check_sound, check_time}
use Rattle.ledger.specs.Fields.{with_clock}
use Rattle.ledger.specs.Sweep.{freed, swept}
use Rattle.ledger.specs.declared.clock.Timing.TheVariants.{Timely}
use Rattle.ledger.specs.declared.sound.Soundness.TheVariants.{Sound}
use Rattle.sweep.proofs.sweep.Goals as goal

module _ (l : List ℕ) (time : ℕ) where
  abbrev checks : List Check
  checks = sweep_checks l time

  abbrev done : Outcome Swept
  done = left (swept_of (freed time l)) (with_clock time (swept time l))

  -- the check whose turn has come fails: its row is answered
  refusal : (n : ℕ) {a : Swept} → Come n checks → (nth n checks).holds ≡ true → a ≡ unswept (nth n checks).why → left a l ≡ sweep l time
  unfolding sweep
  refusal n t h e = refuses e (ap (λ (v : Verdict). concludes v (sweep_leaves l) done) (stops n checks t h))

  -- none is left: the call is done
  acceptance : Come 2 checks → sweep l time ≡ done
  unfolding sweep sweep_checks
  acceptance t = ap (λ (v : Verdict). concludes v (sweep_leaves l) done) (all_pass 2 checks t refl)

  -- what has passed, and that the turn has come to the next check
  module _ (sound : check_sound l ≡ Sound) where
    come1 : Come 1 checks
    unfolding sweep_checks
    come1 = passes 0 checks refl (ap not (sound_told _ _ sound))

    come2 : check_time l time ≡ Timely → Come 2 checks
    unfolding sweep_checks
    come2 timely = passes 1 checks come1 (time_told _ _ _ timely)

-- ---- the returns

pub returns-in_default : goal.returns-in_default
unfolding sweep_checks
returns-in_default c = refusal _ _ 0 refl (ap not (sound_told _ _ (sym c.in_default.ensures))) c.refused.ensures

pub returns-in_default-check : goal.returns-in_default-check
unfolding sweep_checks
returns-in_default-check c =
    refusal _ _ 1 (come1 _ _ (sym c.in-Sound.ensures)) (time_told _ _ _ (sym c.in_default-check.ensures)) c.refused-in_default-check.ensures

pub returns : goal.returns
returns c =
    sweep_written _ _ _ _ _ _ c.sweep-freed.ensures.0 c.sweep-freed.ensures.1 c.set_clock.ensures c.of.ensures
    ∙ sym (acceptance _ _ (come2 _ _ (sym c.in-Sound.ensures) (sym c.in-Timely.ensures)))
