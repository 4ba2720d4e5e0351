use Rattle.std.proofs.Common.{List, ap, length, ltb, not, refl, sym, true, ℕ, ◌∙◌, ◌≡◌, Some}
use Rattle.desk.proofs.Tests.{told}
use Rattle.desk.proofs.Turns.{nth, Come, passes, stops, all_pass}
use Rattle.desk.proofs.Written.{pending_shown, refuses, record_is}
use Rattle.desk.specs.Answers.{undecided}
use Rattle.desk.specs.Checks.{Check, Verdict}
use Rattle.desk.specs.Outcome.{Outcome, left_with, concludes}
use Rattle.desk.specs.Pending.{pending_place, pending_checks, pending_at, pending_leaves, pending}
use Rattle.desk.specs.Requests.{PendingRequest}
use Rattle.desk.specs.declared.answer.Decided.{Decided}
use Rattle.ledger.proofs.Tests.{sound_told, time_told, life_told, found_told}
use Rattle.ledger.specs.Fields.{rec}
use Rattle.desk.specs.Limits.{output_least}
use Rattle.desk.specs.Tests.{fails_when}
use Rattle.desk.specs.declared.check.Test.TheVariants.{Passed}
use Rattle.ledger.specs.Checks.{check_sound, check_time, check_life, found, is_reference}
use Rattle.ledger.specs.declared.clock.Timing.TheVariants.{Timely}
use Rattle.ledger.specs.declared.record.Life.TheVariants.{Alive}
use Rattle.ledger.specs.declared.sound.Soundness.TheVariants.{Sound}
use Rattle.pending.proofs.pending.Goals as goal

module _ (l : List ℕ) (time : ℕ) (request : PendingRequest) (out : List ℕ) where
  abbrev checks : List Check
  checks = pending_checks l time request out (pending_place l request)

  abbrev done : Outcome Decided
  done = pending_at l out (pending_place l request)

  -- the check whose turn has come fails: its row is answered
  refusal : (n : ℕ) {a : Decided} → Come n checks → (nth n checks).holds ≡ true → a ≡ undecided (nth n checks).why
      → left_with a l out ≡ pending l time request out
  unfolding pending
  refusal n t h e = refuses e (ap (λ (v : Verdict). concludes v (pending_leaves l out) done) (stops n checks t h))

  -- none is left: the request is shown
  acceptance : Come 5 checks → pending l time request out ≡ done
  unfolding pending pending_checks
  acceptance t = ap (λ (v : Verdict). concludes v (pending_leaves l out) done) (all_pass 5 checks t refl)

  -- what has passed, check by check, and that the turn has come to the next one
  module _ (sound : check_sound l ≡ Sound) where
    come1 : Come 1 checks
    unfolding pending_checks
    come1 = passes 0 checks refl (ap not (sound_told _ _ sound))

    module _ (timely : check_time l time ≡ Timely) where
      come2 : Come 2 checks
      unfolding pending_checks
      come2 = passes 1 checks come1 (time_told _ _ _ timely)

      module _ (room : fails_when (ltb (length out) output_least) ≡ Passed) where
        come3 : Come 3 checks
        unfolding pending_checks
        come3 = passes 2 checks come2 (told _ _ room)

        module _ {k : ℕ} (here : found (is_reference request.reference request.client) l ≡ Some k) where
          come4 : Come 4 checks
          unfolding pending_checks
          come4 = passes 3 checks come3 (ap not (found_told _ _ _ here))

          come5 : {r : List ℕ} → r ≡ rec l k → check_life r time ≡ Alive → Come 5 checks
          unfolding pending_checks
          come5 e alive = passes 4 checks come4 (life_told _ _ _ (rw (record_is _ l here e) at alive))

-- ---- the returns

pub returns-in_default : goal.returns-in_default
unfolding pending_checks
returns-in_default c =
    refusal _ _ _ _ 0 refl
    (ap not (sound_told _ _ (sym c.in_default.ensures))) c.refused.ensures

pub returns-in_default-check : goal.returns-in_default-check
unfolding pending_checks
returns-in_default-check c =
    refusal _ _ _ _ 1 (come1 _ _ _ _ (sym c.in-Sound.ensures))
    (time_told _ _ _ (sym c.in_default-check.ensures)) c.refused-in_default-check.ensures

pub returns-in_default-room : goal.returns-in_default-room
unfolding pending_checks
returns-in_default-room c =
    refusal _ _ _ _ 2 (come2 _ _ _ _ (sym c.in-Sound.ensures) (sym c.in-Timely.ensures))
    (told _ _ (sym c.in_default-room.ensures)) c.refused-in_default-room.ensures

pub returns-in_default-reference : goal.returns-in_default-reference
unfolding pending_checks
returns-in_default-reference c =
    refusal _ _ _ _ 3 (come3 _ _ _ _ (sym c.in-Sound.ensures) (sym c.in-Timely.ensures) (sym c.in-Passed.ensures))
    (ap not (found_told _ _ _ (sym c.in_default-reference.ensures))) c.refused-in_default-reference.ensures

pub returns-in_default-check_life : goal.returns-in_default-check_life
unfolding pending_checks
returns-in_default-check_life c =
    let l = c.args.ledger.now in
    let request : PendingRequest = record { reference = c.args.reference.now; client = c.args.client.now } in
    refusal l c.args.time request c.args.output.now 4 (come4 _ _ _ _ (sym c.in-Sound.ensures) (sym c.in-Timely.ensures) (sym c.in-Passed.ensures) (sym c.in-Some.ensures))
    (life_told _ _ _ (rw (record_is _ l (sym c.in-Some.ensures) c.at-r.ensures) at (sym c.in_default-check_life.ensures))) c.refused-in_default-check_life.ensures

pub returns : goal.returns
returns c =
    let l = c.args.ledger.now in
    let request : PendingRequest = record { reference = c.args.reference.now; client = c.args.client.now } in
    let t = come5 l c.args.time request c.args.output.now (sym c.in-Sound.ensures) (sym c.in-Timely.ensures) (sym c.in-Passed.ensures) (sym c.in-Some.ensures) c.at-r.ensures (sym c.in-Alive.ensures) in
    pending_shown l c.args.output.now (pending_place l request) _ _ _ _ _ (record_is _ l (sym c.in-Some.ensures) c.at-r.ensures) c.hand_out.ensures c.of.ensures
    c.redirect_length.ensures c.with.ensures
    ∙ sym (acceptance _ _ _ _ t)
