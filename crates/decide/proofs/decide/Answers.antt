use Rattle.std.proofs.Common.{List, ap, eqb, length, ltb, ◌&&◌, not, refl, sym, true, ℕ, ◌∙◌, ◌≡◌, Some}
use Rattle.desk.proofs.Tests.{told}
use Rattle.desk.proofs.Turns.{nth, Come, passes, stops, all_pass}
use Rattle.desk.proofs.Written.{found_inside, timely_lt, decide_yes, decide_no, refuses, record_is}
use Rattle.desk.specs.Answers.{undecided}
use Rattle.desk.specs.Checks.{Check, Verdict}
use Rattle.desk.specs.Decide.{reference_place, decide_checks, decide_at, decide_leaves, decide}
use Rattle.desk.specs.Outcome.{Outcome, left_with, concludes}
use Rattle.desk.specs.Requests.{DecideRequest}
use Rattle.desk.specs.declared.answer.Decided.{Decided}
use Rattle.ledger.proofs.Tests.{sound_told, time_told, life_told, found_told, found_place}
use Rattle.ledger.specs.Checks.{is_reference}
use Rattle.ledger.specs.Fields.{rec}
use Rattle.desk.specs.Limits.{output_least}
use Rattle.desk.specs.Tests.{fails_when}
use Rattle.desk.specs.declared.check.Test.TheVariants.{Passed}
use Rattle.ledger.specs.Checks.{check_sound, check_time, check_life, taken, found}
use Rattle.ledger.specs.declared.clock.Timing.TheVariants.{Timely}
use Rattle.ledger.specs.declared.record.Life.TheVariants.{Alive}
use Rattle.ledger.specs.declared.sound.Soundness.TheVariants.{Sound}
use Rattle.decide.proofs.decide.Goals as goal

module _ (l : List ℕ) (time : ℕ) (request : DecideRequest) (out : List ℕ) where
  abbrev checks : List Check
  checks = decide_checks l time request out (reference_place l request)

  abbrev done : Outcome Decided
  done = decide_at l time request out (reference_place l request)

  -- the check whose turn has come fails: its row is answered
  refusal : (n : ℕ) {a : Decided} → Come n checks → (nth n checks).holds ≡ true → a ≡ undecided (nth n checks).why
      → left_with a l out ≡ decide l time request out
  unfolding decide
  refusal n t h e = refuses e (ap (λ (v : Verdict). concludes v (decide_leaves l out) done) (stops n checks t h))

  -- none is left: the call is done
  acceptance : Come 7 checks → decide l time request out ≡ done
  unfolding decide decide_checks
  acceptance t = ap (λ (v : Verdict). concludes v (decide_leaves l out) done) (all_pass 7 checks t refl)

  -- what has passed, check by check, and that the turn has come to the next one
  module _ (sound : check_sound l ≡ Sound) where
    come1 : Come 1 checks
    unfolding decide_checks
    come1 = passes 0 checks refl (ap not (sound_told _ _ sound))

    module _ (timely : check_time l time ≡ Timely) where
      come2 : Come 2 checks
      unfolding decide_checks
      come2 = passes 1 checks come1 (time_told _ _ _ timely)

      module _ (room : fails_when (ltb (length out) output_least) ≡ Passed) where
        come3 : Come 3 checks
        unfolding decide_checks
        come3 = passes 2 checks come2 (told _ _ room)

        module _ {k : ℕ} (here : found (is_reference request.reference request.client) l ≡ Some k) where
          come4 : Come 4 checks
          unfolding decide_checks
          come4 = passes 3 checks come3 (ap not (found_told _ _ _ here))

          module _ {r : List ℕ} (read : r ≡ rec l k) (alive : check_life r time ≡ Alive) where
            come5 : Come 5 checks
            unfolding decide_checks
            come5 = passes 4 checks come4 (life_told _ _ _ (rw (record_is _ l here read) at alive))

            module _ (given : fails_when (eqb request.holder 0) ≡ Passed) where
              come6 : Come 6 checks
              unfolding decide_checks
              come6 = passes 5 checks come5 (told _ _ given)

              come7 : fails_when (request.yes && taken l request.fresh) ≡ Passed → Come 7 checks
              unfolding decide_checks
              come7 new = passes 6 checks come6 (told _ _ new)

-- ---- the returns

pub returns-in_default : goal.returns-in_default
unfolding decide_checks
returns-in_default c =
    refusal _ _ _ _ 0 refl
    (ap not (sound_told _ _ (sym c.in_default.ensures))) c.refused.ensures

pub returns-in_default-check : goal.returns-in_default-check
unfolding decide_checks
returns-in_default-check c =
    refusal _ _ _ _ 1 (come1 _ _ _ _ (sym c.in-Sound.ensures))
    (time_told _ _ _ (sym c.in_default-check.ensures)) c.refused-in_default-check.ensures

pub returns-in_default-room : goal.returns-in_default-room
unfolding decide_checks
returns-in_default-room c =
    refusal _ _ _ _ 2 (come2 _ _ _ _ (sym c.in-Sound.ensures) (sym c.in-Timely.ensures))
    (told _ _ (sym c.in_default-room.ensures)) c.refused-in_default-room.ensures

pub returns-in_default-reference : goal.returns-in_default-reference
unfolding decide_checks
returns-in_default-reference c =
    refusal _ _ _ _ 3 (come3 _ _ _ _ (sym c.in-Sound.ensures) (sym c.in-Timely.ensures) (sym c.in-Passed.ensures))
    (ap not (found_told _ _ _ (sym c.in_default-reference.ensures))) c.refused-in_default-reference.ensures

pub returns-in_default-check_life : goal.returns-in_default-check_life
unfolding decide_checks
returns-in_default-check_life c =
    let l = c.args.ledger.now in
    let request : DecideRequest = record { reference = c.args.request.reference.now; client = c.args.request.client.now; yes = c.args.request.yes; holder = c.args.request.holder; fresh = c.args.request.fresh.now } in
    refusal l c.args.time request c.args.out.now 4 (come4 _ _ _ _ (sym c.in-Sound.ensures) (sym c.in-Timely.ensures) (sym c.in-Passed.ensures) (sym c.in-Some.ensures))
    (life_told _ _ _ (rw (record_is _ l (sym c.in-Some.ensures) c.at.ensures) at (sym c.in_default-check_life.ensures))) c.refused-in_default-check_life.ensures

pub returns-in_default-given : goal.returns-in_default-given
unfolding decide_checks
returns-in_default-given c =
    refusal _ _ _ _ 5 (come5 _ _ _ _ (sym c.in-Sound.ensures) (sym c.in-Timely.ensures) (sym c.in-Passed.ensures) (sym c.in-Some.ensures) c.at.ensures (sym c.in-Alive.ensures))
    (told _ _ (sym c.in_default-given.ensures)) c.refused-in_default-given.ensures

pub returns-in_default-check_fresh : goal.returns-in_default-check_fresh
unfolding decide_checks
returns-in_default-check_fresh c =
    refusal _ _ _ _ 6 (come6 _ _ _ _ (sym c.in-Sound.ensures) (sym c.in-Timely.ensures) (sym c.in-Passed.ensures) (sym c.in-Some.ensures) c.at.ensures (sym c.in-Alive.ensures) (sym c.in-Passed-given.ensures))
    (told _ _ (sym c.in_default-check_fresh.ensures)) c.refused-in_default-check_fresh.ensures

pub consent_at-requires : goal.consent_at-requires
consent_at-requires c = (found_inside (is_reference c.args.request.reference.now c.args.request.client.now) _ _ (sym c.in-Some.ensures), timely_lt _ _ (time_told _ _ _ (sym c.in-Timely.ensures)))

pub returns-then-request : goal.returns-then-request
returns-then-request c =
    let l = c.args.ledger.now in
    let request : DecideRequest = record { reference = c.args.request.reference.now; client = c.args.request.client.now; yes = c.args.request.yes; holder = c.args.request.holder; fresh = c.args.request.fresh.now } in
    let t = come7 l c.args.time request c.args.out.now (sym c.in-Sound.ensures) (sym c.in-Timely.ensures) (sym c.in-Passed.ensures) (sym c.in-Some.ensures) c.at.ensures (sym c.in-Alive.ensures) (sym c.in-Passed-given.ensures) (sym c.in-Passed-check_fresh.ensures) in
    c.consent_at.ensures
    ∙ sym (acceptance _ _ _ _ t ∙ decide_yes l c.args.time request c.args.out.now _ c.if-request.true (found_place _ _ _ (sym c.in-Some.ensures)))

pub decline_at-requires : goal.decline_at-requires
decline_at-requires c = found_inside (is_reference c.args.request.reference.now c.args.request.client.now) _ _ (sym c.in-Some.ensures)

pub returns : goal.returns
returns c =
    let l = c.args.ledger.now in
    let request : DecideRequest = record { reference = c.args.request.reference.now; client = c.args.request.client.now; yes = c.args.request.yes; holder = c.args.request.holder; fresh = c.args.request.fresh.now } in
    let t = come7 l c.args.time request c.args.out.now (sym c.in-Sound.ensures) (sym c.in-Timely.ensures) (sym c.in-Passed.ensures) (sym c.in-Some.ensures) c.at.ensures (sym c.in-Alive.ensures) (sym c.in-Passed-given.ensures) (sym c.in-Passed-check_fresh.ensures) in
    c.decline_at.ensures
    ∙ sym (acceptance _ _ _ _ t ∙ decide_no l c.args.time request c.args.out.now _ c.if-request.false (found_place _ _ _ (sym c.in-Some.ensures)))
