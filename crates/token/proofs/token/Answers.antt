use Rattle.std.proofs.Common.{List, ap, not, refl, sym, true, ℕ, ◌∙◌, ◌≡◌, Some}
use Rattle.desk.proofs.Tests.{told, table_told, known_told}
use Rattle.desk.proofs.Turns.{nth, Come, passes, stops, all_pass}
use Rattle.desk.proofs.Written.{token_at_lem as written_at, found_inside, timely_lt, refuses, record_is}
use Rattle.desk.specs.Answers.{refused}
use Rattle.desk.specs.Checks.{Check, Verdict}
use Rattle.desk.specs.Outcome.{Outcome, left, concludes}
use Rattle.desk.specs.Requests.{TokenRequest}
use Rattle.desk.specs.Token.{code_place, token_checks, token_at, ended, token_leaves, token}
use Rattle.desk.specs.declared.answer.Answer.{Answer}
use Rattle.desk.specs.declared.answer.Refusal.{Refusal}
use Rattle.forms.proofs.Laws.{verifier_well, verifier_ill}
use Rattle.ledger.proofs.Tests.{sound_told, time_told, value_told, life_told, found_told, found_place}
use Rattle.ledger.specs.Checks.{is_code}
use Rattle.ledger.specs.Fields.{rec}
use Rattle.s256.proofs.Rules.{matching_same, matching_differs}
use Rattle.octets.specs.Parts.{zeros}
use Rattle.forms.specs.Forms.{verifier_form}
use Rattle.forms.specs.declared.Form.TheVariants.{Well}
use Rattle.clients.specs.Known.{known}
use Rattle.clients.specs.Sound.{check_table}
use Rattle.clients.specs.declared.table.Table.TheVariants.{Sound as SoundTable}
use Rattle.desk.specs.Tests.{fails_when}
use Rattle.desk.specs.declared.check.Test.TheVariants.{Passed}
use Rattle.ledger.specs.Checks.{check_sound, check_time, check_life, found}
use Rattle.ledger.specs.Fields.{in_state, challenge}
use Rattle.ledger.specs.declared.clock.Timing.TheVariants.{Timely}
use Rattle.ledger.specs.declared.record.Life.TheVariants.{Alive}
use Rattle.ledger.specs.declared.sound.Soundness.TheVariants.{Sound}
use Rattle.ledger.specs.declared.state.State.TheVariants.{Redeemed}
use Rattle.s256.specs.Rule.{matching}
use Rattle.s256.specs.declared.Match.TheVariants.{Same}
use Rattle.token.proofs.token.Goals as goal

module _ (l : List ℕ) (time : ℕ) (table : List ℕ) (request : TokenRequest) where
  abbrev checks : List Check
  checks = token_checks l time table request (code_place l request)

  abbrev done : Outcome Answer
  done = token_at l time request (code_place l request)

  -- what each row leaves
  abbrev leaves : Refusal → Outcome Answer
  leaves = token_leaves l time (code_place l request)

  -- the check whose turn has come fails: its row is answered, with the ledger that it leaves
  refusal : (n : ℕ) {a : Answer} {m : List ℕ} → Come n checks → (nth n checks).holds ≡ true → a ≡ refused (nth n checks).why
      → m ≡ (leaves (nth n checks).why).ledger → left a m ≡ token l time table request
  unfolding token
  refusal n t h e f = rw f (refuses e (ap (λ (v : Verdict). concludes v leaves done) (stops n checks t h)))

  -- none is left: the call is done
  acceptance : Come 11 checks → token l time table request ≡ done
  unfolding token token_checks
  acceptance t = ap (λ (v : Verdict). concludes v leaves done) (all_pass 11 checks t refl)

  -- what has passed, check by check, and that the turn has come to the next one
  module _ (sound : check_sound l ≡ Sound) where
    come1 : Come 1 checks
    unfolding token_checks
    come1 = passes 0 checks refl (ap not (sound_told _ _ sound))

    module _ (timely : check_time l time ≡ Timely) where
      come2 : Come 2 checks
      unfolding token_checks
      come2 = passes 1 checks come1 (time_told _ _ _ timely)

      module _ (whole : check_table table ≡ SoundTable) where
        come3 : Come 3 checks
        unfolding token_checks
        come3 = passes 2 checks come2 (ap not (table_told _ _ whole))

        module _ {w : ℕ} (who : known table request.client request.key ≡ Some w) where
          come4 : Come 4 checks
          unfolding token_checks
          come4 = passes 3 checks come3 (ap not (known_told _ _ _ _ who))

          module _ (presented : fails_when (zeros request.presented) ≡ Passed) where
            come5 : Come 5 checks
            unfolding token_checks
            come5 = passes 4 checks come4 (told _ _ presented)

            module _ (formed : verifier_form request.verifier ≡ Well) where
              come6 : Come 6 checks
              unfolding token_checks
              come6 = passes 5 checks come5 (ap not (verifier_well _ formed))

              module _ {k : ℕ} (here : found (is_code request.code request.client) l ≡ Some k) where
                come7 : Come 7 checks
                unfolding token_checks
                come7 = passes 6 checks come6 (ap not (found_told _ _ _ here))

                module _ {r : List ℕ} (read : r ≡ rec l k) (unredeemed : fails_when (in_state Redeemed r) ≡ Passed) where
                  come8 : Come 8 checks
                  unfolding token_checks
                  come8 = passes 7 checks come7 (told _ _ (rw (record_is _ l here read) at unredeemed))

                  module _ {s : List ℕ} (again : s ≡ rec l k) (alive : check_life s time ≡ Alive) where
                    come9 : Come 9 checks
                    unfolding token_checks
                    come9 = passes 8 checks come8 (life_told _ _ _ (rw (record_is _ l here again) at alive))

                    come10 : {q : List ℕ} → q ≡ rec l k → matching request.verifier (challenge q) ≡ Same → Come 10 checks
                    unfolding token_checks
                    come10 e m = passes 9 checks come9 (ap not (matching_same _ _ (rw (record_is _ l here e) at m)))

-- ---- the returns

pub returns-in_default : goal.returns-in_default
unfolding token_checks
returns-in_default c =
    refusal _ _ _ _ 0 refl
    (ap not (sound_told _ _ (sym c.in_default.ensures))) c.refused.ensures refl

pub returns-in_default-check : goal.returns-in_default-check
unfolding token_checks
returns-in_default-check c =
    refusal _ _ _ _ 1 (come1 _ _ _ _ (sym c.in-Sound.ensures))
    (time_told _ _ _ (sym c.in_default-check.ensures)) c.refused-in_default-check.ensures refl

pub returns-in_default-check-2 : goal.returns-in_default-check-2
unfolding token_checks
returns-in_default-check-2 c =
    refusal _ _ _ _ 2 (come2 _ _ _ _ (sym c.in-Sound.ensures) (sym c.in-Timely.ensures))
    (ap not (table_told _ _ (sym c.in_default-check-2.ensures))) c.refused-in_default-check-2.ensures refl

pub returns-in_default-find : goal.returns-in_default-find
unfolding token_checks
returns-in_default-find c =
    refusal _ _ _ _ 3 (come3 _ _ _ _ (sym c.in-Sound.ensures) (sym c.in-Timely.ensures) (sym c.in-Sound-check.ensures))
    (ap not (known_told _ _ _ _ (sym c.in_default-find.ensures))) c.refused-in_default-find.ensures refl

pub returns-in_default-key : goal.returns-in_default-key
unfolding token_checks
returns-in_default-key c =
    refusal _ _ _ _ 4 (come4 _ _ _ _ (sym c.in-Sound.ensures) (sym c.in-Timely.ensures) (sym c.in-Sound-check.ensures) (sym c.in-Some.ensures))
    (told _ _ (sym c.in_default-key.ensures)) c.refused-in_default-key.ensures refl

pub returns-in_default-check-3 : goal.returns-in_default-check-3
unfolding token_checks
returns-in_default-check-3 c =
    refusal _ _ _ _ 5 (come5 _ _ _ _ (sym c.in-Sound.ensures) (sym c.in-Timely.ensures) (sym c.in-Sound-check.ensures) (sym c.in-Some.ensures) (sym c.in-Passed.ensures))
    (ap not (verifier_ill _ (sym c.in_default-check-3.ensures))) c.refused-in_default-check-3.ensures refl

pub returns-in_default-code : goal.returns-in_default-code
unfolding token_checks
returns-in_default-code c =
    refusal _ _ _ _ 6 (come6 _ _ _ _ (sym c.in-Sound.ensures) (sym c.in-Timely.ensures) (sym c.in-Sound-check.ensures) (sym c.in-Some.ensures) (sym c.in-Passed.ensures) (sym c.in-Well.ensures))
    (ap not (found_told _ _ _ (sym c.in_default-code.ensures))) c.refused-in_default-code.ensures refl

pub end_at-requires : goal.end_at-requires
end_at-requires c = found_inside (is_code c.args.request.code.now c.args.request.client.now) _ _ (sym c.in-Some-code.ensures)

-- 15, whose record is freed and whose clock is set
pub returns-in_default-unredeemed : goal.returns-in_default-unredeemed
unfolding token_checks
returns-in_default-unredeemed c =
    let l = c.args.ledger.now in
    let request : TokenRequest = record { client = c.args.request.client.now; key = c.args.request.key.now; presented = c.args.request.presented.now; code = c.args.request.code.now; verifier = c.args.request.verifier.now; fresh = c.args.request.fresh.now } in
    refusal l c.args.time c.args.table.now request 7 (come7 _ _ _ _ (sym c.in-Sound.ensures) (sym c.in-Timely.ensures) (sym c.in-Sound-check.ensures) (sym c.in-Some.ensures) (sym c.in-Passed.ensures) (sym c.in-Well.ensures) (sym c.in-Some-code.ensures))
    (told _ _ (rw (record_is _ l (sym c.in-Some-code.ensures) c.at.ensures) at (sym c.in_default-unredeemed.ensures))) c.refused-in_default-unredeemed.ensures (c.end_at.ensures ∙ ap (ended l c.args.time) (sym (found_place _ _ _ (sym c.in-Some-code.ensures))))

pub returns-in_default-check_life : goal.returns-in_default-check_life
unfolding token_checks
returns-in_default-check_life c =
    let l = c.args.ledger.now in
    let request : TokenRequest = record { client = c.args.request.client.now; key = c.args.request.key.now; presented = c.args.request.presented.now; code = c.args.request.code.now; verifier = c.args.request.verifier.now; fresh = c.args.request.fresh.now } in
    refusal l c.args.time c.args.table.now request 8 (come8 _ _ _ _ (sym c.in-Sound.ensures) (sym c.in-Timely.ensures) (sym c.in-Sound-check.ensures) (sym c.in-Some.ensures) (sym c.in-Passed.ensures) (sym c.in-Well.ensures) (sym c.in-Some-code.ensures) c.at.ensures (sym c.in-Passed-unredeemed.ensures))
    (life_told _ _ _ (rw (record_is _ l (sym c.in-Some-code.ensures) c.at-2.ensures) at (sym c.in_default-check_life.ensures))) c.refused-in_default-check_life.ensures refl

pub returns-in_default-check_verifier : goal.returns-in_default-check_verifier
unfolding token_checks
returns-in_default-check_verifier c =
    let l = c.args.ledger.now in
    let request : TokenRequest = record { client = c.args.request.client.now; key = c.args.request.key.now; presented = c.args.request.presented.now; code = c.args.request.code.now; verifier = c.args.request.verifier.now; fresh = c.args.request.fresh.now } in
    refusal l c.args.time c.args.table.now request 9 (come9 _ _ _ _ (sym c.in-Sound.ensures) (sym c.in-Timely.ensures) (sym c.in-Sound-check.ensures) (sym c.in-Some.ensures) (sym c.in-Passed.ensures) (sym c.in-Well.ensures) (sym c.in-Some-code.ensures) c.at.ensures (sym c.in-Passed-unredeemed.ensures) c.at-2.ensures (sym c.in-Alive.ensures))
    (ap not (matching_differs _ _ (rw (record_is _ l (sym c.in-Some-code.ensures) c.at-3.ensures) at (sym c.in_default-check_verifier.ensures)))) c.refused-in_default-check_verifier.ensures refl

pub returns-in_default-check-4 : goal.returns-in_default-check-4
unfolding token_checks
returns-in_default-check-4 c =
    refusal _ _ _ _ 10 (come10 _ _ _ _ (sym c.in-Sound.ensures) (sym c.in-Timely.ensures) (sym c.in-Sound-check.ensures) (sym c.in-Some.ensures) (sym c.in-Passed.ensures) (sym c.in-Well.ensures) (sym c.in-Some-code.ensures) c.at.ensures (sym c.in-Passed-unredeemed.ensures) c.at-2.ensures (sym c.in-Alive.ensures) c.at-3.ensures (sym c.in-Same.ensures))
    (value_told _ _ _ (sym c.in_default-check-4.ensures)) c.refused-in_default-check-4.ensures refl

pub token_at-requires : goal.token_at-requires
token_at-requires c = (
  found_inside (is_code c.args.request.code.now c.args.request.client.now) _ _ (sym c.in-Some-code.ensures),
  timely_lt _ _ (time_told _ _ _ (sym c.in-Timely.ensures)),
)

pub returns : goal.returns
unfolding token_checks
returns c =
    let l = c.args.ledger.now in
    let request : TokenRequest = record { client = c.args.request.client.now; key = c.args.request.key.now; presented = c.args.request.presented.now; code = c.args.request.code.now; verifier = c.args.request.verifier.now; fresh = c.args.request.fresh.now } in
    let t =
    passes 10 (checks l c.args.time c.args.table.now request) (come10 _ _ _ _ (sym c.in-Sound.ensures) (sym c.in-Timely.ensures) (sym c.in-Sound-check.ensures) (sym c.in-Some.ensures) (sym c.in-Passed.ensures) (sym c.in-Well.ensures) (sym c.in-Some-code.ensures) c.at.ensures (sym c.in-Passed-unredeemed.ensures) c.at-2.ensures (sym c.in-Alive.ensures) c.at-3.ensures (sym c.in-Same.ensures)) (value_told _ _ _ (sym c.in-New.ensures)) in
    c.token_at.ensures ∙ written_at l c.args.time request _ (found_place _ _ _ (sym c.in-Some-code.ensures)) ∙ sym (acceptance _ _ _ _ t)
