use Rattle.std.proofs.Common.{List, ap, arith, eqb, false, not, refl, sym, true, ℕ, ◌+◌, ◌∙◌, ◌≡◌, Option, Some}
use Rattle.clients.specs.Fields.{permitted, client}
use Rattle.clients.proofs.Profile.{known_most}
use Rattle.clients.specs.Known.{place_of}
use Rattle.clients.specs.Lifetime.{lifetime_of}
use Rattle.desk.proofs.Tests.{told, table_told, known_told, known_place, texts_told, scope_told, scope_bits}
use Rattle.desk.proofs.Turns.{nth, Come, passes, stops, all_pass}
use Rattle.desk.proofs.Written.{push_at_lem as written_at, below_last, found_inside, timely_lt, refuses}
use Rattle.desk.specs.Answers.{refused}
use Rattle.desk.specs.Checks.{Check, Verdict}
use Rattle.desk.specs.Outcome.{left, concludes}
use Rattle.desk.specs.Push.{lifetime, free_place, push_checks, push_at, push_leaves, push}
use Rattle.desk.specs.Requests.{PushRequest}
use Rattle.desk.specs.Tests.{fails_when, scope_decision}
use Rattle.desk.specs.declared.answer.Answer.{Answer}
use Rattle.ledger.proofs.Tests.{sound_told, time_told, value_told, found_told, found_place}
use Rattle.ledger.specs.Checks.{is_free}
use Rattle.ledger.specs.Fields.{next_number}
use Rattle.ledger.specs.Limits.{last_number}
use Rattle.clients.specs.Known.{known}
use Rattle.clients.specs.Sound.{check_table}
use Rattle.clients.specs.declared.table.Table.TheVariants.{Sound as SoundTable}
use Rattle.desk.specs.Tests.{texts_test}
use Rattle.desk.specs.declared.check.Test.TheVariants.{Passed}
use Rattle.ledger.specs.Checks.{check_sound, check_time, check_value, found}
use Rattle.ledger.specs.declared.clock.Timing.TheVariants.{Timely}
use Rattle.ledger.specs.declared.pool.Value.TheVariants.{New}
use Rattle.ledger.specs.declared.sound.Soundness.TheVariants.{Sound}
use Rattle.clients.specs.Known.{known}
use Rattle.clients.specs.Sound.{check_table}
use Rattle.clients.specs.declared.table.Table.TheVariants.{Sound as SoundTable}
use Rattle.desk.specs.Tests.{texts_test}
use Rattle.desk.specs.declared.check.Test.{Test}
use Rattle.desk.specs.declared.check.Test.TheVariants.{Passed}
use Rattle.ledger.specs.Checks.{check_sound, check_time, check_value, found}
use Rattle.ledger.specs.declared.clock.Timing.TheVariants.{Timely}
use Rattle.ledger.specs.declared.pool.Value.TheVariants.{New}
use Rattle.ledger.specs.declared.sound.Soundness.TheVariants.{Sound}
use Rattle.clients.specs.Known.{known}
use Rattle.clients.specs.Sound.{check_table}
use Rattle.clients.specs.declared.table.Table.TheVariants.{Sound as SoundTable}
use Rattle.desk.specs.Tests.{texts_test}
use Rattle.desk.specs.declared.check.Test.{Test}
use Rattle.desk.specs.declared.check.Test.TheVariants.{Passed}
use Rattle.ledger.specs.Checks.{check_sound, check_time, check_value, found}
use Rattle.ledger.specs.declared.clock.Timing.TheVariants.{Timely}
use Rattle.ledger.specs.declared.pool.Value.TheVariants.{New}
use Rattle.ledger.specs.declared.sound.Soundness.TheVariants.{Sound}
use Rattle.push.proofs.push.Goals as goal

-- the scope decision, by the client's record
decided : (table id key : List ℕ) (scope : ℕ) {w m : ℕ} {b : Option ℕ} → known table id key ≡ Some w → m ≡ permitted (client table w) → scope_decision scope m ≡ b
    → scope_decision scope (permitted (client table (place_of table id))) ≡ b
decided table id key scope f p g =
    ap (scope_decision scope) (sym (p ∙ ap (λ (k : ℕ). permitted (client table k)) (sym (known_place _ _ _ _ f)))) ∙ g

module _ (l : List ℕ) (time : ℕ) (table : List ℕ) (request : PushRequest) where
  abbrev checks : List Check
  checks = push_checks l time table request

  -- the check whose turn has come fails: its row is answered
  refusal : (n : ℕ) {a : Answer} → Come n checks → (nth n checks).holds ≡ true → a ≡ refused (nth n checks).why → left a l ≡ push l time table request
  unfolding push
  refusal n t h e =
      refuses e (ap (λ (v : Verdict). concludes v (push_leaves l) (push_at l time table request (free_place l))) (stops n checks t h))

  -- none is left: the call is done
  acceptance : Come 9 checks → push l time table request ≡ push_at l time table request (free_place l)
  unfolding push push_checks
  acceptance t = ap (λ (v : Verdict). concludes v (push_leaves l) (push_at l time table request (free_place l))) (all_pass 9 checks t refl)

  -- what has passed, check by check, and that the turn has come to the next one
  module _ (sound : check_sound l ≡ Sound) where
    come1 : Come 1 checks
    unfolding push_checks
    come1 = passes 0 checks refl (ap not (sound_told _ _ sound))

    module _ (timely : check_time l time ≡ Timely) where
      come2 : Come 2 checks
      unfolding push_checks
      come2 = passes 1 checks come1 (time_told _ _ _ timely)

      module _ (whole : check_table table ≡ SoundTable) where
        come3 : Come 3 checks
        unfolding push_checks
        come3 = passes 2 checks come2 (ap not (table_told _ _ whole))

        module _ {w : ℕ} (who : known table request.client request.key ≡ Some w) where
          come4 : Come 4 checks
          unfolding push_checks
          come4 = passes 3 checks come3 (ap not (known_told _ _ _ _ who))

          module _ (formed : texts_test request.redirect request.challenge ≡ Passed) where
            come5 : Come 5 checks
            unfolding push_checks
            come5 = passes 4 checks come4 (ap not (texts_told _ _ _ formed))

            module _ {m bits : ℕ} (may : m ≡ permitted (client table w)) (granted : scope_decision request.scope m ≡ Some bits) where
              come6 : Come 6 checks
              unfolding push_checks
              come6 = passes 5 checks come5 (ap not (scope_told _ _ _ (decided _ _ _ _ who may granted)))

              module _ (new : check_value l request.fresh ≡ New) where
                come7 : Come 7 checks
                unfolding push_checks
                come7 = passes 6 checks come6 (value_told _ _ _ new)

                module _ {k : ℕ} (room : found is_free l ≡ Some k) where
                  come8 : Come 8 checks
                  unfolding push_checks
                  come8 = passes 7 checks come7 (ap not (found_told _ _ _ room))

                  come9 : eqb (next_number l) last_number ≡ false → Come 9 checks
                  unfolding push_checks
                  come9 left = passes 8 checks come8 left

-- the test of the next number
numbered : (l : List ℕ) {n : ℕ} {a : Test} → n ≡ next_number l → fails_when (eqb n last_number) ≡ a → fails_when (eqb (next_number l) last_number) ≡ a
numbered l e f = ap (λ (n : ℕ). fails_when (eqb n last_number)) (sym e) ∙ f

lives : (table : List ℕ) (request : PushRequest) {w n : ℕ} {r : List ℕ} → known table request.client request.key ≡ Some w → n ≡ lifetime_of r → r ≡ client table w
    → n ≡ lifetime table request
lives table request f e g = e ∙ ap lifetime_of (g ∙ ap (client table) (sym (known_place _ _ _ _ f)))

-- ---- the returns

pub returns-in_default : goal.returns-in_default
unfolding push_checks
returns-in_default c =
    refusal _ _ _ _ 0 refl
    (ap not (sound_told _ _ (sym c.in_default.ensures))) c.refused.ensures

pub returns-in_default-check : goal.returns-in_default-check
unfolding push_checks
returns-in_default-check c =
    refusal _ _ _ _ 1 (come1 _ _ _ _ (sym c.in-Sound.ensures))
    (time_told _ _ _ (sym c.in_default-check.ensures)) c.refused-in_default-check.ensures

pub returns-in_default-check-2 : goal.returns-in_default-check-2
unfolding push_checks
returns-in_default-check-2 c =
    refusal _ _ _ _ 2 (come2 _ _ _ _ (sym c.in-Sound.ensures) (sym c.in-Timely.ensures))
    (ap not (table_told _ _ (sym c.in_default-check-2.ensures))) c.refused-in_default-check-2.ensures

pub returns-in_default-find : goal.returns-in_default-find
unfolding push_checks
returns-in_default-find c =
    refusal _ _ _ _ 3 (come3 _ _ _ _ (sym c.in-Sound.ensures) (sym c.in-Timely.ensures) (sym c.in-Sound-check.ensures))
    (ap not (known_told _ _ _ _ (sym c.in_default-find.ensures))) c.refused-in_default-find.ensures

pub returns-in_default-texts : goal.returns-in_default-texts
unfolding push_checks
returns-in_default-texts c =
    refusal _ _ _ _ 4 (come4 _ _ _ _ (sym c.in-Sound.ensures) (sym c.in-Timely.ensures) (sym c.in-Sound-check.ensures) (sym c.in-Some.ensures))
    (ap not (texts_told _ _ _ (sym c.in_default-texts.ensures))) c.refused-in_default-texts.ensures

pub returns-in_default-granted : goal.returns-in_default-granted
unfolding push_checks
returns-in_default-granted c =
    refusal _ _ _ _ 5 (come5 _ _ _ _ (sym c.in-Sound.ensures) (sym c.in-Timely.ensures) (sym c.in-Sound-check.ensures) (sym c.in-Some.ensures) (sym c.in-Passed.ensures))
    (ap not (scope_told _ _ _ (decided _ _ _ _ (sym c.in-Some.ensures) c.permitted.ensures (sym c.in_default-granted.ensures)))) c.refused-in_default-granted.ensures

pub returns-in_default-check-3 : goal.returns-in_default-check-3
unfolding push_checks
returns-in_default-check-3 c =
    refusal _ _ _ _ 6 (come6 _ _ _ _ (sym c.in-Sound.ensures) (sym c.in-Timely.ensures) (sym c.in-Sound-check.ensures) (sym c.in-Some.ensures) (sym c.in-Passed.ensures) c.permitted.ensures (sym c.in-Some-granted.ensures))
    (value_told _ _ _ (sym c.in_default-check-3.ensures)) c.refused-in_default-check-3.ensures

pub returns-in_default-free : goal.returns-in_default-free
unfolding push_checks
returns-in_default-free c =
    refusal _ _ _ _ 7 (come7 _ _ _ _ (sym c.in-Sound.ensures) (sym c.in-Timely.ensures) (sym c.in-Sound-check.ensures) (sym c.in-Some.ensures) (sym c.in-Passed.ensures) c.permitted.ensures (sym c.in-Some-granted.ensures) (sym c.in-New.ensures))
    (ap not (found_told _ _ _ (sym c.in_default-free.ensures))) c.refused-in_default-free.ensures

pub returns-in_default-number : goal.returns-in_default-number
unfolding push_checks
returns-in_default-number c =
    refusal _ _ _ _ 8 (come8 _ _ _ _ (sym c.in-Sound.ensures) (sym c.in-Timely.ensures) (sym c.in-Sound-check.ensures) (sym c.in-Some.ensures) (sym c.in-Passed.ensures) c.permitted.ensures (sym c.in-Some-granted.ensures) (sym c.in-New.ensures) (sym c.in-Some-free.ensures))
    (told _ _ (numbered c.args.ledger.now c.next_number-number.ensures (sym c.in_default-number.ensures))) c.refused-in_default-number.ensures

pub overflow_add-push : goal.overflow_add-push
overflow_add-push c =
    let h = timely_lt _ _ (time_told _ _ _ (sym c.in-Timely.ensures)) in
    let m = known_most _ _ _ _ (table_told _ _ (sym c.in-Sound-check.ensures)) (sym c.in-Some.ensures) in
    let e = c.lifetime_of.ensures ∙ ap lifetime_of c.client_at.ensures in
    omega arith

pub push_at-requires : goal.push_at-requires
push_at-requires c = (
  found_inside is_free _ _ (sym c.in-Some-free.ensures),
  below_last _ _ (told _ _ (numbered c.args.ledger.now c.next_number-number.ensures (sym c.in-Passed-number.ensures))) c.next_number-number.ensures (omega arith),
)

pub returns : goal.returns
returns c =
    let l = c.args.ledger.now in
    let table = c.args.table.now in
    let request : PushRequest = record { client = c.args.request.client.now; key = c.args.request.key.now; scope = c.args.request.scope; challenge = c.args.request.challenge.now; redirect = c.args.request.redirect.now; fresh = c.args.request.fresh.now } in
    let t =
    come9 _ _ _ _ (sym c.in-Sound.ensures) (sym c.in-Timely.ensures) (sym c.in-Sound-check.ensures) (sym c.in-Some.ensures) (sym c.in-Passed.ensures) c.permitted.ensures (sym c.in-Some-granted.ensures) (sym c.in-New.ensures) (sym c.in-Some-free.ensures)
    (told _ _ (numbered c.args.ledger.now c.next_number-number.ensures (sym c.in-Passed-number.ensures))) in
    c.push_at.ensures
    ∙ written_at l c.args.time table request _ _ _ _ (found_place _ _ _ (sym c.in-Some-free.ensures))
    (scope_bits _ _ _ (decided _ _ _ _ (sym c.in-Some.ensures) c.permitted.ensures (sym c.in-Some-granted.ensures)))
    c.next_number-number.ensures (ap (λ (n : ℕ). c.args.time + n) (lives table request (sym c.in-Some.ensures) c.lifetime_of.ensures c.client_at.ensures))
    ∙ sym (acceptance _ _ _ _ t)
