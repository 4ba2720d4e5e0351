use Rattle.std.proofs.Common.{List, ap, eqb, not, refl, sym, true, ℕ, ◌∙◌, ◌≡◌, Some, Ok, Err}
use Rattle.desk.proofs.Written.{record_is}
use Rattle.desk.proofs.Tests.{told}
use Rattle.desk.proofs.Turns.{nth, Come, passes, stops, all_pass}
use Rattle.desk.specs.Answers.{answer_of}
use Rattle.desk.specs.Checks.{Check, Verdict, scope_fits}
use Rattle.desk.specs.Requests.{ResourceRequest}
use Rattle.desk.specs.Resource.{token_place, resource_checks, read_by, look}
use Rattle.desk.specs.Tests.{fails_when}
use Rattle.desk.specs.declared.check.Test.{Test}
use Rattle.ledger.proofs.Tests.{sound_told, time_told, life_told, found_told}
use Rattle.ledger.specs.Checks.{check_sound, check_time, check_life, found, is_token}
use Rattle.ledger.specs.Fields.{rec, scope, holder}
use Rattle.desk.specs.declared.check.Test.TheVariants.{Passed}
use Rattle.ledger.specs.declared.clock.Timing.TheVariants.{Timely}
use Rattle.ledger.specs.declared.record.Life.TheVariants.{Alive}
use Rattle.ledger.specs.declared.sound.Soundness.TheVariants.{Sound}
use Rattle.resource.proofs.look.Goals as goal

-- the granted bits are the record's
bits : (asked : ℕ) {r s : List ℕ} {n : ℕ} {a : Test} → r ≡ s → n ≡ scope r → fails_when (not (scope_fits asked n)) ≡ a
    → fails_when (not (scope_fits asked (scope s))) ≡ a
bits asked p h f = ap (λ (n : ℕ). fails_when (not (scope_fits asked n))) (sym (h ∙ ap scope p)) ∙ f

module _ (l : List ℕ) (time : ℕ) (request : ResourceRequest) where
  abbrev found_record : List ℕ
  found_record = rec l (token_place l request)

  abbrev checks : List Check
  checks = resource_checks l time request (token_place l request)

  -- the check whose turn has come fails: its row is answered
  refusal : (n : ℕ) → Come n checks → (nth n checks).holds ≡ true → Err (nth n checks).why ≡ look l time request
  unfolding look
  refusal n t h = sym (ap (λ (v : Verdict). read_by v found_record) (stops n checks t h))

  -- none is left: the reading is granted
  acceptance : Come 7 checks → look l time request ≡ Ok (answer_of found_record)
  unfolding look resource_checks
  acceptance t = ap (λ (v : Verdict). read_by v found_record) (all_pass 7 checks t refl)

  -- what has passed, check by check, and that the turn has come to the next one
  module _ (sound : check_sound l ≡ Sound) where
    come1 : Come 1 checks
    unfolding resource_checks
    come1 = passes 0 checks refl (ap not (sound_told _ _ sound))

    module _ (timely : check_time l time ≡ Timely) where
      come2 : Come 2 checks
      unfolding resource_checks
      come2 = passes 1 checks come1 (time_told _ _ _ timely)

      module _ {k : ℕ} (here : found (is_token request.token) l ≡ Some k) where
        come3 : Come 3 checks
        unfolding resource_checks
        come3 = passes 2 checks come2 (ap not (found_told _ _ _ here))

        module _ {r : List ℕ} (read : r ≡ rec l k) (alive : check_life r time ≡ Alive) where
          come4 : Come 4 checks
          unfolding resource_checks
          come4 = passes 3 checks come3 (life_told _ _ _ (rw (record_is _ l here read) at alive))

          module _ (bound : fails_when (nth 4 checks).holds ≡ Passed) where
            come5 : Come 5 checks
            unfolding resource_checks
            come5 = passes 4 checks come4 (told _ _ bound)

            module _ {n : ℕ} (granted : n ≡ scope r) (within : fails_when (not (scope_fits request.scope n)) ≡ Passed) where
              come6 : Come 6 checks
              unfolding resource_checks
              come6 = passes 5 checks come5 (told _ _ (bits request.scope (record_is _ l here read) granted within))

              come7 : fails_when (not (eqb (holder r) request.holder)) ≡ Passed → Come 7 checks
              unfolding resource_checks
              come7 held = passes 6 checks come6 (told _ _ (rw (record_is _ l here read) at held))

-- ---- the returns

pub returns-in_default : goal.returns-in_default
unfolding resource_checks
returns-in_default c =
    refusal _ _ _ 0 refl
    (ap not (sound_told _ _ (sym c.in_default.ensures)))

pub returns-in_default-check : goal.returns-in_default-check
unfolding resource_checks
returns-in_default-check c =
    refusal _ _ _ 1 (come1 _ _ _ (sym c.in-Sound.ensures))
    (time_told _ _ _ (sym c.in_default-check.ensures))

pub returns-in_default-token : goal.returns-in_default-token
unfolding resource_checks
returns-in_default-token c =
    refusal _ _ _ 2 (come2 _ _ _ (sym c.in-Sound.ensures) (sym c.in-Timely.ensures))
    (ap not (found_told _ _ _ (sym c.in_default-token.ensures)))

pub returns-in_default-check_life : goal.returns-in_default-check_life
unfolding resource_checks
returns-in_default-check_life c =
    let l = c.args.ledger.now in
    let request : ResourceRequest = record { token = c.args.request.token.now; presented = c.args.request.presented.now; scope = c.args.request.scope; holder = c.args.request.holder } in
    let read = record_is _ l (sym c.in-Some.ensures) c.at-r.ensures in
    refusal l c.args.time request 3 (come3 _ _ _ (sym c.in-Sound.ensures) (sym c.in-Timely.ensures) (sym c.in-Some.ensures))
    (life_told _ _ _ (rw read at (sym c.in_default-check_life.ensures)))

pub returns-in_default-bound : goal.returns-in_default-bound
unfolding resource_checks
returns-in_default-bound c =
    let l = c.args.ledger.now in
    let request : ResourceRequest = record { token = c.args.request.token.now; presented = c.args.request.presented.now; scope = c.args.request.scope; holder = c.args.request.holder } in
    let read = record_is _ l (sym c.in-Some.ensures) c.at-r.ensures in
    refusal l c.args.time request 4 (come4 _ _ _ (sym c.in-Sound.ensures) (sym c.in-Timely.ensures) (sym c.in-Some.ensures) c.at-r.ensures (sym c.in-Alive.ensures))
    (told _ _ (rw read at (sym c.in_default-bound.ensures)))

pub returns-in_default-within : goal.returns-in_default-within
unfolding resource_checks
returns-in_default-within c =
    let l = c.args.ledger.now in
    let request : ResourceRequest = record { token = c.args.request.token.now; presented = c.args.request.presented.now; scope = c.args.request.scope; holder = c.args.request.holder } in
    let read = record_is _ l (sym c.in-Some.ensures) c.at-r.ensures in
    refusal l c.args.time request 5 (come5 _ _ _ (sym c.in-Sound.ensures) (sym c.in-Timely.ensures) (sym c.in-Some.ensures) c.at-r.ensures (sym c.in-Alive.ensures) (rw read at (sym c.in-Passed.ensures)))
    (told _ _ (bits c.args.request.scope read c.scope.ensures (sym c.in_default-within.ensures)))

pub returns-in_default-held : goal.returns-in_default-held
unfolding resource_checks
returns-in_default-held c =
    let l = c.args.ledger.now in
    let request : ResourceRequest = record { token = c.args.request.token.now; presented = c.args.request.presented.now; scope = c.args.request.scope; holder = c.args.request.holder } in
    let read = record_is _ l (sym c.in-Some.ensures) c.at-r.ensures in
    refusal l c.args.time request 6 (come6 _ _ _ (sym c.in-Sound.ensures) (sym c.in-Timely.ensures) (sym c.in-Some.ensures) c.at-r.ensures (sym c.in-Alive.ensures) (rw read at (sym c.in-Passed.ensures)) c.scope.ensures (sym c.in-Passed-within.ensures))
    (told _ _ (rw read at (sym c.in_default-held.ensures)))

pub returns : goal.returns
unfolding resource_checks
returns c =
    let l = c.args.ledger.now in
    let request : ResourceRequest = record { token = c.args.request.token.now; presented = c.args.request.presented.now; scope = c.args.request.scope; holder = c.args.request.holder } in
    let read = record_is _ l (sym c.in-Some.ensures) c.at-r.ensures in
    let t = come7 l c.args.time request (sym c.in-Sound.ensures) (sym c.in-Timely.ensures) (sym c.in-Some.ensures) c.at-r.ensures (sym c.in-Alive.ensures) (rw read at (sym c.in-Passed.ensures)) c.scope.ensures (sym c.in-Passed-within.ensures) (sym c.in-Passed-held.ensures) in
    ap Ok (c.of.ensures ∙ ap answer_of read) ∙ sym (acceptance _ _ _ t)
