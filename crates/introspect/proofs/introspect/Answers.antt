use Rattle.std.proofs.Common.{List, ap, not, refl, sym, true, ℕ, ◌∙◌, ◌≡◌, Option, Some, None}
use Rattle.desk.proofs.Turns.{nth, Come, passes, stops, all_pass}
use Rattle.desk.proofs.Written.{refuses}
use Rattle.desk.specs.Answers.{introspected, untold}
use Rattle.desk.specs.Checks.{Check, Verdict}
use Rattle.desk.specs.Introspect.{text_for, introspect_checks, introspect_with, introspect_leaves, introspect}
use Rattle.desk.specs.Outcome.{left_with, concludes}
use Rattle.desk.specs.declared.answer.Introspected.{Introspected}
use Rattle.description.specs.Writing.{written, written_over}
use Rattle.introspect.proofs.Texts.{short_told, short_stays, long_told, long_is, long_over}
use Rattle.ledger.proofs.Tests.{sound_told, time_told}
use Rattle.ledger.specs.Checks.{check_sound, check_time}
use Rattle.ledger.specs.declared.clock.Timing.TheVariants.{Timely}
use Rattle.ledger.specs.declared.sound.Soundness.TheVariants.{Sound}
use Rattle.introspect.proofs.introspect.Goals as goal

module _ (l : List ℕ) (time : ℕ) (v out : List ℕ) where
  abbrev text : List ℕ
  text = text_for l time v

  abbrev checks : List Check
  checks = introspect_checks l time v out

  -- the check whose turn has come fails: its row is answered
  refusal : (n : ℕ) → Come n checks → (nth n checks).holds ≡ true → {a : Introspected} → a ≡ untold (nth n checks).why
      → left_with a l out ≡ introspect l time v out
  unfolding introspect
  refusal n t h e = refuses e (ap (λ (o : Verdict). concludes o (introspect_leaves l out) (introspect_with l out text)) (stops n checks t h))

  -- none is left: the text is written
  acceptance : Come 3 checks → introspect l time v out ≡ introspect_with l out text
  unfolding introspect introspect_checks
  acceptance t = ap (λ (o : Verdict). concludes o (introspect_leaves l out) (introspect_with l out text)) (all_pass 3 checks t refl)

  -- what has passed, and that the turn has come to the next check
  module _ (sound : check_sound l ≡ Sound) where
    come1 : Come 1 checks
    unfolding introspect_checks
    come1 = passes 0 checks refl (ap not (sound_told _ _ sound))

    module _ (timely : check_time l time ≡ Timely) where
      come2 : Come 2 checks
      unfolding introspect_checks
      come2 = passes 1 checks come1 (time_told _ _ _ timely)

      -- what the text's writer answers and leaves
      module _ {a : Option ℕ} {x : List ℕ} (wrote : (a ≡ written text out) × (x ≡ written_over text out)) where
        too_short : a ≡ None → {i : Introspected} → i ≡ untold (nth 2 checks).why → left_with i l x ≡ introspect l time v out
        unfolding introspect_checks
        too_short e h =
            let w = sym wrote.0 ∙ e in
            ap (left_with _ l) (wrote.1 ∙ short_stays text out w) ∙ refusal 2 come2 (short_told text out w) h

        long_enough : {n : ℕ} → a ≡ Some n → {i : Introspected} → i ≡ introspected n → left_with i l x ≡ introspect l time v out
        unfolding introspect_checks introspect_with
        long_enough {n} e h =
            let w = sym wrote.0 ∙ e in
            let y = acceptance (passes 2 checks come2 (long_told text out n w)) in
            rw (h, wrote.1, long_over text out n w, long_is text out n w) (sym y)

-- ---- the returns

pub returns-in_default : goal.returns-in_default
unfolding introspect_checks
returns-in_default c = refusal _ _ _ _ 0 refl (ap not (sound_told _ _ (sym c.in_default.ensures))) c.refused.ensures

pub returns-in_default-check : goal.returns-in_default-check
unfolding introspect_checks
returns-in_default-check c =
    refusal _ _ _ _ 1 (come1 _ _ _ _ (sym c.in-Sound.ensures)) (time_told _ _ _ (sym c.in_default-check.ensures)) c.refused-in_default-check.ensures

pub returns-in_default-describe : goal.returns-in_default-describe
unfolding introspect_checks
returns-in_default-describe c =
    too_short _ _ _ _ (sym c.in-Sound.ensures) (sym c.in-Timely.ensures) c.describe.ensures c.in_default-describe.is c.refused-in_default-describe.ensures

pub returns : goal.returns
returns c =
    long_enough _ _ _ _ (sym c.in-Sound.ensures) (sym c.in-Timely.ensures) c.describe.ensures c.in-Some.is c.with.ensures
