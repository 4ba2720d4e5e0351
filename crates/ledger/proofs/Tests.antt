-- What a check's answer says of its condition, in the words of the table "Numbers returned".
use Rattle.std.proofs.Common.{◌≡◌, ℕ, Bool, true, false, cond, List, sym, refl, ap, ◌∙◌, position, Option, Some}
use Rattle.std.specs.Option.{is_some}
use Rattle.octets.proofs.Tests.{some_told, some_is}
use Rattle.octets.specs.Lists.{some, place}
use Rattle.octets.proofs.Lists.{position_is}
use Rattle.ledger.specs.Fields.{records}
use Rattle.ledger.specs.Sound.{sized, sound}
use Rattle.ledger.specs.Checks.{
  check_size,
  check_sound,
  untimely,
  check_time,
  taken,
  check_value,
  expired,
  check_life,
  found,
}
use Rattle.ledger.specs.declared.sound.Size.{Size}
use Rattle.ledger.specs.declared.sound.Size.TheVariants.{Right, Wrong}
use Rattle.ledger.specs.declared.sound.Soundness.{Soundness}
use Rattle.ledger.specs.declared.sound.Soundness.TheVariants.{Sound, Unsound}
use Rattle.ledger.specs.declared.clock.Timing.{Timing}
use Rattle.ledger.specs.declared.clock.Timing.TheVariants.{Timely, Untimely}
use Rattle.ledger.specs.declared.pool.Value.{Value}
use Rattle.ledger.specs.declared.pool.Value.TheVariants.{New, Taken}
use Rattle.ledger.specs.declared.record.Life.{Life}
use Rattle.ledger.specs.declared.record.Life.TheVariants.{Alive, Expired}

-- an answer made by a test says how the test ended, where the two answers can be told apart by a test of their own
told : {A : Type 0} (is : A → Bool) (x y : A) → is x ≡ true → is y ≡ false → (b : Bool) (a : A) → cond b x y ≡ a → b ≡ is a
told is x y p q true a e = sym (ap is (sym e) ∙ p)
told is x y p q false a e = sym (ap is (sym e) ∙ q)

abbrev is_right : Size → Bool
is_right Right = true
is_right Wrong = false

abbrev is_sound : Soundness → Bool
is_sound Sound = true
is_sound Unsound = false

abbrev is_untimely : Timing → Bool
is_untimely Timely = false
is_untimely Untimely = true

abbrev is_taken : Value → Bool
is_taken New = false
is_taken Taken = true

abbrev is_expired : Life → Bool
is_expired Alive = false
is_expired Expired = true

pub size_told : (l : List ℕ) (a : Size) → check_size l ≡ a → sized l ≡ is_right a
unfolding check_size
size_told l a e = told is_right Right Wrong refl refl (sized l) a e

pub sound_told : (l : List ℕ) (a : Soundness) → check_sound l ≡ a → sound l ≡ is_sound a
unfolding check_sound
sound_told l a e = told is_sound Sound Unsound refl refl (sound l) a e

pub time_told : (l : List ℕ) (t : ℕ) (a : Timing) → check_time l t ≡ a → untimely l t ≡ is_untimely a
unfolding check_time
time_told l t a e = told is_untimely Untimely Timely refl refl (untimely l t) a e

pub value_told : (l v : List ℕ) (a : Value) → check_value l v ≡ a → taken l v ≡ is_taken a
unfolding check_value
value_told l v a e = told is_taken Taken New refl refl (taken l v) a e

pub life_told : (r : List ℕ) (t : ℕ) (a : Life) → check_life r t ≡ a → expired t r ≡ is_expired a
unfolding check_life
life_told r t a e = told is_expired Expired Alive refl refl (expired t r) a e

-- the first record, as std's position answers it
pub found_is : (q : List ℕ → Bool) (l : List ℕ) → position q (records l) ≡ found q l
unfolding found
found_is q l = position_is q (records l)

pub found_told : (q : List ℕ → Bool) (l : List ℕ) (a : Option ℕ) → found q l ≡ a → some q (records l) ≡ is_some a
unfolding found
found_told q l a e = some_told _ _ a e

pub found_place : (q : List ℕ → Bool) (l : List ℕ) (k : ℕ) → found q l ≡ Some k → place q (records l) ≡ k
unfolding found
found_place q l k e = some_is _ _ k e
