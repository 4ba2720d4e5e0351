-- What the answers of the checks say of the table's conditions.
use Rattle.std.specs.Prelude.{Option, Some}
use Rattle.std.specs.Option.{is_some, unwrap_or}
use Prim.Native.Nat.{ℕ}
use mathlib.Core.Path.{◌≡◌, refl, ap, ◌∙◌}
use mathlib.Core.Bool.{Bool, true, false, not, ◌&&◌, false≢true}
use mathlib.Core.List.{List}
use Rattle.octets.proofs.Tests.{some_told, some_is}
use Rattle.forms.specs.Forms.{redirect_formed, challenge_formed}
use Rattle.clients.specs.Known.{is_known, place_of, known}
use Rattle.clients.specs.Sound.{sound as table_sound, check_table}
use Rattle.clients.specs.declared.table.Table.{Table}
use Rattle.clients.specs.declared.table.Table.TheVariants.{Sound, Unsound}
use Rattle.desk.specs.Tests.{fails_when, texts_test, scope_decision}
use Rattle.desk.specs.Push.{granted_bits}
use Rattle.desk.specs.Checks.{scope_fits}
use Rattle.desk.specs.declared.check.Test.{Test}
use Rattle.desk.specs.declared.check.Test.TheVariants.{Passed, Failed}

abbrev is_failed : Test → Bool
is_failed Passed = false
is_failed Failed = true

pub told : (b : Bool) (a : Test) → fails_when b ≡ a → b ≡ is_failed a
unfolding fails_when
told true a e = ap is_failed e
told false a e = ap is_failed e

abbrev is_sound : Table → Bool
is_sound Sound = true
is_sound Unsound = false

pub table_told : (t : List ℕ) (a : Table) → check_table t ≡ a → table_sound t ≡ is_sound a
unfolding check_table
table_told t a e = go (table_sound t) refl
  where
    go : (b : Bool) → table_sound t ≡ b → table_sound t ≡ is_sound a
    go true s = s ∙ ap is_sound (rw s at e)
    go false s = s ∙ ap is_sound (rw s at e)

pub known_told : (t v key : List ℕ) (a : Option ℕ) → known t v key ≡ a → is_known t v key ≡ is_some a
unfolding known
known_told t v key a e = go (is_known t v key) refl
  where
    go : (b : Bool) → is_known t v key ≡ b → is_known t v key ≡ is_some a
    go true s = s ∙ ap is_some (rw s at e)
    go false s = s ∙ ap is_some (rw s at e)

pub known_place : (t v key : List ℕ) (k : ℕ) → known t v key ≡ Some k → place_of t v ≡ k
unfolding known
known_place t v key k e = go (is_known t v key) refl
  where
    go : (b : Bool) → is_known t v key ≡ b → place_of t v ≡ k
    go true s = ap (λ (a : Option ℕ). unwrap_or a 0) (rw s at e)
    go false s = absurd (false≢true (ap is_some (rw s at e)))

pub texts_told : (r c : List ℕ) (a : Test) → texts_test r c ≡ a → (redirect_formed r && challenge_formed c) ≡ not (is_failed a)
unfolding texts_test
texts_told r c a e = go (redirect_formed r && challenge_formed c) refl (told (not (redirect_formed r && challenge_formed c)) a e)
  where
    go : (b : Bool) → (redirect_formed r && challenge_formed c) ≡ b → not (redirect_formed r && challenge_formed c) ≡ is_failed a → (redirect_formed r && challenge_formed c) ≡ not (is_failed a)
    go true s f = s ∙ ap not (rw s at f)
    go false s f = s ∙ ap not (rw s at f)

pub scope_told : (asked given : ℕ) (a : Option ℕ) → scope_decision asked given ≡ a → scope_fits asked given ≡ is_some a
unfolding scope_decision
scope_told asked given a e = some_told _ _ a e

pub scope_bits : (asked given n : ℕ) → scope_decision asked given ≡ Some n → granted_bits asked given ≡ n
unfolding scope_decision
scope_bits asked given n e = some_is _ _ n e
