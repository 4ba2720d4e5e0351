-- The code's own: what the desk's checks answer, by the conditions of the table. The calls take these answers apart by let else; no definition of a call rests on them.
use Rattle.std.specs.Prelude.{ℕ, Bool, true, false, not, ◌&&◌, cond, List, Option, Some, None}
use Rattle.forms.specs.Forms.{redirect_formed, challenge_formed}
use Rattle.desk.specs.Checks.{scope_fits}
use Rattle.desk.specs.Push.{granted_bits}
use Rattle.desk.specs.declared.check.Test.{Test}
use Rattle.desk.specs.declared.check.Test.TheVariants.{Passed, Failed}

-- a check fails where its row's condition holds
unfoldable pub fails_when : Bool → Test
fails_when true = Failed
fails_when false = Passed

unfoldable pub texts_test : List ℕ → List ℕ → Test
texts_test redirect challenge = fails_when (not (redirect_formed redirect && challenge_formed challenge))

-- push's scope decision: the bits to store, where row 6 is not given
unfoldable pub scope_decision : ℕ → ℕ → Option ℕ
scope_decision asked permitted = cond (scope_fits asked permitted) (Some (granted_bits asked permitted)) None
