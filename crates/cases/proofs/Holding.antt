-- Every row of the table holds.
use Prim.Native.Nat.{ℕ}
use native.Mathlib.Omega.{arith}
use mathlib.Core.Path.{◌≡◌, refl, ap₂, ◌∙◌}
use mathlib.Core.Bool.{Bool, true, false}
use mathlib.Core.List.{List}
use lib.Dec.{leb}
use Rattle.octets.specs.Parts.{same}
use Rattle.forms.specs.Limits.{redirect_prefix}
use Rattle.forms.specs.Forms.{visible, redirect_formed}
use Rattle.ledger.specs.Limits.{clock_limit}
use Rattle.desk.specs.Checks.{scope_fits}
use Rattle.desk.specs.declared.answer.Refusal.TheVariants.{TimeWrong}
use Rattle.history.specs.Runs.{Call, step, number_in}
use Rattle.cases.specs.Cases.{SweepFresh, answers}
use Rattle.cases.specs.Table.{rows, Holds, Each}
use Rattle.cases.proofs.Order.{number_if}
use Rattle.cases.proofs.Starts.{start_number, start_fifteen, start_other_lem, sweep_fresh}
use Rattle.cases.proofs.Single.{push_scope_lem, well_formed, token_verifier_lem, push_redirect_lem, decide_fresh_lem, message_blocks}
use Rattle.cases.proofs.Times.{decide_time_lem, token_time_lem, resource_time_lem}

sweep_time_lem : (t : ℕ) (b : Bool) → leb clock_limit t ≡ b → (x : List ℕ × Call) → SweepFresh t x.0 x.1 → answers x ≡ number_if TimeWrong b
sweep_time_lem t b h x f =
    ap₂ (λ (l : List ℕ) (c : Call). number_in (step l c).answer) f.leaves f.is ∙ sweep_fresh f.slots t b f.least f.most h

-- one row after another
infixr 10 ◌and◌
abbrev pub ◌and◌ : {A B : Type 0} → A → B → A × B
a and b = (a, b)

pub every_row_holds : Each Holds rows
unfolding scope_fits same redirect_prefix visible redirect_formed
every_row_holds =
    (λ l e. start_number l _ true e refl)
    and (λ l e. start_fifteen l 288 e refl (omega arith))
    and (λ x f. start_other_lem x.0 288 x.1 f.0 refl (omega arith) f.1.0 f.1.1)
    and (λ l e. start_number l _ false e refl)
    and (λ l e. start_number l _ true e refl)
    and (λ l e. start_number l _ false e refl)
    and (λ x f. decide_time_lem _ _ _ x.0 x.1 false refl f)
    and (λ x f. decide_time_lem _ _ _ x.0 x.1 true refl f)
    and (λ x f. decide_time_lem _ _ _ x.0 x.1 false refl f)
    and (λ x f. decide_time_lem _ _ _ x.0 x.1 true refl f)
    and (λ x f. token_time_lem _ _ x.0 x.1 false refl f)
    and (λ x f. token_time_lem _ _ x.0 x.1 true refl f)
    and (λ x f. resource_time_lem _ _ x.0 x.1 false refl f)
    and (λ x f. resource_time_lem _ _ x.0 x.1 true refl f)
    and (λ x f. push_scope_lem _ _ x.0 x.1 false refl f)
    and (λ x f. push_scope_lem _ _ x.0 x.1 true refl f)
    and (λ x f. push_scope_lem _ _ x.0 x.1 true refl f)
    and (sweep_time_lem _ false refl)
    and (sweep_time_lem _ true refl)
    and (λ x f. token_verifier_lem _ x.0 x.1 refl f)
    and (λ s f. well_formed s _ f.0 refl f.1)
    and (λ s f. well_formed s _ f.0 refl f.1)
    and (λ x f. token_verifier_lem _ x.0 x.1 refl f)
    and (λ x f. push_redirect_lem _ x.0 x.1 false refl f)
    and (λ x f. push_redirect_lem _ x.0 x.1 true refl f)
    and (λ x f. push_redirect_lem _ x.0 x.1 true refl f)
    and (λ x f. decide_fresh_lem x.0 x.1 f)
    and (λ m e. message_blocks m _ e)
    and (λ m e. message_blocks m _ e)
    and (λ m e. message_blocks m _ e)
    and (λ m e. message_blocks m _ e)
    and tt
