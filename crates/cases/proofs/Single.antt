-- One call with one thing varied: P7 and P9 to P12.
use Prim.Native.Nat.{ℕ, ◌+◌, ◌/◌}
use mathlib.Core.Path.{◌≡◌, refl, sym, ap, ap₂, ◌∙◌}
use mathlib.Core.Bool.{Bool, true, false, not, ◌&&◌, ◌||◌, cond}
use mathlib.Core.List.{List}
use lib.ListN.{length}
use lib.Bits.{and_zero_r}
use lib.Dec.{eqb}
use borrow.Author.Tests.{not-false, eqb-false, ne_eqb}
use Rattle.octets.specs.Lists.{some, every}
use Rattle.octets.specs.Parts.{zeros}
use Rattle.forms.specs.Limits.{verifier_least, verifier_most}
use Rattle.forms.specs.Forms.{between, unreserved, redirect_formed, verifier_formed}
use Rattle.sha256.specs.Pad.{blocks}
use Rattle.sha256.proofs.Padding.{blocks_of}
use Rattle.ledger.specs.Fields.{records, rec}
use Rattle.ledger.specs.Sound.{sound, holds}
use Rattle.ledger.specs.Checks.{is_reference, taken}
use Rattle.ledger_laws.proofs.Says.{of_sound}
use Rattle.ledger_laws.proofs.Searches.{some_in, first_in, reference_holds}
use Rattle.desk.specs.Answers.{number_of, done}
use Rattle.desk.specs.Checks.{within, scope_fits}
use Rattle.desk.specs.Requests.{DecideRequest}
use Rattle.desk.specs.Push.{push_checks}
use Rattle.desk.specs.Decide.{reference_place, decide_checks}
use Rattle.desk.specs.Token.{token_checks}
use Rattle.desk.specs.declared.answer.Refusal.TheVariants.{LedgerUnsound, IllFormed, ScopeRefused, FreshTaken, NoReference}
use Rattle.history.specs.Runs.{Call, push, decide, token}
use Rattle.history.proofs.Steps.{checks_of}
use Rattle.cases.specs.Cases.{PushScope, TokenVerifier, PushRedirect, DecideFresh, answers}
use Rattle.cases.proofs.Order.{number_if, else_passes, else_answers}

-- P7: the number goes by the bits
pub push_scope_lem : (given bits : ℕ) (l : List ℕ) (c : Call) (b : Bool) → not (scope_fits bits given) ≡ b → PushScope given bits l c
    → answers (l, c) ≡ number_if ScopeRefused b
unfolding push_checks
push_scope_lem given bits l c b h f =
    ap (λ (d : Call). answers (l, d)) f.is
    ∙ else_answers l (push f.time f.table f.request) ScopeRefused b f.in_order
    (ap₂ (λ (x y : ℕ). not (scope_fits x y)) f.asked_are f.permitted_are ∙ h)

-- "Permitted scope may be 0; such a client is refused by scope.": whatever it asks for
none_fit : (bits : ℕ) → scope_fits bits 0 ≡ false
unfolding scope_fits
none_fit bits = by (eqb bits 0) refl
  where
    by : (b : Bool) → eqb bits 0 ≡ b → (not b && within bits 0) ≡ false
    by true e = refl
    by false e = ap (λ (x : ℕ). eqb x bits) (and_zero_r bits) ∙ ne_eqb 0 bits (λ z. eqb-false bits 0 e (sym z))

pub none_permitted : (bits : ℕ) (l : List ℕ) (c : Call) → PushScope 0 bits l c → answers (l, c) ≡ number_of ScopeRefused
none_permitted bits l c f = push_scope_lem 0 bits l c true (ap not (none_fit bits)) f

-- P9: by the verifier's length
abbrev pub long_right : ℕ → Bool
long_right n = between verifier_least verifier_most n

ill_formed : (v : List ℕ) (n : ℕ) → length v ≡ n → long_right n ≡ false → not (verifier_formed v) ≡ true
unfolding verifier_formed
ill_formed v n e h = ap (λ (b : Bool). not (b && every unreserved v)) (ap long_right e ∙ h)

pub well_formed : (v : List ℕ) (n : ℕ) → length v ≡ n → long_right n ≡ true → every unreserved v ≡ true
    → cond (verifier_formed v) done (number_of IllFormed) ≡ done
unfolding verifier_formed
well_formed v n e h k = ap₂ (λ (a b : Bool). cond (a && b) done (number_of IllFormed)) (ap long_right e ∙ h) k

pub token_verifier_lem : (n : ℕ) (l : List ℕ) (c : Call) → long_right n ≡ false → TokenVerifier n l c → answers (l, c) ≡ number_of IllFormed
unfolding token_checks
token_verifier_lem n l c h f =
    ap (λ (d : Call). answers (l, d)) f.is
    ∙ else_answers l (token f.time f.table f.request) IllFormed true f.in_order (ill_formed f.request.verifier n f.long h)

-- P10: by the redirect's form
pub push_redirect_lem : (target l : List ℕ) (c : Call) (b : Bool) → not (redirect_formed target) ≡ b → PushRedirect target l c
    → answers (l, c) ≡ number_if IllFormed b
unfolding push_checks
push_redirect_lem target l c b h f =
    ap (λ (d : Call). answers (l, d)) f.is
    ∙ else_answers l (push f.time f.table f.request) IllFormed b f.in_order
    (ap₂ (λ (s : List ℕ) (x : Bool). not (redirect_formed s && x)) f.redirect_is f.challenge_well ∙ last (redirect_formed target) ∙ h)
  where
    last : (x : Bool) → not (x && true) ≡ not x
    last true = refl
    last false = refl

-- P11: the reference stands in the pool
reference_taken : (l : List ℕ) (d : DecideRequest) → sound l ≡ true → some (is_reference d.reference d.client) (records l) ≡ true
    → taken l d.reference ≡ true
unfolding taken
reference_taken l d s e =
    let a = first_in (is_reference d.reference d.client) l e in
    let k = reference_place l d in
    let h = reference_holds _ (rec l k) ((of_sound l s).within.each k a.inside) d.reference d.client a.passes in
    by (zeros d.reference) (some_in (holds d.reference) l k a.inside h)
  where
    by : (b : Bool) → some (holds d.reference) (records l) ≡ true → (b || some (holds d.reference) (records l)) ≡ true
    by true x = refl
    by false x = x

pub decide_fresh_lem : (l : List ℕ) (c : Call) → DecideFresh l c → answers (l, c) ≡ number_of FreshTaken
unfolding decide_checks
decide_fresh_lem l c f =
    let d = f.request in
    let call = decide f.time d f.output in
    let a = else_passes FreshTaken LedgerUnsound (checks_of l call) f.in_order refl in
    let b = else_passes FreshTaken NoReference (checks_of l call) f.in_order refl in
    ap (λ (d : Call). answers (l, d)) f.is
    ∙ else_answers l call FreshTaken true f.in_order
    (ap₂ (λ (b : Bool) (v : List ℕ). b && taken l v) f.yes f.fresh_is
    ∙ reference_taken l d (not-false (sound l) a) (not-false (some (is_reference d.reference d.client) (records l)) b))

-- P12
pub message_blocks : (m : List ℕ) (n : ℕ) → length m ≡ n → blocks m ≡ (n + 8) / 64 + 1
message_blocks m n e = blocks_of m ∙ ap (λ (k : ℕ). (k + 8) / 64 + 1) e
