-- The short cuts of the pairwise searches miss nothing.
use Prim.Native.Nat.{ℕ, ◌+◌, ◌<◌}
use mathlib.Core.Path.{◌≡◌, refl, sym, ap}
use mathlib.Core.Bool.{Bool, true, false, not, and-false}
use mathlib.Core.List.{List, []}
use lib.Dec.{eqb}
use Rattle.std.proofs.lemmas.Bool.{or_parts}
use lib.ListN.{length, get_or, drop}
use lib.Seq.{take-add, drop-drop}
use borrow.Author.Tests.{eqb-false}
use Rattle.octets.specs.Lists.{apart}
use Rattle.octets.specs.Parts.{part, zeros, same}
use Rattle.octets.proofs.Lists.{apart_miss, none_of_inside}
use Rattle.octets.proofs.Parts.{same_eq, zeros_append}
use Rattle.octets.proofs.Tests.{false_of}
use Rattle.ledger.specs.Fields.{value_span, token_span, value, token, in_state}
use Rattle.ledger.specs.Sound.{holds, meets, same_grant}
use Rattle.soundness.specs.Quick.{lead, token_lead, near}
use Rattle.ledger.specs.declared.state.State.TheVariants.{Free}

lead_apart : (v w : List ℕ) → eqb (lead w) (lead v) ≡ false → same v w ≡ false
lead_apart v w e = false_of _ (λ h. eqb-false (lead w) (lead v) e (ap lead (sym (same_eq v w h))))

holds_none : (v s : List ℕ) → eqb (lead (value s)) (lead v) ≡ false → eqb (lead (token s)) (lead v) ≡ false → holds v s ≡ false
unfolding holds
holds_none v s e f = rw (lead_apart v (value s) e, lead_apart v (token s) f) (and-false (not (zeros v)))

holds_zero : (v s : List ℕ) → zeros v ≡ true → holds v s ≡ false
unfolding holds
holds_zero v s e = rw e

token_lead_lem : (r : List ℕ) → zeros (token r) ≡ false → token_lead r ≡ lead (token r)
unfolding token_lead
token_lead_lem r e = rw e

token_none : (r s : List ℕ) → eqb (lead (value s)) (token_lead r) ≡ false → eqb (lead (token s)) (token_lead r) ≡ false → holds (token r) s ≡ false
token_none r s b d = go (zeros (token r)) refl
  where
    go : (z : Bool) → zeros (token r) ≡ z → holds (token r) s ≡ false
    go true z = holds_zero (token r) s z
    go false z = let t = token_lead_lem r z in holds_none (token r) s (rw t at b) (rw t at d)

-- records that are not near do not meet
pub near_none : (r s : List ℕ) → near (lead (value r)) (token_lead r) s ≡ false → meets r s ≡ false
unfolding near meets
near_none r s e =
    let (a, bcd) = or_parts _ _ e in
    let (b, cd) = or_parts _ _ bcd in
    let (c, d) = or_parts _ _ cd in
    rw (holds_none (value r) s a c) (token_none r s b d)

-- ---- where a record clashes with none, it is passed over and nothing is missed

module _ (l : List (List ℕ)) (i : ℕ) (inside : i < length l) where
  passed : (clash : List ℕ → List ℕ → Bool) → ((s : List ℕ) → clash (get_or l i []) s ≡ false) → apart clash (drop i l) ≡ apart clash (drop (i + 1) l)
  passed clash none = apart_miss clash l [] i inside (none_of_inside (clash (get_or l i [])) [] (drop (i + 1) l) (λ j h. none _))

  -- a free record has no number to clash with
  pub free_passed : in_state Free (get_or l i []) ≡ true → apart same_grant (drop i l) ≡ apart same_grant (drop (i + 1) l)
  unfolding same_grant
  free_passed e = passed same_grant (λ s. rw e)

  -- a record that holds nothing meets none
  pub idle_passed : zeros (part (get_or l i []) value_span.place (value_span.width + token_span.width)) ≡ true
      → apart meets (drop i l) ≡ apart meets (drop (i + 1) l)
  unfolding meets
  idle_passed e =
      let r = get_or l i [] in
      let a = value_span.place in
      let n = value_span.width in
      let m = token_span.width in
      let z = zeros_append (part r a n) (part (drop a r) n m) (rw (take-add n m (drop a r)) at e) in
      passed meets (λ s. rw (holds_zero (value r) s z.0, holds_zero (token r) s (rw (drop-drop n a r) at z.1)))
