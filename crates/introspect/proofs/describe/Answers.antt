use Rattle.std.proofs.Common.{List, ap, sym, ℕ, ◌∙◌, ◌≡◌, Option, Some, None}
use Rattle.description.specs.Description.{described, live_text, inactive_text}
use Rattle.description.specs.Writing.{written, written_over}
use Rattle.desk.specs.Introspect.{describes, shown, text_for}
use Rattle.introspect.proofs.Texts.{text_unknown, text_expired, text_live}
use Rattle.ledger.proofs.Tests.{life_told, found_told, found_place}
use Rattle.ledger.specs.Checks.{check_life, found, is_token}
use Rattle.ledger.specs.Fields.{rec, client, holder, expiry, scope, bound_key}
use Rattle.ledger.specs.declared.record.Life.TheVariants.{Alive, Expired}
use Rattle.introspect.proofs.describe.Goals as goal

-- what is answered and left, by the text that was written
abbrev Wrote : List ℕ → List ℕ → Option ℕ → List ℕ → Type 0
Wrote text out a x = (a ≡ written text out) × (x ≡ written_over text out)

module _ (l : List ℕ) (t : ℕ) (v out : List ℕ) (a : Option ℕ) (x : List ℕ) where
  unknown : found (is_token v) l ≡ None → Wrote inactive_text out a x → Wrote (text_for l t v) out a x
  unknown e w = rw (text_unknown l t v (found_told _ _ _ e)) w

  -- record k is the one with the token
  module _ (k : ℕ) (r : List ℕ) (at-k : found (is_token v) l ≡ Some k) (is : r ≡ rec l k) where
    record_is : r ≡ shown l v
    record_is = is ∙ ap (rec l) (sym (found_place _ _ _ at-k))

    dead : check_life r t ≡ Expired → Wrote inactive_text out a x → Wrote (text_for l t v) out a x
    dead e w = rw (text_expired l t v (life_told _ _ _ (rw record_is at e))) w

    alive : check_life r t ≡ Alive → Wrote (live_text (describes r)) out a x → Wrote (text_for l t v) out a x
    alive e w = rw (text_live l t v (found_told _ _ _ at-k) (life_told _ _ _ (rw record_is at e))) (rw record_is at w)

-- the fields as the accessors answer them
fields : (r out : List ℕ) (a : Option ℕ) (x id key : List ℕ) (who until bits : ℕ) → id ≡ client r → who ≡ holder r → until ≡ expiry r → bits ≡ scope r → key ≡ bound_key r
    → Wrote (live_text (described id who until bits key)) out a x → Wrote (live_text (describes r)) out a x
fields r out a x id key who until bits e1 e2 e3 e4 e5 w = rw (e1, e2, e3, e4, e5) at w

pub returns-in_default : goal.returns-in_default
returns-in_default c =
    unknown _ _ _ _ _ _ (sym c.token.ensures ∙ c.in_default.is) c.inactive.ensures

pub returns-in_default-check_life : goal.returns-in_default-check_life
returns-in_default-check_life c =
    dead _ _ _ _ _ _ _ _ (sym c.token.ensures ∙ c.in-Some.is) c.at-r.ensures
    (sym c.check_life.ensures ∙ c.in_default-check_life.is) c.inactive-in_default-check_life.ensures

pub returns : goal.returns
returns c =
    alive _ _ _ _ _ _ _ _ (sym c.token.ensures ∙ c.in-Some.is) c.at-r.ensures
    (sym c.check_life.ensures ∙ c.in-Alive.is)
    (fields c.at-r.result.now _ _ _ _ _ _ _ _ c.client.ensures c.holder.ensures c.expiry.ensures c.scope.ensures c.bound_key.ensures
    c.live.ensures)
