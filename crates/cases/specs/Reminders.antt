-- Document 01's section "Easy to get wrong", line by line, for every ledger, table and request, and what document 02, Q-3, makes of its second line.
use Rattle.std.specs.Prelude.{ℕ, ◌<◌, ◌≡◌, ◌≢◌, ◌⊎◌, Bool, true, ◌&&◌, cond, List, [], ◌∷◌}
use Rattle.ledger.specs.Fields.{rec, slots, state, state_number, client, value, token as token_of, bound_key}
use Rattle.ledger.specs.declared.state.State.TheVariants.{Consented, Redeemed}
use Rattle.desk.specs.Answers.{done}
use Rattle.desk.specs.Checks.{Check}
use Rattle.desk.specs.Requests.{TokenRequest, ResourceRequest}
use Rattle.desk.specs.Token.{code_place, token_checks}
use Rattle.desk.specs.Resource.{token_place, resource_checks}
use Rattle.desk.specs.declared.answer.Refusal.{Refusal}
use Rattle.desk.specs.declared.answer.Refusal.TheVariants.{NoCode, CodeRedeemed, NoToken, KeyDiffers}
use Rattle.history.specs.Runs.{Call, token, resource, TypedToken, step}
use Rattle.cases.specs.Order.{gives, passes}
use Rattle.cases.specs.Cases.{answers}

-- the turn of this row comes: every check before it passes
unfoldable pub comes_to : Refusal → List Check → Bool
comes_to why [] = true
comes_to why (c ∷ cs) = cond (gives why c) true (passes c && comes_to why cs)

pub record Reminders : Type 0 where
  -- "Finding the code by value alone: another client's code must give 14, redeemed or not."
  pub other_client : (l : List ℕ) (t : ℕ) (table : List ℕ) (q : TokenRequest) (k : ℕ)
      → comes_to NoCode (token_checks l t table q (code_place l q)) ≡ true
      → k < slots l → (state (rec l k) ≡ state_number Consented) ⊎ (state (rec l k) ≡ state_number Redeemed)
      → value (rec l k) ≡ q.code → client (rec l k) ≢ q.client
      → answers (l, token t table q) ≡ 14
  -- "Freeing the record at redemption: the second use would give 14 and the token would have no record.": it gives 15, at any time
  pub second_use : (l : List ℕ) (a : ℕ) (table : List ℕ) (q : TokenRequest) → TypedToken a table q → answers (l, token a table q) ≡ done
      → (t : ℕ) (again : List ℕ) (w : TokenRequest) → w.code ≡ q.code → w.client ≡ q.client
      → comes_to CodeRedeemed (token_checks (step l (token a table q)).after t again w (code_place (step l (token a table q)).after w)) ≡ true
      → answers ((step l (token a table q)).after, token t again w) ≡ 15
  -- document 02, Q-3, "A code shown twice ends its token": after that 15 a third use gives 14, its record being free ..
  pub third_use : (l : List ℕ) (a : ℕ) (table : List ℕ) (q : TokenRequest) → answers (l, token a table q) ≡ 15
      → (t : ℕ) (again : List ℕ) (w : TokenRequest) → w.code ≡ q.code → w.client ≡ q.client
      → comes_to NoCode (token_checks (step l (token a table q)).after t again w (code_place (step l (token a table q)).after w)) ≡ true
      → answers ((step l (token a table q)).after, token t again w) ≡ 14
  -- .. and the token that was issued on the code gives 17
  pub token_ended : (l : List ℕ) (a : ℕ) (table : List ℕ) (q : TokenRequest) → answers (l, token a table q) ≡ 15
      → (t : ℕ) (w : ResourceRequest) → w.token ≡ token_of (rec l (code_place l q))
      → comes_to NoToken (resource_checks (step l (token a table q)).after t w (token_place (step l (token a table q)).after w)) ≡ true
      → answers ((step l (token a table q)).after, resource t w) ≡ 17
  -- "Checking the key against the registered one at resource: it is the bound key that counts."
  pub other_key : (l : List ℕ) (t : ℕ) (q : ResourceRequest) → comes_to KeyDiffers (resource_checks l t q (token_place l q)) ≡ true
      → bound_key (rec l (token_place l q)) ≢ q.presented
      → answers (l, resource t q) ≡ 18
  -- "Treating expiry as the last good second.": the rows P4 to P6 of the table
  -- "Moving the clock on a refusal.": whatever the call, a refusal other than 15 leaves the ledger as it was
  pub clock_kept : (l : List ℕ) (c : Call) → answers (l, c) ≢ done → answers (l, c) ≢ 15 → (step l c).after ≡ l
