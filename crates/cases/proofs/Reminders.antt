-- What is easy to get wrong, shown right.
use Prim.Native.Nat.{ℕ, ◌+◌, ◌<◌}
use native.Mathlib.Omega.{arith}
use native.Mathlib.Decide.{ℕ_discrete}
use mathlib.Core.Path.{◌≡◌, refl, sym, ap, ◌∙◌}
use mathlib.Core.Logic.{◌≢◌, ◌⊎◌, inr, ⊎_elim}
use mathlib.Core.Bool.{Bool, true, false, not, ◌&&◌, cond, false≢true}
use mathlib.Core.List.{List, [], ◌∷◌}
use borrow.Author.Tests.{eqb-true, eq-eqb, not-true}
use Rattle.octets.specs.Lists.{some}
use Rattle.octets.proofs.Tests.{both, both_true, false_of}
use Rattle.octets.proofs.Parts.{differ_of}
use Rattle.ledger.specs.Limits.{token_lifetime}
use Rattle.ledger.specs.Fields.{records, rec, slots, state, state_number, in_state, client, value, token as token_of, bound_key}
use Rattle.ledger.specs.Sound.{holds, sound}
use Rattle.ledger.specs.Checks.{is_code, is_token}
use Rattle.ledger.specs.Write.{free}
use Rattle.ledger.specs.declared.state.State.TheVariants.{Consented, Redeemed}
use Rattle.ledger_laws.proofs.Slots.{slot_of}
use Rattle.ledger_laws.proofs.Replaced.{free_state}
use Rattle.ledger_laws.proofs.Says.{of_sound}
use Rattle.ledger_laws.proofs.Searches.{first_in, none_found, alone, code_holds, token_holds, code_first, code_says, token_says}
use Rattle.desk.specs.Answers.{number_of, done}
use Rattle.desk.specs.Checks.{Check, stopped, first}
use Rattle.desk.specs.Requests.{TokenRequest, ResourceRequest}
use Rattle.desk.specs.Token.{code_place, token_record, token_checks}
use Rattle.desk.specs.Resource.{token_place, resource_checks}
use Rattle.desk.specs.declared.answer.Refusal.{Refusal}
use Rattle.desk.specs.declared.answer.Refusal.TheVariants.{NoCode, CodeRedeemed, NoToken, KeyDiffers}
use Rattle.desk.proofs.Turns.{number_by}
use Rattle.call_laws.proofs.Rows.{token_turn}
use Rattle.call_laws.proofs.Facts.{SecondUseFacts, second_use_facts}
use Rattle.call_laws.proofs.Alone.{OneRewritten, second_use_alone, second_use_freed, push_unchanged, decide_unchanged, token_unchanged, resource_unchanged, sweep_unchanged}
use Rattle.call_laws.proofs.Readings.{place_named}
use Rattle.history.specs.Runs.{Call, push, decide, token, resource, sweep, TypedToken, step}
use Rattle.history.proofs.Steps.{checks_of}
use Rattle.cases.specs.Order.{gives, passes}
use Rattle.cases.specs.Cases.{answers}
use Rattle.cases.specs.Reminders.{comes_to, Reminders}
use Rattle.cases.proofs.Order.{condition_of, number_is}
use Rattle.history.proofs.Effects.{token_after}
use Rattle.cases.proofs.Times.{Stands, token_leaves}

-- ---- where the turn of a row comes and its condition holds, its number is the answer

come_number : (why : Refusal) (cs : List Check) → comes_to why cs ≡ true → condition_of why cs ≡ true → number_by (first cs) ≡ number_of why
unfolding comes_to first
come_number why [] e h = absurd (false≢true h)
come_number why (c ∷ cs) e h = go (gives why c) refl e h (come_number why cs)
  where
    go : (b : Bool) → gives why c ≡ b → cond b true (passes c && comes_to why cs) ≡ true → cond b c.holds (condition_of why cs) ≡ true
        → (comes_to why cs ≡ true → condition_of why cs ≡ true → number_by (first cs) ≡ number_of why)
        → number_by (cond c.holds (stopped c.why) (first cs)) ≡ number_of why
    go true g e h ih = rw h (eqb-true (number_of c.why) (number_of why) g)
    go false g e h ih = let (a, b) = both (passes c) _ e in rw (not-true c.holds a) (ih b h)

comes : (l : List ℕ) (c : Call) (why : Refusal) → comes_to why (checks_of l c) ≡ true → condition_of why (checks_of l c) ≡ true → answers (l, c) ≡ number_of why
comes l c why e h = number_is l c ∙ come_number why (checks_of l c) e h

-- ---- another client's code

none_such : (l : List ℕ) (q : TokenRequest) (k : ℕ) → sound l ≡ true → k < slots l
    → (state (rec l k) ≡ state_number Consented) ⊎ (state (rec l k) ≡ state_number Redeemed)
    → value (rec l k) ≡ q.code → client (rec l k) ≢ q.client
    → some (is_code q.code q.client) (records l) ≡ false
none_such l q k s h u v n =
    none_found (is_code q.code q.client) l
    (λ j m. false_of _ (λ e.
    let each = (of_sound l s).within.each in
    let mine = (code_says q.code (client (rec l k)) (rec l k)).1 (u, (v, refl)) in
    let i = alone _ l (of_sound l s).within q.code j k m h (code_holds _ (rec l j) (each j m) q.code q.client e)
    (code_holds _ (rec l k) (each k h) q.code (client (rec l k)) mine) in
    n (ap (λ (x : ℕ). client (rec l x)) (sym i) ∙ ((code_says q.code q.client (rec l j)).0 e).1.1)))

twice : (b : Bool) → not (not b) ≡ true → b ≡ true
twice true e = refl
twice false e = e

other_client : (l : List ℕ) (t : ℕ) (table : List ℕ) (q : TokenRequest) (k : ℕ) → comes_to NoCode (token_checks l t table q (code_place l q)) ≡ true
    → k < slots l → (state (rec l k) ≡ state_number Consented) ⊎ (state (rec l k) ≡ state_number Redeemed)
    → value (rec l k) ≡ q.code → client (rec l k) ≢ q.client → answers (l, token t table q) ≡ 14
unfolding token_checks comes_to
other_client l t table q k e h u v n =
    let s = twice (sound l) (both (not (not (sound l))) _ e).0 in
    comes l (token t table q) NoCode e (ap not (none_such l q k s h u v n))

-- ---- the second use

-- a record in state 3 that this code finds
abbrev used_by : TokenRequest → List ℕ → Bool
used_by q r = is_code q.code q.client r && in_state Redeemed r

module _ (l : List ℕ) (a : ℕ) (table : List ℕ) (q : TokenRequest) (y : TypedToken a table q) where
  used_after : answers (l, token a table q) ≡ done → Stands (used_by q) (a + token_lifetime) (step l (token a table q)).after
  unfolding slot_of
  used_after =
      token_leaves l a table q y (used_by q)
      (λ f.
      let r = token_record a q (rec l (code_place l q)) in
      let w = token_after l a table q y f in
      let found = first_in (is_code q.code q.client) l f.there in
      let was = (code_says q.code q.client (rec l (code_place l q))).0 found.passes in
      both_true (is_code q.code q.client r) (in_state Redeemed r)
      ((code_says q.code q.client r).1 (inr w.state_is, (w.value_is ∙ was.1.0, w.client_is ∙ was.1.1)))
      (eq-eqb (state r) 3 w.state_is))

second_use : (l : List ℕ) (a : ℕ) (table : List ℕ) (q : TokenRequest) → TypedToken a table q → answers (l, token a table q) ≡ done
    → (t : ℕ) (again : List ℕ) (w : TokenRequest) → w.code ≡ q.code → w.client ≡ q.client
    → comes_to CodeRedeemed (token_checks (step l (token a table q)).after t again w (code_place (step l (token a table q)).after w)) ≡ true
    → answers ((step l (token a table q)).after, token t again w) ≡ 15
unfolding token_checks comes_to
second_use l a table q y ok t again w c d e =
    let m = (step l (token a table q)).after in
    let s = twice (sound m) (both (not (not (sound m))) _ e).0 in
    let u = used_after l a table q y ok in
    let (x, z) = both (is_code q.code q.client (rec m u.k)) (in_state Redeemed (rec m u.k)) u.passes in
    let p : is_code w.code w.client (rec m u.k) ≡ true = rw (c, d) x in
    let at = place_named (is_code w.code w.client) m u.k (code_first m s w.code w.client u.k u.inside p) in
    comes m (token t again w) CodeRedeemed e
    (ap (λ (k : ℕ). in_state Redeemed (rec m k)) at ∙ z)

-- ---- what it ends: no record has the code or the token any more

module _ (l : List ℕ) (a : ℕ) (table : List ℕ) (q : TokenRequest) (e : answers (l, token a table q) ≡ 15) where
  abbrev ended_at : ℕ
  ended_at = code_place l q

  abbrev ended_ledger : List ℕ
  ended_ledger = (step l (token a table q)).after

  ended_facts : SecondUseFacts l a table q
  unfolding step
  ended_facts = second_use_facts l a table q ((token_turn l a table q CodeRedeemed).0 e)

  ended_alone : OneRewritten a l ended_ledger ended_at
  unfolding step
  ended_alone = second_use_alone l a table q e

  ended_free : rec ended_ledger ended_at ≡ free
  unfolding step
  ended_free = second_use_freed l a table q e

  ended_found : is_code q.code q.client (rec l ended_at) ≡ true
  ended_found = (first_in (is_code q.code q.client) l ended_facts.there).passes

  ended_slots : slots ended_ledger ≡ slots l
  unfolding slots
  ended_slots = rw ended_alone.long

  -- of a value that stood in the record freed: a test that only records with the value pass, and the free record does not
  ended_none : (v : List ℕ) (test : List ℕ → Bool) → test free ≡ false → ((j : ℕ) → j < slots l → test (rec l j) ≡ true → holds v (rec l j) ≡ true)
      → holds v (rec l ended_at) ≡ true → some test (records ended_ledger) ≡ false
  ended_none v test none has mine = none_found test ended_ledger (λ j h. go j (rw ended_slots at h) (ℕ_discrete j ended_at))
    where
      go : (j : ℕ) → j < slots l → Dec (j ≡ ended_at) → test (rec ended_ledger j) ≡ false
      go j h (yes z) = ap (λ (i : ℕ). test (rec ended_ledger i)) z ∙ ap test ended_free ∙ none
      go j h (no ne) =
          ap test (ended_alone.others j ne)
          ∙ false_of _ (λ p. ne (alone _ l (of_sound l ended_facts.ledger_sound).within v j ended_at h ended_alone.inside (has j h p) mine))

  no_code : some (is_code q.code q.client) (records ended_ledger) ≡ false
  no_code =
      let each = (of_sound l ended_facts.ledger_sound).within.each in
      ended_none q.code (is_code q.code q.client)
      (false_of _ (λ p.
      let f = free_state in
      ⊎_elim {C = ⊥} (λ s. omega arith) (λ s. omega arith) ((code_says q.code q.client free).0 p).0))
      (λ j h p. code_holds _ (rec l j) (each j h) q.code q.client p)
      (code_holds _ (rec l ended_at) (each ended_at ended_alone.inside) q.code q.client ended_found)

  no_token : some (is_token (token_of (rec l ended_at))) (records ended_ledger) ≡ false
  no_token =
      let each = (of_sound l ended_facts.ledger_sound).within.each in
      let v = token_of (rec l ended_at) in
      let mine = (token_says v (rec l ended_at)).1 (eqb-true (state (rec l ended_at)) 3 ended_facts.redeemed, refl) in
      ended_none v (is_token v) (false_of _ (λ p. let f = free_state in let s = ((token_says v free).0 p).0 in omega arith))
      (λ j h p. token_holds _ (rec l j) (each j h) v p)
      (token_holds _ (rec l ended_at) (each ended_at ended_alone.inside) v mine)

third_use : (l : List ℕ) (a : ℕ) (table : List ℕ) (q : TokenRequest) → answers (l, token a table q) ≡ 15
    → (t : ℕ) (again : List ℕ) (w : TokenRequest) → w.code ≡ q.code → w.client ≡ q.client
    → comes_to NoCode (token_checks (step l (token a table q)).after t again w (code_place (step l (token a table q)).after w)) ≡ true
    → answers ((step l (token a table q)).after, token t again w) ≡ 14
unfolding token_checks
third_use l a table q e t again w c d h =
    let m = (step l (token a table q)).after in
    let n : some (is_code w.code w.client) (records m) ≡ false = rw (c, d) (no_code l a table q e) in
    comes m (token t again w) NoCode h (ap not n)

token_ended : (l : List ℕ) (a : ℕ) (table : List ℕ) (q : TokenRequest) → answers (l, token a table q) ≡ 15
    → (t : ℕ) (w : ResourceRequest) → w.token ≡ token_of (rec l (code_place l q))
    → comes_to NoToken (resource_checks (step l (token a table q)).after t w (token_place (step l (token a table q)).after w)) ≡ true
    → answers ((step l (token a table q)).after, resource t w) ≡ 17
unfolding resource_checks
token_ended l a table q e t w c h =
    let m = (step l (token a table q)).after in
    let n : some (is_token w.token) (records m) ≡ false = rw c (no_token l a table q e) in
    comes m (resource t w) NoToken h (ap not n)

-- ---- the bound key, and the clock

other_key : (l : List ℕ) (t : ℕ) (q : ResourceRequest) → comes_to KeyDiffers (resource_checks l t q (token_place l q)) ≡ true
    → bound_key (rec l (token_place l q)) ≢ q.presented → answers (l, resource t q) ≡ 18
unfolding resource_checks
other_key l t q e n =
    comes l (resource t q) KeyDiffers e (ap not (differ_of (bound_key (rec l (token_place l q))) q.presented n))

clock_kept : (l : List ℕ) (c : Call) → answers (l, c) ≢ done → answers (l, c) ≢ 15 → (step l c).after ≡ l
unfolding step
clock_kept l (push t table p) n m = push_unchanged l t table p n
clock_kept l (decide t d out) n m = (decide_unchanged l t d out n).0
clock_kept l (token t table q) n m = token_unchanged l t table q n m
clock_kept l (resource t q) n m = resource_unchanged l t q n
clock_kept l (sweep t) n m = sweep_unchanged l t n

pub reminders : Reminders
reminders =
    record {
      other_client = other_client;
      second_use = second_use;
      third_use = third_use;
      token_ended = token_ended;
      other_key = other_key;
      clock_kept = clock_kept;
    }
