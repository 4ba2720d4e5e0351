-- Demand 3: what every step keeps, from the start on.
use Prim.Native.Nat.{ℕ, suc, ◌≤◌}
use native.Mathlib.Omega.{arith}
use mathlib.Core.Path.{◌≡◌, refl, sym, ap, ◌∙◌}
use mathlib.Core.Logic.{◌≢◌}
use mathlib.Core.Bool.{Bool, true, false}
use mathlib.Core.List.{List, [], ◌∷◌}
use lib.ListN.{get_or}
use Rattle.octets.specs.Lists.{bit, count, some}
use Rattle.ledger.specs.Fields.{rec, records, grant}
use Rattle.ledger.specs.Sound.{sound}
use Rattle.desk.specs.Requests.{PushRequest, DecideRequest, TokenRequest}
use Rattle.history.specs.Runs.{Call, push, decide, token, Typed, AllTyped, step, number_in, started, steps, last_in}
use Rattle.history.specs.Events.{Event, events, events_in}
use Rattle.history.specs.Counts.{Whose, just, anyone, consents, tokens, waits, waiting}
use Rattle.history.specs.Histories.{history, numbers_of, Granted, Chain}
use Rattle.history.specs.Demand3.{Demand3, EveryRun}
use Rattle.desk.specs.Answers.{number_of}
use Rattle.desk.specs.Token.{code_place}
use Rattle.desk.specs.declared.answer.Refusal.TheVariants.{CodeRedeemed}
use Rattle.history.proofs.Steps.{never_one}
use Rattle.history.proofs.Runs.{Good, good_step, good_last, good_start, along}
use Rattle.history.proofs.Balance.{Balanced, balanced_step}
use Rattle.history.proofs.Numbers.{Numbered, numbered_step, numbered_start}
use Rattle.history.proofs.Invariant.{started_at, inv_start}
use Rattle.history.proofs.Readings.{Kept, kept_step, kept_start, odd, odd_step, token_before, told, value_closed}
use Rattle.history.proofs.SecondUses.{Single, single_step, single_start}
use Rattle.history.proofs.Ended.{Unread, unread_step, ended_unread}

-- ---- nothing waits at the start

count_none : (q : List ℕ → Bool) (rs : List (List ℕ)) → ((j : ℕ) → q (get_or rs j []) ≡ false) → count q rs ≡ 0
count_none q [] f = refl
count_none q (r ∷ rs) f = omega (arith, ap bit (f 0), count_none q rs (λ j. f (suc j)))

waiting_none : (whose : Whose) (n : ℕ) → waiting whose (started n) ≡ 0
waiting_none whose n = count_none (waits whose) (records (started n)) (λ j. rw (started_at n j))

-- ---- the sentences

-- the token call of two equal histories
same_token : (h : List Call) (a : ℕ) (b : List ℕ) (p : PushRequest) (c : ℕ) (d : DecideRequest) (o : List ℕ) (e : ℕ) (f : List ℕ) (k : TokenRequest)
    (a' : ℕ) (b' : List ℕ) (p' : PushRequest) (c' : ℕ) (d' : DecideRequest) (o' : List ℕ) (e' : ℕ) (f' : List ℕ) (k' : TokenRequest)
    → h ≡ push a b p ∷ decide c d o ∷ token e f k ∷ [] → h ≡ push a' b' p' ∷ decide c' d' o' ∷ token e' f' k' ∷ [] → k ≡ k'
same_token h a b p c d o e f k a' b' p' c' d' o' e' f' k' x y = cc

module _ (n : ℕ) (good : Good (started n)) where
  even_run : (whose : Whose) (cs : List Call) → AllTyped cs → Balanced whose (last_in n cs) (events_in n cs)
  even_run whose cs y = along (Balanced whose) (balanced_step whose) cs (started n) [] good y (omega (arith, waiting_none whose n))

  tokens_most : (whose : Whose) (cs : List Call) → AllTyped cs → tokens whose (events_in n cs) ≤ consents whose (events_in n cs)
  tokens_most whose cs y = omega (arith, even_run whose cs y)

  pub kept_run : (cs : List Call) → AllTyped cs → Kept (last_in n cs) (events_in n cs)
  kept_run cs y = along Kept kept_step cs (started n) [] good y (kept_start (started n) (inv_start n))

  numbers_run : (cs : List Call) → AllTyped cs → Numbered (last_in n cs) (numbers_of (events_in n cs))
  numbers_run cs y = along (λ (l : List ℕ) (es : List Event). Numbered l (numbers_of es)) numbered_step cs (started n) [] good y (numbered_start n)

  odd_run : (v : List ℕ) (cs : List Call) → AllTyped cs → some (odd v) (events_in n cs) ≡ false
  odd_run v cs y =
      along (λ (l : List ℕ) (es : List Event). some (odd v) es ≡ false) (λ l es c g z. odd_step v l es c) cs (started n) [] good y refl

  sound_run : (cs : List Call) → AllTyped cs → sound (last_in n cs) ≡ true
  sound_run cs y = (good_last cs (started n) good y).is_sound

  one_run : (cs : List Call) → AllTyped cs → (r s : Granted (events_in n cs)) → r.grant ≡ s.grant
      → (x : Chain r.time r.request (history r.grant r.before))
      → (y : Chain s.time s.request (history s.grant s.before))
      → (x.redeemed.client ≡ y.redeemed.client) × (r.request.presented ≡ s.request.presented)
  one_run cs a r s same x y =
      let k = kept_run cs a in
      let e : history r.grant r.before ≡ history s.grant s.before =
      sym (k.standing r) ∙ ap (λ (g : ℕ). history g (events_in n cs)) same ∙ k.standing s
      in
      let h : x.redeemed ≡ y.redeemed = same_token _ _ _ _ _ _ _ _ _ _ _ _ _ _ _ _ _ _ _ x.order (e ∙ y.order) in
      (ap (λ (q : TokenRequest). q.client) h, x.key ∙ ap (λ (q : TokenRequest). q.presented) h ∙ sym y.key)

  single_run : (cs : List Call) → AllTyped cs → Single (last_in n cs) (events_in n cs)
  single_run cs y = along Single single_step cs (started n) [] good y (single_start (started n) (started_at n))

  end_run : (cs : List Call) → AllTyped cs → (t : ℕ) (table : List ℕ) (q : TokenRequest) → Typed (token t table q)
      → number_in (step (last_in n cs) (token t table q)).answer ≡ number_of CodeRedeemed
      → (ds : List Call) → AllTyped ds → (r : Granted (events (steps (step (last_in n cs) (token t table q)).after ds)))
      → r.grant ≢ grant (rec (last_in n cs) (code_place (last_in n cs) q))
  end_run cs y t table q z e ds w =
      let l = last_in n cs in
      let g = good_step l (token t table q) (good_last cs (started n) good y) z in
      (along (Unread (grant (rec l (code_place l q)))) (unread_step (grant (rec l (code_place l q)))) ds (step l (token t table q)).after [] g w (ended_unread l t table q e)).unread

  all_of_it : Demand3 n
  all_of_it =
      record {
        balance = λ cs y k h. even_run (just k h) cs y;
        permissions = λ cs y k h. tokens_most (just k h) cs y;
        permissions_all = tokens_most anyone;
        readings = λ cs y. (kept_run cs y).chains;
        no_second_use = λ cs y. (single_run cs y).unrepeated;
        ends = end_run;
        reading_told = told (started n);
        stays = λ cs y. (kept_run cs y).standing;
        in_time = λ cs y. (kept_run cs y).inv.life;
        numbers = λ cs y. (numbers_run cs y).are;
        one_program = one_run;
        opens_nothing = λ cs y r. token_before (events_in n cs) r (odd_run r.request.token cs y) ((kept_run cs y).chains r);
        values_open_nothing = λ cs y t q. value_closed (last_in n cs) t q;
        sound_always = sound_run;
        never_unsound = λ cs y. never_one (last_in n cs) (sound_run cs y);
      }

pub demand3 : EveryRun
demand3 n a b = all_of_it n (good_start n a b)
