-- Laws of events: what is listed and counted of two lists after each other, and what a refused step and a sweep add.
use Prim.Native.Nat.{ℕ, ◌+◌}
use native.Mathlib.Omega.{arith}
use mathlib.Core.Path.{◌≡◌, refl, sym, ap, ◌∙◌}
use mathlib.Core.Logic.{◌⊎◌, inl, inr, ⊎_elim}
use mathlib.Core.Bool.{Bool, true, false, ◌&&◌, ◌||◌, cond, and-false}
use mathlib.Core.List.{List, [], ◌∷◌, ◌++◌, append-nil}
use lib.Dec.{eqb}
use borrow.Author.Tests.{eqb-true}
use Rattle.octets.specs.Lists.{bit, some, count}
use Rattle.ledger.specs.Fields.{rec, records, state, in_state, grant}
use Rattle.ledger.specs.declared.state.State.TheVariants.{Free, Consented}
use Rattle.desk.specs.Requests.{DecideRequest}
use Rattle.desk.specs.Decide.{reference_place, consent_record, consent_at, decline_at}
use Rattle.desk.specs.declared.answer.Refusal.{Refusal}
use Rattle.history.specs.Runs.{Call, push, decide, token, resource, sweep}
use Rattle.history.specs.Events.{Consent, No, Drop, Event, event, of_record, provided, dropped, events_of, listed}
use Rattle.history.proofs.Steps.{is_second_use, refusal, refused_not, consenting, declining, deciding}

-- ---- lists

pub some_append : {A : Type 0} (q : A → Bool) (xs ys : List A) → some q (xs ++ ys) ≡ (some q xs || some q ys)
some_append q [] ys = refl
some_append q (x ∷ xs) ys = go (q x) (some_append q xs ys)
  where
    go : (b : Bool) → some q (xs ++ ys) ≡ (some q xs || some q ys) → (b || some q (xs ++ ys)) ≡ ((b || some q xs) || some q ys)
    go true h = refl
    go false h = h

pub count_none : {A : Type 0} (q : A → Bool) (xs : List A) → some q xs ≡ false → count q xs ≡ 0
count_none q [] e = refl
count_none q (x ∷ xs) e = go (q x) refl (count_none q xs)
  where
    go : (b : Bool) → q x ≡ b → (some q xs ≡ false → count q xs ≡ 0) → bit (q x) + count q xs ≡ 0
    go true p ih = absurd (let z : true ≡ false = rw p at e in let w : ◌≡◌ {A = ℕ} 1 0 = ap bit z in omega arith)
    go false p ih = rw p (omega (arith, ih (rw p at e)))

-- an element of two lists after each other stands in the first or in the second
pub record InFirst {A : Type 0} (xs before : List A) (x : A) : Type 0 where
  pub rest : List A
  pub whole : xs ≡ before ++ (x ∷ rest)

pub record InSecond {A : Type 0} (xs ys before : List A) (x : A) (after : List A) : Type 0 where
  pub more : List A
  pub start : before ≡ xs ++ more
  pub whole : ys ≡ more ++ (x ∷ after)

pub parted : {A : Type 0} (xs ys before : List A) (x : A) (after : List A) → xs ++ ys ≡ before ++ (x ∷ after)
    → InFirst xs before x ⊎ InSecond xs ys before x after
parted [] ys before x after e = inr (record { more = before; start = refl; whole = e })
parted (a ∷ xs) ys [] x after e = inl (record { rest = xs; whole = let h : a ≡ x = cc in ap (λ y. y ∷ xs) h })
parted (a ∷ xs) ys (b ∷ before) x after e =
    let h : a ≡ b = cc in
    let t : xs ++ ys ≡ before ++ (x ∷ after) = cc in
    ⊎_elim {C = InFirst (a ∷ xs) (b ∷ before) x ⊎ InSecond (a ∷ xs) ys (b ∷ before) x after}
    (λ f. inl (record { rest = f.rest; whole = rw f.whole (ap (λ y. y ∷ (before ++ (x ∷ f.rest))) h) }))
    (λ s. inr (record { more = s.more; start = rw s.start (ap (λ y. y ∷ (xs ++ s.more)) (sym h)); whole = s.whole }))
    (parted xs ys before x after t)

-- ---- what is listed

module _ {A : Type 0} (q : Event → Bool) (f : Event → A) where
  pub listed_append : (es fs : List Event) → listed q f (es ++ fs) ≡ listed q f es ++ listed q f fs
  unfolding listed
  listed_append [] fs = refl
  listed_append (e ∷ es) fs = go (q e) (listed_append es fs)
    where
      go : (b : Bool) → listed q f (es ++ fs) ≡ listed q f es ++ listed q f fs
          → cond b (f e ∷ listed q f (es ++ fs)) (listed q f (es ++ fs)) ≡ cond b (f e ∷ listed q f es) (listed q f es) ++ listed q f fs
      go true h = rw h
      go false h = h

  pub listed_none : (es : List Event) → some q es ≡ false → listed q f es ≡ []
  unfolding listed
  listed_none [] e = refl
  listed_none (x ∷ es) e = go (q x) refl (listed_none es)
    where
      go : (b : Bool) → q x ≡ b → (some q es ≡ false → listed q f es ≡ []) → cond (q x) (f x ∷ listed q f es) (listed q f es) ≡ []
      go true p ih = absurd (let z : true ≡ false = rw p at e in let w : ◌≡◌ {A = ℕ} 1 0 = ap bit z in omega arith)
      go false p ih = rw p (ih (rw p at e))

  pub listed_in : (es : List Event) (e : Event) → q e ≡ true → listed q f (es ++ (e ∷ [])) ≡ listed q f es ++ (f e ∷ [])
  unfolding listed
  listed_in es e p = listed_append es (e ∷ []) ∙ rw p

  pub listed_out : (es fs : List Event) → some q fs ≡ false → listed q f (es ++ fs) ≡ listed q f es
  listed_out es fs p = listed_append es fs ∙ rw (listed_none fs p) (append-nil _)

-- ---- the events of a refused step, and of a sweep

module _ (q : Event → Bool) where
  pub some_provided : (b : Bool) (e : Event) → q e ≡ false → some q (provided b e) ≡ false
  some_provided true e h = rw h
  some_provided false e h = refl

  pub some_either : (b c : Bool) (x y : Event) → q x ≡ false → q y ≡ false → some q (provided b x ++ provided c y) ≡ false
  some_either b c x y h k = some_append q (provided b x) (provided c y) ∙ rw (some_provided b x h, some_provided c y k)

  pub count_provided : (b : Bool) (e : Event) (es : List Event) → count q (provided b e ++ es) ≡ bit (b && q e) + count q es
  count_provided true e es = refl
  count_provided false e es = omega arith

  -- the drops of a sweep
  pub dropped_none : (c : Call) → ((r : List ℕ) → q (of_record Drop r c) ≡ false) → (rs ss : List (List ℕ)) → some q (dropped c rs ss) ≡ false
  dropped_none c h [] ss = refl
  dropped_none c h (r ∷ rs) [] = refl
  dropped_none c h (r ∷ rs) (s ∷ ss) =
      some_append q (provided (in_state Consented r && in_state Free s) (of_record Drop r c)) (dropped c rs ss)
      ∙ rw (some_provided (in_state Consented r && in_state Free s) (of_record Drop r c) (h r), dropped_none c h rs ss)

-- a record that stands still is not dropped
pub standing : (r : List ℕ) → (in_state Consented r && in_state Free r) ≡ false
standing r = go (eqb (state r) 0) refl
  where
    go : (z : Bool) → eqb (state r) 0 ≡ z → (eqb (state r) 2 && z) ≡ false
    go true p = let e : state r ≡ 0 = eqb-true (state r) 0 p in rw e
    go false p = and-false (eqb (state r) 2)

pub dropped_same : (c : Call) (rs : List (List ℕ)) → dropped c rs rs ≡ []
dropped_same c [] = refl
dropped_same c (r ∷ rs) = rw (standing r) (dropped_same c rs)

-- a refused step that is no second use has no event
pub refused_none : (q : Event → Bool) (l : List ℕ) (c : Call) (why : Refusal) → is_second_use c why ≡ false → some q (events_of (refusal l c why)) ≡ false
refused_none q l (push t table p) why h = rw (refused_not why)
refused_none q l (decide t d out) why h = rw (refused_not why)
refused_none q l (token t table p) why h = rw (refused_not why, h)
refused_none q l (resource t p) why h = rw (refused_not why)
refused_none q l (sweep t) why h = rw (dropped_same (sweep t) (records l))

-- ---- the event of an accepted decide

pub consent_events : (l : List ℕ) (t : ℕ) (d : DecideRequest) (out : List ℕ) → d.yes ≡ true
    → events_of (deciding l t d out (consenting l t d out))
    ≡ event Consent d.client d.holder (grant (consent_record t d.holder d.fresh (rec l (reference_place l d)))) (decide t d out) ∷ []
unfolding consent_at
consent_events l t d out e =
    ap (λ (b : Bool). event (cond b Consent No) d.client d.holder (grant (consent_record t d.holder d.fresh (rec l (reference_place l d)))) (decide t d out) ∷ []) e

pub decline_events : (l : List ℕ) (t : ℕ) (d : DecideRequest) (out : List ℕ) → d.yes ≡ false
    → events_of (deciding l t d out (declining l t d out)) ≡ event No d.client d.holder (grant (rec l (reference_place l d))) (decide t d out) ∷ []
unfolding decline_at
decline_events l t d out e =
    ap (λ (b : Bool). event (cond b Consent No) d.client d.holder (grant (rec l (reference_place l d))) (decide t d out) ∷ []) e
