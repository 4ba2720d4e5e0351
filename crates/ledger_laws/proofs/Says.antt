-- What soundness and the searches say of every record, both ways.
use Rattle.std.specs.Prelude.{Option}
use Prim.Native.Nat.{ℕ, ◌+◌, ◌*◌, ◌-◌, ◌%◌, ◌≤◌, ◌<◌}
use native.Mathlib.Omega.{arith}
use native.Mathlib.Decide.{dec_lt}
use mathlib.Core.Path.{◌≡◌, refl, sym, ap, ◌∙◌}
use mathlib.Core.Logic.{◌≢◌, ◌⊎◌, inl, inr, ⊎_elim, ◌↔◌}
use mathlib.Core.Bool.{Bool, true, false, ◌||◌, not, ◌&&◌, false≢true, true≢false, or-true}
use mathlib.Core.List.{List, []}
use lib.Dec.{eqb, leb, ltb}
use lib.ListN.{length}
use borrow.Author.Tests.{leb-true, le-leb, ltb-true, lt-ltb, eqb-true, eq-eqb, eqb-false, ne_eqb, not-true}
use Rattle.octets.specs.Lists.{every, apart}
use Rattle.octets.specs.Parts.{zeros, same, blank}
use Rattle.octets.proofs.Tests.{both, both_true, false_of}
use Rattle.octets.proofs.Lists.{every_at, every_of, apart_at, apart_of}
use Rattle.octets.proofs.Parts.{same_eq, same_refl, zeros_eq}
use Rattle.forms.specs.Forms.{challenge_formed, redirect_formed}
use Rattle.forms.specs.Limits.{redirect_least, redirect_most}
use Rattle.ledger.specs.Limits.{clock_limit, expiry_limit, head_size, record_size, records_least, records_most}
use Rattle.ledger.specs.Fields.{clock, next_number, head_rest, rec, slots, records, state, state_number, stated, used, redirect_length, gap_one, gap_two, scope, grant, expiry, holder, client, challenge, value, token, bound_key, redirect, behind_redirect}
use Rattle.ledger.specs.Sound.{sized, numbers_sound, bytes_sound, used_sound, no_token, some_token, sound_in, sound_as, record_sound, same_grant, holds, meets, own_apart, head_sound, sound}
use Rattle.ledger.specs.Write.{free}
use Rattle.ledger.specs.declared.state.State.{State}
use Rattle.ledger.specs.declared.state.State.TheVariants.{Free, Pushed, Consented, Redeemed}
use Rattle.ledger.proofs.States.{state_cases}
use Rattle.ledger.proofs.Records.{length_records, records_at}

-- ---- tests made of others

pub either : (a b : Bool) → (a || b) ≡ true → (a ≡ true) ⊎ (b ≡ true)
either true b e = inl refl
either false b e = inr e

pub neither : (a b : Bool) → (a || b) ≡ false → (a ≡ false) × (b ≡ false)
neither true b e = absurd (true≢false e)
neither false b e = (refl, e)

-- ---- a record, by its state

-- "In every other record": the rules, each by its name
pub record SoundUsed (next : ℕ) (r : List ℕ) : Type 0 where
  pub state_most : state r ≤ state_number Redeemed
  pub gap_one_lem : zeros (gap_one r) ≡ true
  pub gap_two_lem : zeros (gap_two r) ≡ true
  pub grant_least : 1 ≤ grant r
  pub grant_most : grant r < next
  pub scope_set : scope r ≢ 0
  pub expiry_most : expiry r < expiry_limit
  pub holder_none : state r ≡ state_number Pushed → holder r ≡ 0
  pub holder_set : state r ≢ state_number Pushed → holder r ≢ 0
  pub client_set : zeros (client r) ≡ false
  pub value_set : zeros (value r) ≡ false
  pub token_set : state r ≡ state_number Redeemed → zeros (token r) ≡ false
  pub token_none : state r ≢ state_number Redeemed → zeros (token r) ≡ true
  pub key_set : state r ≡ state_number Redeemed → zeros (bound_key r) ≡ false
  pub key_none : state r ≢ state_number Redeemed → zeros (bound_key r) ≡ true
  pub challenge_well : challenge_formed (challenge r) ≡ true
  pub length_least : redirect_least ≤ redirect_length r
  pub length_most : redirect_length r ≤ redirect_most
  pub redirect_well : redirect_formed (redirect r) ≡ true
  pub behind_zero : zeros (behind_redirect r) ≡ true

pub record SoundRecord (next : ℕ) (r : List ℕ) : Type 0 where
  pub when_free : state r ≡ state_number Free → zeros r ≡ true
  pub when_used : state r ≢ state_number Free → SoundUsed next r

no_token_lem : (r : List ℕ) → (no_token r ≡ true) ↔ ((zeros (token r) ≡ true) × (zeros (bound_key r) ≡ true))
unfolding no_token
no_token_lem r = (both (zeros (token r)) (zeros (bound_key r)), λ f. both_true _ _ f.0 f.1)

some_token_lem : (r : List ℕ) → (some_token r ≡ true) ↔ ((zeros (token r) ≡ false) × (zeros (bound_key r) ≡ false))
unfolding some_token
some_token_lem r = (
  λ e. let (a, b) = both (not (zeros (token r))) _ e in (not-true _ a, not-true _ b),
  λ f. both_true _ _ (ap not f.0) (ap not f.1),
)

module _ (next : ℕ) (r : List ℕ) where
  -- the rules of every state but free, beside those that go by the state
  of_used : used_sound next r ≡ true → state r ≤ state_number Redeemed → (state r ≡ state_number Pushed → holder r ≡ 0)
      → (state r ≢ state_number Pushed → holder r ≢ 0)
      → (state r ≡ state_number Redeemed → (zeros (token r) ≡ false) × (zeros (bound_key r) ≡ false))
      → (state r ≢ state_number Redeemed → (zeros (token r) ≡ true) × (zeros (bound_key r) ≡ true))
      → SoundUsed next r
  unfolding used_sound numbers_sound bytes_sound
  of_used e most h₁ h₂ t₁ t₂ =
      let (n, f) = both (numbers_sound next r) _ e in
      let (b, e₂) = both (zeros (gap_one r) && zeros (gap_two r)) _ n in
      let (b₁, b₂) = both (zeros (gap_one r)) _ b in
      let (c, e₃) = both (leb 1 (grant r) && ltb (grant r) next) _ e₂ in
      let (c₁, c₂) = both (leb 1 (grant r)) _ c in
      let (d, g) = both (not (eqb (scope r) 0)) _ e₃ in
      let (i, f₁) = both (not (zeros (client r))) _ f in
      let (j, f₂) = both (not (zeros (value r))) _ f₁ in
      let (m, f₅) = both (challenge_formed (challenge r)) _ f₂ in
      let (o, f₆) = both (leb redirect_least (redirect_length r) && leb (redirect_length r) redirect_most) _ f₅ in
      let (o₁, o₂) = both (leb redirect_least (redirect_length r)) _ o in
      let (p, q) = both (redirect_formed (redirect r)) _ f₆ in
      record {
        state_most = most;
        gap_one_lem = b₁;
        gap_two_lem = b₂;
        grant_least = leb-true 1 (grant r) c₁;
        grant_most = ltb-true (grant r) next c₂;
        scope_set = eqb-false (scope r) 0 (not-true _ d);
        expiry_most = ltb-true (expiry r) expiry_limit g;
        holder_none = h₁;
        holder_set = h₂;
        client_set = not-true _ i;
        value_set = not-true _ j;
        token_set = λ s. (t₁ s).0;
        token_none = λ s. (t₂ s).0;
        key_set = λ s. (t₁ s).1;
        key_none = λ s. (t₂ s).1;
        challenge_well = m;
        length_least = leb-true redirect_least (redirect_length r) o₁;
        length_most = leb-true (redirect_length r) redirect_most o₂;
        redirect_well = p;
        behind_zero = q;
      }

  to_used : SoundUsed next r → used_sound next r ≡ true
  unfolding used_sound numbers_sound bytes_sound
  to_used s =
      rw (
        s.gap_one_lem,
        s.gap_two_lem,
        le-leb 1 (grant r) s.grant_least,
        lt-ltb (grant r) next s.grant_most,
        ne_eqb (scope r) 0 s.scope_set,
        lt-ltb (expiry r) expiry_limit s.expiry_most,
        s.client_set,
        s.value_set,
        s.challenge_well,
        le-leb redirect_least (redirect_length r) s.length_least,
        le-leb (redirect_length r) redirect_most s.length_most,
        s.redirect_well,
      ) s.behind_zero

  -- ---- by the state

  when_pushed : state r ≡ state_number Pushed → (sound_in Pushed next r ≡ true) ↔ SoundUsed next r
  when_pushed st = (
    λ e.
        let (u, f) = both (used_sound next r) _ e in
        let (h, t) = both (eqb (holder r) 0) _ f in
        of_used u (omega arith) (λ s. eqb-true (holder r) 0 h) (λ n. absurd (n st)) (λ s. absurd (omega arith)) (λ n. (no_token_lem r).0 t),
    λ s.
        let n : state r ≢ state_number Redeemed = λ e. omega arith in
        both_true _ _ (to_used s) (both_true _ _ (eq-eqb (holder r) 0 (s.holder_none st)) ((no_token_lem r).1 (s.token_none n, s.key_none n))),
  )

  when_consented : state r ≡ state_number Consented → (sound_in Consented next r ≡ true) ↔ SoundUsed next r
  when_consented st = (
    λ e.
        let (u, f) = both (used_sound next r) _ e in
        let (h, t) = both (not (eqb (holder r) 0)) _ f in
        of_used u (omega arith) (λ s. absurd (omega arith)) (λ n. eqb-false (holder r) 0 (not-true _ h)) (λ s. absurd (omega arith)) (λ n. (no_token_lem r).0 t),
    λ s.
        let p : state r ≢ state_number Pushed = λ e. omega arith in
        let n : state r ≢ state_number Redeemed = λ e. omega arith in
        both_true _ _ (to_used s) (both_true _ _ (ap not (ne_eqb (holder r) 0 (s.holder_set p))) ((no_token_lem r).1 (s.token_none n, s.key_none n))),
  )

  when_redeemed : state r ≡ state_number Redeemed → (sound_in Redeemed next r ≡ true) ↔ SoundUsed next r
  when_redeemed st = (
    λ e.
        let (u, f) = both (used_sound next r) _ e in
        let (h, t) = both (not (eqb (holder r) 0)) _ f in
        of_used u (omega arith) (λ s. absurd (omega arith)) (λ n. eqb-false (holder r) 0 (not-true _ h)) (λ s. (some_token_lem r).0 t) (λ n. absurd (n st)),
    λ s.
        let p : state r ≢ state_number Pushed = λ e. omega arith in
        both_true _ _ (to_used s) (both_true _ _ (ap not (ne_eqb (holder r) 0 (s.holder_set p))) ((some_token_lem r).1 (s.token_set st, s.key_set st))),
  )

  in_use : (n : ℕ) (b : Bool) → n ≢ state_number Free → (state r ≡ n → (b ≡ true) ↔ SoundUsed next r) → state r ≡ n → (b ≡ true) ↔ SoundRecord next r
  in_use n b f says st = (
    λ e. record { when_free = λ z. absurd (f (sym st ∙ z)); when_used = λ z. (says st).0 e },
    λ s. (says st).1 (s.when_used (λ z. f (sym st ∙ z))),
  )

  record_as : (n : ℕ) → state r ≡ n → (sound_as (stated n) next r ≡ true) ↔ SoundRecord next r
  record_as =
      state_cases (λ (n : ℕ) (x : Option State). state r ≡ n → (sound_as x next r ≡ true) ↔ SoundRecord next r)
      (λ st. (λ e. record { when_free = λ z. e; when_used = λ n. absurd (n st) }, λ s. s.when_free st))
      (in_use (state_number Pushed) (sound_in Pushed next r) (λ e. omega arith) when_pushed)
      (in_use (state_number Consented) (sound_in Consented next r) (λ e. omega arith) when_consented)
      (in_use (state_number Redeemed) (sound_in Redeemed next r) (λ e. omega arith) when_redeemed)
      (λ n h st. (
        λ e. absurd (false≢true e),
        λ s. let m = (s.when_used (λ e. omega arith)).state_most in absurd (omega arith),
      ))

  pub record_says : (record_sound next r ≡ true) ↔ SoundRecord next r
  unfolding record_sound
  record_says = record_as (state r) refl

-- "a free record all zeros": it is the one that a writer leaves
pub free_is : (r : List ℕ) → length r ≡ record_size → zeros r ≡ true → r ≡ free
unfolding free
free_is r n z = zeros_eq r z ∙ ap blank n

-- ---- grant numbers and the pool, of two records

pub used_says : (r : List ℕ) → (used r ≡ true) ↔ (state r ≢ state_number Free)
used_says r = (λ e. eqb-false (state r) 0 (not-true _ e), λ n. ap not (ne_eqb (state r) 0 n))

pub grants_say : (r s : List ℕ) → (same_grant r s ≡ true) ↔ ((state r ≢ state_number Free) × ((state s ≢ state_number Free) × (grant r ≡ grant s)))
unfolding same_grant
grants_say r s = (
  λ e.
      let (a, f) = both (used r) _ e in
      let (b, c) = both (used s) _ f in
      ((used_says r).0 a, ((used_says s).0 b, eqb-true (grant r) (grant s) c)),
  λ f. rw ((used_says r).1 f.0, (used_says s).1 f.1.0) (eq-eqb (grant r) (grant s) f.1.1),
)

-- v is one of the record's two values
abbrev pub Of : List ℕ → List ℕ → Type 0
Of v r = (v ≡ value r) ⊎ (v ≡ token r)

pub holds_says : (v r : List ℕ) → (holds v r ≡ true) ↔ ((zeros v ≡ false) × Of v r)
unfolding holds
holds_says v r = (
  λ e.
      let (a, b) = both (not (zeros v)) (same v (value r) || same v (token r)) e in
      (not-true _ a, ⊎_elim {C = Of v r} (λ p. inl (same_eq v (value r) p)) (λ p. inr (same_eq v (token r) p)) (either (same v (value r)) (same v (token r)) b)),
  λ f. rw f.0 (⊎_elim (λ p. rw (is v (value r) p)) (λ p. rw (is v (token r) p) (or-true (same v (value r)))) f.1),
)
  where
    is : (v w : List ℕ) → v ≡ w → same v w ≡ true
    is v w e = rw (← e) (same_refl v)

-- a value that both records hold
pub record Common (r s : List ℕ) : Type 0 where
  pub v : List ℕ
  pub nonzero : zeros v ≡ false
  pub left : Of v r
  pub right : Of v s

pub common_sym : (r s : List ℕ) → Common r s → Common s r
common_sym r s c = record { v = c.v; nonzero = c.nonzero; left = c.right; right = c.left }

pub meets_says : (r s : List ℕ) → (meets r s ≡ true) ↔ Common r s
unfolding meets
meets_says r s = (of, to)
  where
    of : (holds (value r) s || holds (token r) s) ≡ true → Common r s
    of e =
        ⊎_elim
        (λ p. let h = (holds_says (value r) s).0 p in record { v = value r; nonzero = h.0; left = inl refl; right = h.1 })
        (λ p. let h = (holds_says (token r) s).0 p in record { v = token r; nonzero = h.0; left = inr refl; right = h.1 })
        (either (holds (value r) s) (holds (token r) s) e)

    to : Common r s → (holds (value r) s || holds (token r) s) ≡ true
    to c =
        let h = (holds_says c.v s).1 (c.nonzero, c.right) in
        ⊎_elim (λ p. rw (rw p at h)) (λ p. rw (rw p at h) (or-true (holds (value r) s))) c.left

-- "nor does one record hold it in both fields"
pub own_says : (r : List ℕ) → (own_apart r ≡ true) ↔ (zeros (value r) ≡ false → value r ≢ token r)
unfolding own_apart
own_says r = (
  λ e z q. false≢true (rw (z, ← q, same_refl (value r)) at e),
  λ f. go (zeros (value r)) refl f,
)
  where
    go : (b : Bool) → zeros (value r) ≡ b → (zeros (value r) ≡ false → value r ≢ token r) → (b || not (same (value r) (token r))) ≡ true
    go true p f = refl
    go false p f = ap not (false_of _ (λ e. f p (same_eq (value r) (token r) e)))

-- ---- a ledger

-- the rules of the records, under the next number
pub record SoundRecords (next : ℕ) (l : List ℕ) : Type 0 where
  pub each : (k : ℕ) → k < slots l → SoundRecord next (rec l k)
  pub own : (k : ℕ) → k < slots l → zeros (value (rec l k)) ≡ false → value (rec l k) ≢ token (rec l k)
  pub grants : (i j : ℕ) → i < slots l → j < slots l → i ≢ j → state (rec l i) ≢ state_number Free → state (rec l j) ≢ state_number Free
      → grant (rec l i) ≢ grant (rec l j)
  pub pool : (i j : ℕ) → i < slots l → j < slots l → i ≢ j → Common (rec l i) (rec l j) → ⊥

pub record SoundLedger (l : List ℕ) : Type 0 where
  pub least : head_size + records_least * record_size ≤ length l
  pub most : length l ≤ head_size + records_most * record_size
  pub whole : length l ≡ head_size + slots l * record_size
  pub clock_below : clock l < clock_limit
  pub next_least : 1 ≤ next_number l
  pub rest_zero : zeros (head_rest l) ≡ true
  pub within : SoundRecords (next_number l) l

-- a test of every record
pub every_says : (q : List ℕ → Bool) (l : List ℕ) → (every q (records l) ≡ true) ↔ ((k : ℕ) → k < slots l → q (rec l k) ≡ true)
every_says q l = (
  λ e k h. rw (← records_at l k h) (every_at q (records l) [] e k (rw (length_records l) h)),
  λ f.
      every_of q (records l) []
      (λ k h. let m : k < slots l = rw (length_records l) at h in rw (records_at l k m) (f k m)),
)

-- a test of any two records, that is the same both ways
module _ (clash : List ℕ → List ℕ → Bool) (none : (x : List ℕ) → clash x [] ≡ false) (turn : (x y : List ℕ) → clash x y ≡ true → clash y x ≡ true) where
  pub apart_says : (l : List ℕ) → (apart clash (records l) ≡ true) ↔ ((i j : ℕ) → i < slots l → j < slots l → i ≢ j → clash (rec l i) (rec l j) ≡ false)
  apart_says l = (
    λ e i j a b n. go e i j a b n (dec_lt i j),
    λ f.
        apart_of clash [] (records l) none
        (λ i j h m.
        let b : j < slots l = rw (length_records l) at m in
        let a : i < slots l = omega arith in
        rw (records_at l i a, records_at l j b) (f i j a b (λ e. omega arith))),
  )
    where
      at : apart clash (records l) ≡ true → (i j : ℕ) → i < slots l → j < slots l → i < j → clash (rec l i) (rec l j) ≡ false
      at e i j a b h = rw (← records_at l i a, ← records_at l j b) (apart_at clash [] (records l) none e i j h (rw (length_records l) b))

      go : apart clash (records l) ≡ true → (i j : ℕ) → i < slots l → j < slots l → i ≢ j → Dec (i < j) → clash (rec l i) (rec l j) ≡ false
      go e i j a b n (yes h) = at e i j a b h
      go e i j a b n (no h) = false_of _ (λ c. true≢false (sym (turn (rec l i) (rec l j) c) ∙ at e j i b a (omega (arith, n, h))))

grants_none : (x : List ℕ) → same_grant x [] ≡ false
grants_none x = false_of _ (λ e. ((grants_say x []).0 e).1.0 refl)

grants_turn : (x y : List ℕ) → same_grant x y ≡ true → same_grant y x ≡ true
grants_turn x y e = let f = (grants_say x y).0 e in (grants_say y x).1 (f.1.0, (f.0, sym f.1.1))

meets_none : (x : List ℕ) → meets x [] ≡ false
unfolding zeros
meets_none x =
    false_of _
    (λ e.
    let c = (meets_says x []).0 e in
    ⊎_elim (λ p. true≢false (rw p at c.nonzero)) (λ p. true≢false (rw p at c.nonzero)) c.right)

meets_turn : (x y : List ℕ) → meets x y ≡ true → meets y x ≡ true
meets_turn x y e = (meets_says y x).1 (common_sym x y ((meets_says x y).0 e))

pub sized_says : (l : List ℕ)
    → (sized l ≡ true)
    ↔ ((head_size + records_least * record_size ≤ length l) × ((length l ≤ head_size + records_most * record_size) × (length l ≡ head_size + slots l * record_size)))
unfolding sized slots
sized_says l = (
  λ e.
      let (a, f) = both (leb (head_size + records_least * record_size) (length l)) _ e in
      let (b, c) = both (leb (length l) (head_size + records_most * record_size)) _ f in
      let h = leb-true (head_size + records_least * record_size) (length l) a in
      let d = eqb-true ((length l - head_size) % record_size) 0 c in
      (h, (leb-true (length l) (head_size + records_most * record_size) b, omega arith)),
  λ f.
      let (a, (b, c)) = f in
      let d : (length l - head_size) % record_size ≡ 0 = omega arith in
      rw (le-leb (head_size + records_least * record_size) (length l) a, le-leb (length l) (head_size + records_most * record_size) b) (eq-eqb ((length l - head_size) % record_size) 0 d),
)

pub of_sound : (l : List ℕ) → sound l ≡ true → SoundLedger l
unfolding sound head_sound
of_sound l e =
    let (a, e₁) = both (sized l) _ e in
    let (b, e₂) = both (ltb (clock l) clock_limit && (leb 1 (next_number l) && zeros (head_rest l))) _ e₁ in
    let (b₁, b₂) = both (ltb (clock l) clock_limit) _ b in
    let (b₃, b₄) = both (leb 1 (next_number l)) _ b₂ in
    let (c, e₃) = both (every (record_sound (next_number l)) (records l)) _ e₂ in
    let (d, e₄) = both (every own_apart (records l)) _ e₃ in
    let (f, g) = both (apart same_grant (records l)) (apart meets (records l)) e₄ in
    let z = (sized_says l).0 a in
    record {
      least = z.0;
      most = z.1.0;
      whole = z.1.1;
      clock_below = ltb-true (clock l) clock_limit b₁;
      next_least = leb-true 1 (next_number l) b₃;
      rest_zero = b₄;
      within = record {
        each = λ k h. (record_says (next_number l) (rec l k)).0 ((every_says (record_sound (next_number l)) l).0 c k h);
        own = λ k h. (own_says (rec l k)).0 ((every_says own_apart l).0 d k h);
        grants = λ i j h m n p q s.
            true≢false (sym ((grants_say (rec l i) (rec l j)).1 (p, (q, s))) ∙ (apart_says same_grant grants_none grants_turn l).0 f i j h m n);
        pool = λ i j h m n s.
            true≢false (sym ((meets_says (rec l i) (rec l j)).1 s) ∙ (apart_says meets meets_none meets_turn l).0 g i j h m n);
      };
    }

pub to_sound : (l : List ℕ) → SoundLedger l → sound l ≡ true
unfolding sound head_sound
to_sound l s =
    let w = s.within in
    rw (
      (sized_says l).1 (s.least, (s.most, s.whole)),
      lt-ltb (clock l) clock_limit s.clock_below,
      le-leb 1 (next_number l) s.next_least,
      s.rest_zero,
      (every_says (record_sound (next_number l)) l).1 (λ k h. (record_says (next_number l) (rec l k)).1 (w.each k h)),
      (every_says own_apart l).1 (λ k h. (own_says (rec l k)).1 (w.own k h)),
      (apart_says same_grant grants_none grants_turn l).1
          (λ i j h m n. false_of _ (λ e. let f = (grants_say (rec l i) (rec l j)).0 e in w.grants i j h m n f.0 f.1.0 f.1.1)),
    )
    ((apart_says meets meets_none meets_turn l).1 (λ i j h m n. false_of _ (λ e. w.pool i j h m n ((meets_says (rec l i) (rec l j)).0 e))))

pub sound_says : (l : List ℕ) → (sound l ≡ true) ↔ SoundLedger l
sound_says l = (of_sound l, to_sound l)
