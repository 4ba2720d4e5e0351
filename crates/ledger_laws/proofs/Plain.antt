-- A ledger is sound exactly when it is so in the plain words of specs/Sound.
use Prim.Native.Nat.{ℕ}
use native.Mathlib.Omega.{arith}
use mathlib.Core.Path.{◌≡◌, sym}
use mathlib.Core.Logic.{◌↔◌, inl, inr, ⊎_elim}
use mathlib.Core.Bool.{true}
use mathlib.Core.List.{List}
use Rattle.octets.proofs.Bytes.{zeros_say, nonzero_says}
use Rattle.forms.proofs.Laws.{challenge_says, redirect_says}
use Rattle.ledger.specs.Fields.{next_number, head_rest, rec, slots, gap_one, gap_two, client, challenge, value, token, bound_key, redirect, behind_redirect}
use Rattle.ledger.specs.Sound.{sized, sound}
use Rattle.ledger_laws.specs.Sound.{SoundInUse, SoundRecord, Has, Sized, SoundLedger}
use Rattle.ledger_laws.proofs.Says.{SoundUsed, SoundRecord as TestedRecord, Of, SoundLedger as TestedLedger, sized_says, of_sound, to_sound}

module _ (next : ℕ) (r : List ℕ) where
  used_plain : SoundUsed next r → SoundInUse next r
  used_plain s =
      record {
        gap_one_lem = (zeros_say (gap_one r)).0 s.gap_one_lem;
        gap_two_lem = (zeros_say (gap_two r)).0 s.gap_two_lem;
        state_most = s.state_most;
        grant_least = s.grant_least;
        grant_most = s.grant_most;
        scope_set = s.scope_set;
        client_set = (nonzero_says (client r)).0 s.client_set;
        value_set = (nonzero_says (value r)).0 s.value_set;
        expiry_most = s.expiry_most;
        challenge_well = (challenge_says (challenge r)).0 s.challenge_well;
        redirect_well = (redirect_says (redirect r)).0 s.redirect_well;
        behind_zero = (zeros_say (behind_redirect r)).0 s.behind_zero;
        length_least = s.length_least;
        length_most = s.length_most;
        holder_none = s.holder_none;
        holder_set = s.holder_set;
        token_none = λ n. (zeros_say (token r)).0 (s.token_none n);
        token_set = λ e. (nonzero_says (token r)).0 (s.token_set e);
        key_none = λ n. (zeros_say (bound_key r)).0 (s.key_none n);
        key_set = λ e. (nonzero_says (bound_key r)).0 (s.key_set e);
      }

  plain_used : SoundInUse next r → SoundUsed next r
  plain_used s =
      record {
        state_most = s.state_most;
        gap_one_lem = (zeros_say (gap_one r)).1 s.gap_one_lem;
        gap_two_lem = (zeros_say (gap_two r)).1 s.gap_two_lem;
        grant_least = s.grant_least;
        grant_most = s.grant_most;
        scope_set = s.scope_set;
        expiry_most = s.expiry_most;
        holder_none = s.holder_none;
        holder_set = s.holder_set;
        client_set = (nonzero_says (client r)).1 s.client_set;
        value_set = (nonzero_says (value r)).1 s.value_set;
        token_set = λ e. (nonzero_says (token r)).1 (s.token_set e);
        token_none = λ n. (zeros_say (token r)).1 (s.token_none n);
        key_set = λ e. (nonzero_says (bound_key r)).1 (s.key_set e);
        key_none = λ n. (zeros_say (bound_key r)).1 (s.key_none n);
        challenge_well = (challenge_says (challenge r)).1 s.challenge_well;
        length_least = s.length_least;
        length_most = s.length_most;
        redirect_well = (redirect_says (redirect r)).1 s.redirect_well;
        behind_zero = (zeros_say (behind_redirect r)).1 s.behind_zero;
      }

  record_plain : TestedRecord next r → SoundRecord next r
  record_plain s =
      record { when_free = λ e. (zeros_say r).0 (s.when_free e); when_used = λ n. used_plain (s.when_used n) }

  plain_record : SoundRecord next r → TestedRecord next r
  plain_record s =
      record { when_free = λ e. (zeros_say r).1 (s.when_free e); when_used = λ n. plain_used (s.when_used n) }

-- a value that a record has, in either order of the equation
has_of : (v r : List ℕ) → Has v r → Of v r
has_of v r h = ⊎_elim {C = Of v r} (λ e. inl (sym e)) (λ e. inr (sym e)) h

of_has : (v r : List ℕ) → Of v r → Has v r
of_has v r h = ⊎_elim {C = Has v r} (λ e. inl (sym e)) (λ e. inr (sym e)) h

-- "A 32-byte head and 1 to 200 records of 256 bytes"
pub size_says : (l : List ℕ) → (sized l ≡ true) ↔ Sized l
unfolding slots
size_says l = (
  λ e.
      let (a, (b, c)) = (sized_says l).0 e in
      record { n = slots l; least = omega arith; most = omega arith; long = c },
  λ w.
      let least = w.least in
      let most = w.most in
      let long = w.long in
      (sized_says l).1 (omega arith, (omega arith, omega arith)),
)

module _ (l : List ℕ) where
  ledger_plain : TestedLedger l → SoundLedger l
  ledger_plain s =
      let w = s.within in
      record {
        sized = (size_says l).0 ((sized_says l).1 (s.least, (s.most, s.whole)));
        clock_below = s.clock_below;
        next_least = s.next_least;
        rest_zero = (zeros_say (head_rest l)).0 s.rest_zero;
        each = λ k h. record_plain (next_number l) (rec l k) (w.each k h);
        grants = w.grants;
        pool = λ i j h m n v z a b.
            w.pool i j h m n
            (record { v = v; nonzero = (nonzero_says v).1 z; left = has_of v (rec l i) a; right = has_of v (rec l j) b });
        own = λ k h z. w.own k h ((nonzero_says (value (rec l k))).1 z);
      }

  plain_ledger : SoundLedger l → TestedLedger l
  plain_ledger s =
      let (a, (b, c)) = (sized_says l).0 ((size_says l).1 s.sized) in
      record {
        least = a;
        most = b;
        whole = c;
        clock_below = s.clock_below;
        next_least = s.next_least;
        rest_zero = (zeros_say (head_rest l)).1 s.rest_zero;
        within = record {
          each = λ k h. plain_record (next_number l) (rec l k) (s.each k h);
          own = λ k h z. s.own k h ((nonzero_says (value (rec l k))).0 z);
          grants = s.grants;
          pool = λ i j h m n c. s.pool i j h m n c.v ((nonzero_says c.v).0 c.nonzero) (of_has c.v (rec l i) c.left) (of_has c.v (rec l j) c.right);
        };
      }

  pub ledger_says : (sound l ≡ true) ↔ SoundLedger l
  ledger_says = (λ e. ledger_plain (of_sound l e), λ s. to_sound l (plain_ledger s))
