-- A live text and a granted resource call say the same record.
use Prim.Native.Nat.{ℕ, ◌≤◌}
use native.Mathlib.Omega.{arith}
use mathlib.Core.Path.{◌≡◌, refl, sym, ap, ◌∙◌}
use mathlib.Core.Bool.{Bool, true, false, not, cond}
use mathlib.Core.List.{List}
use lib.Bits.{and_self}
use lib.Dec.{lit≤}
use lib.ListN.{length, take, drop, length-drop}
use lib.Seq.{take-append_seam}
use borrow.Author.Tests.{ltb-false, eqb-true}
use Rattle.octets.specs.Lists.{some}
use Rattle.octets.specs.Parts.{put}
use Rattle.octets.specs.Plain.{Bytes}
use Rattle.octets.proofs.Numbers.{num_lt}
use Rattle.octets.proofs.Bytes.{octets_drop, octets_part}
use Rattle.octets.proofs.Tests.{both_true}
use Rattle.octets.proofs.Parts.{put_splice, same_eq, part_length}
use Rattle.description.specs.Description.{Description, live_text, inactive_text}
use Rattle.description.specs.Apart.{Described, live_most}
use Rattle.description.proofs.Apart.{apart, never_inactive}
use Rattle.description.proofs.Lengths.{longest}
use Rattle.ledger.specs.Fields.{records, holder, bound_key}
use Rattle.ledger.specs.Checks.{is_token, expired}
use Rattle.ledger.proofs.Records.{rec_length}
use Rattle.ledger_laws.specs.Sound.{SoundLedger}
use Rattle.ledger_laws.proofs.Plain.{ledger_says}
use Rattle.ledger_laws.proofs.Ranges.{octets_rec}
use Rattle.desk.specs.Answers.{done}
use Rattle.desk.specs.Outcome.{Outcome}
use Rattle.desk.specs.Requests.{ResourceRequest}
use Rattle.desk.specs.Introspect.{describes, shown, is_live, text_for, introspect_with, introspect}
use Rattle.desk.specs.Resource.{resource}
use Rattle.desk.specs.declared.answer.Answer.{Answer}
use Rattle.desk.specs.declared.answer.Introspected.{Introspected}
use Rattle.desk.proofs.Turns.{number_refused}
use Rattle.call_laws.specs.Accepted.{ResourceAccepted}
use Rattle.call_laws.specs.Live.{text_in, own_request, GrantedAs, LiveFor, LiveExactly, AlwaysFits}
use Rattle.call_laws.proofs.Rows.{resource_cases, resource_passed, introspect_cases, introspect_passed}
use Rattle.call_laws.proofs.Facts.{ResourceFacts, resource_facts, IntrospectFacts, introspect_facts}
use Rattle.call_laws.proofs.Readings.{time_says, live_at, text_by, text_so}
use Rattle.call_laws.proofs.Accepting.{resource_accepted, introspect_accepted}

-- ---- what is written is the text

front_is : (out text : List ℕ) → length text ≤ length out → take (length text) (put out 0 text) ≡ text
front_is out text h =
    ap (take (length text)) (put_splice out 0 text (omega (arith, h))) ∙ take-append_seam text (drop (length text) out)

module _ (l : List ℕ) (t : ℕ) (v out : List ℕ) where
  pub text_written : (introspect l t v out).answer.number ≡ done → text_in (introspect l t v out) ≡ text_for l t v
  unfolding introspect_with
  text_written =
      introspect_cases l t v out (λ (o : Outcome Introspected). o.answer.number ≡ done → text_in o ≡ text_for l t v) (λ why u e. absurd (number_refused why e))
      (λ ok e. front_is out (text_for l t v) (ltb-false (length out) (length (text_for l t v)) (introspect_facts l t v out ok).output_long))

-- ---- resource on that token

module _ (l : List ℕ) (t : ℕ) (v : List ℕ) where
  abbrev own : Description
  own = describes (shown l v)

  -- a live token is granted with what its record says
  own_accepted : (out : List ℕ) → IntrospectFacts l t v out → is_live l t v ≡ true → ResourceAccepted l t (own_request v own)
  own_accepted out f e =
      let (x, h) = live_at l t v e in
      let s = (ledger_says l).0 f.ledger_sound in
      let state = x.state_is in
      let u = (s.each _ x.inside).when_used (λ z. omega arith) in
      record {
        ledger_sound = s;
        in_time = (time_says l t).0 f.in_time;
        k = _;
        issued = x;
        alive = h;
        key_is = refl;
        scope_granted = record { nonzero = u.scope_set; within_bits = and_self own.scope };
        holder_is = refl;
      }

  granted_as : (q : ResourceRequest) → q.token ≡ v → (resource l t q).answer.number ≡ done → GrantedAs own (resource l t q).answer
  granted_as q same_token =
      resource_cases l t q (λ (o : Outcome Answer). o.answer.number ≡ done → GrantedAs own o.answer) (λ why u e. absurd (number_refused why e))
      (λ ok e. rw (← same_token) (record { number_is = refl; holder_is = refl; scope_is = refl; expiry_is = refl }))

  pub own_granted : (out : List ℕ) → (introspect l t v out).answer.number ≡ done → is_live l t v ≡ true
      → GrantedAs own (resource l t (own_request v own)).answer
  own_granted out ok e =
      granted_as (own_request v own) refl
      ((resource_accepted l t (own_request v own)).1 (own_accepted out (introspect_facts l t v out ((introspect_passed l t v out).0 ok)) e))

-- a token that resource grants is live, and the record has the key and the holder asked with
module _ (l : List ℕ) (t : ℕ) (q : ResourceRequest) (ok : (resource l t q).answer.number ≡ done) where
  granted_facts : ResourceFacts l t q
  granted_facts = resource_facts l t q ((resource_passed l t q).0 ok)

  pub granted_live : is_live l t q.token ≡ true
  unfolding is_live
  granted_live =
      both_true (some (is_token q.token) (records l)) (not (expired t (shown l q.token))) granted_facts.there (ap not granted_facts.alive)

  pub granted_key : (own l t q.token).key ≡ q.presented
  granted_key = same_eq (bound_key (shown l q.token)) q.presented granted_facts.key_bound

  pub granted_holder : (own l t q.token).holder ≡ q.holder
  granted_holder = eqb-true (holder (shown l q.token)) q.holder granted_facts.held

-- ---- in a ledger of bytes a record is described by bytes

own_described : (l : List ℕ) (t : ℕ) (v : List ℕ) → Bytes l → is_live l t v ≡ true → Described (own l t v)
own_described l t v b e =
    let (x, h) = live_at l t v e in
    let o = octets_rec l _ b in
    let n = rec_length l _ x.inside in
    record {
      client = octets_part (shown l v) 32 16 o;
      scope = num_lt (drop 4 (shown l v)) 4 (octets_drop 4 (shown l v) o) (simp length-drop (omega arith));
      key = octets_part (shown l v) 160 32 o;
    }

-- a granted resource call: the text is live
granted_text : (l : List ℕ) (t : ℕ) (q : ResourceRequest) (out : List ℕ) → (introspect l t q.token out).answer.number ≡ done
    → (resource l t q).answer.number ≡ done → LiveFor q (resource l t q).answer (text_in (introspect l t q.token out))
granted_text l t q out ok granted =
    record {
      own = own l t q.token;
      text_is = text_written l t q.token out ok ∙ text_by l t q.token true (granted_live l t q granted);
      key_is = granted_key l t q granted;
      holder_is = granted_holder l t q granted;
      granted = granted_as l t q.token q refl granted;
    }

-- ---- a live text is of a live token, and of its record alone

module _ (l : List ℕ) (t : ℕ) (v out : List ℕ) (d : Description) (b : Bytes l) (y : Described d) (ok : (introspect l t v out).answer.number ≡ done)
    (e : text_in (introspect l t v out) ≡ live_text d) where
  text_is : text_for l t v ≡ live_text d
  text_is = sym (text_written l t v out ok) ∙ e

  pub described_live : is_live l t v ≡ true
  described_live = go (is_live l t v) refl
    where
      go : (a : Bool) → is_live l t v ≡ a → is_live l t v ≡ true
      go true f = f
      go false f = absurd (never_inactive d (sym text_is ∙ text_by l t v false f))

  pub described_own : d ≡ own l t v
  described_own = apart d (own l t v) y (own_described l t v b described_live) (sym text_is ∙ text_by l t v true described_live)

  live_resource : GrantedAs d (resource l t (own_request v d)).answer
  live_resource = rw described_own (own_granted l t v out ok described_live)

pub live_exactly : LiveExactly
live_exactly = record { live_granted = live_resource; granted_live = granted_text }

-- ---- how long a text can be

module _ (l : List ℕ) (t : ℕ) (v : List ℕ) (b : Bytes l) (s : SoundLedger l) where
  own_fits : is_live l t v ≡ true → length (live_text (own l t v)) ≤ live_most
  own_fits e =
      let (x, h) = live_at l t v e in
      let r = shown l v in
      let o = octets_rec l _ b in
      let n = rec_length l _ x.inside in
      let state = x.state_is in
      let u = (s.each _ x.inside).when_used (λ z. omega arith) in
      let until = u.expiry_most in
      longest.sound (own l t v)
      (record {
        client = part_length r 32 16 (omega (arith, n));
        holder = num_lt (drop 24 r) 8 (octets_drop 24 r o) (simp length-drop (omega (arith, n)));
        expiry = omega arith;
        key = part_length r 160 32 (omega (arith, n));
      })
      (omega arith)

  text_fits : length (text_for l t v) ≤ live_most
  unfolding text_for inactive_text
  text_fits = go (is_live l t v) refl
    where
      go : (c : Bool) → is_live l t v ≡ c → length (cond c (live_text (describes (shown l v))) inactive_text) ≤ live_most
      go true e = own_fits e
      go false e = lit≤ tt

pub always_fits : AlwaysFits
always_fits =
    record {
      text_most = text_fits;
      roomy = λ l t v out b s i h.
          (introspect_accepted l t v out).1
          (record {
            ledger_sound = s;
            in_time = i;
            text = text_for l t v;
            text_is = text_so l t v ((ledger_says l).1 s);
            output_room = omega (arith, text_fits l t v b s, h);
          });
    }
