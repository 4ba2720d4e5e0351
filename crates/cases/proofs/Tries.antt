-- What the desks are tried with: for each kind of call a run, and calls after it whose outcomes are computed.
use Prim.Native.Nat.{ℕ, ◌<◌, ◌≤◌, ◌^◌}
use mathlib.Core.Path.{◌≡◌, refl}
use mathlib.Core.Bool.{false}
use mathlib.Core.List.{List, [], ◌∷◌, ◌++◌}
use lib.Dec.{lit≤}
use lib.ListN.{length, replicate}
use Rattle.octets.specs.Lists.{tabulate}
use Rattle.octets.specs.Numbers.{num_from, num, digits}
use Rattle.octets.specs.Parts.{laid, put, blank, zeros, same}
use Rattle.forms.specs.Forms.{visible, url_safe, unreserved, redirect_formed, challenge_formed, verifier_formed}
use Rattle.forms.specs.Limits.{redirect_prefix}
use Rattle.sha256.specs.Constants.{K}
use Rattle.sha256.specs.Hash.{added, compress, hash_value, joined, sha256}
use Rattle.sha256.specs.Pad.{pad, blocks}
use Rattle.sha256.specs.Round.{T1, round, rounds}
use Rattle.sha256.specs.Schedule.{next, words, schedule}
use Rattle.sha256.specs.Word.{Σ0, Σ1, σ0, σ1}
use Rattle.texts.specs.Base64url.{letter, characters, base64url}
use Rattle.s256.specs.Rule.{matches}
use Rattle.clients.specs.Fields.{client, entries}
use Rattle.clients.specs.Lifetime.{lifetime_of}
use Rattle.clients.specs.Known.{has_id, has_key, place_of, is_known}
use Rattle.clients.specs.Sound.{length_right, id_given, ids_given, key_given, keys_given, same_id, ids_distinct, lifetime_fits, lifetimes_fit, rest_zero, rests_zero, sound as table_sound}
use Rattle.ledger.specs.Checks.{untimely, taken, is_free, is_with, is_reference, is_code, is_token}
use Rattle.ledger.specs.Fields.{rec, slots, records, stated}
use Rattle.ledger.specs.Sound.{sized, numbers_sound, bytes_sound, used_sound, no_token, some_token, record_sound, same_grant, holds, meets, own_apart, head_sound, sound}
use Rattle.ledger.specs.Write.{pushed, consented, redeemed, free}
use Rattle.desk.specs.Checks.{first, scope_fits}
use Rattle.desk.specs.Requests.{PushRequest}
use Rattle.desk.specs.Start.{empty_ledger}
use Rattle.desk.specs.Push.{push_checks, push_record, push_at, push as do_push}
use Rattle.desk.specs.Answers.{done}
use Rattle.desk.specs.Decide.{decide_checks, consent_record, consent_at, decline_at, decide_at, decide as do_decide}
use Rattle.desk.specs.Token.{token_checks, token_record, token_at, token as do_token}
use Rattle.desk.specs.Resource.{resource_checks, look, resource as do_resource}
use Rattle.desk.specs.Sweep.{sweep_checks, sweep as do_sweep}
use Rattle.ledger.specs.Sweep.{swept_record, swept_to, swept, due, freed_of, freed}
use Rattle.history.specs.Runs.{Call, push, decide, token, resource, sweep, TypedPush, step, number_in, started, last, Typed, AllTyped, grant_of}
use Rattle.cases.specs.Table.{shortest}
use Rattle.cases.specs.Desks.{Kind, pushes, decides, redeems, reads, sweeps, kind_of, before, output_in, counts_in}
use Rattle.history.specs.Example.{table, secret, text43, program, program_key, room, reads as reading}
use Rattle.history.proofs.Example.{array, typed_push, typed_decide, typed_token, typed_resource}
use Rattle.cases.proofs.Inputs.{asking, code, allowing, redeeming}

abbrev pub asks : Call
asks = push 1000 table (asking 4 text43 shortest)

abbrev pub run_of : Kind → List Call
run_of pushes = sweep 5 ∷ []
run_of decides = asks ∷ []
run_of redeems = asks ∷ decide 1010 (allowing code) room ∷ []
run_of reads = asks ∷ decide 1010 (allowing code) room ∷ token 1020 table (redeeming (secret 43)) ∷ []
run_of sweeps = asks ∷ []

abbrev pub call_at : ℕ → Kind → Call
call_at t pushes = push t table (asking 4 text43 shortest)
call_at t decides = decide t (allowing code) room
call_at t redeems = token t table (redeeming (secret 43))
call_at t reads = resource t reading
call_at t sweeps = sweep t

abbrev pub ledger_of : Kind → List ℕ
ledger_of k = last (started 2) (run_of k)

abbrev pub swept_first : List Call
swept_first = sweep 5 ∷ []

-- another push before the one that is looked at
abbrev pub other : PushRequest
other =
    record {
      client = program;
      key = program_key;
      scope = 4;
      challenge = text43;
      redirect = shortest;
      fresh = replicate 32 4;
    }

abbrev pub other_first : List Call
other_first = push 1000 table other ∷ []

pub record Computed : Type 0 where
  pub accepted : (k : Kind) → number_in (step (ledger_of k) (call_at 1030 k)).answer ≡ done
  pub changes : (k : Kind) → same (step (ledger_of k) (call_at 1030 k)).after (ledger_of k) ≡ false
  pub early : (k : Kind) → number_in (step (last (started 2) swept_first) (call_at 4 k)).answer ≡ 2
  -- a redirect goes out; a sweep after the push frees it, and after a sweep nothing; a push is the first or the second
  pub hands_out : same (output_in (step (ledger_of decides) (call_at 1030 decides)).answer) room ≡ false
  pub frees_none : (counts_in (step (last (started 2) swept_first) (sweep 2000)).answer).pushed ≡ 0
  pub frees_one : (counts_in (step (ledger_of sweeps) (sweep 2000)).answer).pushed ≡ 1
  pub first_number : grant_of (step (last (started 2) swept_first) (call_at 1030 pushes)).answer ≡ 1
  pub second_number : grant_of (step (last (started 2) other_first) (call_at 1030 pushes)).answer ≡ 2

pub computed : Computed
unfolding tabulate num_from num digits laid put blank zeros same visible url_safe unreserved redirect_formed challenge_formed verifier_formed redirect_prefix client entries has_id has_key place_of is_known lifetime_of length_right id_given ids_given key_given keys_given same_id ids_distinct lifetime_fits lifetimes_fit rest_zero rests_zero table_sound untimely taken is_free is_with is_reference is_code is_token rec slots records sized stated numbers_sound bytes_sound used_sound no_token some_token record_sound same_grant holds meets own_apart head_sound sound pushed consented redeemed free first scope_fits empty_ledger push_checks push_record push_at do_push decide_checks consent_record consent_at decline_at decide_at do_decide token_checks token_record token_at do_token resource_checks look do_resource step K added compress hash_value joined sha256 pad blocks T1 round rounds next words schedule Σ0 Σ1 σ0 σ1 letter characters base64url matches swept_record swept_to swept due freed_of freed sweep_checks do_sweep
computed =
    record {
      accepted = λ (k : Kind). elim k as (λ k. number_in (step (ledger_of k) (call_at 1030 k)).answer ≡ done) [ pushes ↦ refl | decides ↦ refl | redeems ↦ refl | reads ↦ refl | sweeps ↦ refl ];
      changes = λ (k : Kind). elim k as (λ k. same (step (ledger_of k) (call_at 1030 k)).after (ledger_of k) ≡ false) [ pushes ↦ refl | decides ↦ refl | redeems ↦ refl | reads ↦ refl | sweeps ↦ refl ];
      early = λ (k : Kind). elim k as (λ k. number_in (step (last (started 2) swept_first) (call_at 4 k)).answer ≡ 2) [ pushes ↦ refl | decides ↦ refl | redeems ↦ refl | reads ↦ refl | sweeps ↦ refl ];
      hands_out = refl;
      frees_none = refl;
      frees_one = refl;
      first_number = refl;
      second_number = refl;
    }

-- ---- what the types say of them

pub later : (k : Kind) → 1 ≤ length (run_of k)
later pushes = lit≤ tt
later decides = lit≤ tt
later redeems = lit≤ tt
later reads = lit≤ tt
later sweeps = lit≤ tt

pub soon : (k : Kind) → length (run_of k) ≤ before k
soon pushes = lit≤ tt
soon decides = lit≤ tt
soon redeems = lit≤ tt
soon reads = lit≤ tt
soon sweeps = lit≤ tt

pub one_before : (k : Kind) → 1 ≤ before k
one_before pushes = lit≤ tt
one_before decides = lit≤ tt
one_before redeems = lit≤ tt
one_before reads = lit≤ tt
one_before sweeps = lit≤ tt

pub of_kind : (t : ℕ) (k : Kind) → kind_of (call_at t k) ≡ k
of_kind t pushes = refl
of_kind t decides = refl
of_kind t redeems = refl
of_kind t reads = refl
of_kind t sweeps = refl

pub typed_call : (t : ℕ) → t < 2 ^ 64 → (k : Kind) → Typed (call_at t k)
typed_call t h pushes = typed_push t h
typed_call t h decides = typed_decide t h
typed_call t h redeems = typed_token t h
typed_call t h reads = typed_resource t h
typed_call t h sweeps = h

pub typed_run : (k : Kind) → AllTyped (run_of k ++ (call_at 1030 k ∷ []))
typed_run pushes = (lit≤ tt, (typed_call 1030 (lit≤ tt) pushes, tt))
typed_run decides = (typed_push 1000 (lit≤ tt), (typed_call 1030 (lit≤ tt) decides, tt))
typed_run redeems = (typed_push 1000 (lit≤ tt), (typed_decide 1010 (lit≤ tt), (typed_call 1030 (lit≤ tt) redeems, tt)))
typed_run reads =
    (typed_push 1000 (lit≤ tt), (typed_decide 1010 (lit≤ tt), (typed_token 1020 (lit≤ tt), (typed_call 1030 (lit≤ tt) reads, tt))))
typed_run sweeps = (typed_push 1000 (lit≤ tt), (lit≤ tt, tt))

pub typed_other : TypedPush 1000 table other
typed_other =
    let y = typed_push 1000 (lit≤ tt) in
    record {
      now = y.now;
      clients = y.clients;
      client = y.client;
      key = y.key;
      scope = y.scope;
      challenge = y.challenge;
      redirect = y.redirect;
      fresh = array 32 (replicate 32 4) refl refl;
    }
