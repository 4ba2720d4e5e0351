-- The example runs: what the types say of their inputs, and their events, computed.
use Prim.Native.Nat.{ℕ, zero, suc, ◌<◌, ◌^◌}
use native.Mathlib.Omega.{arith}
use mathlib.Core.Path.{◌≡◌, refl}
use mathlib.Core.Bool.{Bool, true}
use mathlib.Core.List.{List, [], ◌∷◌}
use lib.Dec.{ltb, lit≤}
use lib.ListN.{length, replicate}
use borrow.Author.Tests.{ltb-true}
use Rattle.octets.specs.Plain.{Bytes, Array}
use Rattle.octets.specs.Lists.{every, tabulate}
use Rattle.octets.specs.Numbers.{num_from, num, digits}
use Rattle.octets.proofs.Tests.{both}
use Rattle.octets.specs.Parts.{laid, put, blank, zeros, same}
use Rattle.forms.specs.Forms.{visible, url_safe, unreserved, redirect_formed, challenge_formed, verifier_formed}
use Rattle.forms.specs.Limits.{redirect_prefix}
use Rattle.sha256.specs.Constants.{K}
use Rattle.sha256.specs.Hash.{added, compress, hash_value, joined, sha256}
use Rattle.sha256.specs.Pad.{pad, blocks}
use Rattle.sha256.specs.Round.{T1, round, rounds}
use Rattle.sha256.specs.Schedule.{next, words, schedule}
use Rattle.sha256.specs.Word.{Σ0, Σ1, σ0, σ1}
use Rattle.texts.specs.Base64url.{letter, characters, base64url}
use Rattle.s256.specs.Rule.{matches}
use Rattle.clients.specs.Fields.{client, entries}
use Rattle.clients.specs.Lifetime.{lifetime_of}
use Rattle.clients.specs.Known.{has_id, has_key, place_of, is_known}
use Rattle.clients.specs.Sound.{length_right, id_given, ids_given, key_given, keys_given, same_id, ids_distinct, lifetime_fits, lifetimes_fit, rest_zero, rests_zero, sound as table_sound}
use Rattle.ledger.specs.Checks.{untimely, taken, is_free, is_with, is_reference, is_code, is_token}
use Rattle.ledger.specs.Fields.{rec, slots, records, stated}
use Rattle.ledger.specs.Sound.{sized, numbers_sound, bytes_sound, used_sound, no_token, some_token, record_sound, same_grant, holds, meets, own_apart, head_sound, sound}
use Rattle.ledger.specs.Sweep.{swept_record, swept_to, swept, due, freed_of, freed}
use Rattle.ledger.specs.Write.{pushed, consented, redeemed, free}
use Rattle.desk.specs.Checks.{first, scope_fits}
use Rattle.desk.specs.Start.{empty_ledger}
use Rattle.desk.specs.Push.{push_checks, push_record, push_at, push as do_push}
use Rattle.desk.specs.Decide.{decide_checks, consent_record, consent_at, decline_at, decide_at, decide as do_decide}
use Rattle.desk.specs.Token.{token_checks, token_record, token_at, token as do_token}
use Rattle.desk.specs.Resource.{resource_checks, look, resource as do_resource}
use Rattle.desk.specs.Sweep.{sweep_checks, sweep as do_sweep}
use Rattle.history.specs.Runs.{push, decide, token, TypedPush, TypedDecide, TypedToken, TypedResource, step}
use Rattle.history.specs.Events.{Push, Consent, Token, SecondUse, event, listed}
use Rattle.history.specs.Example.{program, program_key, table, secret, text43, target, room, asks, allows, declines, redeems, reads, Example}

-- ---- what the types say, for any time

-- every byte of a list that can be computed
abbrev pub is_byte : ℕ → Bool
is_byte x = ltb x 256

pub bytes_of : (xs : List ℕ) → every is_byte xs ≡ true → Bytes xs
bytes_of [] e i = omega arith
bytes_of (x ∷ xs) e zero = ltb-true x 256 (both (is_byte x) _ e).0
bytes_of (x ∷ xs) e (suc i) = bytes_of xs (both (is_byte x) _ e).1 i

pub array : (n : ℕ) (xs : List ℕ) → length xs ≡ n → every is_byte xs ≡ true → Array n xs
array n xs l b = record { long = l; bytes = bytes_of xs b }

pub typed_push : (t : ℕ) → t < 2 ^ 64 → TypedPush t table asks
typed_push t h =
    record {
      now = h;
      clients = bytes_of table refl;
      client = array 16 program refl refl;
      key = array 32 program_key refl refl;
      scope = lit≤ tt;
      challenge = bytes_of text43 refl;
      redirect = bytes_of target refl;
      fresh = array 32 (replicate 32 5) refl refl;
    }

pub typed_decide : (t : ℕ) → t < 2 ^ 64 → TypedDecide t allows room
typed_decide t h =
    record {
      now = h;
      reference = array 32 (replicate 32 5) refl refl;
      client = array 16 program refl refl;
      holder = lit≤ tt;
      fresh = array 32 (replicate 32 6) refl refl;
      output = bytes_of room refl;
    }

typed_decline : (t : ℕ) → t < 2 ^ 64 → TypedDecide t declines room
typed_decline t h =
    let y = typed_decide t h in
    record { now = h; reference = y.reference; client = y.client; holder = y.holder; fresh = y.fresh; output = y.output }

pub typed_token : (t : ℕ) → t < 2 ^ 64 → TypedToken t table redeems
typed_token t h =
    record {
      now = h;
      clients = bytes_of table refl;
      client = array 16 program refl refl;
      key = array 32 program_key refl refl;
      presented = array 32 (replicate 32 7) refl refl;
      code = array 32 (replicate 32 6) refl refl;
      verifier = bytes_of (secret 43) refl;
      fresh = array 32 (replicate 32 8) refl refl;
    }

pub typed_resource : (t : ℕ) → t < 2 ^ 64 → TypedResource t reads
typed_resource t h =
    record {
      now = h;
      token = array 32 (replicate 32 8) refl refl;
      presented = array 32 (replicate 32 7) refl refl;
      scope = lit≤ tt;
      holder = lit≤ tt;
    }

-- ---- the runs

pub example : Example
unfolding tabulate num_from num digits laid put blank zeros same visible url_safe unreserved redirect_formed challenge_formed verifier_formed redirect_prefix K added compress hash_value joined sha256 pad blocks T1 round rounds next words schedule Σ0 Σ1 σ0 σ1 letter characters base64url matches client entries has_id has_key place_of is_known lifetime_of length_right id_given ids_given key_given keys_given same_id ids_distinct lifetime_fits lifetimes_fit rest_zero rests_zero table_sound untimely taken is_free is_with is_reference is_code is_token rec slots records sized numbers_sound bytes_sound used_sound no_token some_token stated record_sound same_grant holds meets own_apart head_sound sound swept_record swept_to swept due freed_of freed pushed consented redeemed free first scope_fits empty_ledger push_checks push_record push_at do_push decide_checks consent_record consent_at decline_at decide_at do_decide token_checks token_record token_at do_token resource_checks look do_resource sweep_checks do_sweep step listed
example =
    record {
      opening_typed = (
        typed_push 100 (lit≤ tt),
        (typed_decide 110 (lit≤ tt), (typed_token 120 (lit≤ tt), (typed_resource 130 (lit≤ tt), (typed_token 140 (lit≤ tt), (typed_resource 150 (lit≤ tt), tt))))),
      );
      opening_events = refl;
      granted = record {
        before = event Push program 0 1 (push 100 table asks)
            ∷ event Consent program 9 1 (decide 110 allows room)
            ∷ event Token program 9 1 (token 120 table redeems)
            ∷ [];
        client = program;
        holder = 9;
        grant = 1;
        time = 130;
        request = reads;
        after = event SecondUse program 9 1 (token 140 table redeems) ∷ [];
        whole = refl;
      };
      its_history = refl;
      opened = (refl, refl);
      opened_rest = (refl, refl);
      dropping_typed = (typed_push 100 (lit≤ tt), (typed_decide 110 (lit≤ tt), (lit≤ tt, tt)));
      dropping_events = refl;
      dropped_one = (refl, refl);
      dropped_rest = (refl, refl);
      declining_typed = (typed_push 100 (lit≤ tt), (typed_decline 110 (lit≤ tt), tt));
      declining_events = refl;
      declined_history = refl;
      declined_none = refl;
    }
