-- Every row of the table is met by an input.
use Prim.Native.Nat.{ℕ, ◌-◌, ◌^◌}
use native.Mathlib.Omega.{arith}
use mathlib.Core.Path.{◌≡◌, refl}
use mathlib.Core.Bool.{true}
use mathlib.Core.List.{List}
use lib.Dec.{lit≤}
use lib.ListN.{length, replicate}
use Rattle.octets.specs.Plain.{Bytes}
use Rattle.octets.specs.Lists.{every, tabulate}
use Rattle.octets.specs.Numbers.{num_from, num, digits}
use Rattle.octets.specs.Parts.{laid, put, blank, zeros, same}
use Rattle.forms.specs.Forms.{visible, url_safe, unreserved, redirect_formed, challenge_formed, verifier_formed}
use Rattle.forms.specs.Limits.{redirect_prefix}
use Rattle.sha256.specs.Constants.{K}
use Rattle.sha256.specs.Hash.{added, compress, hash_value, joined, sha256}
use Rattle.sha256.specs.Pad.{pad, blocks}
use Rattle.sha256.specs.Round.{T1, round, rounds}
use Rattle.sha256.specs.Schedule.{next, words, schedule}
use Rattle.sha256.specs.Word.{Σ0, Σ1, σ0, σ1}
use Rattle.texts.specs.Base64url.{letter, characters, base64url}
use Rattle.s256.specs.Rule.{matches}
use Rattle.clients.specs.Fields.{permitted, lifetime_said, client, entries}
use Rattle.clients.specs.Lifetime.{lifetime_of}
use Rattle.clients.specs.Known.{has_id, has_key, place_of, is_known}
use Rattle.clients.specs.Sound.{length_right, id_given, ids_given, key_given, keys_given, same_id, ids_distinct, lifetime_fits, lifetimes_fit, rest_zero, rests_zero, sound as table_sound}
use Rattle.ledger.specs.Checks.{untimely, taken, is_free, is_with, is_reference, is_code, is_token}
use Rattle.ledger.specs.Fields.{rec, slots, records, stated}
use Rattle.ledger.specs.Sound.{sized, numbers_sound, bytes_sound, used_sound, no_token, some_token, record_sound, same_grant, holds, meets, own_apart, head_sound, sound}
use Rattle.ledger.specs.Write.{pushed, consented, redeemed, free}
use Rattle.desk.specs.Checks.{first, scope_fits}
use Rattle.desk.specs.Start.{empty_ledger}
use Rattle.desk.specs.Push.{client_record, push_checks, push_record, push_at, push as do_push}
use Rattle.desk.specs.declared.answer.Refusal.TheVariants.{IllFormed, ScopeRefused, FreshTaken, RecordExpired}
use Rattle.desk.specs.Answers.{done}
use Rattle.octets.proofs.Parts.{length_blank}
use Rattle.desk.specs.Decide.{decide_checks, consent_record, consent_at, decline_at, decide_at, decide as do_decide}
use Rattle.desk.specs.Token.{token_checks, token_record, token_at, token as do_token}
use Rattle.desk.specs.Resource.{resource_checks, look, resource as do_resource}
use Rattle.history.specs.Runs.{Call, push, decide, token, resource, sweep, step, number_in, started}
use Rattle.cases.specs.Order.{else_in_order}
use Rattle.history.proofs.Steps.{checks_of}
use Rattle.cases.specs.Cases.{Input, InOrder, DecideAfter, TokenAfter, ResourceAfter, PushScope, SweepFresh, TokenVerifier, PushRedirect, DecideFresh}
use Rattle.cases.specs.Table.{shortest, too_short, not_secure, rows, Row, Met, Each}
use Rattle.cases.proofs.Holding.{◌and◌}
use Rattle.history.specs.Example.{room, table, secret, text43, reads}
use Rattle.history.proofs.Example.{is_byte, bytes_of, typed_push, typed_decide, typed_token}
use Rattle.cases.proofs.Inputs.{text42, text129, kiosk, asking, allowing, code, redeeming}
use Rattle.ledger_laws.proofs.Ranges.{octets_started}

-- ---- the ledgers of a grant on one record: a push, a consent of it and a token of that

abbrev pushed_at : ℕ → List ℕ → List ℕ
pushed_at t text = (step (started 1) (push t table (asking 4 text shortest))).after

abbrev consented_at : ℕ → List ℕ → List ℕ
consented_at t text = (step (pushed_at 990 text) (decide t (allowing code) room)).after

abbrev redeemed_at : ℕ → List ℕ
redeemed_at t = (step (consented_at 1000 text43) (token t table (redeeming (secret 43)))).after

-- ---- P4 to P6: two calls, the first accepted

bytes_started : Bytes (started 1)
unfolding empty_ledger
bytes_started = octets_started 288

-- a push at 1,000 with this table, and decide of it
module _ (said : ℕ) (clients : List ℕ) where
  abbrev pushing : Call
  pushing = push 1000 clients (asking 4 text43 shortest)

  abbrev asked_of : List ℕ
  asked_of = (step (started 1) pushing).after

  decide_met : (t : ℕ) → every is_byte clients ≡ true → lifetime_said (client_record clients (asking 4 text43 shortest)) ≡ said
      → number_in (step (started 1) pushing).answer ≡ done
      → else_in_order RecordExpired (checks_of asked_of (decide t (allowing code) room)) ≡ true
      → DecideAfter said 1000 t asked_of (decide t (allowing code) room)
  decide_met t bytes says a e =
      let y = typed_push 1000 (lit≤ tt) in
      record {
        before = started 1;
        table = clients;
        asked = asking 4 text43 shortest;
        lifetime_is = says;
        bytes = bytes_started;
        typed = record {
          now = y.now;
          clients = bytes_of clients bytes;
          client = y.client;
          key = y.key;
          scope = y.scope;
          challenge = y.challenge;
          redirect = y.redirect;
          fresh = y.fresh;
        };
        accepted = a;
        leaves = refl;
        request = allowing code;
        output = room;
        is = refl;
        same_reference = refl;
        same_client = refl;
        in_order = e;
      }

token_met : (t : ℕ) → number_in (step (pushed_at 990 text43) (decide 1000 (allowing code) room)).answer ≡ done
    → else_in_order RecordExpired (checks_of (consented_at 1000 text43) (token t table (redeeming (secret 43)))) ≡ true
    → TokenAfter 1000 t (consented_at 1000 text43) (token t table (redeeming (secret 43)))
token_met t a e =
    record {
      before = pushed_at 990 text43;
      allowed = allowing code;
      output = room;
      typed = typed_decide 1000 (lit≤ tt);
      yes = refl;
      accepted = a;
      leaves = refl;
      table = table;
      request = redeeming (secret 43);
      is = refl;
      same_code = refl;
      same_client = refl;
      in_order = e;
    }

resource_met : (t : ℕ) → number_in (step (consented_at 1000 text43) (token 1059 table (redeeming (secret 43)))).answer ≡ done
    → else_in_order RecordExpired (checks_of (redeemed_at 1059) (resource t reads)) ≡ true
    → ResourceAfter 1059 t (redeemed_at 1059) (resource t reads)
resource_met t a e =
    record {
      before = consented_at 1000 text43;
      table = table;
      redeemed = redeeming (secret 43);
      typed = typed_token 1059 (lit≤ tt);
      accepted = a;
      leaves = refl;
      request = reads;
      is = refl;
      same_token = refl;
      in_order = e;
    }

-- ---- P7 to P11: one call

scope_met : (bits : ℕ) → permitted (client_record table (asking bits text43 shortest)) ≡ 5
    → else_in_order ScopeRefused (checks_of (started 1) (push 1000 table (asking bits text43 shortest))) ≡ true
    → PushScope 5 bits (started 1) (push 1000 table (asking bits text43 shortest))
scope_met bits p e =
    record {
      time = 1000;
      table = table;
      request = asking bits text43 shortest;
      is = refl;
      permitted_are = p;
      asked_are = refl;
      in_order = e;
    }

sweep_met : (t : ℕ) → SweepFresh t (started 1) (sweep t)
sweep_met t = record { slots = 1; least = lit≤ tt; most = lit≤ tt; leaves = refl; is = refl }

verifier_met : (n : ℕ) (text : List ℕ) → length (secret n) ≡ n
    → else_in_order IllFormed (checks_of (consented_at 1000 text) (token 1001 table (redeeming (secret n)))) ≡ true
    → TokenVerifier n (consented_at 1000 text) (token 1001 table (redeeming (secret n)))
verifier_met n text l e =
    record {
      time = 1001;
      table = table;
      request = redeeming (secret n);
      is = refl;
      long = l;
      in_order = e;
    }

redirect_met : (target : List ℕ) → challenge_formed text43 ≡ true → else_in_order IllFormed (checks_of (started 1) (push 1000 table (asking 4 text43 target))) ≡ true
    → PushRedirect target (started 1) (push 1000 table (asking 4 text43 target))
redirect_met target c e =
    record {
      time = 1000;
      table = table;
      request = asking 4 text43 target;
      is = refl;
      redirect_is = refl;
      challenge_well = c;
      in_order = e;
    }

fresh_met : else_in_order FreshTaken (checks_of (pushed_at 1000 text43) (decide 1001 (allowing (replicate 32 5)) room)) ≡ true
    → DecideFresh (pushed_at 1000 text43) (decide 1001 (allowing (replicate 32 5)) room)
fresh_met e =
    record {
      time = 1001;
      request = allowing (replicate 32 5);
      output = room;
      is = refl;
      yes = refl;
      fresh_is = refl;
      in_order = e;
    }

-- ---- the rows: what each asks of its input is computed

abbrev met : {r : Row} (x : Input r.varied) → InOrder r.varied x → Met r
met x o = record { input = x; in_order = o }

pub every_row_is_met : Each Met rows
unfolding tabulate num_from num digits laid put blank zeros same visible url_safe unreserved redirect_formed challenge_formed verifier_formed redirect_prefix client entries has_id has_key place_of is_known lifetime_of length_right id_given ids_given key_given keys_given same_id ids_distinct lifetime_fits lifetimes_fit rest_zero rests_zero table_sound untimely taken is_free is_with is_reference is_code is_token rec slots records sized stated numbers_sound bytes_sound used_sound no_token some_token record_sound same_grant holds meets own_apart head_sound sound pushed consented redeemed free first scope_fits empty_ledger push_checks push_record push_at do_push decide_checks consent_record consent_at decline_at decide_at do_decide token_checks token_record token_at do_token resource_checks look do_resource step else_in_order K added compress hash_value joined sha256 pad blocks T1 round rounds next words schedule Σ0 Σ1 σ0 σ1 letter characters base64url matches
every_row_is_met =
    met (replicate 288 7) refl
    and met (replicate 288 7) refl
    and met (replicate 288 7, 0) (refl, (lit≤ tt, λ e. omega arith))
    and met (replicate 287 7) refl
    and met (blank 51232) (length_blank 51232)
    and met (blank 51488) (length_blank 51488)
    and met (asked_of 599 kiosk, decide 1598 (allowing code) room) (decide_met 599 kiosk 1598 refl refl refl refl)
    and met (asked_of 599 kiosk, decide 1599 (allowing code) room) (decide_met 599 kiosk 1599 refl refl refl refl)
    and met (asked_of 0 table, decide 1089 (allowing code) room) (decide_met 0 table 1089 refl refl refl refl)
    and met (asked_of 0 table, decide 1090 (allowing code) room) (decide_met 0 table 1090 refl refl refl refl)
    and met (consented_at 1000 text43, token 1059 table (redeeming (secret 43))) (token_met 1059 refl refl)
    and met (consented_at 1000 text43, token 1060 table (redeeming (secret 43))) (token_met 1060 refl refl)
    and met (redeemed_at 1059, resource 1358 reads) (resource_met 1358 refl refl)
    and met (redeemed_at 1059, resource 1359 reads) (resource_met 1359 refl refl)
    and met (started 1, push 1000 table (asking 4 text43 shortest)) (scope_met 4 refl refl)
    and met (started 1, push 1000 table (asking 2 text43 shortest)) (scope_met 2 refl refl)
    and met (started 1, push 1000 table (asking 0 text43 shortest)) (scope_met 0 refl refl)
    and met (started 1, sweep (2 ^ 40 - 1)) (sweep_met (2 ^ 40 - 1))
    and met (started 1, sweep (2 ^ 40)) (sweep_met (2 ^ 40))
    and met (consented_at 1000 text42, token 1001 table (redeeming (secret 42))) (verifier_met 42 text42 refl refl)
    and met (secret 43) (refl, refl)
    and met (secret 128) (refl, refl)
    and met (consented_at 1000 text129, token 1001 table (redeeming (secret 129))) (verifier_met 129 text129 refl refl)
    and met (started 1, push 1000 table (asking 4 text43 shortest)) (redirect_met shortest refl refl)
    and met (started 1, push 1000 table (asking 4 text43 too_short)) (redirect_met too_short refl refl)
    and met (started 1, push 1000 table (asking 4 text43 not_secure)) (redirect_met not_secure refl refl)
    and met (pushed_at 1000 text43, decide 1001 (allowing (replicate 32 5)) room) (fresh_met refl)
    and met (secret 55) refl
    and met (secret 56) refl
    and met (secret 119) refl
    and met (secret 120) refl
    and tt
