-- What the calls ask of a ledger: the checks that they share, each by the enum that its function answers.
use Rattle.std.specs.Prelude.{ℕ, Bool, cond, ◌&&◌, ◌||◌, List, nat_le, nat_lt, Option, Some, None}
use Rattle.octets.specs.Lists.{some, place}
use Rattle.octets.specs.Parts.{zeros, same}
use Rattle.ledger.specs.Limits.{clock_limit}
use Rattle.ledger.specs.Fields.{clock, records, in_state, client, value, token, expiry}
use Rattle.ledger.specs.Sound.{sized, sound, holds}
use Rattle.ledger.specs.declared.state.State.TheVariants.{Free, Pushed, Consented, Redeemed}
use Rattle.ledger.specs.declared.sound.Soundness.{Soundness}
use Rattle.ledger.specs.declared.sound.Soundness.TheVariants.{Sound, Unsound}
use Rattle.ledger.specs.declared.sound.Size.{Size}
use Rattle.ledger.specs.declared.sound.Size.TheVariants.{Right, Wrong}
use Rattle.ledger.specs.declared.clock.Timing.{Timing}
use Rattle.ledger.specs.declared.clock.Timing.TheVariants.{Timely, Untimely}
use Rattle.ledger.specs.declared.pool.Value.{Value}
use Rattle.ledger.specs.declared.pool.Value.TheVariants.{New, Taken}
use Rattle.ledger.specs.declared.record.Life.{Life}
use Rattle.ledger.specs.declared.record.Life.TheVariants.{Alive, Expired}

-- 1, at start: "1 if the length is wrong"
unfoldable pub check_size : List ℕ → Size
check_size l = cond (sized l) Right Wrong

-- 1: "ledger length wrong or ledger not sound"
unfoldable pub check_sound : List ℕ → Soundness
check_sound l = cond (sound l) Sound Unsound

-- 2: "now is below the clock, or 2^40 or more"
unfoldable pub untimely : List ℕ → ℕ → Bool
untimely l t = nat_lt t (clock l) || nat_le clock_limit t

unfoldable pub check_time : List ℕ → ℕ → Timing
check_time l t = cond (untimely l t) Untimely Timely

-- 7: "fresh value all zeros, or in the pool"
unfoldable pub taken : List ℕ → List ℕ → Bool
taken l v = zeros v || some (holds v) (records l)

unfoldable pub check_value : List ℕ → List ℕ → Value
check_value l v = cond (taken l v) Taken New

-- 11: "A record is expired when now is at or past its expiry."
abbrev pub expired : ℕ → List ℕ → Bool
expired t r = nat_le (expiry r) t

unfoldable pub check_life : List ℕ → ℕ → Life
check_life r t = cond (expired t r) Expired Alive

-- the first record, in ledger order, that passes a test
unfoldable pub found : (List ℕ → Bool) → List ℕ → Option ℕ
found q l = cond (some q (records l)) (Some (place q (records l))) None

-- 8: "no free record"
unfoldable pub is_free : List ℕ → Bool
is_free r = in_state Free r

-- "with this .. and client id"
unfoldable pub is_with : List ℕ → List ℕ → List ℕ → Bool
is_with v c r = same (value r) v && same (client r) c

-- 10: "no record in state 1 with this reference and client id"
unfoldable pub is_reference : List ℕ → List ℕ → List ℕ → Bool
is_reference v c r = in_state Pushed r && is_with v c r

-- 14: "no record in state 2 or 3 with this code and client id"
unfoldable pub is_code : List ℕ → List ℕ → List ℕ → Bool
is_code v c r = (in_state Consented r || in_state Redeemed r) && is_with v c r

-- 17: "no record in state 3 with this token"
unfoldable pub is_token : List ℕ → List ℕ → Bool
is_token v r = in_state Redeemed r && same (token r) v
