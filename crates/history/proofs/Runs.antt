-- The ledgers of a run stay sound, and bytes; what every step keeps of ledger and events, every run keeps.
use Prim.Native.Nat.{ℕ, ◌+◌, ◌*◌, ◌≤◌}
use mathlib.Core.Path.{◌≡◌}
use mathlib.Core.Bool.{true}
use mathlib.Core.List.{List, [], ◌∷◌, ◌++◌, append-nil, append_assoc}
use Rattle.octets.proofs.Numbers.{Octets}
use Rattle.ledger.specs.Sound.{sound}
use Rattle.ledger_laws.proofs.Ranges.{octets_started}
use Rattle.ledger_laws.proofs.Kept.{sound_start}
use Rattle.desk.specs.Requests.{PushRequest, DecideRequest, TokenRequest}
use Rattle.desk.specs.Start.{empty_ledger}
use Rattle.call_laws.proofs.Keeping.{
  PushTyped,
  DecideTyped,
  TokenTyped,
  push_sound,
  push_octets,
  decide_sound,
  decide_octets,
  token_sound,
  token_octets,
  resource_sound,
  resource_octets,
  sweep_sound,
  sweep_octets,
}
use Rattle.history.specs.Runs.{Call, push, decide, token, resource, sweep, TypedPush, TypedDecide, TypedToken, Typed, AllTyped, step, steps, last, started}
use Rattle.history.specs.Events.{Event, events_of, events}

-- ---- sound ledgers of bytes

typed_push : (t : ℕ) (table : List ℕ) (p : PushRequest) → TypedPush t table p → PushTyped p
typed_push t table p y =
    record {
      client_long = y.client.long;
      client_bytes = y.client.bytes;
      scope_fits = y.scope;
      fresh_long = y.fresh.long;
      fresh_bytes = y.fresh.bytes;
    }

typed_decide : (t : ℕ) (d : DecideRequest) (out : List ℕ) → TypedDecide t d out → DecideTyped d
typed_decide t d out y = record { holder_fits = y.holder; fresh_long = y.fresh.long; fresh_bytes = y.fresh.bytes }

typed_token : (t : ℕ) (table : List ℕ) (q : TokenRequest) → TypedToken t table q → TokenTyped q
typed_token t table q y =
    record {
      presented_long = y.presented.long;
      presented_bytes = y.presented.bytes;
      fresh_long = y.fresh.long;
      fresh_bytes = y.fresh.bytes;
    }

-- what every ledger of a run is
pub record Good (l : List ℕ) : Type 0 where
  pub is_sound : sound l ≡ true
  pub bytes : Octets l

pub good_step : (l : List ℕ) (c : Call) → Good l → Typed c → Good (step l c).after
unfolding step
good_step l (push t table p) g y =
    let z = typed_push t table p y in
    record { is_sound = push_sound l t table p g.is_sound g.bytes z; bytes = push_octets l t table p g.bytes z }
good_step l (decide t d out) g y =
    let z = typed_decide t d out y in
    record { is_sound = decide_sound l t d out g.is_sound z; bytes = decide_octets l t d out g.bytes z }
good_step l (token t table q) g y =
    let z = typed_token t table q y in
    record { is_sound = token_sound l t table q g.is_sound z; bytes = token_octets l t table q g.bytes z }
good_step l (resource t q) g y = record { is_sound = resource_sound l t q g.is_sound; bytes = resource_octets l t q g.bytes }
good_step l (sweep t) g y = record { is_sound = sweep_sound l t g.is_sound; bytes = sweep_octets l t g.bytes }

pub good_last : (cs : List Call) (l : List ℕ) → Good l → AllTyped cs → Good (last l cs)
good_last [] l g y = g
good_last (c ∷ cs) l g y = good_last cs (step l c).after (good_step l c g y.0) y.1

-- ---- what every step keeps, a run keeps: of the ledger as it stands and the events so far

pub along : (P : List ℕ → List Event → Type 0)
    → ((l : List ℕ) (es : List Event) (c : Call) → Good l → Typed c → P l es → P (step l c).after (es ++ events_of (step l c)))
    → (cs : List Call) (l : List ℕ) (es : List Event) → Good l → AllTyped cs → P l es → P (last l cs) (es ++ events (steps l cs))
along P f [] l es g y x = rw (append-nil es) x
along P f (c ∷ cs) l es g y x =
    rw (← append_assoc es (events_of (step l c)) (events (steps (step l c).after cs)))
    (along P f cs (step l c).after (es ++ events_of (step l c)) (good_step l c g y.0) y.1 (f l es c g y.0 x))

-- the ledger that start leaves is sound, and bytes
pub good_start : (n : ℕ) → 1 ≤ n → n ≤ 200 → Good (started n)
unfolding empty_ledger
good_start n a b = record { is_sound = sound_start n a b; bytes = octets_started (32 + n * 256) }
