-- "Sweep: every expired record becomes free."
use Rattle.std.specs.Prelude.{ℕ, zero, suc, Bool, cond, ◌&&◌, List}
use Rattle.octets.specs.Lists.{count}
use Rattle.ledger.specs.Fields.{rec, slots, records, with_record, used, in_state}
use Rattle.ledger.specs.Checks.{expired}
use Rattle.ledger.specs.Write.{free}
use Rattle.ledger.specs.declared.state.State.{State}
use Rattle.ledger.specs.declared.state.State.TheVariants.{Pushed, Consented, Redeemed}
use Rattle.ledger.specs.declared.sweep.Freed.{Freed}

-- a record after a sweep at time t
unfoldable pub swept_record : ℕ → List ℕ → List ℕ
swept_record t r = cond (used r && expired t r) free r

-- the ledger with its first n records swept
unfoldable pub swept_to : ℕ → List ℕ → ℕ → List ℕ
swept_to t l zero = l
swept_to t l (suc k) = with_record (swept_to t l k) k (swept_record t (rec l k))

unfoldable pub swept : ℕ → List ℕ → List ℕ
swept t l = swept_to t l (slots l)

-- "three counts: pushed, consented and redeemed records freed": of one kind, those that were expired
unfoldable pub due : State → ℕ → List ℕ → Bool
due s t r = in_state s r && expired t r

unfoldable pub freed_of : State → ℕ → List ℕ → ℕ
freed_of s t l = count (due s t) (records l)

unfoldable pub freed : ℕ → List ℕ → Freed
freed t l = record { pushed = freed_of Pushed t l; consented = freed_of Consented t l; redeemed = freed_of Redeemed t l }
