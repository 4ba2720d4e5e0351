-- Demand 2 holds.
use mathlib.Core.Path.{◌≡◌}
use mathlib.Core.Logic.{◌↔◌}
use mathlib.Core.List.{List}
use Prim.Native.Nat.{ℕ}
use Rattle.desk.specs.Answers.{done}
use Rattle.call_laws.proofs.Accepting.{start_accepted, push_accepted, decide_accepted, token_accepted, resource_accepted, sweep_accepted, introspect_accepted, pending_accepted}
use Rattle.demands.specs.Calls.{Call, start, push, decide, token, resource, sweep, introspect, leaves, pending}
use Rattle.demands.specs.Demand2.{Allowed, After, Demand2}
use Rattle.demands.proofs.Rows.{turns}
use Rattle.demands.proofs.Afterwards.{after_start, after_push, after_decide, after_token, after_resource, after_sweep, after_introspect, after_pending, after_second_use}
use Rattle.desk.specs.declared.answer.Refusal.TheVariants.{CodeRedeemed}

allowed : (l table : List ℕ) (c : Call) → ((leaves l table c).number ≡ done) ↔ Allowed l table c
allowed l table start = start_accepted l
allowed l table (push t p) = push_accepted l t table p
allowed l table (decide t d out) = decide_accepted l t d out
allowed l table (token t q) = token_accepted l t table q
allowed l table (resource t q) = resource_accepted l t q
allowed l table (sweep t) = sweep_accepted l t
allowed l table (pending t p out) = pending_accepted l t p out
allowed l table (introspect t v out) = introspect_accepted l t v out

after : (l table : List ℕ) (c : Call) → (leaves l table c).number ≡ done → After l table c (leaves l table c)
after l table start = after_start l
after l table (push t p) = after_push l t table p
after l table (decide t d out) = after_decide l t d out
after l table (token t q) = after_token l t table q
after l table (resource t q) = after_resource l t q
after l table (sweep t) = after_sweep l t
after l table (pending t p out) = after_pending l t p out
after l table (introspect t v out) = after_introspect l t v out

pub demand2 : Demand2
demand2 =
    record {
      accepted = allowed;
      refused = turns;
      afterwards = after;
      second_use = λ l table t q u. after_second_use l t table q ((turns l table (token t q) CodeRedeemed).1 u);
    }
