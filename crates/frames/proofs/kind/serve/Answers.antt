use Rattle.std.proofs.Common.{None, Some, ap, arith, refl, sym, ◌∙◌}
use Rattle.frames.proofs.Holding.{on_ledger_lem, on_table_lem, by_kind, at_none, on_front, serve_call}
use Rattle.frames.specs.Serve.{Served}
use Rattle.frames.specs.Hold.{desk_in, place}
use Rattle.wire.specs.declared.kind.Kind.TheVariants.{Start, Client}
use Rattle.frames.proofs.kind.serve.Goals as goal

pub returns-in_default : goal.returns-in_default
returns-in_default c =
    let a = c.args in
    let u = a.used.now in
    by_kind None a.f.now a.ledger.now a.table.now (desk_in u.ledger u.table a.ledger.now a.table.now) (sym c.kind_of.ensures.value ∙ c.in_default.is)
    (at_none a.ledger.now a.table.now u.ledger u.table (omega arith) (omega arith) _ refl c.number.ensures)

pub returns-in-Start : goal.returns-in-Start
returns-in-Start c =
    let a = c.args in
    let u = a.used.now in
    by_kind (Some Start) a.f.now a.ledger.now a.table.now (desk_in u.ledger u.table a.ledger.now a.table.now) (sym c.kind_of.ensures.value ∙ c.in-Some.is ∙ ap Some c.in-Start.is)
    (on_ledger_lem a.ledger.now a.table.now u.ledger u.table (omega arith) (omega arith) _ c.start.ensures.table_stays c.start.ensures.ledger_after)

pub returns-in-Client : goal.returns-in-Client
returns-in-Client c =
    let a = c.args in
    let u = a.used.now in
    by_kind (Some Client) a.f.now a.ledger.now a.table.now (desk_in u.ledger u.table a.ledger.now a.table.now) (sym c.kind_of.ensures.value ∙ c.in-Some.is ∙ ap Some c.in-Client.is)
    (on_table_lem a.ledger.now a.table.now u.ledger u.table (omega arith) (omega arith) _ c.append.ensures.ledger_stays c.append.ensures.table_after)

pub returns-in_default-kind : goal.returns-in_default-kind
returns-in_default-kind c =
    let a = c.args in
    let u = a.used.now in
    let k = c.in-Some.kind in
    let d = desk_in u.ledger u.table a.ledger.now a.table.now in
    by_kind (Some k) a.f.now a.ledger.now a.table.now d (sym c.kind_of.ensures.value ∙ c.in-Some.is)
    (on_front a.ledger.now a.table.now u.ledger u.table (omega arith) (omega arith) _ c.call.ensures (c.call.array_long ∙ sym c.told-ledger)
    ∙ ap (λ (s : Served). place s a.ledger.now a.table.now) (sym (serve_call k a.f.now d c.in_default-kind.not-Start c.in_default-kind.not-Client)))
