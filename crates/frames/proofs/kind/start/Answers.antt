use Rattle.std.proofs.Common.{ap, arith, refl, ◌∙◌}
use Rattle.frames.proofs.Holding.{start_few, start_many, start_done}
use Rattle.wire.specs.Answers.{number_bytes}
use Rattle.frames.proofs.kind.start.Goals.{then-slots-lt-LEAST-via-then-slots-lt-LEAST, then-slots-lt-LEAST-via-else-slots-lt-LEAST+then-slots-gt-MOST}
use Rattle.frames.proofs.kind.start.Goals as goal

pub returns-then-slots-lt-LEAST-clause-ledger_after : goal.returns-then-slots-lt-LEAST-clause-ledger_after
returns-then-slots-lt-LEAST-clause-ledger_after c =
    let a = c.args in
    let q = c.number.ensures ∙ ap number_bytes c.into.ensures in
    elim c.then-slots-lt-LEAST.branch [
      | then-slots-lt-LEAST-via-then-slots-lt-LEAST w ↦ start_few a.f.now a.ledger.now a.used.now.ledger (omega arith) c.from-slots.ensures w.if-slots-lt-LEAST.true refl q
      | then-slots-lt-LEAST-via-else-slots-lt-LEAST+then-slots-gt-MOST w ↦
          start_many a.f.now a.ledger.now a.used.now.ledger (omega arith) c.from-slots.ensures w.if-slots-gt-MOST.true refl q
    ]

pub returns-clause-ledger_after : goal.returns-clause-ledger_after
returns-clause-ledger_after c =
    start_done c.args.f.now c.args.ledger.now c.args.used.now.ledger c.from-slots.result c.from-slots.ensures (omega arith) (omega arith) (omega arith)
    c.start-number.ensures c.number-2.ensures
