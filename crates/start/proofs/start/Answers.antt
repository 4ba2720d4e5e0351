use Rattle.std.proofs.Common.{sym, ◌∙◌}
use Rattle.start.proofs.Starting.{start_1, start_done}
use Rattle.ledger.proofs.Tests.{size_told}
use Rattle.start.proofs.start.Goals as goal

pub returns-in_default : goal.returns-in_default
returns-in_default c = start_1 _ _ (size_told _ _ (sym c.check_size.ensures ∙ c.in_default.is)) c.from.ensures

pub returns : goal.returns
returns c =
    start_done _ _ _ (size_told _ _ (sym c.check_size.ensures ∙ c.in-Right.is)) c.clear.ensures c.set_next.ensures
