use Rattle.std.proofs.Common.{arith, ◌∙◌}
use Rattle.clients.proofs.Entries.{client_past}
use Rattle.clients.specs.Fields.{client}
use Rattle.clients.proofs.record.client_at.Goals as goal

pub returns-then-clients-k : goal.returns-then-clients-k
returns-then-clients-k c = let a = c.args in c.cut.ensures ∙ client_past a.table.now a.k (omega arith)

pub returns : goal.returns
unfolding client
returns c = c.cut-2.ensures
