use Rattle.std.proofs.Common.{◌∙◌}
use Rattle.octets.proofs.Chunks.{chunks_tabulate}
use Rattle.clients.specs.Fields.{client, entries}
use Rattle.clients.proofs.record.entries.Goals as goal

pub returns : goal.returns
unfolding entries client
returns c = c.as_chunks.ensures.front ∙ chunks_tabulate 64 _ c.args.table.now
