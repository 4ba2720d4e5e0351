use Rattle.std.proofs.Common.{rules}
use Rattle.perdigolh.proofs.Reading.{whole, front}
use Rattle.perdigolh.proofs.serve.Goals as goal

pub returns-clause-whole : goal.returns-clause-whole
returns-clause-whole g c =
    whole _ _ _ _ _ c.new.ensures (record { line_sized = search rules; ledger_sized = search rules; table_sized = search rules; roomy = search rules })
    _ _ _ _ (search rules) _ _ _ _ c.run.ensures.runs_on c.run.ensures.at_end

pub returns-clause-front : goal.returns-clause-front
returns-clause-front g c =
    front _ _ _ _ _ c.new.ensures (record { line_sized = search rules; ledger_sized = search rules; table_sized = search rules; roomy = search rules })
    _ (search rules) _ _ _ _ c.run.ensures.front
