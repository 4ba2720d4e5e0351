-- The table of the proved edges: every row holds, and every row is met.
use Rattle.cases.specs.Table.{TheTable}
use Rattle.cases.proofs.Holding.{every_row_holds}
use Rattle.cases.proofs.Meeting.{every_row_is_met}

pub the_table : TheTable
the_table = record { every_row_holds = every_row_holds; every_row_is_met = every_row_is_met }
