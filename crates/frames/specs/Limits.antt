-- The sizes of the line program. They stand here and in no other definition.
use Rattle.std.specs.Prelude.{ℕ, ◌+◌, ◌*◌}
use Rattle.ledger.specs.Limits.{head_size, record_size, records_most}
use Rattle.clients.specs.Limits.{client_size, clients_most}
use Rattle.wire.specs.Answers.{answer_most}

-- "more than 640 digits" is no frame
abbrev pub line_most : ℕ
line_most = 640

-- what is kept of a line: one character more than a frame can have shows that it has too many
abbrev pub line_kept : ℕ
line_kept = line_most + 1

-- the buffers of the largest ledger and of the largest table
abbrev pub ledger_most : ℕ
ledger_most = head_size + records_most * record_size

abbrev pub table_most : ℕ
table_most = clients_most * client_size

-- the line of the longest answer: two digits a byte, and the end of the line
abbrev pub answer_line : ℕ
answer_line = 2 * answer_most + 1
