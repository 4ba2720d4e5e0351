-- The release that the file VERSION names, 0.1.0, as one number, and the interface: the functions' types and the structs that C reads.
use Rattle.std.specs.Prelude.{ℕ, ◌+◌, ◌*◌}

abbrev pub version_number : ℕ
version_number = 0 * 1000000 + 1 * 1000 + 0

abbrev pub interface_number : ℕ
interface_number = 1
