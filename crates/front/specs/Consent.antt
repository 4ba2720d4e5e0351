-- "Decide (reference, client id, yes or no, ..)": the choice comes as a byte. One value is the yes, every other is a no.
use Rattle.std.specs.Prelude.{ℕ, Bool, eqb}

abbrev pub yes_byte : ℕ
yes_byte = 1

abbrev pub consents : ℕ → Bool
consents b = eqb b yes_byte
