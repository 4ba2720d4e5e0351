-- The bytes of one field: where it begins and how many there are. A document that has a field at 96..128 is read as `span 96 128`.
use Rattle.std.specs.Prelude.{ℕ, ◌-◌, List}
use Rattle.octets.specs.Parts.{part, put}
use Rattle.octets.specs.declared.span.Span.{Span}

abbrev pub span : ℕ → ℕ → Span
span a b = record { place = a; width = b - a }

-- the bytes of a field, and all bytes with those of a field replaced
abbrev pub field : Span → List ℕ → List ℕ
field s r = part r s.place s.width

abbrev pub with_field : Span → List ℕ → List ℕ → List ℕ
with_field s xs r = put r s.place xs
