-- "In P4 to P11 all else in the call is in order": every check of the call passes but the one that the case speaks of, whichever way that one goes.
use Rattle.std.specs.Prelude.{Bool, true, not, ◌&&◌, cond, List, [], ◌∷◌, eqb}
use Rattle.octets.specs.Lists.{every}
use Rattle.desk.specs.Answers.{number_of}
use Rattle.desk.specs.Checks.{Check}
use Rattle.desk.specs.declared.answer.Refusal.{Refusal}

-- the check gives this row of the table
abbrev pub gives : Refusal → Check → Bool
gives why c = eqb (number_of c.why) (number_of why)

abbrev pub passes : Check → Bool
passes c = not c.holds

-- all but the first check that gives this row
unfoldable pub else_in_order : Refusal → List Check → Bool
else_in_order why [] = true
else_in_order why (c ∷ cs) = cond (gives why c) (every passes cs) (passes c && else_in_order why cs)
