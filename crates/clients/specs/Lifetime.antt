-- How long a reference lives, by the record of the client that pushes (document 02, Q-2).
use Rattle.std.specs.Prelude.{ℕ, cond, List, eqb}
use Rattle.clients.specs.Limits.{reference_lifetime}
use Rattle.clients.specs.Fields.{lifetime_said}

-- "client bytes 52..54 now hold a lifetime, 0 meaning 90, otherwise 1 to 599"
unfoldable pub lifetime_of : List ℕ → ℕ
lifetime_of c = cond (eqb (lifetime_said c) 0) reference_lifetime (lifetime_said c)
