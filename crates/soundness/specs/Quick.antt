-- Short cuts of the pairwise searches: what private functions answer; no sentence of document 01 rests on them.
use Rattle.std.specs.Prelude.{ℕ, Bool, ◌||◌, cond, List, eqb, get_or}
use Rattle.octets.specs.Parts.{zeros}
use Rattle.ledger.specs.Fields.{value, token}

-- the first byte: where these differ, so do the values
unfoldable pub lead : List ℕ → ℕ
lead v = get_or v 0 0

-- what a record's token is looked for by: its lead, or the value's once more where there is no token
unfoldable pub token_lead : List ℕ → ℕ
token_lead r = cond (zeros (token r)) (lead (value r)) (lead (token r))

-- s holds a value that begins as one of r's does
unfoldable pub near : ℕ → ℕ → List ℕ → Bool
near p q s = eqb (lead (value s)) p || (eqb (lead (value s)) q || (eqb (lead (token s)) p || eqb (lead (token s)) q))
