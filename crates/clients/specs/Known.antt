-- Which client is known (document 01, section "Numbers returned", 4).
use Rattle.std.specs.Prelude.{ℕ, Bool, true, false, ◌&&◌, List, Option, Some, None}
use Rattle.octets.specs.Lists.{some, place}
use Rattle.octets.specs.Parts.{same}
use Rattle.clients.specs.Fields.{client, entries, id, auth_key}

-- the record has this client id, this authentication key
unfoldable pub has_id : List ℕ → List ℕ → Bool
has_id v c = same (id c) v

unfoldable pub has_key : List ℕ → List ℕ → Bool
has_key v c = same (auth_key c) v

-- a client is found by its id: the first record that has it
unfoldable pub place_of : List ℕ → List ℕ → ℕ
place_of t v = place (has_id v) (entries t)

-- 4: "no such client id, or its authentication key differs": whether neither is so
unfoldable pub is_known : List ℕ → List ℕ → List ℕ → Bool
is_known t v key = some (has_id v) (entries t) && has_key key (client t (place_of t v))

abbrev pub at_if : Bool → ℕ → Option ℕ
at_if true k = Some k
at_if false k = None

-- what check 4 answers
unfoldable pub known : List ℕ → List ℕ → List ℕ → Option ℕ
known t v key = at_if (is_known t v key) (place_of t v)
