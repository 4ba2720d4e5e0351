-- Which client tables are sound (document 01, section "Client table"; document 02, Q-2). Permitted scope may be 0, and two clients may share a key: no rule speaks of these.
use Rattle.std.specs.Prelude.{ℕ, ◌*◌, Bool, true, false, not, ◌&&◌, List, eqb, leb, length}
use Rattle.octets.specs.Lists.{every, apart}
use Rattle.octets.specs.Parts.{zeros, same}
use Rattle.clients.specs.Limits.{clients_least, clients_most, client_size, lifetime_most}
use Rattle.clients.specs.Fields.{clients, entries, id, auth_key, lifetime_said, rest}
use Rattle.clients.specs.declared.table.Table.{Table}
use Rattle.clients.specs.declared.table.Table.TheVariants.{Sound, Unsound}

-- "1 to 64 records of 64 bytes"; "Sound: length right"
unfoldable pub length_right : List ℕ → Bool
length_right t = eqb (length t) (client_size * clients t) && (leb clients_least (clients t) && leb (clients t) clients_most)

-- "no id .. all zeros", of one record and of all
unfoldable pub id_given : List ℕ → Bool
id_given c = not (zeros (id c))

unfoldable pub ids_given : List ℕ → Bool
ids_given t = every id_given (entries t)

-- "no .. key all zeros", of one record and of all
unfoldable pub key_given : List ℕ → Bool
key_given c = not (zeros (auth_key c))

unfoldable pub keys_given : List ℕ → Bool
keys_given t = every key_given (entries t)

-- "ids distinct": two records clash where they have the same id
unfoldable pub same_id : List ℕ → List ℕ → Bool
same_id c d = same (id c) (id d)

unfoldable pub ids_distinct : List ℕ → Bool
ids_distinct t = apart same_id (entries t)

-- "3 also when the field is above 599", of one record and of all
unfoldable pub lifetime_fits : List ℕ → Bool
lifetime_fits c = leb (lifetime_said c) lifetime_most

unfoldable pub lifetimes_fit : List ℕ → Bool
lifetimes_fit t = every lifetime_fits (entries t)

-- "last twelve bytes zero", but for the two that hold a lifetime, of one record and of all
unfoldable pub rest_zero : List ℕ → Bool
rest_zero c = zeros (rest c)

unfoldable pub rests_zero : List ℕ → Bool
rests_zero t = every rest_zero (entries t)

-- "Sound: length right, no id or key all zeros, ids distinct, last twelve bytes zero.", amended as above
unfoldable pub sound : List ℕ → Bool
sound t = length_right t && (ids_given t && (keys_given t && (ids_distinct t && (lifetimes_fit t && rests_zero t))))

-- the rules that speak of one record
unfoldable pub sound_record : List ℕ → Bool
sound_record c = id_given c && (key_given c && (lifetime_fits c && rest_zero c))

-- 3: "client table not sound"
abbrev pub sound_if : Bool → Table
sound_if true = Sound
sound_if false = Unsound

unfoldable pub check_table : List ℕ → Table
check_table t = sound_if (sound t)
