-- The sound table and the known client in plain words. That the tests of Sound and Known say the same is a law beside them.
use Rattle.std.specs.Prelude.{ℕ, ◌*◌, ◌<◌, ◌≤◌, ◌≡◌, ◌≢◌, List, length}
use Rattle.octets.specs.Parts.{blank}
use Rattle.clients.specs.Limits.{clients_least, clients_most, client_size, lifetime_most}
use Rattle.clients.specs.Fields.{clients, client, id_span, id, auth_key_span, auth_key, lifetime_said, rest_span, rest}

-- "Sound: length right, no id or key all zeros, ids distinct, last twelve bytes zero."; of these two hold a lifetime: "3 also when the field is above 599"
pub record SoundTable (t : List ℕ) : Type 0 where
  pub whole : length t ≡ client_size * clients t
  pub least : clients_least ≤ clients t
  pub most : clients t ≤ clients_most
  pub ids : (k : ℕ) → k < clients t → id (client t k) ≢ blank id_span.width
  pub keys : (k : ℕ) → k < clients t → auth_key (client t k) ≢ blank auth_key_span.width
  pub distinct : (i j : ℕ) → i < clients t → j < clients t → id (client t i) ≡ id (client t j) → i ≡ j
  pub lifetimes : (k : ℕ) → k < clients t → lifetime_said (client t k) ≤ lifetime_most
  pub rests : (k : ℕ) → k < clients t → rest (client t k) ≡ blank rest_span.width

-- record k of the table has this id and this authentication key
pub record KnownAt (table who key : List ℕ) (k : ℕ) : Type 0 where
  pub inside : k < clients table
  pub id_is : id (client table k) ≡ who
  pub key_is : auth_key (client table k) ≡ key
