-- Where the fields of the client table are (document 01, section "Client table"; document 02, Q-2).
use Rattle.std.specs.Prelude.{ℕ, ◌*◌, ◌/◌, List, length}
use Rattle.octets.specs.Lists.{tabulate}
use Rattle.octets.specs.Numbers.{num}
use Rattle.octets.specs.Parts.{part}
use Rattle.octets.specs.Spans.{span, field}
use Rattle.octets.specs.declared.span.Span.{Span}
use Rattle.clients.specs.Limits.{client_size}

-- how many whole records a table has
abbrev pub clients : List ℕ → ℕ
clients t = length t / client_size

-- record k of a table
unfoldable pub client : List ℕ → ℕ → List ℕ
client t k = part t (client_size * k) client_size

-- the client records in table order
unfoldable pub entries : List ℕ → List (List ℕ)
entries t = tabulate (client t) (clients t)

-- "Bytes 0..16 client id"
abbrev pub id_span : Span
id_span = span 0 16

abbrev pub id : List ℕ → List ℕ
id c = field id_span c

-- "16..48 thumbprint of the authentication key"
abbrev pub auth_key_span : Span
auth_key_span = span 16 48

abbrev pub auth_key : List ℕ → List ℕ
auth_key c = field auth_key_span c

-- "48..52 permitted scope bits"
abbrev pub permitted_span : Span
permitted_span = span 48 52

abbrev pub permitted : List ℕ → ℕ
permitted c = num (field permitted_span c)

-- "client bytes 52..54 now hold a lifetime": what the record says
abbrev pub lifetime_span : Span
lifetime_span = span 52 54

abbrev pub lifetime_said : List ℕ → ℕ
lifetime_said c = num (field lifetime_span c)

-- "Document 01's zero rule for these bytes is amended": of 52..64 there are left to be zero
abbrev pub rest_span : Span
rest_span = span 54 64

abbrev pub rest : List ℕ → List ℕ
rest c = field rest_span c
