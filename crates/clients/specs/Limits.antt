-- The sizes of the client table (document 01, section "Client table") and the lifetimes that it may give (document 02, Q-2). They stand here and in no other definition.
use Rattle.std.specs.Prelude.{ℕ}

-- "1 to 64 records"
abbrev pub clients_least : ℕ
clients_least = 1

abbrev pub clients_most : ℕ
clients_most = 64

-- "of 64 bytes"
abbrev pub client_size : ℕ
client_size = 64

-- "The push lifetime becomes 90 seconds."
abbrev pub reference_lifetime : ℕ
reference_lifetime = 90

-- "0 meaning 90, otherwise 1 to 599"
abbrev pub lifetime_most : ℕ
lifetime_most = 599

-- "The profile's own limits are: reference under 600 seconds"
abbrev pub profile_reference : ℕ
profile_reference = 600
