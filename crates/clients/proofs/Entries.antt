-- Laws of the client records in table order, and of the loops over them.
use Prim.Native.Nat.{ℕ, ◌+◌, ◌*◌, ◌<◌, ◌≤◌}
use native.Mathlib.Omega.{arith}
use mathlib.Core.Path.{◌≡◌, sym, ap, ◌∙◌}
use mathlib.Core.Bool.{Bool, true}
use mathlib.Core.List.{List, []}
use lib.ListN.{length, get_or, drop_of_length-le}
use Rattle.octets.specs.Lists.{every}
use Rattle.octets.specs.Parts.{part}
use Rattle.octets.specs.Spans.{field}
use Rattle.octets.specs.declared.span.Span.{Span}
use Rattle.octets.proofs.Lists.{every_at, every_of}
use Rattle.octets.proofs.Parts.{part_length}
use Rattle.octets.proofs.Tabulate.{length_tabulate, get_d_tabulate}
use Rattle.clients.specs.Limits.{client_size}
use Rattle.clients.specs.Fields.{clients, client, entries}

pub length_entries : (t : List ℕ) → length (entries t) ≡ clients t
unfolding entries
length_entries t = length_tabulate (client t) (clients t)

pub entry_at : (t : List ℕ) (k : ℕ) → k < clients t → get_or (entries t) k [] ≡ client t k
unfolding entries
entry_at t k h = get_d_tabulate (client t) [] (clients t) k h

-- a record of the table has its 64 bytes
pub client_length : (t : List ℕ) (k : ℕ) → k < clients t → length (client t k) ≡ client_size
unfolding client
client_length t k h = part_length t (client_size * k) client_size (omega arith)

-- so each field inside it has its width
pub field_length : (t : List ℕ) (k : ℕ) → k < clients t → (s : Span) → s.place + s.width ≤ client_size → length (field s (client t k)) ≡ s.width
field_length t k h s w = part_length (client t k) s.place s.width (rw (client_length t k h) w)

-- past the last record there are no bytes
pub client_none : (t : List ℕ) (k : ℕ) → clients t < k → client t k ≡ []
unfolding client
client_none t k h = let p : length t ≤ client_size * k = omega arith in rw (drop_of_length-le t p)

pub client_past : (t : List ℕ) (k : ℕ) → clients t < k → part t (length t) client_size ≡ client t k
client_past t k h =
    let w : length t ≤ length t = omega arith in
    rw (drop_of_length-le t w) (sym (client_none t k h))

-- ---- a test of all records

module _ (t : List ℕ) where
  pub at_each : (q : List ℕ → Bool) → every q (entries t) ≡ true → (k : ℕ) → k < clients t → q (client t k) ≡ true
  at_each q e k h = ap q (sym (entry_at t k h)) ∙ every_at q (entries t) [] e k (rw (length_entries t) h)

  pub of_each : (q : List ℕ → Bool) → ((k : ℕ) → k < clients t → q (client t k) ≡ true) → every q (entries t) ≡ true
  of_each q f = every_of q (entries t) [] (λ k h. let g : k < clients t = rw (length_entries t) at h in ap q (entry_at t k g) ∙ f k g)
