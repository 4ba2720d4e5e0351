-- Which bytes are a frame, and where its fields are: "First byte is the kind; fields follow in this order with fixed width, the last one in 01 and 03
-- taking the rest, which may be empty".
use Rattle.std.specs.Prelude.{ℕ, ◌+◌, Bool, true, false, ◌&&◌, cond, Option, None, Some, List, [], ◌∷◌, eqb, leb, ltb, length, get_or, take, drop}
use Rattle.octets.specs.Parts.{part}
use Rattle.forms.specs.Limits.{challenge_length}
use Rattle.clients.specs.Limits.{client_size}
use Rattle.wire.specs.declared.kind.Kind.{Kind}
use Rattle.wire.specs.declared.kind.Kind.TheVariants.{Start, Push, Decide, Token, Resource, Sweep, Client}

-- a row of the table of kinds: the kind, its byte, the widths of its fields in order, and whether one more field takes the rest
pub record Row : Type 0 where
  pub kind : Kind
  pub byte : ℕ
  pub widths : List ℕ
  pub rest : Bool

abbrev pub row : Kind → ℕ → List ℕ → Bool → Row
row k b ws r = record { kind = k; byte = b; widths = ws; rest = r }

-- "00 slots(1)"
abbrev pub start : Row
start = row Start 0 (1 ∷ []) false

-- "01 now(8) client(16) auth key(32) scope(4) challenge(43) fresh(32) redirect"
abbrev pub push : Row
push = row Push 1 (8 ∷ 16 ∷ 32 ∷ 4 ∷ challenge_length ∷ 32 ∷ []) true

-- "02 now client reference(32) yes(1, 00 or 01) holder(8) fresh"
abbrev pub decide : Row
decide = row Decide 2 (8 ∷ 16 ∷ 32 ∷ 1 ∷ 8 ∷ 32 ∷ []) false

-- "03 now client auth key presented key(32) code(32) fresh verifier"
abbrev pub token : Row
token = row Token 3 (8 ∷ 16 ∷ 32 ∷ 32 ∷ 32 ∷ 32 ∷ []) true

-- "04 now token(32) key(32) scope holder"
abbrev pub resource : Row
resource = row Resource 4 (8 ∷ 32 ∷ 32 ∷ 4 ∷ 8 ∷ []) false

-- "05 now"
abbrev pub sweep : Row
sweep = row Sweep 5 (8 ∷ []) false

-- "06 a client record(64), appended to the table"
abbrev pub client : Row
client = row Client 6 (client_size ∷ []) false

abbrev pub rows : List Row
rows = start ∷ push ∷ decide ∷ token ∷ resource ∷ sweep ∷ client ∷ []

abbrev pub sum : List ℕ → ℕ
sum [] = 0
sum (n ∷ ns) = n + sum ns

-- the bytes up to the end of the fixed fields, the kind's own among them
abbrev pub width : Row → ℕ
width r = 1 + sum r.widths

-- "First byte is the kind"; no "wrong length"
unfoldable pub fits : ℕ → ℕ → Bool → List ℕ → Bool
fits b w rest f = eqb (get_or f 0 0) b && cond rest (leb w (length f)) (eqb (length f) w)

unfoldable pub among : List Row → List ℕ → Option Kind
among [] f = None
among (r ∷ rs) f = cond (fits r.byte (width r) r.rest f) (Some r.kind) (among rs f)

-- where field i of a frame begins, the field itself, and the one that takes the rest
abbrev pub place : Row → ℕ → ℕ
place r i = 1 + sum (take i r.widths)

abbrev pub field : Row → ℕ → List ℕ → List ℕ
field r i f = part f (place r i) (get_or r.widths i 0)

abbrev pub rest : Row → List ℕ → List ℕ
rest r f = drop (width r) f

-- a field of one byte
abbrev pub byte : Row → ℕ → List ℕ → ℕ
byte r i f = get_or f (place r i) 0

-- "yes(1, 00 or 01)"
abbrev pub yes_byte : List ℕ → ℕ
yes_byte f = byte decide 3 f

abbrev pub by_yes : ℕ → Option Kind
by_yes b = cond (ltb 1 b) None (Some Decide)

abbrev pub settled : Option Kind → List ℕ → Option Kind
settled (Some Decide) f = by_yes (yes_byte f)
settled k f = k

-- which kind of frame the bytes are, if they are one
unfoldable pub kind_of : List ℕ → Option Kind
kind_of f = settled (among rows f) f

-- the least bytes that a frame of this kind has
abbrev pub least : Kind → ℕ
least Start = width start
least Push = width push
least Decide = width decide
least Token = width token
least Resource = width resource
least Sweep = width sweep
least Client = width client
