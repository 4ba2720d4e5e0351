-- "Introspection text for the figure servers. .. For a token at a time, write `{"active":false}` when it is unknown or expired, else one object" (document 02, Q-1)
use Rattle.std.specs.Prelude.{ℕ, Bool, not, ◌&&◌, cond, List, [], ◌∷◌, ltb, length}
use Rattle.octets.specs.Lists.{some, place}
use Rattle.octets.specs.Parts.{put}
use Rattle.description.specs.Description.{Description, live_text, inactive_text}
use Rattle.ledger.specs.Fields.{records, rec, client, holder, expiry, scope, bound_key}
use Rattle.ledger.specs.Checks.{is_token, expired}
use Rattle.desk.specs.Answers.{introspected, untold}
use Rattle.desk.specs.Checks.{Check, ◌when◌, first, begins}
use Rattle.desk.specs.Outcome.{Outcome, left_with, concludes}
use Rattle.desk.specs.declared.answer.Introspected.{Introspected}
use Rattle.desk.specs.declared.answer.Refusal.{Refusal}
use Rattle.desk.specs.declared.answer.Refusal.TheVariants.{OutputShort}

-- "client_id .., sub .., exp .., scope .., cnf with x5t#S256 holding the bound key": what a record says of its token
abbrev pub describes : List ℕ → Description
describes r = record { client = client r; holder = holder r; expiry = expiry r; scope = scope r; key = bound_key r }

-- the record in state 3 with this token
abbrev pub shown : List ℕ → List ℕ → List ℕ
shown l v = rec l (place (is_token v) (records l))

-- "unknown or expired" is not so
unfoldable pub is_live : List ℕ → ℕ → List ℕ → Bool
is_live l t v = some (is_token v) (records l) && not (expired t (shown l v))

-- the text for a token at a time
unfoldable pub text_for : List ℕ → ℕ → List ℕ → List ℕ
text_for l t v = cond (is_live l t v) (live_text (describes (shown l v))) inactive_text

-- "Refusals: 1, 2, then 20 when the buffer is shorter than the text."
unfoldable pub introspect_checks : List ℕ → ℕ → List ℕ → List ℕ → List Check
introspect_checks l t v out = begins l t ((OutputShort when ltb (length out) (length (text_for l t v))) ∷ [])

-- "The ledger is only read, clock included. The answer is the number and the text's length; bytes behind the text stay."
unfoldable pub introspect_with : List ℕ → List ℕ → List ℕ → Outcome Introspected
introspect_with l out text = left_with (introspected (length text)) l (put out 0 text)

-- each row: "A refusal has zeros beside its number and changes no lent byte, clock included."
abbrev pub introspect_leaves : List ℕ → List ℕ → Refusal → Outcome Introspected
introspect_leaves l out why = left_with (untold why) l out

unfoldable pub introspect : List ℕ → ℕ → List ℕ → List ℕ → Outcome Introspected
introspect l t v out =
    concludes (first (introspect_checks l t v out)) (introspect_leaves l out) (introspect_with l out (text_for l t v))
