-- "Push (client id, authentication key, scope, challenge, redirect, fresh value): 3, 4, 5, 6, 7, 8, 9."
use Rattle.std.specs.Prelude.{ℕ, ◌+◌, not, ◌&&◌, List, [], ◌∷◌, eqb}
use Rattle.octets.specs.Lists.{some, place}
use Rattle.forms.specs.Forms.{redirect_formed, challenge_formed}
use Rattle.ledger.specs.Limits.{last_number}
use Rattle.ledger.specs.Fields.{records, rec, next_number, with_record, with_next, with_clock}
use Rattle.ledger.specs.Checks.{is_free, taken}
use Rattle.ledger.specs.Write.{pushed}
use Rattle.clients.specs.Fields.{client, permitted}
use Rattle.clients.specs.Lifetime.{lifetime_of}
use Rattle.clients.specs.Sound.{sound as table_sound}
use Rattle.clients.specs.Known.{is_known, place_of}
use Rattle.desk.specs.Answers.{answer_of, refused}
use Rattle.desk.specs.Checks.{Check, ◌when◌, first, begins, scope_fits}
use Rattle.desk.specs.Outcome.{Outcome, left, concludes}
use Rattle.desk.specs.Requests.{PushRequest}
use Rattle.desk.specs.declared.answer.Answer.{Answer}
use Rattle.desk.specs.declared.answer.Refusal.{Refusal}
use Rattle.desk.specs.declared.answer.Refusal.TheVariants.{
  TableUnsound,
  ClientUnknown,
  IllFormed,
  ScopeRefused,
  FreshTaken,
  LedgerFull,
  NumbersSpent,
}

-- the client's record, found by its id
abbrev pub client_record : List ℕ → PushRequest → List ℕ
client_record table p = client table (place_of table p.client)

-- the checks, in order
unfoldable pub push_checks : List ℕ → ℕ → List ℕ → PushRequest → List Check
push_checks l t table p =
    begins l t
    ((TableUnsound when not (table_sound table))
    ∷ (ClientUnknown when not (is_known table p.client p.key))
    ∷ (IllFormed when not (redirect_formed p.redirect && challenge_formed p.challenge))
    ∷ (ScopeRefused when not (scope_fits p.scope (permitted (client_record table p))))
    ∷ (FreshTaken when taken l p.fresh)
    ∷ (LedgerFull when not (some is_free (records l)))
    ∷ (NumbersSpent when eqb (next_number l) last_number)
    ∷ [])

-- the bits that a push stores, of those asked and those permitted: all that were asked
abbrev pub granted_bits : ℕ → ℕ → ℕ
granted_bits asked permitted = asked

-- the seconds that the reference of a push lives: what its client's record says
abbrev pub lifetime : List ℕ → PushRequest → ℕ
lifetime table p = lifetime_of (client_record table p)

-- "The first free record in ledger order becomes state 1 with the next grant number, value = fresh, expiry = now + ..": the lifetime
unfoldable pub push_record : List ℕ → ℕ → List ℕ → PushRequest → List ℕ → List ℕ
push_record l t table p r =
    pushed (granted_bits p.scope (permitted (client_record table p))) (next_number l) (t + lifetime table p) p.client p.challenge
    p.fresh p.redirect r

-- record k becomes r, which has grant number n; "The next number rises by one." "the clock becomes now"
abbrev pub entered : List ℕ → ℕ → ℕ → ℕ → List ℕ → Outcome Answer
entered l t k n r = left (answer_of r) (with_clock t (with_next (n + 1) (with_record l k r)))

-- where the first free record is
abbrev pub free_place : List ℕ → ℕ
free_place l = place is_free (records l)

unfoldable pub push_at : List ℕ → ℕ → List ℕ → PushRequest → ℕ → Outcome Answer
push_at l t table p k = entered l t k (next_number l) (push_record l t table p (rec l k))

-- each row: "A refusal has zeros beside its number and changes no lent byte, clock included."
abbrev pub push_leaves : List ℕ → Refusal → Outcome Answer
push_leaves l why = left (refused why) l

unfoldable pub push : List ℕ → ℕ → List ℕ → PushRequest → Outcome Answer
push l t table p = concludes (first (push_checks l t table p)) (push_leaves l) (push_at l t table p (free_place l))
