-- What is counted in a run: consents, tokens and drops from its events, waiting codes from the ledger as it stands. None is defined by the others.
use Rattle.std.specs.Prelude.{ℕ, Bool, true, ◌&&◌, List, eqb}
use Rattle.octets.specs.Lists.{count}
use Rattle.octets.specs.Parts.{same}
use Rattle.ledger.specs.Fields.{records, in_state, client, holder}
use Rattle.ledger.specs.declared.state.State.TheVariants.{Consented}
use Rattle.history.specs.Events.{EventKind, Consent, Token, Drop, Event, is}

-- whose: "for each client and holder", or those of all
abbrev pub Whose : Type 0
Whose = List ℕ → ℕ → Bool

abbrev pub just : List ℕ → ℕ → Whose
just k h id who = same id k && eqb who h

abbrev pub anyone : Whose
anyone id who = true

module _ (whose : Whose) where
  -- the events of a kind
  abbrev pub such : EventKind → Event → Bool
  such k e = is k e && whose e.client e.holder

  abbrev pub counted : EventKind → List Event → ℕ
  counted k es = count (such k) es

  -- "consents accepted", "tokens issued", "codes dropped by sweeps"
  abbrev pub consents : List Event → ℕ
  consents es = counted Consent es

  abbrev pub tokens : List Event → ℕ
  tokens es = counted Token es

  abbrev pub drops : List Event → ℕ
  drops es = counted Drop es

  -- "codes still waiting, expired or not": records in state 2
  abbrev pub waits : List ℕ → Bool
  waits r = in_state Consented r && whose (client r) (holder r)

  abbrev pub waiting : List ℕ → ℕ
  waiting l = count waits (records l)
