-- What a step of the line program leaves, and the whole of it. What each call of lines hands on to be written stands in the contracts of `pass` and `end`.
use Rattle.std.specs.Prelude.{◌≡◌, ℕ, ◌+◌, ◌%◌, ◌^◌, List, ◌⊎◌, length, take, Option}
use Rattle.std.specs.Io.KnownBytes.{Appends, Consumes, IsAtEnd}
use Rattle.lines.specs.Turn.{Held, held}
use Rattle.lines.specs.Feed.{Left, finish}
use Rattle.lines.specs.Run.{Passed, puts, pass_on, pass_all, session, joined}
use Rattle.perdigolh.specs.declared.Desk.{Desk}

-- what the desk keeps from call to call
abbrev pub kept : Desk → Held
kept d = held d.state d.line d.ledger d.table

-- a chunk that was passed on, from the desk d to the desk e: what is kept, and the output's buffer, are what the definition of the run leaves, and as many
-- bytes more were handed on as it writes
abbrev pub LeavesAs : Passed → Desk → Desk → Type 0
LeavesAs p d e = (kept e ≡ p.held) × (e.out ≡ p.out) × (e.handed ≡ (d.handed + length p.written) % 2 ^ 64)

-- a call of lines, with a chunk or at the end of the input: they are what its definition leaves, and as many bytes more were handed on as it puts out
abbrev pub EndsAs : Left → Desk → Desk → Type 0
EndsAs l d e = (kept e ≡ l.held) × (e.out ≡ l.out) × (e.handed ≡ (d.handed + length (puts l)) % 2 ^ 64)

-- the whole input: there are chunks such that they are what passing on one chunk after the other leaves, and then the end, and as many bytes more were handed
-- on as the session has
pub record RunsAs (d e : Desk) : Type 0 where
  pub chunks : List (List ℕ)
  pub leaves : (kept e ≡ (finish (pass_all (kept d) d.out chunks).held (pass_all (kept d) d.out chunks).out).held)
      × (e.out ≡ (finish (pass_all (kept d) d.out chunks).held (pass_all (kept d) d.out chunks).out).out)
      × (e.handed ≡ (d.handed + length (session (kept d) d.out chunks)) % 2 ^ 64)

-- the same with what is known of the streams' bytes: what was read is one chunk after the other, and what was written is the session
pub record RunsOn (d e : Desk) (unread unread' contents contents' : Option (List ℕ)) : Type 0 where
  pub runs : RunsAs d e
  pub reads : Consumes unread unread' (joined runs.chunks)
  pub writes : Appends contents contents' (session (kept d) d.out runs.chunks)

-- a writer got the beginning of bs, all of it maybe, and nothing else
pub record Begins (contents contents' : Option (List ℕ)) (bs : List ℕ) : Type 0 where
  pub count : ℕ
  pub front : Appends contents contents' (take count bs)

-- whatever a read came to: bytes of the input's buffer are what was read, and what was written is the beginning of what passing them on writes, or, where the
-- input came to its end, of the last answer
pub record StepWritesFront (h : Held) (out input : List ℕ) (HasRoom : Type 0) (unread unread' contents contents' : Option (List ℕ)) : Type 0 where
  pub got : ℕ
  pub reads : Consumes unread unread' (take got input)
  pub front : Begins contents contents' (pass_on (length (take got input)) h out (take got input)).written
      ⊎ ((got ≡ 0) × (HasRoom → IsAtEnd unread') × Begins contents contents' (puts (finish h out)))

-- whatever failed: there are chunks that were read, one after the other, and what was written is the beginning of what passing them on writes, or, where the
-- input came to its end, of the session. A reader says that it is at its end only to a buffer that has room.
pub record WritesFront (first : Held) (out₀ : List ℕ) (HasRoom : Type 0) (unread unread' contents contents' : Option (List ℕ)) : Type 0 where
  pub chunks : List (List ℕ)
  pub reads : Consumes unread unread' (joined chunks)
  pub front : Begins contents contents' (pass_all first out₀ chunks).written
      ⊎ ((HasRoom → IsAtEnd unread') × Begins contents contents' (session first out₀ chunks))
