-- The text by what was found, and what its writer's answer says of the room.
use Rattle.std.specs.Prelude.{Option, Some, None}
use Prim.Native.Nat.{ℕ}
use mathlib.Core.Path.{◌≡◌, sym}
use mathlib.Core.Bool.{true, false, and-false}
use mathlib.Core.List.{List}
use lib.Dec.{ltb, leb}
use lib.ListN.{length}
use borrow.Author.Tests.{leb-true, leb-false, le-ltb, lt-ltb}
use Rattle.std.specs.Option.{is_some}
use Rattle.octets.proofs.Tests.{some_told, some_is}
use Rattle.octets.specs.Lists.{some}
use Rattle.octets.specs.Parts.{put}
use Rattle.description.specs.Description.{live_text, inactive_text}
use Rattle.description.specs.Writing.{written, written_over}
use Rattle.ledger.specs.Fields.{records}
use Rattle.ledger.specs.Checks.{is_token, expired}
use Rattle.desk.specs.Introspect.{describes, shown, is_live, text_for}

-- ---- the text

module _ (l : List ℕ) (t : ℕ) (v : List ℕ) where
  pub text_unknown : some (is_token v) (records l) ≡ false → text_for l t v ≡ inactive_text
  unfolding text_for is_live
  text_unknown e = rw e

  pub text_expired : expired t (shown l v) ≡ true → text_for l t v ≡ inactive_text
  unfolding text_for is_live
  text_expired e = rw (e, and-false (some (is_token v) (records l)))

  pub text_live : some (is_token v) (records l) ≡ true → expired t (shown l v) ≡ false → text_for l t v ≡ live_text (describes (shown l v))
  unfolding text_for is_live
  text_live e f = rw (e, f)

-- ---- the answer of the text's writer

module _ (text out : List ℕ) where
  room_told : (a : Option ℕ) → written text out ≡ a → leb (length text) (length out) ≡ is_some a
  unfolding written
  room_told a e = some_told _ _ a e

  pub short_told : written text out ≡ None → ltb (length out) (length text) ≡ true
  short_told e = lt-ltb (length out) (length text) (leb-false (length text) (length out) (room_told None e))

  pub short_stays : written text out ≡ None → written_over text out ≡ out
  unfolding written_over
  short_stays e = rw (room_told None e)

  module _ (n : ℕ) (e : written text out ≡ Some n) where
    pub long_told : ltb (length out) (length text) ≡ false
    long_told = le-ltb (length out) (length text) (leb-true (length text) (length out) (room_told (Some n) e))

    pub long_is : n ≡ length text
    unfolding written
    long_is = sym (some_is _ _ n e)

    pub long_over : written_over text out ≡ put out 0 text
    unfolding written_over
    long_over = rw (room_told (Some n) e)
