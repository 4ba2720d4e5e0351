-- Laws of what is written: where there is room, and where there is none.
use Rattle.std.specs.Prelude.{Some, None}
use Prim.Native.Nat.{ℕ, ◌≤◌, ◌<◌}
use mathlib.Core.Path.{◌≡◌, refl, ap}
use mathlib.Core.List.{List}
use lib.ListN.{length}
use borrow.Author.Tests.{le-leb, lt-leb}
use Rattle.octets.specs.Parts.{put}
use Rattle.description.specs.Writing.{written, written_over}

pub no_room : (text out : List ℕ) → length out < length text → (None ≡ written text out) × (out ≡ written_over text out)
unfolding written written_over
no_room text out h = rw (lt-leb (length text) (length out) h) (refl, refl)

pub has_room : (text out : List ℕ) {n : ℕ} {y : List ℕ} → length text ≤ length out → n ≡ length text → y ≡ put out 0 text → (Some n ≡ written text out) × (y ≡ written_over text out)
unfolding written written_over
has_room text out h e f = rw (le-leb (length text) (length out) h) (ap Some e, f)
