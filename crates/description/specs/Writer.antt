-- A text that is written piece by piece, one piece behind the other.
use Rattle.std.specs.Prelude.{◌+◌, ◌≡◌, ℕ, List, length}
use Rattle.octets.specs.Parts.{put}
use Rattle.description.specs.declared.writer.Writer.{Writer}

-- a writer has written a text behind what it had: over the same output, at the place that it had reached
pub record Wrote (old new : Writer) (text : List ℕ) : Type 0 where
  pub same : new.out.ghost_name ≡ old.out.ghost_name
  pub behind : new.at ≡ old.at + length text
  pub bytes : new.out.now ≡ put old.out.now old.at text
