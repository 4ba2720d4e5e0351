-- A text as a rule tells it: place by place.
use Rattle.std.specs.Prelude.{ℕ, ◌<◌, ◌≡◌, List, length, get_or}

-- the text has n characters, and what the rule answers for a place is the character there
pub record Spells (rule : ℕ → ℕ → Type 0) (n : ℕ) (text : List ℕ) : Type 0 where
  pub sized : length text ≡ n
  pub tells : (i c : ℕ) → i < n → rule i c → c ≡ get_or text i 0
