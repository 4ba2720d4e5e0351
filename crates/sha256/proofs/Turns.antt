-- Rounds one after the other on a schedule.
use Rattle.std.proofs.Common.{◌≡◌, ℕ, suc, List, get_or}
use Rattle.sha256.specs.declared.round.Working.{Working}
use Rattle.sha256.specs.Constants.{K}
use Rattle.sha256.specs.Round.{round, rounds}

-- one round more than n
pub one_more : (w : List ℕ) (s : Working) (n m : ℕ) {x y : Working} → m ≡ suc n → y ≡ round (get_or K n 0) (get_or w n 0) x → x ≡ rounds w s n → y ≡ rounds w s m
unfolding rounds
one_more w s n m e g h = rw e (cc)
