use Rattle.std.proofs.Common.{◌≡◌, ℕ, Bool, List, Some, rules, arith, sym, ap, ◌∙◌}
use Rattle.std.specs.Prelude.{position}
use Rattle.std.specs.Fn.{FnReturnsAt}
use Rattle.std.proofs.lemmas.Iterator.{YieldsList-from_slice}
use Rattle.std.proofs.lemmas.Iterator.Search.{position_from_yields_List}
use Rattle.octets.specs.Lists.{Computes}
use Rattle.ledger.specs.Checks.{found}
use Rattle.ledger.proofs.Tests.{found_is}
use Rattle.finding.proofs.record.first.Given.{Over}
use Rattle.finding.proofs.record.first.Goals.{After-position}
use Rattle.finding.proofs.record.first.Goals as goal

-- the place that std answers is the one asked for
position_found : (g : Over) (c : After-position g) (q : List ℕ → Bool) → Computes (FnReturnsAt g.F.Fn c.args.is_wanted) q
    → c.position.result ≡ found q c.args.l.now
position_found g c q d =
    position_from_yields_List q _ _ _ c.position.ensures.ran (YieldsList-from_slice _ c.iter.ensures.rest) (λ x b f k. (search rules, d x.now b (search rules)))
    ∙ ap (position q) c.records.ensures ∙ found_is q c.args.l.now

pub returns-in_err-k : goal.returns-in_err-k
returns-in_err-k g c q d =
    let p = position_found g (goal.at.returns-in_err-k g c).After-position q d in
    cc (p, c.in_err-k.was)

pub returns : goal.returns
returns g c q d =
    let p = position_found g (goal.at.returns g c).After-position q d in
    -- by arithmetic, so that an edit of the place is refused for its value alone
    ap Some (omega arith) ∙ (sym c.in_ok-k.was ∙ p)
