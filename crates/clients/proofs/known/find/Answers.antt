use Rattle.std.proofs.Common.{sym, ◌∙◌}
use Rattle.clients.proofs.Checks.{known_none, known_some}
use Rattle.clients.proofs.known.find.Goals as goal

pub returns-in_err-k : goal.returns-in_err-k
returns-in_err-k c = c.from_residual.ensures ∙ sym (known_none _ _ _ (sym c.place_of.ensures ∙ c.in_err-k.was))

pub returns : goal.returns
returns c =
    let a = c.args in
    c.then_some.ensures ∙ rw (c.has_key.ensures, c.client_at.ensures) (sym (known_some a.table.now a.id.now a.key.now c.in_ok-k.k (sym c.place_of.ensures ∙ c.in_ok-k.was)))
