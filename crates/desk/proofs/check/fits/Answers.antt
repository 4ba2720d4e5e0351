use Rattle.std.proofs.Common.{eq-eqb, ne_eqb}
use Rattle.desk.specs.Checks.{scope_fits}
use Rattle.desk.proofs.check.fits.Goals as goal

pub returns-then-asked-ne0 : goal.returns-then-asked-ne0
unfolding scope_fits
returns-then-asked-ne0 c = rw (ne_eqb _ 0 c.if-asked-ne0.true)

pub returns-else-asked-ne0 : goal.returns-else-asked-ne0
unfolding scope_fits
returns-else-asked-ne0 c = rw (eq-eqb _ 0 c.if-asked-ne0.false)
