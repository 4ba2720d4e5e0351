use Rattle.std.proofs.Common.{arith, le-ltb, refl, sym, ◌∙◌}
use Rattle.wire.proofs.Fits.{no_bytes, fixed, other_length, with_rest, too_short, unknown_kind, yes_above}
use Rattle.wire.proofs.kind.kind_of.Goals as goal

pub returns-in-0-clause-value : goal.returns-in-0-clause-value
returns-in-0-clause-value c = sym (fixed c.args.f.now 0 (omega arith) (omega arith) refl (omega arith))

pub returns-in-1-clause-value : goal.returns-in-1-clause-value
returns-in-1-clause-value c = sym (with_rest c.args.f.now 1 (omega arith) (omega arith) refl (omega arith))

pub returns-in-2-clause-value : goal.returns-in-2-clause-value
returns-in-2-clause-value c = sym (fixed c.args.f.now 2 (omega arith) (omega arith) refl (omega arith) ∙ simp (le-ltb _ _ c.if-f-le1.true))

pub returns-in-3-clause-value : goal.returns-in-3-clause-value
returns-in-3-clause-value c = sym (with_rest c.args.f.now 3 (omega arith) (omega arith) refl (omega arith))

pub returns-in-4-clause-value : goal.returns-in-4-clause-value
returns-in-4-clause-value c = sym (fixed c.args.f.now 4 (omega arith) (omega arith) refl (omega arith))

pub returns-in-5-clause-value : goal.returns-in-5-clause-value
returns-in-5-clause-value c = sym (fixed c.args.f.now 5 (omega arith) (omega arith) refl (omega arith))

pub returns-in-6-clause-value : goal.returns-in-6-clause-value
returns-in-6-clause-value c = sym (fixed c.args.f.now 6 (omega arith) (omega arith) refl (omega arith))

pub returns-in_default-clause-value : goal.returns-in_default-clause-value
returns-in_default-clause-value c = sym (no_bytes c.args.f.now (omega arith))

pub returns-in_default-2-clause-value : goal.returns-in_default-2-clause-value
returns-in_default-2-clause-value c = sym (other_length c.args.f.now 0 (omega arith) (omega arith) refl (λ e. absurd (omega arith)))

pub returns-in_default-3-clause-value : goal.returns-in_default-3-clause-value
returns-in_default-3-clause-value c = sym (too_short c.args.f.now 1 (omega arith) (omega arith) refl (omega arith))

pub returns-in_default-4-clause-value : goal.returns-in_default-4-clause-value
returns-in_default-4-clause-value c = sym (yes_above c.args.f.now (omega arith) c.if-f-le1.false)

pub returns-in_default-5-clause-value : goal.returns-in_default-5-clause-value
returns-in_default-5-clause-value c = sym (other_length c.args.f.now 2 (omega arith) (omega arith) refl (λ e. absurd (omega arith)))

pub returns-in_default-6-clause-value : goal.returns-in_default-6-clause-value
returns-in_default-6-clause-value c = sym (too_short c.args.f.now 3 (omega arith) (omega arith) refl (omega arith))

pub returns-in_default-7-clause-value : goal.returns-in_default-7-clause-value
returns-in_default-7-clause-value c = sym (other_length c.args.f.now 4 (omega arith) (omega arith) refl (λ e. absurd (omega arith)))

pub returns-in_default-8-clause-value : goal.returns-in_default-8-clause-value
returns-in_default-8-clause-value c = sym (other_length c.args.f.now 5 (omega arith) (omega arith) refl (λ e. absurd (omega arith)))

pub returns-in_default-9-clause-value : goal.returns-in_default-9-clause-value
returns-in_default-9-clause-value c = sym (other_length c.args.f.now 6 (omega arith) (omega arith) refl (λ e. absurd (omega arith)))

pub returns-in_default-10-clause-value : goal.returns-in_default-10-clause-value
returns-in_default-10-clause-value c = sym (unknown_kind c.args.f.now (omega arith))
