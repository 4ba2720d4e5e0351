use Rattle.std.proofs.Common.{ne_eqb, rules, sym, ◌∙◌}
use borrow.Author.Tests.{tests}
use Rattle.std.proofs.lemmas.Iterator.{YieldsList-from_slice}
use Rattle.std.proofs.lemmas.Iterator.Search.{all_from_yields_List}
use Rattle.std.specs.Char.{is_ascii_hexdigit}
use Rattle.texts.specs.Hex.{is_digit}
use Rattle.texts.proofs.Digits.{hex_odd, hex_of, hexdigit_is, all_every}
use Rattle.texts.proofs.hex.is_hex.Goals as goal

pub returns-then-text-eq0 : goal.returns-then-text-eq0
returns-then-text-eq0 c =
    all_from_yields_List is_ascii_hexdigit _ _ _ c.all.ensures.ran (YieldsList-from_slice c.args.text.now cc) (λ x b q k. search (rules, tests))
    ∙ all_every is_ascii_hexdigit is_digit hexdigit_is c.args.text.now ∙ sym (hex_of _ c.if-text-eq0.true)

pub returns-else-text-eq0 : goal.returns-else-text-eq0
returns-else-text-eq0 c = ne_eqb _ _ c.if-text-eq0.false ∙ sym (hex_odd _ c.if-text-eq0.false)
