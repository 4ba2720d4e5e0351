-- One whole text, by computation.
use Prim.Native.Nat.{ℕ}
use mathlib.Core.Path.{◌≡◌, refl}
use mathlib.Core.List.{List}
use Rattle.octets.specs.Lists.{tabulate}
use Rattle.texts.specs.Hex.{glyph, hex}
use Rattle.texts.specs.Decimal.{decimal_in, decimal}
use Rattle.texts.specs.Base64url.{letter, characters, base64url}
use Rattle.description.specs.Literal.{bytes}
use Rattle.description.specs.Scope.{scope_name, is_set, bits_below, spaced, names_below, scope_names}
use Rattle.description.specs.Description.{described, client_member, sub_member, exp_member, scope_member, cnf_member, live_text}

-- the bytes 0, 1, 2 and so on
counting : ℕ → List ℕ
counting n = tabulate (λ i. i) n

-- holder 7, expiry 1320, bits 2^0 and 2^2; the hexadecimal and the base64url text are by an outside program
one_text : live_text (described (counting 16) 7 1320 5 (counting 32))
    ≡ bytes "{\"active\":true,\"client_id\":\"000102030405060708090a0b0c0d0e0f\",\"sub\":\"7\",\"exp\":1320,\"scope\":\"s0 s2\",\"cnf\":{\"x5t#S256\":\"AAECAwQFBgcICQoLDA0ODxAREhMUFRYXGBkaGxwdHh8\"}}"
unfolding live_text client_member sub_member exp_member scope_member cnf_member hex glyph decimal decimal_in base64url characters letter scope_names names_below spaced bits_below is_set scope_name counting tabulate
one_text = refl
