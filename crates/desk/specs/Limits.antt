-- "the redirect goes into the first 64 output bytes": a redirect's greatest length is what the output needs room for.
use Rattle.std.specs.Prelude.{ℕ}
use Rattle.forms.specs.Limits.{redirect_most}

abbrev pub output_least : ℕ
output_least = redirect_most
