use Rattle.std.proofs.Common.{arith, length, replicate, ◌≡◌}
use Rattle.forms.specs.Limits.{challenge_length}
use Rattle.texts.specs.Base64url.{base64url}
use Rattle.texts.proofs.Over.{put_all}
use Rattle.texts.proofs.Letters.{length_base64url}
use Rattle.s256.proofs.base64url.base64url.Goals as goal

pub returns : goal.returns
returns c =
    let bs = c.args.bs in
    let n : length (base64url bs) ≡ challenge_length = omega (arith, length_base64url bs) in
    put_all (replicate challenge_length 0) (base64url bs) n c.write.ensures.1
