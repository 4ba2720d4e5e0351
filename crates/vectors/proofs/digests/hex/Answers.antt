use Rattle.std.proofs.Common.{arith, length, replicate, ◌≡◌}
use Rattle.texts.specs.Hex.{hex}
use Rattle.texts.proofs.Over.{put_all}
use Rattle.texts.proofs.Hexes.{length_hex}
use Rattle.vectors.proofs.digests.hex.Goals as goal

pub returns : goal.returns
returns c =
    let digest = c.args.digest in
    let n : length (hex digest) ≡ 64 = omega (arith, length_hex digest) in
    put_all (replicate 64 0) (hex digest) n c.write.ensures.1
