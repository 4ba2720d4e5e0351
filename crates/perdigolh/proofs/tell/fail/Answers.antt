use Rattle.perdigolh.proofs.Bytes.{told}
use Rattle.perdigolh.proofs.tell.fail.Goals as goal

pub returns : goal.returns
returns g c =
    told _ _ _ _ _ _ _ _ c.words.result.now _ c.in_ok-write_all.ensures.bytes c.in_ok-write_all-2.ensures.bytes c.in_ok-write_all-3.ensures.bytes
    c.write_all-4.ensures.bytes
