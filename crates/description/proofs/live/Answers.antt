use Rattle.std.proofs.Common.{arith, leb-false, length, sym, ◌*◌, ◌+◌, ◌<◌, ◌∙◌}
use Rattle.description.proofs.Lengths.{live_least}
use Rattle.description.proofs.Writings.{no_room, has_room}
use Rattle.description.specs.Description.{telling, live_text}
use Rattle.description.proofs.live.Goals as goal

pub returns-then-not-has_room : goal.returns-then-not-has_room
returns-then-not-has_room c =
    let a = c.args in
    let d = telling a.d in
    let h : length a.out.now < 2 * length a.d.client.now + length a.d.key.now = leb-false (2 * length a.d.client.now + length a.d.key.now) (length a.out.now) (sym c.has_room.ensures ∙ c.if-not-has_room.true) in
    no_room (live_text d) a.out.now (omega (arith, live_least d))

pub returns-then-out-n : goal.returns-then-out-n
returns-then-out-n c =
    let a = c.args in
    let e = c.spell-n.ensures.0 in
    no_room (live_text (telling a.d)) a.out.now (omega arith)

pub returns : goal.returns
returns c =
    let a = c.args in
    let e = c.spell-n.ensures.0 in
    has_room (live_text (telling a.d)) a.out.now (omega arith) e c.spell.ensures.1
