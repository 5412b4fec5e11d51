-- `rules` meets its promise: each way out is the definition (proofs/Answering).
use Rattle.std.proofs.Common.{length, ap, sym, ◌∙◌, arith}
use Rattle.outline.specs.Shape.{events}
use Rattle.outline.specs.Rules as R
use Rattle.outline.proofs.Listing.{flat_length}
use Rattle.outline.proofs.Answering.{no_room, answered}
use Rattle.outline.proofs.rules.Goals as goal

pub returns-then-room-n : goal.returns-then-room-n
returns-then-room-n c =
    let list = R.rules (events c.args.events.now) in
    let j = c.in_ok-n.ensures in
    sym (ap (R.returned c.args.room.now) (j.0 _ ∙ no_room (length c.args.room.now) (length list) (R.flat list) (omega (arith, flat_length list, j.1, c.if-room-n.true))))

pub write-requires : goal.write-requires
write-requires c =
    let list = R.rules (events c.args.events.now) in
    let j = c.in_ok-n.ensures in
    omega (arith, flat_length list, j.1, c.if-room-n.false)

pub returns : goal.returns
returns c =
    let list = R.rules (events c.args.events.now) in
    let j = c.in_ok-n.ensures in
    let size = flat_length list in
    answered c.args.room.now _ _ (R.flat list) _ _ _ (sym j.1) (omega (arith, j.1, size)) (omega (arith, j.1, size, c.if-room-n.false)) c.write.auto.room c.write.ensures c.fill.ensures
    ∙ sym (ap (R.returned c.args.room.now) (j.0 _))
