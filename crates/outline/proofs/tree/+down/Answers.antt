-- `down` writes the nodes below one that is open. It calls itself with one level less to go. The invariant: what is written and what is below from
-- here on are the list (`Half`).
use Rattle.std.proofs.Common.{◌+◌, ◌∷◌, [], length, ap, arith}
use borrow.Rule.Slice.PartMut.{mid_len}
use Rattle.outline.specs.Steps.{left}
use Rattle.outline.proofs.Writing.{same_size}
use Rattle.outline.proofs.Descending.{behind_few, none_below, half_fits, half_down}
use Rattle.outline.proofs.tree.+down.Goals as goal

pub returns-then-levels-eq0 : goal.returns-then-levels-eq0
returns-then-levels-eq0 t c = none_below _ _ _ _ _ c.if-levels-eq0.true c.skip.ensures

pub down-to-requires : goal.down-to-requires
down-to-requires t c =
    let fits = half_fits _ _ _ _ _ _ _ c.loop-e.invariant _ _ c.in-Some.ensures.steps _ _ _ c.in-Opens.is c.if-levels-eq0.false c.requires.room in
    let size = same_size c.loop-e.room _ (_ ∷ _ ∷ _ ∷ _ ∷ []) c.loop-e.to c.put.ensures in
    let part = mid_len (c.loop-e.to + 4) (length c.put.new.room) c.put.new.room (omega (arith, fits, size)) in
    (omega (arith, c.if-levels-eq0.false), (omega (arith, c.requires.cells, c.if-levels-eq0.false), omega (arith, fits, size, part)))

pub loop-e-smaller-in-Opens : goal.loop-e-smaller-in-Opens
loop-e-smaller-in-Opens t c = omega (arith, ap length c.down-to.ensures.past, behind_few (left c.next.new.self) 0, ap length c.in-Some.ensures.steps)

pub loop-e-preserved-in-Opens : goal.loop-e-preserved-in-Opens
loop-e-preserved-in-Opens t c =
    let fits = half_fits _ _ _ _ _ _ _ c.loop-e.invariant _ _ c.in-Some.ensures.steps _ _ _ c.in-Opens.is c.if-levels-eq0.false c.requires.room in
    let size = same_size c.loop-e.room _ (_ ∷ _ ∷ _ ∷ _ ∷ []) c.loop-e.to c.put.ensures in
    let part = mid_len (c.loop-e.to + 4) (length c.put.new.room) c.put.new.room (omega (arith, fits, size)) in
    half_down _ _ _ _ _ _ _ c.loop-e.invariant _ _ c.in-Some.ensures.steps _ _ _ c.in-Opens.is c.if-levels-eq0.false _ _ _ _ _ c.put.ensures c.requires.room part c.down-to.ensures
