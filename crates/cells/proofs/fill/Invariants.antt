-- `fill` leaves the value in each cell.
use Rattle.std.proofs.Common.{◌≡◌, replicate, take}
use Rattle.cells.proofs.fill.Given as goal

abbrev pub invariant-loop-cell : goal.invariant-loop-cell
invariant-loop-cell g l = take l.cell-index l.cells ≡ replicate l.cell-index l.value
