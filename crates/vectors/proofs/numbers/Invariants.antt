-- `numbers` is safe: the count never passes the cells.
use Rattle.std.proofs.Common.{◌≤◌, length}
use Rattle.vectors.proofs.numbers.Given as goal

abbrev pub invariant-loop-field : goal.invariant-loop-field
invariant-loop-field l = l.n ≤ length l.cells
