-- `take_lines` is safe and ends: each line lies in the bytes.
use Rattle.std.proofs.Common.{arith}
use Rattle.listing.proofs.Lent.{line_within}
use Rattle.intake.proofs.Taken.take_lines.Goals as goal

pub slice_bounds-take_line-count : goal.slice_bounds-take_line-count
slice_bounds-take_line-count _ c = omega (arith, line_within _ c.next_line.ensures c.in-Whole.is)

pub slice_bounds-take_line-start : goal.slice_bounds-take_line-start
slice_bounds-take_line-start _ c = omega (arith, line_within _ c.next_line.ensures c.in-Whole.is)

pub slice_bounds-take_line-end : goal.slice_bounds-take_line-end
slice_bounds-take_line-end _ c = omega (arith, line_within _ c.next_line.ensures c.in-Whole.is)

pub loop-to-smaller : goal.loop-to-smaller
loop-to-smaller _ c = omega (arith, line_within _ c.next_line.ensures c.in-Whole.is)

pub loop-to-preserved : goal.loop-to-preserved
loop-to-preserved _ c = omega (arith, line_within _ c.next_line.ensures c.in-Whole.is)
