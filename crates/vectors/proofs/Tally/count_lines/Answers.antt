-- `count_lines` is safe and ends: each line lies in the bytes.
use Rattle.std.proofs.Common.{arith}
use Rattle.listing.proofs.Lent.{line_within}
use Rattle.vectors.proofs.Tally.count_lines.Goals as goal

pub slice_bounds-line_agrees-count : goal.slice_bounds-line_agrees-count
slice_bounds-line_agrees-count _ c = omega (arith, line_within _ c.next_line.ensures c.in-Whole.is)

pub slice_bounds-line_agrees-start : goal.slice_bounds-line_agrees-start
slice_bounds-line_agrees-start _ c = omega (arith, line_within _ c.next_line.ensures c.in-Whole.is)

pub slice_bounds-line_agrees-end : goal.slice_bounds-line_agrees-end
slice_bounds-line_agrees-end _ c = omega (arith, line_within _ c.next_line.ensures c.in-Whole.is)

pub loop-to-smaller : goal.loop-to-smaller
loop-to-smaller _ c = omega (arith, line_within _ c.next_line.ensures c.in-Whole.is)

pub loop-to-preserved : goal.loop-to-preserved
loop-to-preserved _ c = omega (arith, line_within _ c.next_line.ensures c.in-Whole.is)
