-- `take_source` is safe: the file name lies in the line.
use mathlib.Core.Path.{ap, ◌∙◌}
use Rattle.std.proofs.Common.{arith}
use Rattle.std.specs.Prelude.{Some}
use Rattle.listing.proofs.Lent.{name_within}
use Rattle.intake.proofs.Taken.take_source.Goals as goal

pub slice_bounds-read_file-count : goal.slice_bounds-read_file-count
slice_bounds-read_file-count _ c = omega (arith, name_within _ c.read_line.ensures (c.in-Some-Source.is ∙ ap Some c.in-Some-Source.field-0-is))

pub slice_bounds-read_file-start : goal.slice_bounds-read_file-start
slice_bounds-read_file-start _ c = omega (arith, name_within _ c.read_line.ensures (c.in-Some-Source.is ∙ ap Some c.in-Some-Source.field-0-is))

pub slice_bounds-read_file-end : goal.slice_bounds-read_file-end
slice_bounds-read_file-end _ c = omega (arith, name_within _ c.read_line.ensures (c.in-Some-Source.is ∙ ap Some c.in-Some-Source.field-0-is))
