-- `utf8::bad_byte` meets its contract. The loop's invariant: the place that is sought from i on is that of all bytes.
use mathlib.Core.Path.{◌≡◌}
use lib.ListN.{drop}
use Rattle.utf8.specs.Utf8.{seek, bad_byte}
use Rattle.utf8.specs.Due.{ranges}
use Rattle.utf8.proofs.bad_byte.Given as goal

abbrev pub invariant-loop-i : goal.invariant-loop-i
invariant-loop-i l = seek l.i l.first (ranges l.due) (drop l.i l.s) ≡ bad_byte l.s
