-- `count` finds refusal 10 or the size of the finished list. The invariant: the tally and the marks that are left come to the same.
use Prim.Native.Nat.{◌≤◌, ◌+◌, ◌*◌}
use mathlib.Core.Path.{◌≡◌}
use lib.ListN.{length}
use Rattle.std.specs.Prelude.{Some}
use Rattle.shapes.specs.Shapes.{EVENT}
use Rattle.merger.specs.Count.{counted}
use Rattle.merger.specs.Events.{marks_of}
use Rattle.merger.proofs.Counting.{comes}
use Rattle.merger.proofs.judge.count.Given as goal

abbrev pub invariant-loop-event : goal.invariant-loop-event
invariant-loop-event l =
    (EVENT * l.tally.nodes + length l.rest ≤ length l.events)
    × (EVENT * l.tally.left + length l.rest ≤ length l.events)
    × (counted (marks_of l.events) ≡ comes (Some l.tally) (marks_of l.rest))

abbrev pub decreases-loop-event : goal.decreases-loop-event
decreases-loop-event l = length l.rest
