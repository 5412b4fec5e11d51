-- `write` leaves the finished list at the front of the room. The invariant: the room is a draft of it (proofs/Drafting).
use mathlib.Core.Path.{◌≡◌}
use lib.ListN.{length}
use Rattle.definition.specs.Merge.{finished}
use Rattle.merger.specs.Events.{marks_of}
use Rattle.merger.specs.Pen.{page}
use Rattle.merger.proofs.Drafting.{Draft}
use Rattle.merger.proofs.pen.write.Given as goal

abbrev pub invariant-loop-event : goal.invariant-loop-event
invariant-loop-event l = (length l.room ≡ length l.initial.room) × Draft (finished l.events) (marks_of l.rest) (page l.room l.pen)

abbrev pub decreases-loop-event : goal.decreases-loop-event
decreases-loop-event l = length l.rest
