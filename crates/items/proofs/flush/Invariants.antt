-- `items::flush` meets its contract. The loop's invariant: what was written and what is left to read is all. Assumes nothing.
use Prim.Native.Nat.{◌-◌}
use lib.ListN.{length}
use Rattle.notes.specs.declared.names.Notes.{Notes}
use Rattle.steps.specs.Steps.{whole}
use Rattle.items.proofs.Writing.{Flushing}
use Rattle.items.proofs.flush.Given as goal

abbrev pub invariant-loop-at : goal.invariant-loop-at
invariant-loop-at l = (n : Notes) → Flushing l.depth l.records l.before (whole l.initial.s n) (whole l.s n) l.initial.events l.events l.at l.index

abbrev pub decreases-loop-at : goal.decreases-loop-at
decreases-loop-at l = length l.records - l.at
