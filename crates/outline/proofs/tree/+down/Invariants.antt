-- `down` writes the nodes below one that is open. It calls itself with one level less to go. The invariant: what is written and what is below from
-- here on are the list (`Half`).
use Rattle.outline.specs.Steps.{left}
use Rattle.outline.proofs.Descending.{Half}
use Rattle.outline.proofs.tree.+down.Given as goal

abbrev pub decreases-down : goal.decreases-down
decreases-down l = l.levels

abbrev pub invariant-loop-e : goal.invariant-loop-e
invariant-loop-e l = Half (left l.initial.events) (left l.events) l.level l.levels l.initial.room l.room l.to
