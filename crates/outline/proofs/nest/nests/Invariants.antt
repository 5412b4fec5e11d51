-- `nests` is the definition's. The invariant: what is open and the events from here on nest just where the whole list does.
use Rattle.std.proofs.Common.{◌≡◌, ◌≤◌, [], length}
use Rattle.outline.specs.Rules as R
use Rattle.outline.specs.Steps.{left, stack}
use Rattle.outline.proofs.nest.nests.Given as goal

abbrev pub invariant-loop-e : goal.invariant-loop-e
invariant-loop-e l =
    (goal.iterator-loop-e).can_next l.e-iterator
    × (goal.iterator-loop-e).is_finite l.e-iterator
    × (l.h ≤ R.deepest)
    × (length l.«open» ≡ R.deepest)
    × (R.nests (left l.fn.events) [] ≡ R.nests (left l.e-iterator) (stack l.«open» l.h))
