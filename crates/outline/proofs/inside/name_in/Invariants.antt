-- `name_in` finds the first IDENT row directly in the node. The invariant: no such row was passed.
use Rattle.std.proofs.Common.{◌≡◌}
use Rattle.outline.specs.Rules as R
use Rattle.outline.specs.Steps.{left}
use Rattle.outline.specs.Levels.{inside_left}
use Rattle.outline.proofs.Walking.{first_ident}
use Rattle.outline.proofs.inside.name_in.Given as goal

abbrev pub invariant-loop-e : goal.invariant-loop-e
invariant-loop-e l =
    (goal.iterator-loop-e).can_next l.e-iterator
    × (goal.iterator-loop-e).is_finite l.e-iterator
    × (R.name (R.inside (left l.fn.events) 0) 0 ≡ first_ident (inside_left l.e-iterator))
