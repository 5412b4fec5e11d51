-- `tags` counts the IDENT rows in RULE_TAGS. The invariant: what is counted and what is inside from here on come to the same.
use Rattle.std.proofs.Common.{◌≡◌, ◌+◌, ◌<◌, ◌^◌, length}
use Rattle.outline.specs.Rules as R
use Rattle.outline.specs.Steps.{left}
use Rattle.outline.specs.Levels.{inside_left}
use Rattle.outline.proofs.Walking.{tagged_in}
use Rattle.outline.proofs.inside.tags.Given as goal

abbrev pub invariant-loop-e : goal.invariant-loop-e
invariant-loop-e l =
    (goal.iterator-loop-e).can_next l.e-iterator
    × (goal.iterator-loop-e).is_finite l.e-iterator
    × (l.t + length (inside_left l.e-iterator) < 2 ^ 64)
    × (l.n + length (inside_left l.e-iterator) < 2 ^ 64)
    × (R.tagged (R.inside (left l.fn.events) 0) 0 ≡ l.n + tagged_in (inside_left l.e-iterator) l.t)
