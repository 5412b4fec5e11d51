-- What the events inside a node have left.
use Rattle.std.specs.Prelude.{ℕ, List}
use Rattle.outline.specs.Steps.{left, levels}
use Rattle.outline.specs.declared.shape.Event.{Event}
use Rattle.outline.specs.declared.inside.Inside.{Inside}

abbrev pub inside_left : Inside → List (Event × ℕ)
inside_left it = levels (left it.events) it.depth
