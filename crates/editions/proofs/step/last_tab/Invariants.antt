-- `editions::step::last_tab` meets its contract: no tab stands behind a place.
use mathlib.Core.Path.{◌≡◌}
use mathlib.Core.Option.{none}
use lib.ListN.{drop}
use Rattle.editions.specs.Editions.{shed}
use Rattle.editions.proofs.step.last_tab.Given as goal

abbrev pub invariant-loop-i : goal.invariant-loop-i
invariant-loop-i l = shed 9 (drop l.i l.line) ≡ none
