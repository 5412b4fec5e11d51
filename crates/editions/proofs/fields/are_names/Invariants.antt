-- `editions::fields::are_names` meets its contract: the names before a place are new, and their marks are set.
use Prim.Native.Nat.{◌+◌, ◌-◌}
use lib.ListN.{length}
use Rattle.editions.proofs.Parts.{Naming}
use Rattle.editions.proofs.fields.are_names.Given as goal

abbrev pub invariant-loop-at : goal.invariant-loop-at
invariant-loop-at l = Naming l.text l.seen l.at

abbrev pub decreases-loop-at : goal.decreases-loop-at
decreases-loop-at l = length l.text + 1 - l.at
