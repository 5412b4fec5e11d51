-- `choice::pending` meets its contract. The loop's invariant: what is left to look through says the same as all. Assumes nothing.
use Prim.Native.Nat.{◌-◌, ◌≤◌}
use mathlib.Core.Path.{◌≡◌}
use lib.ListN.{length, drop}
use Rattle.choice.specs.Choice.{scan}
use Rattle.choice.proofs.pending.Given as goal

abbrev pub invariant-loop-at : goal.invariant-loop-at
invariant-loop-at l = (l.at ≤ length l.records) × (scan l.start l.end 0 l.records ≡ scan l.start l.end 0 (drop l.at l.records))

abbrev pub decreases-loop-at : goal.decreases-loop-at
decreases-loop-at l = length l.records - l.at
