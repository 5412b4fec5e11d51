-- `count` meets its contract. The invariant: the rows counted, and those from `at` on, are all.
use Prim.Native.Nat.{◌+◌, ◌-◌, ◌≤◌}
use mathlib.Core.Path.{◌≡◌}
use lib.ListN.{length, drop}
use Rattle.cutter.specs.Rows.{rows, cutting}
use Rattle.cutter.specs.Made.{Stands}
use Rattle.cutter.proofs.pass.count.Given as goal

abbrev pub invariant-loop-at : goal.invariant-loop-at
invariant-loop-at l = (l.at ≤ length l.source) × (l.n ≤ l.at) × (l.n + length (rows l.at 0 l.place (drop l.at l.source)) ≡ length (cutting l.source)) × Stands l.memo l.at l.source

abbrev pub decreases-loop-at : goal.decreases-loop-at
decreases-loop-at l = length l.source - l.at
