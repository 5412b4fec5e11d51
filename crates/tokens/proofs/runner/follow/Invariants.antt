-- `follow` meets its contract: from `at` on the state ends no row.
use Prim.Native.Nat.{◌-◌, ◌≤◌, ◌<◌}
use lib.ListN.{length, drop}
use Rattle.tokens.specs.Modes.{number}
use Rattle.tokens.specs.States.{Hop}
use Rattle.tokens.proofs.runner.follow.Given as goal

abbrev pub invariant-loop-at : goal.invariant-loop-at
invariant-loop-at l = (l.state < 88) × (l.at ≤ length l.s) × Hop (number l.mode) l.state 0 (drop l.at l.s)

abbrev pub decreases-loop-at : goal.decreases-loop-at
decreases-loop-at l = length l.s - l.at
