-- `fill` is safe.
use Prim.Native.Nat.{◌≤◌}
use lib.ListN.{length}
use Rattle.replay_cases.proofs.fill.Given as goal

abbrev pub invariant-loop-size : goal.invariant-loop-size
invariant-loop-size l = l.at ≤ length l.room
