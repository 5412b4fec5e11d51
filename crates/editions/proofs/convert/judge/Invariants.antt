-- `editions::convert::judge` meets its contract: the lines before a place are made, and what they take is counted.
use Prim.Native.Nat.{◌-◌}
use lib.ListN.{length}
use Rattle.editions.proofs.Judging.{Judging}
use Rattle.editions.proofs.convert.judge.Given as goal

abbrev pub invariant-loop-at : goal.invariant-loop-at
invariant-loop-at l = Judging l.up l.text l.room l.taken l.number l.depth l.at

abbrev pub decreases-loop-at : goal.decreases-loop-at
decreases-loop-at l = length l.text - l.at
