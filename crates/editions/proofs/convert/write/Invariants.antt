-- `editions::convert::write` meets its contract: the lines before a place are made, and written.
use Prim.Native.Nat.{◌-◌}
use lib.ListN.{length}
use Rattle.editions.proofs.Judging.{Writing}
use Rattle.editions.proofs.convert.write.Given as goal

abbrev pub invariant-loop-at : goal.invariant-loop-at
invariant-loop-at l = Writing l.up l.text l.number l.depth l.at l.initial.page l.page

abbrev pub decreases-loop-at : goal.decreases-loop-at
decreases-loop-at l = length l.text - l.at
