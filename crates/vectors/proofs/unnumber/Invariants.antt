-- `unnumber` is safe and ends: what is kept is never more than what was passed.
use Rattle.std.proofs.Common.{◌≤◌}
use Rattle.vectors.proofs.unnumber.Given as goal

abbrev pub invariant-loop-at : goal.invariant-loop-at
invariant-loop-at l = (l.to ≤ l.at) × (3 ≤ l.item)
