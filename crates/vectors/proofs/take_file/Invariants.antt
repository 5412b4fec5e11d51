-- `take_file` is safe and ends: each piece begins behind the one before.
use Rattle.std.proofs.Common.{◌≡◌, ◌-◌, ◌≤◌, length}
use Rattle.vectors.proofs.take_file.Given as goal

abbrev pub invariant-loop-from : goal.invariant-loop-from
invariant-loop-from _ l = (l.from ≤ 268451840) × (length l.buffer ≡ 16384)

abbrev pub decreases-loop-from : goal.decreases-loop-from
decreases-loop-from _ l = 268435456 - l.from
