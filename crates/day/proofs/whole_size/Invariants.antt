-- `whole_size` is safe and ends: each turn has more bytes.
use Rattle.std.proofs.Common.{◌≡◌, ◌-◌, ◌^◌, ◌<◌, length}
use Rattle.day.proofs.whole_size.Given as goal

abbrev pub invariant-loop-size : goal.invariant-loop-size
invariant-loop-size _ l = (l.size < 2 ^ 32) × (length l.bytes ≡ 4096)

abbrev pub decreases-loop-size : goal.decreases-loop-size
decreases-loop-size _ l = 2 ^ 32 - l.size
