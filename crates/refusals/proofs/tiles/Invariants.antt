-- `tiles` meets its contract: the rows tile exactly where those that are left tile from what is reached on.
use Prim.Native.Nat.{◌<◌, ◌^◌}
use mathlib.Core.Path.{◌≡◌}
use lib.ListN.{length, drop}
use Rattle.definition.specs.Answer.{tile}
use Rattle.refusals.proofs.tiles.Given as goal

abbrev pub invariant-loop-start : goal.invariant-loop-start
invariant-loop-start l = (l.reached < 2 ^ 32) × (tile 0 l.size l.starts l.ends ≡ tile l.reached l.size (drop (length l.yielded) l.starts) (drop (length l.yielded) l.ends))
