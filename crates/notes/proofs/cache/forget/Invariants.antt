-- `cache::forget` meets its contract: the rows before word `at` are forgotten, and no bit was set.
use Prim.Native.Nat.{◌*◌}
use mathlib.Core.Path.{◌≡◌}
use lib.ListN.{length}
use Rattle.notes.specs.Bits.{Forgot}
use Rattle.notes.proofs.cache.forget.Given as goal

abbrev pub invariant-loop-at : goal.invariant-loop-at
invariant-loop-at l = Forgot l.from (32 * l.at) l.initial.scratch l.scratch × (length l.scratch ≡ length l.initial.scratch)
