-- `cache::forget` meets its contract: the rows before word `at` are forgotten, and no bit was set.
use native.Mathlib.Omega.{arith}
use lib.ListN.{length-set}
use Rattle.notes.proofs.Bits.{forgot_word}
use Rattle.notes.proofs.cache.forget.Goals as goal

pub loop-at-preserved : goal.loop-at-preserved
loop-at-preserved c = (forgot_word c.loop-at.invariant.0 (omega arith), simp length-set c.loop-at.invariant.1)
