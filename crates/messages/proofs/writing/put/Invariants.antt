-- The first k bytes of the text are pasted in.
use mathlib.Core.Path.{◌≡◌}
use lib.ListN.{length}
use lib.Seq.{paste}
use Rattle.messages.proofs.writing.put.Given as goal

abbrev pub invariant-loop-k : goal.invariant-loop-k
invariant-loop-k l = (l.room ≡ paste l.initial.room l.at l.text l.k) × (length l.room ≡ length l.initial.room)
