-- The first k names are pasted in.
use mathlib.Core.Path.{◌≡◌}
use lib.ListN.{length}
use lib.Seq.{paste}
use Rattle.choice.proofs.spell.Given as goal

abbrev pub invariant-loop-k : goal.invariant-loop-k
invariant-loop-k l = (l.errors ≡ paste l.initial.errors l.at l.names l.k) × (length l.errors ≡ length l.initial.errors)
