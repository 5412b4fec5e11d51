-- `messages::write` meets its contract: k pieces are written.
use mathlib.Core.Path.{◌≡◌}
use lib.ListN.{length}
use Rattle.messages.specs.Pieces.{pieces}
use Rattle.messages.proofs.Fitting.{Wrote}
use Rattle.messages.proofs.write.Given as goal

abbrev pub invariant-loop-k : goal.invariant-loop-k
invariant-loop-k l = (l.k-end ≡ length (pieces l.numbers)) × Wrote l.source l.text l.numbers l.initial.room l.room l.end l.k
