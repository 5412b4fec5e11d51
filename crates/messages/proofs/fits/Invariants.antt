-- `messages::fits` meets its contract: what is left of the room after k pieces.
use mathlib.Core.Path.{◌≡◌}
use lib.ListN.{length}
use Rattle.messages.specs.Pieces.{pieces}
use Rattle.messages.proofs.Fitting.{Fitting}
use Rattle.messages.proofs.fits.Given as goal

abbrev pub invariant-loop-k : goal.invariant-loop-k
invariant-loop-k l = (l.k-end ≡ length (pieces l.numbers)) × Fitting l.source l.text l.numbers l.room l.left l.k
