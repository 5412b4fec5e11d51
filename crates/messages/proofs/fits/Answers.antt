-- `messages::fits` meets its contract: what is left of the room after k pieces.
use mathlib.Core.Path.{ap}
use native.Mathlib.Omega.{arith}
use lib.ListN.{length}
use Rattle.messages.proofs.Fitting.{fitting_on, too_long}
use Rattle.messages.proofs.fits.Goals as goal

pub returns-then-left-size : goal.returns-then-left-size
returns-then-left-size c = too_long c.loop-k.invariant.1 (omega (arith, c.loop-k-test.true, c.loop-k.invariant.0)) (ap length c.piece-size.ensures) c.if-left-size.true

pub loop-k-preserved : goal.loop-k-preserved
loop-k-preserved c = (c.loop-k.invariant.0, fitting_on c.loop-k.invariant.1 (omega (arith, c.loop-k-test.true, c.loop-k.invariant.0)) (ap length c.piece-size.ensures) c.if-left-size.false)
