-- `messages::write` meets its contract: k pieces are written.
use native.Mathlib.Omega.{arith}
use Rattle.messages.proofs.Fitting.{wrote_on, next_fits}
use Rattle.messages.proofs.write.Goals as goal

pub put-end-requires : goal.put-end-requires
put-end-requires c = next_fits c.loop-k.invariant.1 (omega (arith, c.loop-k-test.true, c.loop-k.invariant.0)) c.requires c.piece.ensures

pub loop-k-preserved : goal.loop-k-preserved
loop-k-preserved c = (c.loop-k.invariant.0, wrote_on c.loop-k.invariant.1 (omega (arith, c.loop-k-test.true, c.loop-k.invariant.0)) c.piece.ensures c.put-end.ensures)
