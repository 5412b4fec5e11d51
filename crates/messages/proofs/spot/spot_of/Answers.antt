-- `messages::spot::spot_of` meets its contract: after some bytes line and column are those of that place.
use mathlib.Core.Path.{◌∙◌}
use native.Mathlib.Omega.{arith}
use Rattle.messages.proofs.Spots.{feed, other, gone, cut_at}
use Rattle.messages.proofs.spot.spot_of.Goals as goal
use Rattle.messages.proofs.spot.spot_of.Goals.{then-byte-eq10, else-byte-eq10}

pub loop-byte-preserved : goal.loop-byte-preserved
loop-byte-preserved c =
    elim c.if-byte-eq10.branch [
      | then-byte-eq10 w ↦ rw (w.line-is, w.column-is) (feed c.loop-byte.invariant c.loop-byte-test.true w.if-byte-eq10.true)
      | else-byte-eq10 w ↦ rw (w.line-is, w.column-is) (other c.loop-byte.invariant c.loop-byte-test.true w.if-byte-eq10.false)
    ]

pub returns : goal.returns
returns c = gone c.loop-byte.invariant c.loop-byte-test.false ∙ cut_at c.args.source.now c.args.at (omega arith)
