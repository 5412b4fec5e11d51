-- `editions::step::last_tab` meets its contract: no tab stands behind a place.
use Rattle.editions.proofs.Steps.{mark_at}
use Rattle.editions.proofs.step.last_tab.Goals as goal

pub returns-then-line-i-eq9 : goal.returns-then-line-i-eq9
returns-then-line-i-eq9 c = mark_at 9 c.args.line.now c.loop-i.i c.loop-i.invariant c.loop-i-test.true c.loop-i.auto.i c.if-line-i-eq9.true
