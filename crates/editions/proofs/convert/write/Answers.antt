-- `editions::convert::write` meets its contract: the lines before a place are made, and written.
use native.Mathlib.Omega.{arith}
use Rattle.editions.proofs.Judging.{writing, line_fits, written_last, writing_on}
use Rattle.editions.proofs.convert.write.Goals as goal

pub loop-at-init : goal.loop-at-init
loop-at-init c = writing _ _ _ c.requires.front

pub put_line-requires : goal.put_line-requires
put_line-requires c = line_fits c.loop-at.invariant c.requires.front c.requires.fits c.piece_end-to.ensures (omega arith) c.step_at.ensures.line_value c.in-Some.is c.step_at.ensures.result_in_bounds

pub returns-then-out : goal.returns-then-out
returns-then-out c = written_last c.loop-at.invariant c.requires.front c.requires.fits c.piece_end-to.ensures (omega arith) c.step_at.ensures.line_value c.in-Some.is c.step_at.ensures.result_in_bounds c.put_line.ensures c.if-out.true

pub loop-at-preserved : goal.loop-at-preserved
loop-at-preserved c = writing_on c.loop-at.invariant c.requires.front c.requires.fits c.piece_end-to.ensures (omega arith) c.step_at.ensures.line_value c.in-Some.is c.step_at.ensures.result_in_bounds c.put_line.ensures c.if-out.false
