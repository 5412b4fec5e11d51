-- `editions::convert::judge` meets its contract: the lines before a place are made, and what they take is counted.
use native.Mathlib.Omega.{arith}
use Rattle.editions.proofs.Judging.{judging, judged_last, judging_on}
use Rattle.editions.proofs.convert.judge.Goals as goal

pub loop-at-init : goal.loop-at-init
loop-at-init c = judging _ _ _

pub returns-then-out : goal.returns-then-out
returns-then-out c = judged_last c.loop-at.invariant c.piece_end-to.ensures (omega arith) c.step_at.ensures.line_value c.in-Some.is c.step_at.ensures.result_in_bounds c.take.ensures c.tail_length.ensures c.take-taken.ensures c.if-out.true c.judge_last.ensures

pub loop-at-preserved : goal.loop-at-preserved
loop-at-preserved c = judging_on c.loop-at.invariant c.piece_end-to.ensures (omega arith) c.step_at.ensures.line_value c.in-Some.is c.step_at.ensures.result_in_bounds c.take.ensures c.tail_length.ensures c.take-taken.ensures c.if-out.false
