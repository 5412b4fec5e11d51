-- `items::flush` meets its contract. The loop's invariant: what was written and what is left to read is all. Assumes nothing.
use native.Mathlib.Omega.{arith}
use Rattle.notes.specs.Whole.{fresh}
use Rattle.items.proofs.Writing.{flushing, flush_open, flush_on, flush_out, flush_most}
use Rattle.items.proofs.flush.Goals as goal

pub loop-at-init : goal.loop-at-init
loop-at-init c = λ n. flushing c.requires.0 c.requires.1 (omega (arith, c.ranges))

pub returns-then-index : goal.returns-then-index
returns-then-index c = λ n. flush_most (c.loop-at.invariant n) c.if-index.true c.around-depth.ensures

pub write-s-requires : goal.write-s-requires
write-s-requires c = flush_open (c.loop-at.invariant fresh)

pub loop-at-preserved : goal.loop-at-preserved
loop-at-preserved c = λ n. flush_on (c.loop-at.invariant n) c.loop-at-test.true c.if-index.false (c.write-s.ensures n) c.next_record-at.ensures

pub returns : goal.returns
returns c = λ n. flush_out (c.loop-at.invariant n) c.loop-at-test.false c.around-depth.ensures

pub overflow_add-at : goal.overflow_add-at
overflow_add-at c = let n = (c.loop-at.invariant fresh).near in omega (arith, n, c.well_formed)
