-- `count` meets its contract.
use mathlib.Core.Path.{ap}
use native.Mathlib.Omega.{arith}
use lib.ListN.{length, drop}
use Rattle.cutter.specs.Made.{turn_of}
use Rattle.cutter.proofs.Stands.{stands, onwards}
use Rattle.cutter.proofs.Fills.{begun, one_more}
use Rattle.cutter.proofs.pass.count.Goals as goal

pub loop-at-init : goal.loop-at-init
loop-at-init c = (omega arith, omega arith, omega (arith, ap length (begun c.args.source.now)), stands _ 0 c.args.source.now c.nothing-memo.ensures.0 (c.nothing-memo.ensures.1 (drop 0 c.args.source.now)))

pub loop-at-preserved : goal.loop-at-preserved
loop-at-preserved c =
    let l = c.loop-at in
    let r = c.next_row-r.ensures in (
      r.result_value.2,
      omega (arith, r.result_value.1),
      one_more c.args.source.now l.at l.n l.place (turn_of c.next_row-r.result) c.loop-at-test.true r.result_value.0 r.result_value.1 l.invariant.2,
      onwards c.next_row-r.result.len r.stands_2,
    )
