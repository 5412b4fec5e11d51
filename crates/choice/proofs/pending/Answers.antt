-- `choice::pending` meets its contract. The loop's invariant: what is left to look through says the same as all. Assumes nothing.
use Prim.Native.Nat.{ℕ}
use mathlib.Core.Path.{sym, ap, ◌∙◌}
use native.Mathlib.Omega.{arith}
use lib.ListN.{drop}
use Rattle.shapes.proofs.Laws.{next_within}
use Rattle.choice.specs.Choice.{scan}
use Rattle.choice.proofs.Scanning.{scan_hit, scan_start, scan_end, scan_out}
use Rattle.choice.proofs.pending.Goals as goal
use Rattle.choice.proofs.pending.Goals.{then-records-at+else-records-at-2, else-records-at}

pub returns-then-records-at-2 : goal.returns-then-records-at-2
returns-then-records-at-2 c = scan_hit c.args.start c.args.end c.args.records.now c.loop-at.at c.loop-at-test.true c.if-records-at.true c.if-records-at-2.true ∙ sym c.loop-at.invariant.1

pub loop-at-preserved : goal.loop-at-preserved
loop-at-preserved c = (omega (arith, c.next_record-at.ensures, next_within c.args.records.now c.loop-at.at), c.loop-at.invariant.1 ∙ elim c.if-records-at.branch [ then-records-at+else-records-at-2 w ↦ scan_end c.args.start c.args.end c.args.records.now c.loop-at.at c.loop-at-test.true w.if-records-at.true w.if-records-at-2.false | else-records-at w ↦ scan_start c.args.start c.args.end c.args.records.now c.loop-at.at c.loop-at-test.true w.if-records-at.false ] ∙ ap (λ (i : ℕ). scan c.args.start c.args.end 0 (drop i c.args.records.now)) (sym c.next_record-at.ensures))

pub returns : goal.returns
returns c = sym (c.loop-at.invariant.1 ∙ scan_out c.args.start c.args.end c.args.records.now c.loop-at.at c.loop-at-test.false)
