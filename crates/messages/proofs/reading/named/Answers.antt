-- `messages::reading::named` meets its contract: the numbers before the place are names, none twice.
use mathlib.Core.Path.{sym, ◌∙◌}
use native.Mathlib.Omega.{arith}
use Rattle.messages.proofs.Judged.{met, twice, once}
use Rattle.messages.proofs.reading.named.Goals as goal

pub returns-then-contains : goal.returns-then-contains
returns-then-contains c =
    twice c.args.list.now c.loop-i.i c.loop-i-test.true (omega arith)
    (sym (met c.args.list.now c.loop-i.i _ c.loop-i.auto.i-end) ∙ sym c.contains.ensures.value ∙ c.if-contains.true)
    ∙ c.loop-i.invariant

pub loop-i-preserved : goal.loop-i-preserved
loop-i-preserved c =
    once c.args.list.now c.loop-i.i c.loop-i-test.true (omega arith)
    (sym (met c.args.list.now c.loop-i.i _ c.loop-i.auto.i-end) ∙ sym c.contains.ensures.value ∙ c.if-contains.false)
    ∙ c.loop-i.invariant
