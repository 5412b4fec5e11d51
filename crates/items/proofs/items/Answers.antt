-- `items::items` meets its contract. The loop's invariant: as many items were read as were counted. Assumes nothing.
use Prim.Native.Nat.{◌+◌, ◌-◌}
use mathlib.Core.Path.{refl, sym, ◌∙◌}
use native.Mathlib.Omega.{arith}
use lib.ListN.{length}
use Rattle.items.proofs.Between.{items_none, idles, goes_as, goes_then}
use Rattle.items.proofs.items.Goals as goal

pub loop-number-init : goal.loop-number-init
loop-number-init c = (items_none 1 c.requires.0 c.requires.1, (refl, refl, refl))

pub returns-then-over-clause-read : goal.returns-then-over-clause-read
returns-then-over-clause-read c = let N = length c.args.x.now.rows.ids.now in let n = c.loop-number.number in let i = c.loop-number.invariant in goes_as (n + (N - n)) N (omega (arith, c.loop-number-test.true)) (goes_then 1 n (N - n) i.0 (idles i.0.wf i.0.settles (n + 1) (N - n) (sym c.over.ensures ∙ c.if-over.true)))

pub item-d-requires : goal.item-d-requires
item-d-requires c = (c.loop-number.invariant.0.wf, c.loop-number.invariant.0.settles, omega (arith, c.loop-number-test.true))

pub loop-number-preserved : goal.loop-number-preserved
loop-number-preserved c = let i = c.loop-number.invariant in let l = c.item-d.ensures.lists in (goes_then 1 c.loop-number.number 1 i.0 c.item-d.ensures.read, (l.0 ∙ i.1.0, l.1 ∙ i.1.1, l.2 ∙ i.1.2))

pub returns-clause-read : goal.returns-clause-read
returns-clause-read c = goes_as c.loop-number.number (length c.args.x.now.rows.ids.now) (omega (arith, c.loop-number-test.false)) c.loop-number.invariant.0
