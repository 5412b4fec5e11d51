-- `nests` is the definition's. The invariant: what is open and the events from here on nest just where the whole list does.
use Rattle.std.proofs.Common.{sym, ◌∙◌, arith}
use lib.ListN.{length-set}
use Rattle.outline.proofs.Nesting.{nests_opens, nests_deep, nests_closes}
use Rattle.outline.proofs.nest.nests.Goals as goal

pub returns-then-h-ge-DEEPEST : goal.returns-then-h-ge-DEEPEST
returns-then-h-ge-DEEPEST c = sym (c.loop-e.invariant.4 ∙ nests_deep _ _ _ c.in-Some.ensures.steps c.loop-e.«open» c.loop-e.h _ _ _ c.in-Opens.is c.if-h-ge-DEEPEST.true)

pub loop-e-preserved-in-Opens : goal.loop-e-preserved-in-Opens
loop-e-preserved-in-Opens c =
    (tt, tt, omega arith, simp length-set c.loop-e.invariant.3, c.loop-e.invariant.4 ∙ nests_opens _ _ _ c.in-Some.ensures.steps c.loop-e.«open» c.loop-e.h _ _ _ c.in-Opens.is (omega arith) (omega arith))

pub loop-e-preserved-else-open-h : goal.loop-e-preserved-else-open-h
loop-e-preserved-else-open-h c =
    (tt, tt, omega arith, c.loop-e.invariant.3, c.loop-e.invariant.4 ∙ nests_closes _ _ _ c.in-Some.ensures.steps c.loop-e.«open» c.loop-e.h _ c.in-Closes.is c.if-h-eq0.false c.if-open-h.false)
