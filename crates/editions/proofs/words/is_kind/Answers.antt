-- `editions::words::is_kind` meets its contract: the texts of the kinds before the one at hand are others.
use mathlib.Core.Path.{sym, ◌∙◌}
use Rattle.editions.proofs.Texts.{sought, found_kind, sought_on}
use Rattle.editions.proofs.words.is_kind.Goals as goal

pub loop-k-init : goal.loop-k-init
loop-k-init c = sought _ _ _

pub returns-then-same : goal.returns-then-same
returns-then-same c = found_kind c.loop-k.invariant c.requires c.loop-k-test.true c.spell_kind-n.ensures (sym c.same.ensures ∙ c.if-same.true)

pub loop-k-preserved : goal.loop-k-preserved
loop-k-preserved c = sought_on c.loop-k.invariant c.requires c.loop-k-test.true c.spell_kind-n.ensures (sym c.same.ensures ∙ c.if-same.false)
