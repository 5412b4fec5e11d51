-- `editions::words::name_number` meets its contract: the texts of the names before the one at hand are others.
use mathlib.Core.Path.{sym, ◌∙◌}
use Rattle.editions.proofs.Texts.{called, found_name, called_on}
use Rattle.editions.proofs.words.name_number.Goals as goal

pub loop-n-init : goal.loop-n-init
loop-n-init c = called _

pub returns-then-same : goal.returns-then-same
returns-then-same c = found_name c.loop-n.invariant c.loop-n-test.true c.spell_name-k.ensures (sym c.same.ensures ∙ c.if-same.true)

pub loop-n-preserved : goal.loop-n-preserved
loop-n-preserved c = called_on c.loop-n.invariant c.loop-n-test.true c.spell_name-k.ensures (sym c.same.ensures ∙ c.if-same.false)
