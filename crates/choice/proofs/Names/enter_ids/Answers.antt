use mathlib.Core.Path.{sym, ◌∙◌}
use native.Mathlib.Omega.{arith}
use Rattle.choice.proofs.Spelling.{sets_brief, name_below, entering_on, entering_all, entering_past}
use Rattle.choice.proofs.Names.enter_ids.Goals as goal

pub returns-in_default : goal.returns-in_default
returns-in_default c = entering_past c.loop-k.invariant (sym c.in_default.is ∙ c.name_at.ensures)

pub overflow_cast-name : goal.overflow_cast-name
overflow_cast-name c = omega (arith, name_below c.args.set c.loop-k.k _ (sym c.in-Some.is ∙ c.name_at.ensures))

pub enter-self-requires : goal.enter-self-requires
enter-self-requires c = (c.loop-k.invariant.spelt, name_below c.args.set c.loop-k.k _ (sym c.in-Some.is ∙ c.name_at.ensures))

pub loop-k-preserved : goal.loop-k-preserved
loop-k-preserved c = entering_on c.loop-k.invariant _ (sym c.in-Some.is ∙ c.name_at.ensures) c.enter-self.ensures

pub returns : goal.returns
returns c = entering_all c.loop-k.invariant (omega (arith, (sets_brief c.args.set).few))
