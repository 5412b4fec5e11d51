use Rattle.choice.proofs.Spelling.{code_below, spelling_on}
use Rattle.choice.proofs.spelled.Goals as goal

pub enter_code-names-requires : goal.enter_code-names-requires
enter_code-names-requires c = (c.loop-k.invariant.spells.spelt, code_below c.args.notes.now c.requires c.loop-k.k c.loop-k-test.true)

pub loop-k-preserved : goal.loop-k-preserved
loop-k-preserved c = spelling_on c.args.notes.now c.requires c.loop-k.k c.loop-k-test.true c.loop-k.invariant c.enter_code-names.ensures
