-- `kinds::text::spell_name` meets its contract: the table has the page's texts.
use Rattle.kinds.specs.Spelling.{name_text}
use Rattle.kinds.proofs.Spelt.{name_fits}
use Rattle.kinds.proofs.text.spell_name.Goals as goal

pub spell-requires : goal.spell-requires
unfolding name_text
spell-requires c = name_fits c.args.name

pub returns : goal.returns
unfolding name_text
returns c = c.spell.ensures
