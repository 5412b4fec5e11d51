-- `kinds::text::spell_kind` meets its contract: the table has the page's texts.
use Rattle.kinds.specs.Spelling.{kind_text}
use Rattle.kinds.proofs.Spelt.{kind_fits}
use Rattle.kinds.proofs.text.spell_kind.Goals as goal

pub spell-requires : goal.spell-requires
unfolding kind_text
spell-requires c = kind_fits c.args.kind

pub returns : goal.returns
unfolding kind_text
returns c = c.spell.ensures
