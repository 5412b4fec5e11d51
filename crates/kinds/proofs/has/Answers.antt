-- `kinds::has` meets its contract: the table that it lends is the sets' words.
use mathlib.Core.Path.{refl, ◌∙◌}
use Rattle.kinds.specs.Sets.{id_of}
use Rattle.kinds.specs.Answers.{words}
use Rattle.kinds.proofs.Words.{lent_right}
use Rattle.kinds.proofs.has.Goals as goal

pub returns : goal.returns
unfolding id_of words
returns c = c.within.ensures ∙ lent_right _ refl c.args.set c.args.id
