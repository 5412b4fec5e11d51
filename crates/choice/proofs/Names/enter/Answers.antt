use mathlib.Core.Path.{sym, ◌∙◌}
use Rattle.choice.proofs.Spelling.{has_any, enters_none, enters_one}
use Rattle.choice.proofs.Names.enter.Goals as goal

pub returns : goal.returns
returns c = enters_one c.args.self c.args.name c.requires.0 c.requires.1 (sym c.if-contains.false ∙ c.contains.ensures.value ∙ has_any c.args.name _)

pub returns-then-contains : goal.returns-then-contains
returns-then-contains c = enters_none c.args.self c.args.name c.requires.0 (sym c.if-contains.true ∙ c.contains.ensures.value ∙ has_any c.args.name _)
