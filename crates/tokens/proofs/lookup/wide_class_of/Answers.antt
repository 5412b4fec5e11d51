-- `wide_class_of` meets its contract.
use mathlib.Core.Path.{◌∙◌}
use Rattle.tokens.proofs.Lookups.{wide_ranges}
use Rattle.tokens.proofs.lookup.wide_class_of.Goals as goal

pub returns : goal.returns
returns c = c.class_in.ensures ∙ wide_ranges c.args.x
