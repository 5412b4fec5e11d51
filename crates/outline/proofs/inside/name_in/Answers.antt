-- `name_in` finds the first IDENT row directly in the node. The invariant: no such row was passed.
use Rattle.std.proofs.Common.{ap, sym, ◌∙◌}
use Rattle.outline.specs.Steps.{left}
use Rattle.outline.specs.Levels.{inside_left}
use Rattle.outline.proofs.Walking.{first_ident, name_levels}
use Rattle.outline.proofs.inside.name_in.Goals as goal

pub loop-e-init : goal.loop-e-init
loop-e-init c = (tt, tt, name_levels (left c.args.events) 0 ∙ ap first_ident (sym (ap inside_left c.into_iter-e-iterator.ensures.into_iter_gives ∙ c.of-e-items.ensures)))
