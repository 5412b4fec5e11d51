-- `tags` counts the IDENT rows in RULE_TAGS. The invariant: what is counted and what is inside from here on come to the same.
use Rattle.std.proofs.Common.{length, ap, ◌∙◌, arith}
use Rattle.outline.specs.Steps.{left}
use Rattle.outline.specs.Levels.{inside_left}
use Rattle.outline.proofs.Numbers.{few}
use Rattle.outline.proofs.Walking.{tagged_in, levels_few, tagged_levels}
use Rattle.outline.proofs.inside.tags.Goals as goal

pub loop-e-init : goal.loop-e-init
loop-e-init c =
    let all = ap inside_left c.into_iter-e-iterator.ensures.into_iter_gives ∙ c.of-e-items.ensures in
    let size = ap length all in
    let most = levels_few (left c.args.events) 1 in
    let numbers = few c.args.events.list.now in
    (tt, tt, omega (arith, size, most, numbers), omega (arith, size, most, numbers), omega (arith, tagged_levels (left c.args.events) 0 0, ap (λ ps. tagged_in ps 0) all))
