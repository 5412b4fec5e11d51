-- `of` opens the node: the bound on what is open holds since a list has fewer events than numbers.
use Rattle.std.proofs.Common.{arith}
use Rattle.outline.proofs.Numbers.{few}
use Rattle.outline.proofs.inside.Inside.of.Goals as goal

pub invariant_of-result : goal.invariant_of-result
invariant_of-result c = record { fits = omega (arith, few c.args.events.list.now) }
