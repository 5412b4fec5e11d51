-- `count` counts the rules, where each has a name. The invariant: what is counted and the rules from here on come to the same.
use Rattle.std.proofs.Common.{arith}
use Rattle.outline.proofs.Numbers.{few}
use Rattle.outline.proofs.Listing.{plus_none}
use Rattle.outline.proofs.list.count.Goals as goal

pub loop-e-init : goal.loop-e-init
loop-e-init c = (omega (arith, few c.args.events.list.now), plus_none _)
