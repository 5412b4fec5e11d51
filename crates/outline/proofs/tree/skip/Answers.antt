-- `skip` passes a node. The invariant: what is behind the node is behind the nodes that are open here.
use Rattle.std.proofs.Common.{refl, arith}
use Rattle.outline.proofs.Numbers.{few}
use Rattle.outline.proofs.tree.skip.Goals as goal

pub loop-e-init : goal.loop-e-init
loop-e-init c = (omega (arith, few c.args.events.now.list.now), refl)
