-- `skip` passes a node. The invariant: what is behind the node is behind the nodes that are open here.
use Rattle.std.proofs.Common.{◌≡◌, ◌+◌, ◌<◌, ◌^◌, length}
use Rattle.outline.specs.Steps.{behind, left}
use Rattle.outline.proofs.tree.skip.Given as goal

abbrev pub invariant-loop-e : goal.invariant-loop-e
invariant-loop-e l = (l.depth + length (left l.events) < 2 ^ 64) × (behind (left l.initial.events) 0 ≡ behind (left l.events) l.depth)
