-- `count` counts the rules, where each has a name. The invariant: what is counted and the rules from here on come to the same.
use Rattle.std.proofs.Common.{◌≡◌, ◌+◌, ◌<◌, ◌^◌, length}
use Rattle.outline.specs.Rules as R
use Rattle.outline.specs.Steps.{left, counted}
use Rattle.outline.proofs.Listing.{plus}
use Rattle.outline.proofs.list.count.Given as goal

abbrev pub invariant-loop-e : goal.invariant-loop-e
invariant-loop-e l = (l.n + length (left l.events) < 2 ^ 64) × (counted (R.rules (left l.initial.events)) ≡ plus l.n (counted (R.rules (left l.events))))
