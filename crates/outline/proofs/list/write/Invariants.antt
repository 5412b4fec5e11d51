-- `write` leaves the list at the front of the room. The invariant: what is written and the rules from here on are the list.
use Rattle.std.proofs.Common.{◌≡◌, length}
use Rattle.outline.specs.Rules as R
use Rattle.outline.specs.Steps.{left}
use Rattle.outline.proofs.Listing.{Part}
use Rattle.outline.proofs.list.write.Given as goal

abbrev pub invariant-loop-e : goal.invariant-loop-e
invariant-loop-e l = (length l.room ≡ length l.initial.room) × Part (R.rules (left l.initial.events)) (R.rules (left l.events)) l.room l.to
