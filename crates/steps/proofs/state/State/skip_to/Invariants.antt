use Prim.Native.Nat.{◌-◌}
use lib.ListN.{length}
use Rattle.kinds.specs.Sets.{set_of}
use Rattle.definition.specs.Run as P
use Rattle.notes.proofs.Peeks.{Peeking}
use Rattle.steps.proofs.Taken.{Skipping}
use Rattle.steps.proofs.state.State.skip_to.Given as goal

abbrev pub invariant-loop-seen : goal.invariant-loop-seen
invariant-loop-seen l = Peeking l.rows.ids.now l.self.pos l.seen

abbrev pub decreases-loop-seen : goal.decreases-loop-seen
decreases-loop-seen l = length l.rows.ids.now - l.seen

abbrev pub invariant-rows : goal.invariant-rows
invariant-rows l = Skipping (P.skip_to (set_of l.set)) l.rows.ids.now l.rows.ends.now l.initial.self l.self l.initial.events l.events × Peeking l.rows.ids.now l.self.pos l.seen

abbrev pub decreases-rows : goal.decreases-rows
decreases-rows l = length l.rows.ids.now - l.self.pos
