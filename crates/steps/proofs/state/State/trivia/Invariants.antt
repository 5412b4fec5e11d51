use Prim.Native.Nat.{◌-◌}
use lib.ListN.{length}
use Rattle.definition.specs.Run as P
use Rattle.steps.proofs.Taken.{Skipping}
use Rattle.steps.proofs.state.State.trivia.Given as goal

abbrev pub invariant-loop-self : goal.invariant-loop-self
invariant-loop-self l = Skipping P.trivia l.rows.ids.now l.rows.ends.now l.initial.self l.self l.initial.events l.events

abbrev pub decreases-loop-self : goal.decreases-loop-self
decreases-loop-self l = length l.rows.ids.now - l.self.pos
