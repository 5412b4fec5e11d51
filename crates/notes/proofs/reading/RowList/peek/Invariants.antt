use Rattle.notes.proofs.Peeks.{Peeking}
use Rattle.notes.proofs.reading.RowList.peek.Given as goal

abbrev pub invariant-loop-at : goal.invariant-loop-at
invariant-loop-at l = Peeking l.self.ids.now l.from l.at
