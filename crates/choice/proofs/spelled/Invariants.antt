use Rattle.choice.proofs.Spelling.{Spelling}
use Rattle.choice.proofs.spelled.Given as goal

abbrev pub invariant-loop-k : goal.invariant-loop-k
invariant-loop-k l = Spelling l.notes l.k l.names
