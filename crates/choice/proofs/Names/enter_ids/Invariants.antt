use Rattle.kinds.specs.Sets.{ids_of, set_of}
use Rattle.choice.proofs.Spelling.{Entering}
use Rattle.choice.proofs.Names.enter_ids.Given as goal

abbrev pub invariant-loop-k : goal.invariant-loop-k
invariant-loop-k l = Entering (ids_of (set_of l.set)) l.initial.self l.self l.k
