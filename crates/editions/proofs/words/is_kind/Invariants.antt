-- `editions::words::is_kind` meets its contract: the texts of the kinds before the one at hand are others.
use Rattle.editions.proofs.Texts.{Sought}
use Rattle.editions.proofs.words.is_kind.Given as goal

abbrev pub invariant-loop-k : goal.invariant-loop-k
invariant-loop-k l = Sought l.from l.to l.text l.k
