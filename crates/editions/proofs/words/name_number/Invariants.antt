-- `editions::words::name_number` meets its contract: the texts of the names before the one at hand are others.
use Rattle.editions.proofs.Texts.{Called}
use Rattle.editions.proofs.words.name_number.Given as goal

abbrev pub invariant-loop-n : goal.invariant-loop-n
invariant-loop-n l = Called l.text l.n
