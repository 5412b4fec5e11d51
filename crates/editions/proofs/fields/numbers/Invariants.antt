-- `editions::fields::numbers` meets its contract: the numbers before a place are passed.
use Rattle.editions.proofs.Parts.{Counting}
use Rattle.editions.proofs.fields.numbers.Given as goal

abbrev pub invariant-loop-left : goal.invariant-loop-left
invariant-loop-left l = Counting l.text l.count l.at l.left
