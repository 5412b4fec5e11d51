-- `listing::read::read_number` meets its contract: the bytes passed are digits that spell n.
use Rattle.listing.proofs.Digits.{Reading}
use Rattle.listing.proofs.read.read_number.Given as goal

abbrev pub invariant-loop-b : goal.invariant-loop-b
invariant-loop-b l = Reading l.text l.n l.b-index
