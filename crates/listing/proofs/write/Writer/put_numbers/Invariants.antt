-- `listing::write::Writer::put_numbers` meets its contract: after as many turns the first numbers are written, each behind a tab.
use mathlib.Core.List.{map}
use Rattle.listing.specs.Numbers.{decimal}
use Rattle.listing.specs.Listing.{led}
use Rattle.listing.proofs.Written.{Running}
use Rattle.listing.proofs.write.Writer.put_numbers.Given as goal

abbrev pub invariant-loop-n : goal.invariant-loop-n
invariant-loop-n l = Running (λ l. led 9 (map decimal l)) 21 l.numbers l.initial.self l.self l.n-index
