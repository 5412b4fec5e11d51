-- `listing::write::Writer::put_more_names` meets its contract: after as many turns the first names are written, each behind a comma.
use mathlib.Core.List.{map}
use Rattle.kinds.specs.Spelling.{name_text}
use Rattle.listing.specs.Listing.{led}
use Rattle.listing.proofs.Written.{Running}
use Rattle.listing.proofs.write.Writer.put_more_names.Given as goal

abbrev pub invariant-loop-name : goal.invariant-loop-name
invariant-loop-name l = Running (λ l. led 44 (map name_text l)) 33 l.names l.initial.self l.self l.name-index
