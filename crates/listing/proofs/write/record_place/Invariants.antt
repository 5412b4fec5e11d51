-- `listing::write::record_place` meets its contract: after as many turns as many records are passed.
use Rattle.listing.proofs.Records.{Passing}
use Rattle.listing.proofs.write.record_place.Given as goal

abbrev pub invariant-loop : goal.invariant-loop
invariant-loop l = Passing l.list l.number l.at l.counter
