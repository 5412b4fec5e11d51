-- `listing::write::record_place` meets its contract: after as many turns as many records are passed.
use Rattle.listing.proofs.Records.{passing_on}
use Rattle.listing.proofs.write.record_place.Goals as goal

pub loop-preserved : goal.loop-preserved
loop-preserved c = passing_on c.loop.invariant c.loop-test.true c.next_record-at.ensures
