-- `listing::write::Writer::put_numbers` meets its contract: after as many turns the first numbers are written, each behind a tab.
use Rattle.listing.specs.Numbers.{decimal}
use Rattle.listing.proofs.Written.{running_on, led_on}
use Rattle.listing.proofs.write.Writer.put_numbers.Goals as goal

pub loop-n-preserved : goal.loop-n-preserved
loop-n-preserved c =
    running_on c.loop-n.invariant c.loop-n-test.true (led_on 9 decimal _ _ c.loop-n-test.true) c.put_number.ensures.put c.put_number.ensures.upper_bound
