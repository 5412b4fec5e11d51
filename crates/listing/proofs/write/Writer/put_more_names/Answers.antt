-- `listing::write::Writer::put_more_names` meets its contract: after as many turns the first names are written, each behind a comma.
use native.Mathlib.Omega.{arith}
use Rattle.kinds.specs.Spelling.{name_text}
use Rattle.listing.proofs.Written.{running_on, then, led_on}
use Rattle.listing.proofs.write.Writer.put_more_names.Goals as goal

pub loop-name-preserved : goal.loop-name-preserved
loop-name-preserved c =
    running_on c.loop-name.invariant c.loop-name-test.true (led_on 44 name_text _ _ c.loop-name-test.true)
    (then c.put_byte.ensures c.put_name.ensures.put)
    (omega (arith, c.put_byte.ensures.put.count, c.put_name.ensures.upper_bound))
