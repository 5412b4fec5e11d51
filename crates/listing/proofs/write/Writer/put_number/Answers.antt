-- `listing::write::Writer::put_number` meets its contract: a number that fits has at most 20 digits.
use native.Mathlib.Omega.{arith}
use Rattle.listing.proofs.Digits.{short}
use Rattle.listing.proofs.Written.{then}
use Rattle.listing.proofs.write.Writer.put_number.Goals as goal

pub put_decimal-requires : goal.put_decimal-requires
put_decimal-requires c =
    omega (arith, c.put_byte.ensures.put.count, c.put_byte.ensures.as_long, c.requires, short c.args.n 19 (omega (arith, c.ranges.n)))

pub returns-clause-put : goal.returns-clause-put
returns-clause-put c = then c.put_byte.ensures c.put_decimal.ensures

pub returns-clause-upper_bound : goal.returns-clause-upper_bound
returns-clause-upper_bound c =
    omega (arith, c.put_byte.ensures.put.count, c.put_decimal.ensures.put.count, short c.args.n 19 (omega (arith, c.ranges.n)))
