-- `editions::words::spell` meets its contract: a number that fits has at most 20 digits.
use native.Mathlib.Omega.{arith}
use Rattle.listing.proofs.Digits.{short}
use Rattle.editions.proofs.words.spell.Goals as goal

pub put_decimal-requires : goal.put_decimal-requires
put_decimal-requires c = omega (arith, short c.args.n 19 (omega (arith, c.ranges.n)))
