-- `settings::adding::write_line` meets its contract: a number that fits has at most 20 digits.
use mathlib.Core.Path.{refl}
use native.Mathlib.Omega.{arith}
use Rattle.std.proofs.Common.{rules}
use Rattle.listing.proofs.Digits.{short}
use Rattle.listing.proofs.Written.{spelled_by, then}
use Rattle.settings.proofs.adding.write_line.Goals as goal

pub put_decimal-requires : goal.put_decimal-requires
put_decimal-requires c = omega (arith, c.told-room, short c.args.edition 19 (omega (arith, c.ranges.edition)))

pub put_numbers-requires : goal.put_numbers-requires
put_numbers-requires c = omega (arith, c.told-room, c.put_decimal.ensures.as_long, c.put_decimal.ensures.put.count, short c.args.edition 19 (omega (arith, c.ranges.edition)))

pub put_byte-requires : goal.put_byte-requires
put_byte-requires c = omega (arith, c.told-room, c.put_decimal.ensures.as_long, c.put_numbers.ensures.put.as_long, c.put_decimal.ensures.put.count, short c.args.edition 19 (omega (arith, c.ranges.edition)), c.put_numbers.ensures.upper_bound)

pub returns : goal.returns
returns c = spelled_by (then c.put_decimal.ensures (then c.put_numbers.ensures.put c.put_byte.ensures)) refl (λ e. search rules)
