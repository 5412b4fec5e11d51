-- `listing::write::Writer::put_decimal` meets its contract: it writes a number's tenth before its last digit, as the definition does. The measure is the number.
use native.Mathlib.Omega.{arith}
use Rattle.listing.proofs.Digits.{decimal_last, decimal_more, length_one, length_more}
use Rattle.listing.proofs.Written.{wrote_as, then}
use Rattle.listing.proofs.write.Writer.+put_decimal.Goals as goal
use Rattle.listing.proofs.write.Writer.+put_decimal.Goals.{then-n-ge10, else-n-ge10}

pub put_decimal-requires : goal.put_decimal-requires
put_decimal-requires t c = (omega arith, omega (arith, length_more c.args.n (omega (arith, c.if-n-ge10.true))))

pub put_byte-requires : goal.put_byte-requires
put_byte-requires t c =
    elim c.if-n-ge10.branch [
      | then-n-ge10 w ↦ rw w.self-is (omega (arith, c.requires, length_more c.args.n (omega (arith, w.if-n-ge10.true)), w.put_decimal.ensures.put.count, w.put_decimal.ensures.as_long))
      | else-n-ge10 w ↦ rw w.self-is (omega (arith, c.requires, length_one c.args.n (omega (arith, w.if-n-ge10.false))))
    ]

pub returns : goal.returns
returns t c =
    elim c.if-n-ge10.branch [
      | then-n-ge10 w ↦ wrote_as (decimal_more c.args.n (omega (arith, w.if-n-ge10.true))) (then w.put_decimal.ensures (rw (← w.self-is) c.put_byte.ensures))
      | else-n-ge10 w ↦ wrote_as (decimal_last c.args.n (omega (arith, w.if-n-ge10.false))) (rw (← w.self-is) c.put_byte.ensures)
    ]
