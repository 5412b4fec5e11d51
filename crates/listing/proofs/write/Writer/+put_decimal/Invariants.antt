-- `listing::write::Writer::put_decimal` meets its contract: it writes a number's tenth before its last digit, as the definition does. The measure is the number.
use Rattle.listing.proofs.write.Writer.+put_decimal.Given as goal

abbrev pub decreases-put_decimal : goal.decreases-put_decimal
decreases-put_decimal l = l.n
