-- `choice::place_of` meets its contract: the bad byte is a byte of the text, so its place is below the text's end. Assumes nothing.
use native.Mathlib.Omega.{arith}
use Rattle.utf8.proofs.Place.{bad_most}
use Rattle.choice.proofs.place_of.Goals as goal

pub overflow_cast-result : goal.overflow_cast-result
overflow_cast-result c = omega (arith, c.bad_byte.ensures, bad_most c.args.text.now)

pub overflow_add-result : goal.overflow_add-result
overflow_add-result c = omega (arith, c.bad_byte.ensures, bad_most c.args.text.now)
