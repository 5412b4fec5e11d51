-- `listing::read::read_number` meets its contract: the bytes passed are digits that spell n.
use mathlib.Core.Path.{sym, ◌∙◌}
use native.Mathlib.Omega.{arith}
use Rattle.listing.proofs.Digits.{empty, stray, over, read}
use Rattle.listing.proofs.read.read_number.Goals as goal

pub returns-then-is_empty : goal.returns-then-is_empty
returns-then-is_empty c = sym (empty c.args.text.now (sym c.is_empty.ensures ∙ c.if-is_empty.true))

pub returns-then-not-is_ascii_digit : goal.returns-then-not-is_ascii_digit
returns-then-not-is_ascii_digit c = sym (stray c.loop-b.invariant c.loop-b-test.true (sym c.is_ascii_digit.ensures.value ∙ c.if-not-is_ascii_digit.true))

pub returns-then-n-gt4294967295 : goal.returns-then-n-gt4294967295
returns-then-n-gt4294967295 c = sym (over c.loop-b.invariant c.loop-b-test.true (omega (arith, c.from.ensures, c.if-n-gt4294967295.true)))

pub returns : goal.returns
returns c = sym (read c.loop-b.invariant (sym c.is_empty.ensures ∙ c.if-is_empty.false) c.loop-b-test.false)
