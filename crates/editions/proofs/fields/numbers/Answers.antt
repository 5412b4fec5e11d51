-- `editions::fields::numbers` meets its contract: the numbers before a place are passed.
use mathlib.Core.Path.{sym, ◌∙◌}
use native.Mathlib.Omega.{arith}
use Rattle.editions.proofs.Parts.{none_left, last_number, counting_on}
use Rattle.editions.proofs.fields.numbers.Goals as goal

pub returns-then-to-text : goal.returns-then-to-text
returns-then-to-text c = last_number c.loop-left.invariant c.piece_end-to.ensures c.loop-left-test.true (sym c.is_plain.ensures ∙ c.if-not-is_plain.false) (omega arith)

pub loop-left-preserved : goal.loop-left-preserved
loop-left-preserved c = counting_on c.loop-left.invariant c.piece_end-to.ensures c.loop-left-test.true (sym c.is_plain.ensures ∙ c.if-not-is_plain.false) (omega arith)

pub returns : goal.returns
returns c = none_left c.loop-left.invariant c.loop-left-test.false
