-- `editions::step::head` meets its contract: the line is the text of its edition, or not.
use mathlib.Core.Path.{sym, ◌∙◌}
use Rattle.listing.specs.Numbers.{decimal}
use Rattle.editions.proofs.Steps.{no_head_as, a_head_as}
use Rattle.editions.proofs.step.head.Goals as goal

pub returns-then-not-same-clause-line_value : goal.returns-then-not-same-clause-line_value
unfolding decimal
returns-then-not-same-clause-line_value c = let whole = no_head_as c.args.line.now c.if-up.true (sym c.same.ensures ∙ c.if-not-same.true) in whole.0

pub returns-then-up-clause-line_value : goal.returns-then-up-clause-line_value
unfolding decimal
returns-then-up-clause-line_value c = let whole = a_head_as c.args.line.now c.if-up.true (sym c.same.ensures ∙ c.if-not-same.false) in whole.0

pub returns-then-not-same-2-clause-line_value : goal.returns-then-not-same-2-clause-line_value
unfolding decimal
returns-then-not-same-2-clause-line_value c = let whole = no_head_as c.args.line.now c.if-up.false (sym c.same-2.ensures ∙ c.if-not-same-2.true) in whole.0

pub returns-clause-line_value : goal.returns-clause-line_value
unfolding decimal
returns-clause-line_value c = let whole = a_head_as c.args.line.now c.if-up.false (sym c.same-2.ensures ∙ c.if-not-same-2.false) in whole.0
