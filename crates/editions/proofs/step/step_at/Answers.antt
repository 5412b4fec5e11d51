-- `editions::step::step_at` meets its contract: the first line, a line that ends the listing, or an event.
use mathlib.Core.Path.{sym, ◌∙◌}
use Rattle.editions.proofs.Steps.{first_line, last_line, line_up, line_down}
use Rattle.editions.proofs.step.step_at.Goals as goal

pub returns-then-number-eq1-clause-line_value : goal.returns-then-number-eq1-clause-line_value
returns-then-number-eq1-clause-line_value c = c.head.ensures.line_value ∙ first_line c.args.up c.args.number c.args.depth c.args.line.now c.if-number-eq1.true

pub returns-then-is_end-clause-line_value : goal.returns-then-is_end-clause-line_value
returns-then-is_end-clause-line_value c = last_line c.args.up c.args.number c.args.depth c.args.line.now c.if-number-eq1.false c.sort_of.ensures (sym c.is_end.ensures ∙ c.if-is_end.true)

pub returns-then-up-clause-line_value : goal.returns-then-up-clause-line_value
returns-then-up-clause-line_value c = c.event_up.ensures.line_value ∙ line_up c.args.up c.args.number c.args.depth c.args.line.now c.if-number-eq1.false c.sort_of.ensures (sym c.is_end.ensures ∙ c.if-is_end.false) c.if-up.true

pub returns-clause-line_value : goal.returns-clause-line_value
returns-clause-line_value c = c.event_down.ensures.line_value ∙ line_down c.args.up c.args.number c.args.depth c.args.line.now c.if-number-eq1.false c.sort_of.ensures (sym c.is_end.ensures ∙ c.if-is_end.false) c.if-up.false
