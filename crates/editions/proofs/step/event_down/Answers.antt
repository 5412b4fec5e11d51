-- `editions::step::event_down` meets its contract, by the place of the last tab.
use mathlib.Core.Path.{refl, sym, ◌∙◌}
use Rattle.editions.proofs.Steps.{no_tab, down_stray, down_wrong, down_event}
use Rattle.editions.proofs.step.event_down.Goals as goal

pub returns-in_err-tab-clause-line_value : goal.returns-in_err-tab-clause-line_value
returns-in_err-tab-clause-line_value c = rw c.from_residual.ensures (no_tab c.args.depth c.args.line.now c.in_err-tab.ensures)

pub returns-in_err-sort-clause-line_value : goal.returns-in_err-sort-clause-line_value
returns-in_err-sort-clause-line_value c =
    rw c.from_residual-in_err-sort.ensures (down_stray c.args.depth c.args.line.now c.in_ok-tab.tab c.in_ok-tab.ensures.1 refl c.in_err-sort.ensures)

pub returns-then-not-is_right-clause-line_value : goal.returns-then-not-is_right-clause-line_value
returns-then-not-is_right-clause-line_value c =
    down_wrong c.args.depth c.args.line.now c.in_ok-tab.tab c.in_ok-tab.ensures.1 c.in_ok-sort.ensures.0 c.in_ok-sort.ensures.1 (sym c.is_right.ensures ∙ c.if-not-is_right.true)

pub returns-clause-line_value : goal.returns-clause-line_value
returns-clause-line_value c =
    down_event c.args.depth c.args.line.now c.in_ok-tab.tab c.in_ok-tab.ensures.1 c.in_ok-sort.ensures.0 c.in_ok-sort.ensures.1 (sym c.is_right.ensures ∙ c.if-not-is_right.false)
    c.after.ensures
