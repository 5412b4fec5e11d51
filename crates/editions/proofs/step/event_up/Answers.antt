-- `editions::step::event_up` meets its contract.
use mathlib.Core.Path.{refl}
use Rattle.editions.proofs.Steps.{up_stray, up_event}
use Rattle.editions.proofs.step.event_up.Goals as goal

pub returns-in_err-sort-clause-line_value : goal.returns-in_err-sort-clause-line_value
returns-in_err-sort-clause-line_value c = rw c.from_residual.ensures (up_stray c.args.depth c.args.line.now refl c.in_err-sort.ensures)

pub returns-clause-line_value : goal.returns-clause-line_value
returns-clause-line_value c = up_event c.args.depth c.args.line.now c.in_ok-sort.ensures.0 c.in_ok-sort.ensures.1 c.after.ensures c.shown.ensures
