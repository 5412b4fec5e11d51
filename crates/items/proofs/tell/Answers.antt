-- `items::tell` meets its contract. Assumes nothing.
use Rattle.steps.specs.Steps.{whole}
use Rattle.items.specs.Items.{tally}
use Rattle.items.proofs.Telling.{tells}
use Rattle.items.proofs.tell.Goals as goal

pub returns-clause-told : goal.returns-clause-told
returns-clause-told c = λ x sc w. tells x (whole c.args.s c.args.lent.now.notes) c.args.before (tally c.pending-d.result c.args.lent.now.notes) c.args.lent.now.events.now c.pending-d.new.events c.args.lent.now.errors.now sc w (c.pending-d.ensures.0 c.args.lent.now.notes)
