use Rattle.notes.specs.Whole.{fresh}
use Rattle.kinds.specs.Sets.{set_of}
use Rattle.steps.specs.Steps.{whole}
use Rattle.steps.proofs.Modes.{fine}
use Rattle.steps.proofs.Branch.{ahead_row}
use Rattle.steps.proofs.state.State.sees.Goals as goal

pub returns : goal.returns
returns c = ahead_row (set_of c.args.set) c.args.rows.now.ids.now (whole c.args.self fresh) (fine _ c.if-isnt.ensures) c.peek-at.ensures c.if-at-rows.false (c.has.ensures)
