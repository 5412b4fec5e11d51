use Rattle.steps.specs.Steps.{whole}
use Rattle.steps.proofs.Eating.{fails_after}
use Rattle.steps.proofs.state.State.miss.Goals as goal

pub returns : goal.returns
returns c = λ x w k. fails_after _ (c.expected.ensures x (whole c.args.self c.args.notes.now) w k)
