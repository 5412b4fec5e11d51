use Rattle.steps.specs.Steps.{whole}
use Rattle.steps.proofs.Modes.{stopped, not_stopped}
use Rattle.steps.proofs.Nodes.{charges_none, charges_none_still, charges_deep, charges_deep_still, charges_some}
use Rattle.steps.proofs.state.State.charge.Goals as goal

pub returns-then-not-is_stopped : goal.returns-then-not-is_stopped
returns-then-not-is_stopped c = λ x l w. charges_none c.args.d x (whole c.args.self l) w c.if-self-eq0.true (not_stopped _ c.if-not-is_stopped.ensures)

pub returns-then-self-eq0 : goal.returns-then-self-eq0
returns-then-self-eq0 c = λ x l w. charges_none_still c.args.d x (whole c.args.self l) w c.if-self-eq0.true (stopped _ c.if-not-is_stopped.ensures)

pub returns-then-not-is_stopped-2 : goal.returns-then-not-is_stopped-2
returns-then-not-is_stopped-2 c = λ x l w. charges_deep c.args.d x (whole c.args.self l) w c.if-self-eq0.false c.if-d-eq0.true (not_stopped _ c.if-not-is_stopped-2.ensures)

pub returns-then-d-eq0 : goal.returns-then-d-eq0
returns-then-d-eq0 c = λ x l w. charges_deep_still c.args.d x (whole c.args.self l) w c.if-self-eq0.false c.if-d-eq0.true (stopped _ c.if-not-is_stopped-2.ensures)

pub returns : goal.returns
returns c = λ x l w. charges_some c.args.d x (whole c.args.self l) w c.if-self-eq0.false c.if-d-eq0.false
