use mathlib.Core.Path.{refl}
use Rattle.steps.specs.Steps.{whole}
use Rattle.steps.proofs.Modes.{is_fine, isnt_fine}
use Rattle.steps.proofs.Ends.{told_ok, told_chosen}
use Rattle.steps.proofs.state.State.told.Goals as goal

pub returns-then-is : goal.returns-then-is
returns-then-is c = (told_ok c.args.optional c.requires.0 c.requires.1 (is_fine _ c.if-is.ensures), refl)

pub returns : goal.returns
returns c = (told_chosen c.args.optional (isnt_fine _ c.if-is.ensures) c.if-optional.false (c.choose-self.ensures (whole c.args.self c.args.notes.now) refl c.requires.0), refl)
