-- `choice::unclosed` meets its contract. Assumes nothing.
use mathlib.Core.Path.{◌∙◌}
use Rattle.choice.proofs.Forms.{unknown_none, unknown_other}
use Rattle.choice.proofs.unclosed.Goals as goal

pub returns-then-text-eq0 : goal.returns-then-text-eq0
returns-then-text-eq0 c = λ L q. c.found.ensures L q ∙ unknown_none L c.args.text.now c.if-text-eq0.true

pub returns-then-b-ne47 : goal.returns-then-b-ne47
returns-then-b-ne47 c = λ L q. c.found-then-b-ne47.ensures L q ∙ unknown_other L c.args.text.now c.if-b-eq34.false c.if-b-ne47.true
