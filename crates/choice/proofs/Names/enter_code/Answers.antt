use mathlib.Core.Path.{ap}
use lib.ListN.{take}
use Rattle.definition.specs.Run as P
use Rattle.choice.proofs.Spelling.{spells_as, code_set, code_word}
use Rattle.choice.proofs.Names.enter_code.Goals as goal

pub returns-then-code-lt55 : goal.returns-then-code-lt55
returns-then-code-lt55 c = spells_as (ap (P.join (take c.args.self.count c.args.self.names)) (code_set c.args.code c.if-code-lt55.true)) c.enter_ids.ensures

pub returns : goal.returns
returns c = spells_as (ap (P.join (take c.args.self.count c.args.self.names)) (code_word c.args.code c.if-code-lt55.false)) c.enter.ensures
