use mathlib.Core.Path.{refl}
use Rattle.notes.proofs.Core.{exceeded_some, exceeded_none}
use Rattle.steps.proofs.Nodes.{shuts, shuts_not}
use Rattle.steps.proofs.state.State.shut.Goals as goal

pub returns-then-isnt : goal.returns-then-isnt
returns-then-isnt c = λ n bytes ids er sc v w. shuts_not _ _ c.args.at (exceeded_some c.args.self.full c.if-isnt.ensures) w

pub returns : goal.returns
returns c = let z = exceeded_none c.args.self.full c.if-isnt.ensures in λ n bytes ids er sc v w. shuts c.args.kind c.args.from c.args.at _ _ _ v c.start_of-start.ensures c.start_of-end.ensures c.requires.2 z (c.requires.3 z).0 (c.requires.3 z).1 refl (c.write.ensures n) er sc w
