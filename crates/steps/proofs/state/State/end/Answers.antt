use mathlib.Core.Path.{refl, ap, ◌∙◌}
use lib.Dec.{eqb}
use Rattle.shapes.specs.Mode.{number}
use Rattle.shapes.specs.declared.mode.Mode.{Mode}
use Rattle.notes.specs.Bits.{ifb}
use Rattle.steps.proofs.Ends.{ends_told}
use Rattle.kinds.specs.Kinds as k
use Rattle.steps.proofs.state.State.end.Goals as goal

pub returns-clause-step : goal.returns-clause-step
returns-clause-step c = record { shuts = ends_told c.args.optional c.args.kind _ c.args.at (c.shown.ensures ∙ ap (λ (m : Mode). ifb (eqb (number m) 0) c.args.kind k.ERROR) c.told-self.ensures.1) c.told-self.ensures.0 (λ er sc w. c.shut.ensures c.told-self.new.notes c.args.x.now.src.now c.args.x.now.rows.ids.now er sc c.args.x.now.tiled.lines w); scratch = refl }
