-- SOURCE_FILE around all items.
use Prim.Native.Nat.{ℕ}
use native.Mathlib.Omega.{arith}
use mathlib.Core.Path.{sym, ap, ◌∙◌}
use mathlib.Core.Bool.{Bool}
use lib.ListN.{length}
use Rattle.kinds.specs.Kinds as k
use Rattle.shapes.specs.Shapes.{event}
use Rattle.notes.specs.Reading.{source_of}
use Rattle.notes.proofs.Lists.{stored, take_event, length_event}
use Rattle.desk.specs.Framing.{limits_of}
use Rattle.desk.proofs.Framing.{opens, frames}
use Rattle.desk.proofs.read.whole.Goals as goal

pub all_items-r-requires : goal.all_items-r-requires
all_items-r-requires c = opens (limits_of c.args.limits) (source_of c.args.x.now) c.args.fuel (stored c.args.events.now 0 c.from.result k.SOURCE_FILE 0 (length c.args.x.now.src.now) 0) c.args.errors.now c.args.scratch.now c.blank-d.ensures c.fresh-notes.ensures c.requires.2

pub returns : goal.returns
returns c = frames (limits_of c.args.limits) (source_of c.args.x.now) c.args.fuel (stored c.args.events.now 0 c.from.result k.SOURCE_FILE 0 (length c.args.x.now.src.now) 0) c.args.errors.now c.args.scratch.now c.blank-d.ensures c.fresh-notes.ensures c.requires.1
    (omega (arith, c.requires.3, (length_event c.args.events.now 0 c.from.result k.SOURCE_FILE 0 (length c.args.x.now.src.now) 0))) (length c.args.events.now) (length_event c.args.events.now 0 c.from.result k.SOURCE_FILE 0 (length c.args.x.now.src.now) 0)
    (take_event c.args.events.now 0 c.from.result k.SOURCE_FILE 0 (length c.args.x.now.src.now) 0 c.requires.3 ∙ ap (λ (i : ℕ). event i k.SOURCE_FILE 0 (length c.args.x.now.src.now) 0) c.from.ensures)
    (ap (λ (b : Bool). (c.args.limits.depth, b)) (sym c.requires.0)) (omega (arith, c.well_formed)) c.all_items-r.ensures.1 c.all_items-r.ensures.2 (c.write-t.ensures c.all_items-r.ensures.0)
