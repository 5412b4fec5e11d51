-- `items::at_hand` meets its contract. Assumes nothing.
use mathlib.Core.Path.{sym, ap, subst, ◌∙◌}
use mathlib.Core.List.{List}
use Prim.Native.Nat.{ℕ}
use Rattle.notes.specs.Means.{bufs}
use Rattle.notes.specs.Reading.{source_of}
use Rattle.notes.proofs.Core.{exceeded_some, exceeded_none}
use Rattle.steps.specs.Steps.{whole}
use Rattle.items.specs.Items.{tally, Strays}
use Rattle.items.proofs.Hand.{hand_stuck, hand_end, hand_item, hand_stray}
use Rattle.items.proofs.at_hand.Goals as goal

pub returns-then-isnt-clause-read : goal.returns-then-isnt-clause-read
returns-then-isnt-clause-read c = hand_stuck (exceeded_some c.args.s.full c.if-isnt.ensures) c.requires

pub returns-then-at-x-clause-read : goal.returns-then-at-x-clause-read
returns-then-at-x-clause-read c = hand_end (exceeded_none c.args.s.full c.if-isnt.ensures) c.if-at-x.true c.requires

pub returns-then-has-clause-read : goal.returns-then-has-clause-read
returns-then-has-clause-read c = hand_item (exceeded_none c.args.s.full c.if-isnt.ensures) c.if-at-x.false (sym c.if-has.true ∙ c.has.ensures) c.read_item.ensures.read

pub stray-requires : goal.stray-requires
stray-requires c = ((c.args.x.now.tiled.lines, c.requires.0, c.requires.1.events), c.requires.1.errors, c.if-at-x.false, exceeded_none c.args.s.full c.if-isnt.ensures)

pub returns-clause-read : goal.returns-clause-read
returns-clause-read c = hand_stray (exceeded_none c.args.s.full c.if-isnt.ensures) c.if-at-x.false (sym c.if-has.false ∙ c.has.ensures)
    (subst (λ (sc : List ℕ). Strays (source_of c.args.x.now) (whole c.args.s c.args.lent.now.notes) c.args.before (tally c.stray.result c.stray.new.lent.notes) (bufs c.args.lent.now.events.now c.args.lent.now.errors.now c.args.lent.now.scratch.now) (bufs c.stray.new.lent.events.now c.stray.new.lent.errors.now sc)) (sym (ap (λ l. l.now) c.stray.ensures.scratch))
    (c.stray.ensures.written c.args.x.now.src.now c.args.lent.now.scratch.now c.requires))
