-- `write` leaves the finished list at the front of the room. The invariant: the room is a draft of it (proofs/Drafting).
use mathlib.Core.Path.{refl, ◌∙◌}
use Rattle.events.specs.Events.{entry_of}
use Rattle.merger.specs.Events.{marks_of}
use Rattle.merger.proofs.Reading.{other_event, none_left}
use Rattle.merger.proofs.Drafting.{started, able, drafted, completed}
use Rattle.merger.proofs.pen.write.Goals as goal

pub loop-event-init : goal.loop-event-init
loop-event-init c = (refl, started (marks_of c.args.events.now) c.args.room.now c.requires.nested c.requires.fits)

pub turn-pen-requires : goal.turn-pen-requires
turn-pen-requires c = able _ _ _ _ _ c.first_mark-mark.ensures.first c.loop-event.invariant.1

pub loop-event-preserved-then-event : goal.loop-event-preserved-then-event
loop-event-preserved-then-event c =
    (c.turn-pen.auto.room ∙ c.loop-event.invariant.0, drafted _ _ _ _ _ c.first_mark-mark.ensures.first c.loop-event.invariant.1 _ c.turn-pen.ensures)

pub keeps-pen-requires : goal.keeps-pen-requires
keeps-pen-requires c =
    let split = c.in-Some.ensures.cases in
    able _ _ _ _ _ (other_event c.loop-event.rest.now split.0 split.1 split.2 c.if-event.false (entry_of c.read.result) c.read.ensures) c.loop-event.invariant.1

pub loop-event-preserved : goal.loop-event-preserved
loop-event-preserved c =
    let split = c.in-Some.ensures.cases in (
      c.keeps-pen.auto.room ∙ c.loop-event.invariant.0,
      drafted _ _ _ _ _ (other_event c.loop-event.rest.now split.0 split.1 split.2 c.if-event.false (entry_of c.read.result) c.read.ensures) c.loop-event.invariant.1 _ c.keeps-pen.ensures,
    )

pub returns : goal.returns
returns c = completed _ _ _ (none_left c.loop-event.rest.now c.in_default.ensures.cases) c.loop-event.invariant.1
