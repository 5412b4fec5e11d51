-- `count` finds refusal 10 or the size of the finished list. The invariant: the tally and the marks that are left come to the same.
use mathlib.Core.Path.{◌≡◌, refl, sym, ◌∙◌}
use native.Mathlib.Omega.{arith}
use Rattle.std.specs.Prelude.{Some}
use Rattle.events.specs.Events.{entry_at}
use Rattle.merger.specs.Events.{marks_of, mark_of}
use Rattle.merger.specs.Count.{tallied}
use Rattle.merger.proofs.Counting.{comes_first, comes_turn, tallied_more}
use Rattle.merger.proofs.Reading.{other_event}
use Rattle.merger.proofs.judge.count.Goals as goal

pub loop-event-init : goal.loop-event-init
loop-event-init c = (omega arith, omega arith, comes_first (marks_of c.args.events.now))

pub loop-event-preserved-then-event : goal.loop-event-preserved-then-event
loop-event-preserved-then-event c =
    let old = c.loop-event.tally in
    let tally = c.in_ok-tally.tally in
    let mark = mark_of c.first_mark-mark.result.0 in
    let with : tallied mark old.nodes old.left ≡ Some tally = sym c.with.ensures ∙ c.in_ok-tally.was in
    let more = tallied_more mark old.nodes old.left tally.nodes tally.left with in
    (omega (arith, more.0), omega (arith, more.1), c.loop-event.invariant.2 ∙ comes_turn _ _ _ old.nodes old.left _ c.first_mark-mark.ensures.first (sym with))

pub loop-event-preserved : goal.loop-event-preserved
loop-event-preserved c =
    let rest = c.loop-event.rest.now in
    let split = c.in-Some.ensures.cases in
    let read = other_event rest split.0 split.1 split.2 c.if-event.false (entry_at rest 0) refl in
    (omega (arith, split.2), omega (arith, split.2), c.loop-event.invariant.2 ∙ comes_turn _ _ _ c.loop-event.tally.nodes c.loop-event.tally.left _ read refl)
