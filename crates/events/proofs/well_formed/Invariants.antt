-- `well_formed` is the definition of refusal 9. The invariant: the events passed are sound, so those that are left decide.
use Prim.Native.Nat.{◌+◌, ◌*◌, ◌%◌, ◌≤◌}
use mathlib.Core.Path.{◌≡◌}
use lib.ListN.{length}
use Rattle.shapes.specs.Shapes.{EVENT, entries}
use Rattle.definition.specs.Merge as D
use Rattle.events.proofs.well_formed.Given as goal

abbrev pub invariant-loop-event : goal.invariant-loop-event
invariant-loop-event l = record {
  size : l.event-iterator.size ≡ EVENT;
  whole : length l.event-iterator.rest.now % EVENT ≡ 0;
  few : EVENT * l.nodes + length l.event-iterator.rest.now ≤ length l.events;
  left : D.well_formed l.events ≡ D.sound l.nodes (entries l.event-iterator.rest.now);
}
