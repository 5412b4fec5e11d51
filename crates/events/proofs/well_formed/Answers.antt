-- `well_formed` is the definition of refusal 9. Each event that is passed leaves the rest to decide, with the nodes that are open behind it.
use mathlib.Core.Path.{sym, ap, ◌∙◌}
use native.Mathlib.Omega.{arith}
use Rattle.std.proofs.Common.{ℕ, List}
use Rattle.shapes.specs.Sort.{number}
use Rattle.shapes.specs.Shapes.{entries}
use Rattle.definition.specs.Merge.{sound}
use Rattle.events.proofs.Sweep.{no_sort, begin_fits, end_fits, leaf_fits, left_whole, left_length}
use Rattle.events.proofs.well_formed.Goals as goal

pub returns-in_default : goal.returns-in_default
returns-in_default c =
    let t = c.in-Some.ensures.steps in
    sym (c.loop-event.invariant.left
    ∙ ap (λ (l : List ℕ). sound c.loop-event.nodes (entries l)) t.1.0
    ∙ no_sort _ _ _ (t.1.1 ∙ c.loop-event.invariant.size) c.in_default.ensures.1)

pub loop-event-preserved-then-depth-nodes : goal.loop-event-preserved-then-depth-nodes
loop-event-preserved-then-depth-nodes c =
    let t = c.in-Some.ensures.steps in
    let long = t.1.1 ∙ c.loop-event.invariant.size in
    record {
      size = t.0 ∙ c.loop-event.invariant.size;
      whole = left_whole _ _ _ t.1.0 long c.loop-event.invariant.whole;
      few = omega (arith, left_length _ _ _ t.1.0 long, c.loop-event.invariant.few);
      left =
          c.loop-event.invariant.left
          ∙ ap (λ (l : List ℕ). sound c.loop-event.nodes (entries l)) t.1.0
          ∙ begin_fits _ _ _ long (sym (ap number c.in-Begin.is) ∙ c.in-Ok.ensures) c.if-depth-nodes.true;
    }

pub loop-event-preserved-then-depth-nodes-2 : goal.loop-event-preserved-then-depth-nodes-2
loop-event-preserved-then-depth-nodes-2 c =
    let t = c.in-Some.ensures.steps in
    let long = t.1.1 ∙ c.loop-event.invariant.size in
    record {
      size = t.0 ∙ c.loop-event.invariant.size;
      whole = left_whole _ _ _ t.1.0 long c.loop-event.invariant.whole;
      few = omega (arith, left_length _ _ _ t.1.0 long, c.loop-event.invariant.few);
      left =
          c.loop-event.invariant.left
          ∙ ap (λ (l : List ℕ). sound c.loop-event.nodes (entries l)) t.1.0
          ∙ end_fits _ _ _ long (sym (ap number c.in-End.is) ∙ c.in-Ok.ensures) c.if-depth-nodes-2.true;
    }

pub loop-event-preserved : goal.loop-event-preserved
loop-event-preserved c =
    let t = c.in-Some.ensures.steps in
    let long = t.1.1 ∙ c.loop-event.invariant.size in
    record {
      size = t.0 ∙ c.loop-event.invariant.size;
      whole = left_whole _ _ _ t.1.0 long c.loop-event.invariant.whole;
      few = omega (arith, left_length _ _ _ t.1.0 long, c.loop-event.invariant.few);
      left =
          c.loop-event.invariant.left
          ∙ ap (λ (l : List ℕ). sound c.loop-event.nodes (entries l)) t.1.0
          ∙ leaf_fits _ _ _ long c.in-Token.is c.in-Ok.ensures c.if-depth-nodes-3.true;
    }
