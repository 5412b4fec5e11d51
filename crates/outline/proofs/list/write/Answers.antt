-- `write` leaves the list at the front of the room. The invariant: what is written and the rules from here on are the list.
use Rattle.std.proofs.Common.{sym, ◌∙◌}
use Rattle.outline.proofs.Writing.{same_size}
use Rattle.outline.proofs.Listing.{rules_on, part_more}
use Rattle.outline.proofs.list.write.Goals as goal

pub loop-e-preserved-in-Some-span : goal.loop-e-preserved-in-Some-span
loop-e-preserved-in-Some-span c =
    let more = rules_on _ _ _ c.in-Some.ensures.steps _ _ (sym c.span.ensures ∙ c.in-Some-span.is) in
    (same_size c.loop-e.room _ c.rule_at.result c.loop-e.to c.put.ensures ∙ c.loop-e.invariant.0, part_more _ _ _ _ c.loop-e.room _ c.rule_at.result c.loop-e.to more c.rule_at.ensures c.put.ensures c.loop-e.invariant.1)
