-- The reader's promise: one equation with the public definition.
use Prim.Native.Nat.{ℕ}
use native.Mathlib.Omega.{arith}
use mathlib.Core.Path.{refl, sym, ap, ◌∙◌}
use lib.ListN.{replicate}
use Rattle.std.proofs.lemmas.Result.{err_from_is_err_and}
use Rattle.shapes.specs.Refusal.{number}
use Rattle.definition.specs.Answer.{refusing}
use Rattle.refusals.specs.Judge.{desk, number_of}
use Rattle.refusals.proofs.Admitted.{judged_rows}
use Rattle.notes.proofs.Core.{exceeded_some, exceeded_none}
use Rattle.desk.specs.Framing.{limits_of}
use Rattle.desk.proofs.Answering.{numbered, refused_so, too_small, room_is, room_so, answer_so}
use Rattle.desk.proofs.read.read.Goals as goal

pub returns-in_err-judged : goal.returns-in_err-judged
returns-in_err-judged c =
    let p = err_from_is_err_and c.from_residual.result c.from_residual.ensures.1 in
    rw (p.1, p.2) (refused_so (limits_of c.args.limits) (desk c.args.src.now c.args.ids.now c.args.starts.now c.args.ends.now c.args.fuel c.args.scratch.now c.args.events.now c.args.errors.now) (number c.in_err-judged.field-0.0) (sym (ap number_of c.in_err-judged.was) ∙ c.judged.ensures c.args.fuel c.args.scratch.now c.args.events.now c.args.errors.now refl) (numbered c.in_err-judged.field-0.0))

pub returns-then-events-lt-EVENT : goal.returns-then-events-lt-EVENT
returns-then-events-lt-EVENT c = c.spoilt.ensures ∙ too_small (limits_of c.args.limits) (desk c.args.src.now c.args.ids.now c.args.starts.now c.args.ends.now c.args.fuel c.args.scratch.now c.args.events.now c.args.errors.now) c.if-events-lt-EVENT.true (sym (ap number_of c.in_ok-judged.was) ∙ c.judged.ensures c.args.fuel c.args.scratch.now c.args.events.now c.args.errors.now refl)

pub invariant_of-x : goal.invariant_of-x
invariant_of-x c = record { tiled = (judged_rows (desk c.args.src.now c.args.ids.now c.args.starts.now c.args.ends.now c.args.fuel c.args.scratch.now c.args.events.now c.args.errors.now) (sym (sym (ap number_of c.in_ok-judged.was) ∙ c.judged.ensures c.args.fuel c.args.scratch.now c.args.events.now c.args.errors.now refl))).rows }

pub whole-ended-requires : goal.whole-ended-requires
whole-ended-requires c =
    let j = judged_rows (desk c.args.src.now c.args.ids.now c.args.starts.now c.args.ends.now c.args.fuel c.args.scratch.now c.args.events.now c.args.errors.now) (sym (sym (ap number_of c.in_ok-judged.was) ∙ c.judged.ensures c.args.fuel c.args.scratch.now c.args.events.now c.args.errors.now refl)) in
    (refl, c.fill.ensures ∙ ap (λ (n : ℕ). replicate n 0) (sym c.fill.auto.cells), omega (arith, j.scratch, c.fill.auto.cells), c.if-events-lt-EVENT.false)

pub room_of-requires : goal.room_of-requires
room_of-requires c = room_is (limits_of c.args.limits) (desk c.args.src.now c.args.ids.now c.args.starts.now c.args.ends.now c.args.fuel c.args.scratch.now c.args.events.now c.args.errors.now) c.whole-ended.result.desk c.whole-ended.result.er (sym (ap number_of c.in_ok-judged.was) ∙ c.judged.ensures c.args.fuel c.args.scratch.now c.args.events.now c.args.errors.now refl) c.whole-ended.ensures (exceeded_some _ c.if-isnt.ensures)

pub returns-then-isnt : goal.returns-then-isnt
returns-then-isnt c =
    c.spoilt-then-isnt.ensures
    ∙ (λ i. refusing (c.room_of.ensures i) (replicate (c.whole-ended.auto.events i) 0) (replicate (c.whole-ended.auto.errors i) 0) (replicate ((c.whole-ended.auto.scratch ∙ c.fill.auto.cells) i) 0))
    ∙ room_so (limits_of c.args.limits) (desk c.args.src.now c.args.ids.now c.args.starts.now c.args.ends.now c.args.fuel c.args.scratch.now c.args.events.now c.args.errors.now) c.whole-ended.result.desk c.whole-ended.result.er (sym (ap number_of c.in_ok-judged.was) ∙ c.judged.ensures c.args.fuel c.args.scratch.now c.args.events.now c.args.errors.now refl) c.whole-ended.ensures (exceeded_some _ c.if-isnt.ensures)

pub finished-requires : goal.finished-requires
finished-requires c = let q = c.whole-ended.ensures.finished (exceeded_none _ c.if-isnt.ensures) in (q.event_fits, q.error_fits)

pub returns : goal.returns
returns c = c.finished.ensures ∙ answer_so (limits_of c.args.limits) (desk c.args.src.now c.args.ids.now c.args.starts.now c.args.ends.now c.args.fuel c.args.scratch.now c.args.events.now c.args.errors.now) c.whole-ended.result.desk c.whole-ended.result.er (sym (ap number_of c.in_ok-judged.was) ∙ c.judged.ensures c.args.fuel c.args.scratch.now c.args.events.now c.args.errors.now refl) c.whole-ended.ensures (exceeded_none _ c.if-isnt.ensures) c.whole-ended.auto.events c.whole-ended.auto.errors c.whole-ended.new.scratch (c.whole-ended.auto.scratch ∙ c.fill.auto.cells)
