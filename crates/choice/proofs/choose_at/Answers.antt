use mathlib.Core.Path.{refl, sym, ap, ◌∙◌}
use mathlib.Core.List.{List}
use Prim.Native.Nat.{ℕ}
use native.Mathlib.Omega.{arith}
use Rattle.definition.specs.Render.{choice_names}
use Rattle.notes.specs.Whole.{beside}
use Rattle.notes.specs.Means.{names_in}
use Rattle.choice.specs.Choice.{choice_of}
use Rattle.choice.proofs.Records.{forward, within}
use Rattle.choice.proofs.Choosing.{chose_none, record_named, record_placed, chose_new}
use Rattle.choice.proofs.choose_at.Goals as goal

pub returns-then-pending : goal.returns-then-pending
returns-then-pending c = λ s z w. chose_none c.args.x.now.tiled c.args.at c.requires.3 (beside c.args.notes.now s) c.args.errors.now w.2 c.requires.1 c.start_of-start.ensures c.end_of-end.ensures _ (sym c.if-pending.true ∙ c.pending.ensures)

pub slice_bounds-text-count : goal.slice_bounds-text-count
slice_bounds-text-count c = omega (arith, c.start_of-start.ensures, c.end_of-end.ensures, forward c.args.x.now.tiled c.args.at c.requires.3, within c.args.x.now.tiled c.args.at c.requires.3)

pub slice_bounds-text-start : goal.slice_bounds-text-start
slice_bounds-text-start c = omega (arith, c.start_of-start.ensures, c.end_of-end.ensures, forward c.args.x.now.tiled c.args.at c.requires.3, within c.args.x.now.tiled c.args.at c.requires.3)

pub slice_bounds-text-end : goal.slice_bounds-text-end
slice_bounds-text-end c = omega (arith, c.start_of-start.ensures, c.end_of-end.ensures, forward c.args.x.now.tiled c.args.at c.requires.3, within c.args.x.now.tiled c.args.at c.requires.3)

pub returns-then-form-eq9 : goal.returns-then-form-eq9
returns-then-form-eq9 c = λ s z w. chose_new c.args.x.now.tiled c.args.at c.requires.3 (beside c.args.notes.now s) c.args.errors.now w.2 c.requires.1 c.start_of-start.ensures c.end_of-end.ensures c.args.expected (names_in (beside c.args.notes.now s)) (record_placed c.args.x.now.tiled c.args.at c.requires.3 (beside c.args.notes.now s) c.args.errors.now w.2 c.requires.1 c.start_of-start.ensures c.end_of-end.ensures c.args.expected (names_in (beside c.args.notes.now s)) c.id_at.ensures c.form_of-form.ensures c.if-form-eq9.true c.place_of-place.ensures) c.requires.2 (c.record_bad.ensures s z) (sym c.if-pending.false ∙ c.pending.ensures)

pub returns : goal.returns
returns c = λ s z w. chose_new c.args.x.now.tiled c.args.at c.requires.3 (beside c.args.notes.now s) c.args.errors.now w.2 c.requires.1 c.start_of-start.ensures c.end_of-end.ensures c.args.expected (names_in (beside c.args.notes.now s)) (record_named c.args.x.now.tiled c.args.at c.requires.3 (beside c.args.notes.now s) c.args.errors.now w.2 c.requires.1 c.start_of-start.ensures c.end_of-end.ensures c.args.expected (names_in (beside c.args.notes.now s)) c.id_at.ensures c.form_of-form.ensures c.if-form-eq9.false (c.named-count.ensures.1 c.spelled-names.result.names ∙ ap (λ (l : List ℕ). choice_names c.form_of-form.result (choice_of c.args.expected l)) c.spelled-names.ensures.names) refl) c.requires.2 (c.record.ensures s z) (sym c.if-pending.false ∙ c.pending.ensures)
