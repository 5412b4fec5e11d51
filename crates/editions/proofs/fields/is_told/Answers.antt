-- `editions::fields::is_told` meets its contract, by the place where the names end.
use mathlib.Core.Path.{sym, ◌∙◌}
use native.Mathlib.Omega.{arith}
use Rattle.editions.proofs.Parts.{no_place, the_place}
use Rattle.editions.proofs.fields.is_told.Goals as goal

pub returns-then-form-ne9 : goal.returns-then-form-ne9
returns-then-form-ne9 c = no_place c.args.form c.piece_end-end.ensures (sym c.has_names.ensures ∙ c.if-not-has_names.false) (omega arith) c.if-form-ne9.true

pub returns : goal.returns
returns c = c.numbers.ensures ∙ the_place c.args.form c.piece_end-end.ensures (sym c.has_names.ensures ∙ c.if-not-has_names.false) (omega arith) c.if-form-ne9.false
