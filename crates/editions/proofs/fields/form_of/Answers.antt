-- `editions::fields::form_of` meets its contract.
use mathlib.Core.Path.{sym, ◌∙◌}
use Rattle.editions.proofs.Parts.{no_form, no_form_number, zero_form, large_form, a_form}
use Rattle.editions.proofs.fields.form_of.Goals as goal

pub returns-then-not-is_plain : goal.returns-then-not-is_plain
returns-then-not-is_plain c = no_form c.args.text.now (sym c.is_plain.ensures ∙ c.if-not-is_plain.true)

pub returns-in_err-form : goal.returns-in_err-form
returns-in_err-form c =
    rw c.from_residual.ensures (no_form_number c.args.text.now (sym c.is_plain.ensures ∙ c.if-not-is_plain.false) (sym c.read_number.ensures ∙ c.in_err-form.was))

pub returns-then-form-eq0 : goal.returns-then-form-eq0
returns-then-form-eq0 c = zero_form c.args.text.now (sym c.is_plain.ensures ∙ c.if-not-is_plain.false) (sym c.read_number.ensures ∙ c.in_ok-form.was) c.if-form-eq0.true

pub returns-then-form-gt10 : goal.returns-then-form-gt10
returns-then-form-gt10 c = large_form c.args.text.now (sym c.is_plain.ensures ∙ c.if-not-is_plain.false) (sym c.read_number.ensures ∙ c.in_ok-form.was) c.if-form-gt10.true

pub returns : goal.returns
returns c =
    a_form c.args.text.now (sym c.is_plain.ensures ∙ c.if-not-is_plain.false) (sym c.read_number.ensures ∙ c.in_ok-form.was) c.if-form-eq0.false c.if-form-gt10.false
