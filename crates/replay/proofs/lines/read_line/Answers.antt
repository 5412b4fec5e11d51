-- `replay::lines::read_line` meets its contract: the fields are cut off one after another.
use mathlib.Core.Path.{sym, ap, ◌∙◌}
use Rattle.std.proofs.Common.{rules}
use Rattle.replay.specs.Day.{entry_of}
use Rattle.replay.specs.Answer.{read_as}
use Rattle.listing.proofs.Splits.{uncut, cut_off, next_piece, all_cut}
use Rattle.replay.proofs.lines.read_line.Goals as goal

pub returns-in_err-size : goal.returns-in_err-size
returns-in_err-size c = ap read_as c.from_residual-in_err-size.ensures ∙ sym (ap entry_of (all_cut 9 (cut_off 9 (uncut 9 c.split-fields.ensures.rest c.split-fields.ensures.done c.split-fields.ensures.closure (λ x b q k. search rules)) _ _ _ c.in_ok-name.ensures.steps) c.in_err-size.ensures.steps.0))

pub returns-in_err-edition : goal.returns-in_err-edition
returns-in_err-edition c = ap read_as c.from_residual-in_err-edition.ensures ∙ sym (ap entry_of (all_cut 9 (cut_off 9 (cut_off 9 (uncut 9 c.split-fields.ensures.rest c.split-fields.ensures.done c.split-fields.ensures.closure (λ x b q k. search rules)) _ _ _ c.in_ok-name.ensures.steps) _ _ _ c.in_ok-size.ensures.steps) c.in_err-edition.ensures.steps.0))

pub returns-in_err-letter : goal.returns-in_err-letter
returns-in_err-letter c = ap read_as c.from_residual-in_err-letter.ensures ∙ sym (ap entry_of (all_cut 9 (cut_off 9 (cut_off 9 (cut_off 9 (uncut 9 c.split-fields.ensures.rest c.split-fields.ensures.done c.split-fields.ensures.closure (λ x b q k. search rules)) _ _ _ c.in_ok-name.ensures.steps) _ _ _ c.in_ok-size.ensures.steps) _ _ _ c.in_ok-edition.ensures.steps) c.in_err-letter.ensures.steps.0))

pub returns-in_err-number : goal.returns-in_err-number
returns-in_err-number c = ap read_as c.from_residual-in_err-number.ensures ∙ sym (ap entry_of (all_cut 9 (cut_off 9 (cut_off 9 (cut_off 9 (cut_off 9 (uncut 9 c.split-fields.ensures.rest c.split-fields.ensures.done c.split-fields.ensures.closure (λ x b q k. search rules)) _ _ _ c.in_ok-name.ensures.steps) _ _ _ c.in_ok-size.ensures.steps) _ _ _ c.in_ok-edition.ensures.steps) _ _ _ c.in_ok-letter.ensures.steps) c.in_err-number.ensures.steps.0))

pub returns-in_err-errors : goal.returns-in_err-errors
returns-in_err-errors c = ap read_as c.from_residual-in_err-errors.ensures ∙ sym (ap entry_of (all_cut 9 (cut_off 9 (cut_off 9 (cut_off 9 (cut_off 9 (cut_off 9 (uncut 9 c.split-fields.ensures.rest c.split-fields.ensures.done c.split-fields.ensures.closure (λ x b q k. search rules)) _ _ _ c.in_ok-name.ensures.steps) _ _ _ c.in_ok-size.ensures.steps) _ _ _ c.in_ok-edition.ensures.steps) _ _ _ c.in_ok-letter.ensures.steps) _ _ _ c.in_ok-number.ensures.steps) c.in_err-errors.ensures.steps.0))

pub returns-in_default : goal.returns-in_default
returns-in_default c = sym (ap entry_of (next_piece 9 (cut_off 9 (cut_off 9 (cut_off 9 (cut_off 9 (cut_off 9 (cut_off 9 (uncut 9 c.split-fields.ensures.rest c.split-fields.ensures.done c.split-fields.ensures.closure (λ x b q k. search rules)) _ _ _ c.in_ok-name.ensures.steps) _ _ _ c.in_ok-size.ensures.steps) _ _ _ c.in_ok-edition.ensures.steps) _ _ _ c.in_ok-letter.ensures.steps) _ _ _ c.in_ok-number.ensures.steps) _ _ _ c.in_ok-errors.ensures.steps) _ _ _ c.in_default.ensures.steps))

pub returns : goal.returns
returns c = c.fields_entry.ensures ∙ sym (ap entry_of (all_cut 9 (cut_off 9 (cut_off 9 (cut_off 9 (cut_off 9 (cut_off 9 (cut_off 9 (uncut 9 c.split-fields.ensures.rest c.split-fields.ensures.done c.split-fields.ensures.closure (λ x b q k. search rules)) _ _ _ c.in_ok-name.ensures.steps) _ _ _ c.in_ok-size.ensures.steps) _ _ _ c.in_ok-edition.ensures.steps) _ _ _ c.in_ok-letter.ensures.steps) _ _ _ c.in_ok-number.ensures.steps) _ _ _ c.in_ok-errors.ensures.steps) c.in-None.ensures.steps.0))
