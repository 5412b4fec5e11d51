-- `settings::lines::read_line` meets its contract: the fields are cut off one after another.
use mathlib.Core.Path.{sym, ap, ◌∙◌}
use Rattle.std.proofs.Common.{rules}
use Rattle.settings.specs.Settings.{line_of}
use Rattle.settings.proofs.Fields.{fourth_is, fourth_none}
use Rattle.listing.proofs.Splits.{uncut, cut_off, next_piece, all_cut}
use Rattle.settings.proofs.lines.read_line.Goals as goal

pub returns-in_err-fuel : goal.returns-in_err-fuel
returns-in_err-fuel c = c.from_residual-in_err-fuel.ensures ∙ sym (ap line_of (all_cut 9 (cut_off 9 (uncut 9 c.split-parts.ensures.rest c.split-parts.ensures.done c.split-parts.ensures.closure (λ x b q k. search rules)) _ _ _ c.in_ok-edition.ensures.steps) c.in_err-fuel.ensures.steps.0))

pub returns-in_err-depth : goal.returns-in_err-depth
returns-in_err-depth c = c.from_residual-in_err-depth.ensures ∙ sym (ap line_of (all_cut 9 (cut_off 9 (cut_off 9 (uncut 9 c.split-parts.ensures.rest c.split-parts.ensures.done c.split-parts.ensures.closure (λ x b q k. search rules)) _ _ _ c.in_ok-edition.ensures.steps) _ _ _ c.in_ok-fuel.ensures.steps) c.in_err-depth.ensures.steps.0))

pub returns-in_err-quote : goal.returns-in_err-quote
returns-in_err-quote c = c.from_residual-in_err-quote.ensures ∙ sym (ap line_of (all_cut 9 (cut_off 9 (cut_off 9 (cut_off 9 (uncut 9 c.split-parts.ensures.rest c.split-parts.ensures.done c.split-parts.ensures.closure (λ x b q k. search rules)) _ _ _ c.in_ok-edition.ensures.steps) _ _ _ c.in_ok-fuel.ensures.steps) _ _ _ c.in_ok-depth.ensures.steps) c.in_err-quote.ensures.steps.0))

pub returns-in_default : goal.returns-in_default
returns-in_default c = c.fields.ensures ∙ sym (ap line_of (all_cut 9 (cut_off 9 (cut_off 9 (cut_off 9 (cut_off 9 (uncut 9 c.split-parts.ensures.rest c.split-parts.ensures.done c.split-parts.ensures.closure (λ x b q k. search rules)) _ _ _ c.in_ok-edition.ensures.steps) _ _ _ c.in_ok-fuel.ensures.steps) _ _ _ c.in_ok-depth.ensures.steps) _ _ _ c.in_ok-quote.ensures.steps) c.in_default.ensures.steps.0))

pub returns-in_default-next : goal.returns-in_default-next
returns-in_default-next c = sym (ap line_of (next_piece 9 (cut_off 9 (cut_off 9 (cut_off 9 (cut_off 9 (cut_off 9 (uncut 9 c.split-parts.ensures.rest c.split-parts.ensures.done c.split-parts.ensures.closure (λ x b q k. search rules)) _ _ _ c.in_ok-edition.ensures.steps) _ _ _ c.in_ok-fuel.ensures.steps) _ _ _ c.in_ok-depth.ensures.steps) _ _ _ c.in_ok-quote.ensures.steps) _ _ _ c.in-Some.ensures.steps) _ _ _ c.in_default-next.ensures.steps))

pub returns-in_err-read_number : goal.returns-in_err-read_number
returns-in_err-read_number c = c.from_residual-in_err-read_number.ensures ∙ fourth_none c.in_ok-edition.edition.now c.in_ok-fuel.fuel.now c.in_ok-depth.depth.now c.in_ok-quote.quote.now c.in-Some.fourth.now (sym c.read_number.ensures ∙ c.in_err-read_number.was) ∙ sym (ap line_of (all_cut 9 (cut_off 9 (cut_off 9 (cut_off 9 (cut_off 9 (cut_off 9 (uncut 9 c.split-parts.ensures.rest c.split-parts.ensures.done c.split-parts.ensures.closure (λ x b q k. search rules)) _ _ _ c.in_ok-edition.ensures.steps) _ _ _ c.in_ok-fuel.ensures.steps) _ _ _ c.in_ok-depth.ensures.steps) _ _ _ c.in_ok-quote.ensures.steps) _ _ _ c.in-Some.ensures.steps) c.in-None.ensures.steps.0))

pub returns : goal.returns
returns c = c.fields-2.ensures ∙ fourth_is c.in_ok-edition.edition.now c.in_ok-fuel.fuel.now c.in_ok-depth.depth.now c.in_ok-quote.quote.now c.in-Some.fourth.now (sym c.read_number.ensures ∙ c.in_ok-read_number.was) ∙ sym (ap line_of (all_cut 9 (cut_off 9 (cut_off 9 (cut_off 9 (cut_off 9 (cut_off 9 (uncut 9 c.split-parts.ensures.rest c.split-parts.ensures.done c.split-parts.ensures.closure (λ x b q k. search rules)) _ _ _ c.in_ok-edition.ensures.steps) _ _ _ c.in_ok-fuel.ensures.steps) _ _ _ c.in_ok-depth.ensures.steps) _ _ _ c.in_ok-quote.ensures.steps) _ _ _ c.in-Some.ensures.steps) c.in-None.ensures.steps.0))
