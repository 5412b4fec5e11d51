-- `listing::write::put_event` meets its contract: the sort picks the line.
use mathlib.Core.Path.{sym, ap, ◌∙◌}
use Rattle.kinds.proofs.Spelt.{spelled_as, spelled_none}
use Rattle.shapes.specs.Sort as Sort
use Rattle.shapes.specs.Sort.{number}
use Rattle.shapes.specs.declared.sort.Sort.TheVariants as V
use Rattle.listing.specs.Listing.{event_line}
use Rattle.listing.proofs.Records.{of_sort, of_record, no_sort}
use Rattle.listing.proofs.write.put_event.Goals as goal

pub returns-in_default : goal.returns-in_default
returns-in_default c =
    let none = c.in_default.ensures.1 in
    spelled_none _ _ (no_sort c.args.edition c.args.errors.now c.args.event.sort c.args.event.second c.args.event.start c.args.event.end c.args.event.depth
    (λ e. none V.Begin (sym e)) (λ e. none V.Token (sym e)) (λ e. none V.End (sym e)) (λ e. none V.Error (sym e)))

pub returns-in-Begin : goal.returns-in-Begin
unfolding event_line
returns-in-Begin c =
    spelled_as (of_sort c.args.edition c.args.errors.now c.args.event.sort c.args.event.second c.args.event.start c.args.event.end c.args.event.depth Sort.BEGIN (sym c.in-Ok.ensures ∙ ap number c.in-Begin.is))
    c.node_line.ensures

pub returns-in-Token : goal.returns-in-Token
unfolding event_line
returns-in-Token c =
    spelled_as (of_sort c.args.edition c.args.errors.now c.args.event.sort c.args.event.second c.args.event.start c.args.event.end c.args.event.depth Sort.TOKEN (sym c.in-Ok.ensures ∙ ap number c.in-Token.is))
    c.node_line-in-Token.ensures

pub returns-in-End : goal.returns-in-End
unfolding event_line
returns-in-End c =
    spelled_as (of_sort c.args.edition c.args.errors.now c.args.event.sort c.args.event.second c.args.event.start c.args.event.end c.args.event.depth Sort.END (sym c.in-Ok.ensures ∙ ap number c.in-End.is))
    c.node_line-in-End.ensures

pub returns-in-Error : goal.returns-in-Error
returns-in-Error c =
    spelled_as (of_record c.args.edition c.args.errors.now c.args.event.sort c.args.event.second c.args.event.start c.args.event.end c.args.event.depth c.record_place-at.ensures (sym c.in-Ok.ensures ∙ ap number c.in-Error.is))
    c.error_line.ensures
