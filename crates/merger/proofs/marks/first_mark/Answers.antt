-- `first_mark` reads the first of a list's marks.
use mathlib.Core.Path.{sym, ◌∙◌}
use Rattle.std.proofs.Common.{rules}
use Rattle.events.specs.Events.{entry_of}
use Rattle.merger.proofs.Reading.{opens_first, keeps_first}
use Rattle.merger.proofs.marks.first_mark.Goals as goal

pub returns-then-is_error : goal.returns-then-is_error
returns-then-is_error c =
    let e = c.read-e in
    record { first = opens_first _ c.requires (entry_of e.result) e.ensures (sym c.is_error.ensures ∙ c.if-is_error.true); ahead = search rules }

pub returns : goal.returns
returns c =
    let e = c.read-e in
    record { first = keeps_first _ c.requires (entry_of e.result) e.ensures (sym c.is_error.ensures ∙ c.if-is_error.false) (sym c.is_error-2.ensures ∙ c.if-is_error-2.false); ahead = search rules }
