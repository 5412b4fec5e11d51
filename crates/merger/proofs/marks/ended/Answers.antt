-- `ended` reads the mark of an ERROR end, with the ERROR begin after it.
use mathlib.Core.Path.{sym, ◌∙◌}
use Rattle.events.specs.Events.{entry_of}
use Rattle.merger.proofs.Reading.{closes_last, joins_first, closes_first}
use Rattle.std.proofs.Common.{rules}
use Rattle.merger.proofs.marks.ended.Goals as goal

pub returns-then-behind-lt-EVENT : goal.returns-then-behind-lt-EVENT
returns-then-behind-lt-EVENT c = record { first = closes_last _ c.requires.0 c.requires.1 c.if-behind-lt-EVENT.true; ahead = search rules }

pub returns-then-is_error : goal.returns-then-is_error
returns-then-is_error c = record { first = joins_first _ c.requires.0 c.requires.1 c.if-behind-lt-EVENT.false (entry_of c.read-e.result) c.read-e.ensures (sym c.is_error.ensures ∙ c.if-is_error.true); ahead = search rules }

pub returns : goal.returns
returns c = record { first = closes_first _ c.requires.0 c.requires.1 c.if-behind-lt-EVENT.false (entry_of c.read-e.result) c.read-e.ensures (sym c.is_error.ensures ∙ c.if-is_error.false); ahead = search rules }
