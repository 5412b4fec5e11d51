-- `replay::lines::next_entry` meets its contract, by the place where the first line ends.
use mathlib.Core.Path.{sym, ap, ◌∙◌}
use native.Mathlib.Omega.{arith}
use Rattle.replay.specs.Answer.{read_as}
use Rattle.replay.proofs.Entries.{first_read}
use Rattle.replay.proofs.lines.next_entry.Goals as goal

pub returns-clause-first : goal.returns-clause-first
returns-clause-first c = first_read c.piece_end-end.ensures (omega (arith, c.piece_end-end.ensures.within, c.if-end-text.false)) (sym (ap read_as c.in_ok-entry.was) ∙ c.read_line.ensures)
