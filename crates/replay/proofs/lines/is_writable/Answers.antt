-- `replay::lines::is_writable` meets its contract.
use Rattle.replay.proofs.Entries.{tabbed, untabbed}
use Rattle.replay.proofs.lines.is_writable.Goals as goal

pub returns-then-piece_end-name : goal.returns-then-piece_end-name
returns-then-piece_end-name c = tabbed c.piece_end.ensures c.if-piece_end-name.true

pub returns : goal.returns
returns c = untabbed c.piece_end.ensures c.if-piece_end-name.false c.piece_end-2.ensures
