-- `listing::read::next_line` meets its contract, by the place of the first line feed.
use native.Mathlib.Omega.{arith}
use Rattle.listing.proofs.Fields.{at_end, unfinished, finished}
use Rattle.listing.proofs.read.next_line.Goals as goal

pub returns-then-bytes-at : goal.returns-then-bytes-at
returns-then-bytes-at c = at_end _ _ c.if-bytes-at.true

pub returns-then-to-bytes : goal.returns-then-to-bytes
returns-then-to-bytes c = unfinished c.piece_end-to.ensures c.if-bytes-at.false (omega arith)

pub returns : goal.returns
returns c = finished c.piece_end-to.ensures (omega arith)
