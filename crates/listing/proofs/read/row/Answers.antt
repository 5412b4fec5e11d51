-- `listing::read::row` meets its contract, by the places where the fields end.
use native.Mathlib.Omega.{arith}
use Rattle.listing.proofs.Fields.{row_long}
use Rattle.listing.proofs.read.row.Goals as goal

pub returns-then-end-line : goal.returns-then-end-line
returns-then-end-line c =
    row_long c.piece_end-id.ensures (omega arith) c.piece_end-start.ensures (omega arith) c.piece_end-end.ensures c.if-end-line.true
