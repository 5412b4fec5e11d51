-- `listing::read::source` meets its contract, by the places where the fields end.
use native.Mathlib.Omega.{arith}
use Rattle.listing.proofs.Fields.{source_long}
use Rattle.listing.proofs.read.source.Goals as goal

pub returns-then-last-line : goal.returns-then-last-line
returns-then-last-line c = source_long c.piece_end-to.ensures (omega arith) c.piece_end-last.ensures c.if-last-line.true
