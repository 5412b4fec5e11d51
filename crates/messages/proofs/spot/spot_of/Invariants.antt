-- `messages::spot::spot_of` meets its contract: after some bytes line and column are those of that place.
use lib.ListN.{take}
use Rattle.messages.proofs.Spots.{Going}
use Rattle.messages.proofs.spot.spot_of.Given as goal

abbrev pub invariant-loop-byte : goal.invariant-loop-byte
invariant-loop-byte l = Going (take l.end l.source) l.byte-index l.line l.column
