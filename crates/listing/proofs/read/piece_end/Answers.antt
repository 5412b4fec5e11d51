-- `listing::read::piece_end` meets its contract: the first mark behind the place ends the piece.
use mathlib.Core.Path.{sym, ◌∙◌}
use Rattle.listing.proofs.Pieces.{found, unfound}
use Rattle.listing.proofs.read.piece_end.Goals as goal

pub returns-in-Some : goal.returns-in-Some
returns-in-Some c = found c.requires (sym c.in-Some.is ∙ c.first_mark.ensures)

pub returns-in-None : goal.returns-in-None
returns-in-None c = unfound c.requires (sym c.in-None.is ∙ c.first_mark.ensures)
