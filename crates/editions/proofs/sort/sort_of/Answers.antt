-- `editions::sort::sort_of` meets its contract, by the place where the letter ends.
use mathlib.Core.Path.{◌∙◌}
use Rattle.editions.proofs.Letters.{no_single, no_field, letter_decides}
use Rattle.editions.proofs.sort.sort_of.Goals as goal

pub returns-then-piece_end-ne1 : goal.returns-then-piece_end-ne1
returns-then-piece_end-ne1 c = no_single c.piece_end.ensures c.if-piece_end-ne1.true

pub returns-then-line-lt2 : goal.returns-then-line-lt2
returns-then-line-lt2 c = no_field c.piece_end.ensures c.if-piece_end-ne1.false c.if-line-lt2.true

pub returns : goal.returns
returns c = c.by_letter.ensures ∙ letter_decides c.piece_end.ensures c.if-piece_end-ne1.false c.if-line-lt2.false
