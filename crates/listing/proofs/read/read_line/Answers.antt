-- `listing::read::read_line` meets its contract, by the places of the first carriage return and the first tab.
use mathlib.Core.Path.{◌∙◌}
use Rattle.std.proofs.Common.{rules}
use Rattle.listing.proofs.Fields.{too_long, returned, no_letter, no_field, is_source, is_row, is_neither}
use Rattle.listing.proofs.read.read_line.Goals as goal

pub returns-then-line-gt-LONGEST : goal.returns-then-line-gt-LONGEST
returns-then-line-gt-LONGEST c = too_long _ c.if-line-gt-LONGEST.true

pub returns-then-piece_end-line : goal.returns-then-piece_end-line
returns-then-piece_end-line c = returned c.if-line-gt-LONGEST.false c.piece_end.ensures c.if-piece_end-line.true

pub returns-then-piece_end-ne1 : goal.returns-then-piece_end-ne1
returns-then-piece_end-ne1 c =
    no_letter c.if-line-gt-LONGEST.false c.piece_end.ensures c.if-piece_end-line.false c.piece_end-2.ensures c.if-piece_end-ne1.true

pub returns-then-line-lt2 : goal.returns-then-line-lt2
returns-then-line-lt2 c =
    no_field c.if-line-gt-LONGEST.false c.piece_end.ensures c.if-piece_end-line.false c.piece_end-2.ensures c.if-piece_end-ne1.false c.if-line-lt2.true

pub returns-in-83 : goal.returns-in-83
returns-in-83 c =
    c.source.ensures ∙ is_source c.if-line-gt-LONGEST.false c.piece_end.ensures c.if-piece_end-line.false c.piece_end-2.ensures c.if-piece_end-ne1.false c.if-line-lt2.false c.in-83.is

pub returns-in-84 : goal.returns-in-84
returns-in-84 c =
    c.row.ensures ∙ is_row c.if-line-gt-LONGEST.false c.piece_end.ensures c.if-piece_end-line.false c.piece_end-2.ensures c.if-piece_end-ne1.false c.if-line-lt2.false c.in-84.is

pub returns-in_default : goal.returns-in_default
returns-in_default c =
    is_neither c.if-line-gt-LONGEST.false c.piece_end.ensures c.if-piece_end-line.false c.piece_end-2.ensures c.if-piece_end-ne1.false c.if-line-lt2.false (λ e. search rules) (λ e. search rules)
