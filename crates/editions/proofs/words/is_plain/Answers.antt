-- `editions::words::is_plain` meets its contract: a number, whose first digit is looked at where it has two.
use mathlib.Core.Path.{sym, ◌∙◌}
use Rattle.editions.proofs.Texts.{no_number, short_number, long_number}
use Rattle.editions.proofs.words.is_plain.Goals as goal

pub returns-in_default : goal.returns-in_default
returns-in_default c = no_number c.args.text.now (sym c.read_number.ensures ∙ c.in_default.is)

pub returns-then-text-lt2 : goal.returns-then-text-lt2
returns-then-text-lt2 c = short_number c.args.text.now (sym c.read_number.ensures ∙ c.in-Some.is) c.if-text-lt2.true

pub returns : goal.returns
returns c = long_number c.args.text.now (sym c.read_number.ensures ∙ c.in-Some.is) c.if-text-lt2.false
