-- `listing::write::numbers_line` meets its contract: the letter, the numbers and the line feed are joined.
use mathlib.Core.Path.{refl}
use Rattle.std.proofs.Common.{rules}
use Rattle.listing.proofs.Written.{spelled_by, then}
use Rattle.listing.proofs.write.numbers_line.Goals as goal

pub returns : goal.returns
returns c = spelled_by (then c.put_byte.ensures (then c.put_numbers.ensures.put c.put_byte-2.ensures)) refl (λ e. search rules)
