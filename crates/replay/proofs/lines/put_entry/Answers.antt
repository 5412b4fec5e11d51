-- `replay::lines::put_entry` meets its contract: the pieces of the line are joined.
use mathlib.Core.Path.{refl}
use Rattle.std.proofs.Common.{rules}
use Rattle.listing.proofs.Written.{spelled_by, wrote_as, then}
use Rattle.replay.specs.Answer.{meant}
use Rattle.replay.proofs.Shown.{entry_text}
use Rattle.replay.proofs.lines.put_entry.Goals as goal

pub returns : goal.returns
returns c =
    spelled_by
    (wrote_as (entry_text (meant c.args.e) c.from.ensures)
    (then c.put.ensures (then c.put_numbers.ensures.put (then c.put_shown.ensures.put c.put_byte.ensures))))
    refl (λ e. search rules)
