-- `replay::lines::put_file` meets its contract: the pieces of the line are joined.
use mathlib.Core.Path.{refl}
use Rattle.std.proofs.Common.{rules}
use Rattle.listing.proofs.Written.{spelled_by, wrote_as, then}
use Rattle.replay.proofs.Shown.{file_text}
use Rattle.replay.proofs.Tallying.{as_one}
use Rattle.replay.proofs.lines.put_file.Goals as goal

pub returns : goal.returns
returns c =
    spelled_by
    (wrote_as (file_text c.args.name.now c.args.file c.from.ensures c.from-2.ensures (as_one c.from-3.ensures c.is_marked.ensures))
    (then c.put_byte.ensures (then c.put_byte-2.ensures (then c.put.ensures
    (then c.put_shown.ensures.put (then c.put_shown-2.ensures.put (then c.put_numbers.ensures.put c.put_byte-3.ensures)))))))
    refl (λ e. search rules)
