-- `listing::write::error_line` meets its contract: the pieces of the line are joined.
use mathlib.Core.Path.{refl}
use Rattle.std.proofs.Common.{rules}
use Rattle.listing.proofs.Written.{spelled_by, wrote_as, then}
use Rattle.listing.proofs.Records.{behind_error}
use Rattle.listing.proofs.write.error_line.Goals as goal

pub returns : goal.returns
returns c =
    spelled_by
    (wrote_as (behind_error c.args.edition c.args.list.now c.number_at.ensures)
    (then c.put_byte.ensures (then (then c.put_error.ensures.put c.put_last.ensures.put) c.put_byte-2.ensures)))
    refl (λ e. search rules)
