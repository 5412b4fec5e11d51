-- `listing::write::node_line` meets its contract: the pieces of the line are joined.
use mathlib.Core.Path.{refl}
use Rattle.std.proofs.Common.{rules}
use Rattle.listing.proofs.Written.{spelled_by, wrote_as, then}
use Rattle.listing.proofs.Records.{behind_kind}
use Rattle.listing.proofs.write.node_line.Goals as goal

pub returns : goal.returns
returns c =
    spelled_by
    (wrote_as (behind_kind c.args.edition c.args.letter c.args.event.second c.args.event.start c.args.event.end c.args.event.depth)
    (then c.put_byte.ensures (then c.put_byte-2.ensures (then (then (then c.put_kind.ensures.put c.put_numbers.ensures.put) c.put_last.ensures.put) c.put_byte-3.ensures))))
    refl (λ e. search rules)
