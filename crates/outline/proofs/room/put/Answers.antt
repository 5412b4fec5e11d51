-- `put` writes the numbers one after the other.
use Rattle.std.proofs.Common.{rules}
use Rattle.outline.proofs.Writing.{put_sets}
use Rattle.outline.proofs.room.put.Goals as goal

pub returns : goal.returns
returns g c = put_sets c.args.to g.row.N c.args.room.now c.copy_from_slice.new.self c.args.cells (search rules) (search rules) (search rules)
