-- `kinds::table::kinds_of` meets its contract: what the static's slices hold, one by one, are the sets.
use Rattle.std.proofs.Common.{sym}
use Rattle.kinds.proofs.Order.{set_none, held}
use Rattle.kinds.proofs.table.kinds_of.Goals as goal

pub returns-then-set-lt56 : goal.returns-then-set-lt56
returns-then-set-lt56 c = rw held

pub returns : goal.returns
returns c = sym (set_none c.args.set c.if-set-lt56.false)
