-- All items, by what is noted and lent: the lists that were lent hold at the end what was left in them.
use mathlib.Core.Path.{refl, sym}
use Rattle.desk.proofs.read.all_items.Goals as goal

pub returns : goal.returns
returns c = (c.items-desk.new.lent.notes, refl, rw (c.events-1.given.1.1 (sym c.items-desk.ensures.lists.0), c.errors-1.given.1.1 (sym c.items-desk.ensures.lists.1), c.scratch-1.given.1.1 (sym c.items-desk.ensures.lists.2)) c.items-desk.ensures.read)
