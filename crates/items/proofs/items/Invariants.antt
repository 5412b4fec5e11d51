-- `items::items` meets its contract. The loop's invariant: as many items were read as were counted. Assumes nothing.
use Rattle.notes.specs.Reading.{source_of, bufs_of, SameLists}
use Rattle.items.specs.Items.{tally, Goes}
use Rattle.items.proofs.items.Given as goal

abbrev pub invariant-loop-number : goal.invariant-loop-number
invariant-loop-number l = Goes (l.depth, l.x.entrypoint) 1 l.number (source_of l.x) (tally l.initial.d l.initial.lent.notes) (tally l.d l.lent.notes) (bufs_of l.initial.lent) (bufs_of l.lent) × SameLists l.initial.lent l.lent
