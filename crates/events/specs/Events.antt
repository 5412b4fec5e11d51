-- An event of the code as one of the definition, and the event at a place.
use Rattle.std.specs.Prelude.{ℕ, ◌+◌, List, get_or}
use Rattle.shapes.specs.Shapes.{Entry}
use Rattle.events.specs.declared.Event.{Event}

abbrev pub entry_of : Event → Entry
entry_of e = (e.sort, e.kind, e.start, e.end, e.depth)

-- the event whose five numbers start at a place
abbrev pub entry_at : List ℕ → ℕ → Entry
entry_at l at = (get_or l at 0, get_or l (at + 1) 0, get_or l (at + 2) 0, get_or l (at + 3) 0, get_or l (at + 4) 0)
