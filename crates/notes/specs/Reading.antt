-- What a reading is given and lent, as the definition speaks of it.
use Rattle.std.specs.Prelude.{◌≡◌}
use Rattle.definition.specs.Render.{Source}
use Rattle.notes.specs.declared.reading.Given.{Given}
use Rattle.notes.specs.declared.reading.Lent.{Lent}
use Rattle.notes.specs.Means.{Bufs, source, bufs}

-- the source with its rows
abbrev pub source_of : Given → Source
source_of x = source x.src.now x.rows.ids.now x.rows.ends.now

-- what stands in the lists
abbrev pub bufs_of : Lent → Bufs
bufs_of l = bufs l.events.now l.errors.now l.scratch.now

-- they are the same lists, whatever was written into them
abbrev pub SameLists : Lent → Lent → Type 0
SameLists l m = (m.events.ghost_name ≡ l.events.ghost_name) × (m.errors.ghost_name ≡ l.errors.ghost_name) × (m.scratch.ghost_name ≡ l.scratch.ghost_name)
