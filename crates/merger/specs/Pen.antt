-- What a mark does to the room and to the pen.
use Rattle.std.specs.Prelude.{ℕ, ◌+◌, ◌-◌, ◌*◌, ◌/◌, ◌%◌, ◌≤◌, ◌≡◌, List, true, length}
use Rattle.shapes.specs.Sort as Sort
use Rattle.shapes.specs.Shapes.{EVENT, Entry}
use Rattle.definition.specs.Merge.{Mark, opens, joins, closes, keeps, Span, widened, error_event, paired, finished}
use Rattle.events.specs.Events.{entry_at}
use Rattle.merger.specs.Events.{put_at, marks_of}
use Rattle.merger.specs.declared.pen.Pen.{Pen}

pub record Page : Type 0 where
  pub room : List ℕ
  pub pen : Pen

abbrev pub page : List ℕ → Pen → Page
page l p = record { room = l; pen = p }

abbrev pub pen_at : ℕ → ℕ → Pen
pen_at to node = record { to = to; node = node }

-- the begin event of a node that is open: n is the place past that of the node around it
abbrev pub link : ℕ → Span → ℕ → Entry
link n z d = (n % 4294967296, n / 4294967296, z.0, z.1, d)

abbrev pub around : Entry → ℕ
around e = e.0 + e.1 * 4294967296

abbrev pub span_of : Entry → Span
span_of e = (e.2, e.3)

-- the begin event of the innermost node that is open
abbrev pub begun : Page → Entry
begun g = entry_at g.room (g.pen.node - EVENT)

abbrev pub joined : Entry → Span → Entry
joined e z = (e.0, e.1, (widened (span_of e) z).0, (widened (span_of e) z).1, e.4)

abbrev pub turn : Mark → Page → Page
turn (opens d z) g = page (put_at g.room g.pen.to (link g.pen.node z d)) (pen_at (g.pen.to + EVENT) (g.pen.to + EVENT))
turn (joins z) g = page (put_at g.room (g.pen.node - EVENT) (joined (begun g) z)) g.pen
turn (closes d) g =
    page
    (put_at (put_at g.room (g.pen.node - EVENT) (error_event Sort.BEGIN (span_of (begun g)) (begun g).4)) g.pen.to (error_event Sort.END (span_of (begun g)) d))
    (pen_at (g.pen.to + EVENT) (around (begun g)))
turn (keeps e) g = page (put_at g.room g.pen.to e) (pen_at (g.pen.to + EVENT) g.pen.node)

-- there is room for an event more, and an end has its node
abbrev pub Roomy : Page → Type 0
Roomy g = g.pen.to + EVENT ≤ length g.room

abbrev pub Inside : Page → Type 0
Inside g = (EVENT ≤ g.pen.node) × (g.pen.node ≤ length g.room)

abbrev pub Able : Mark → Page → Type 0
Able (opens d z) g = Roomy g
Able (joins z) g = Inside g
Able (closes d) g = Roomy g × Inside g
Able (keeps e) g = Roomy g

-- no refusal stands in the way
pub record Writable (events room : List ℕ) : Type 0 where
  pub nested : paired (marks_of events) 0 ≡ true
  pub fits : EVENT * length (finished events) ≤ length room
