-- What the steps' contracts are stated with: the state with its notes, and steps that touch some of what is lent.
use Rattle.std.specs.Prelude.{ℕ, ◌≤◌, ◌≡◌, List, Bool, length}
use Rattle.shapes.specs.Mode.{number}
use Rattle.definition.specs.Run as P
use Rattle.notes.specs.declared.names.Notes.{Notes}
use Rattle.notes.specs.declared.reading.RowList.{RowList}
use Rattle.notes.specs.declared.reading.Given.{Given}
use Rattle.notes.specs.declared.reading.Lent.{Lent}
use Rattle.notes.specs.Whole.{Whole, exceeded}
use Rattle.notes.specs.Means.{source, bufs, Lines}
use Rattle.notes.specs.Reading.{source_of}
use Rattle.notes.specs.Did.{Ok, Wf, Events, Both, Shuts}
use Rattle.steps.specs.declared.state.State.{State}

-- the state with what is noted
abbrev pub whole : State → Notes → Whole
whole s n =
    record {
      pos = s.pos;
      fuel = s.fuel;
      mode = number s.mode;
      ev = s.ev;
      evcap = s.evcap;
      full = exceeded s.full;
      want = n.want;
      unwant = n.unwant;
      count = n.count;
      mask = n.mask;
      codes = n.codes;
      er = n.er;
      ercap = n.ercap;
      item = n.item;
      first = n.first;
      far = n.far;
      quote = n.quote;
      number = n.number;
    }

-- the state at another row
abbrev pub on_to : ℕ → State → State
on_to p s = record { pos = p; ev = s.ev; evcap = s.evcap; fuel = s.fuel; mode = s.mode; full = s.full }

-- the events fit what is lent
abbrev pub Fits : State → List ℕ → Type 0
Fits s ev = (s.ev ≤ s.evcap) × (s.evcap ≤ length ev)

-- well formed among the rows, and the events fit
abbrev pub Ready : RowList → State → Lent → Type 0
Ready rows s l = Lines rows.ids.now rows.ends.now × Ok (length rows.ids.now) (whole s l.notes) × (s.evcap ≤ length l.events.now)

-- the same among rows that tile, with room for records
abbrev pub Whence : Given → State → Lent → Type 0
Whence x s l = Ok (length x.rows.ids.now) (whole s l.notes) × (s.evcap ≤ length l.events.now) × (l.notes.ercap ≤ length l.errors.now)

-- a step on events, whatever the source's bytes are and whatever is noted
abbrev pub Writes : P.Reader → RowList → State → State → List ℕ → List ℕ → Type 0
Writes f rows s r ev ev' = (bytes : List ℕ) (n : Notes) → Ok (length rows.ids.now) (whole s n) → Events f (source bytes rows.ids.now rows.ends.now) (whole s n) (whole r n) ev ev'

-- a step on events and notes, whatever the source's bytes are, which leaves records and scratch as they were
pub record Eats (f : P.Reader) (rows : RowList) (s : State) (l : Lent) (r : State) (m : Lent) : Type 0 where
  pub events : (bytes : List ℕ) → Events f (source bytes rows.ids.now rows.ends.now) (whole s l.notes) (whole r m.notes) l.events.now m.events.now
  pub errors : m.errors ≡ l.errors
  pub scratch : m.scratch ≡ l.scratch

-- a step on events, notes and records, which leaves scratch as it was
pub record Mends (f : P.Reader) (x : Given) (s : State) (l : Lent) (r : State) (m : Lent) : Type 0 where
  pub both : Both f (source_of x) (whole s l.notes) (whole r m.notes) l.events.now m.events.now l.errors.now m.errors.now
  pub scratch : m.scratch ≡ l.scratch

-- a node that began before `at` is ended by f; scratch is left as it was
pub record Ends (f : P.Reader) (at : ℕ) (x : Given) (s : State) (l : Lent) (r : State) (m : Lent) : Type 0 where
  pub shuts : (sc : List ℕ) → Wf (source_of x) (bufs l.events.now l.errors.now sc) (whole s l.notes) → Shuts f at (source_of x) (whole s l.notes) (whole r m.notes) (bufs l.events.now l.errors.now sc) (bufs m.events.now m.errors.now sc)
  pub scratch : m.scratch ≡ l.scratch

-- what is chosen where a node ends: outside optional parts, where it did not go well
abbrev pub tells : Bool → P.Reader
tells o a = elim a.mode [ P.ok ↦ a | P.failed ↦ P.unless_optional o a | P.stopped w ↦ P.unless_optional o a ]
