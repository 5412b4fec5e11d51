-- Marks of the code as those of the definition, and what reading a mark and writing an event means.
use Rattle.std.specs.Prelude.{ℕ, ◌+◌, ◌≤◌, ◌≡◌, List, ◌∷◌, length, set}
use Rattle.shapes.specs.Shapes.{EVENT, Entry, entries}
use Rattle.definition.specs.Merge as D
use Rattle.events.specs.Events.{entry_of}
use Rattle.merger.specs.declared.marks.Mark.{Mark}
use Rattle.merger.specs.declared.marks.Mark.TheVariants.{Opens, Joins, Closes, Keeps}

abbrev pub mark_of : Mark → D.Mark
mark_of (Opens d s e) = D.opens d (s, e)
mark_of (Joins s e) = D.joins (s, e)
mark_of (Closes d) = D.closes d
mark_of (Keeps e) = D.keeps (entry_of e)

abbrev pub put_at : List ℕ → ℕ → Entry → List ℕ
put_at l at e = set (set (set (set (set l at e.0) (at + 1) e.1) (at + 2) e.2) (at + 3) e.3) (at + 4) e.4

-- the marks of a list of numbers
abbrev pub marks_of : List ℕ → List D.Mark
marks_of l = D.marks (entries l)

-- the first of them is read
pub record Reads (l : List ℕ) (m : Mark) (behind : List ℕ) : Type 0 where
  pub first : marks_of l ≡ mark_of m ∷ marks_of behind
  pub ahead : length behind + EVENT ≤ length l
