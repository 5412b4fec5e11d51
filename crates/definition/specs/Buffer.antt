-- What the event buffer holds at any moment: the events in order, in document 01's numbers. A begin event whose end has not come is provisional;
-- of a finished list it is the rendering (proofs/Buffer).
use Rattle.std.specs.Prelude.{ℕ, suc, ◌+◌, ◌-◌, ◌%◌, List, [], ◌∷◌, ◌++◌, true, false, eqb, ltb, get_or, set}
use Rattle.shapes.specs.Sort as Sort
use Rattle.shapes.specs.Shapes.{EVENT, KIND, END, DEPTH, event}
use Rattle.definition.specs.Run.{Event, opened, leaf, closed, bad}
use Rattle.definition.specs.Render.{Source, starts_at, ends_at, span_end, bads}

-- the begin event that ends at p gets its kind and its end
abbrev pub patch : ℕ → ℕ → ℕ → List ℕ → List ℕ
patch p a e l = set (set l (p - EVENT + KIND) a) (p - EVENT + END) e

-- how many nodes are open behind what is written, SOURCE_FILE with them: begins less ends, counted from the first event
abbrev pub height : List Event → ℕ
height [] = 1
height (opened n ∷ es) = suc (height es)
height (leaf a n ∷ es) = height es
height (closed a n m ∷ es) = height es - 1
height (bad n c ∷ es) = height es

-- as a cell of 32 bits holds it; no reading comes so deep that it makes a difference (proofs/Height)
abbrev pub cell : ℕ → ℕ
cell n = n % 4294967296

-- the same out of what stands before the place: the last event's depth, one more where it begins a node
abbrev pub next_depth : List ℕ → ℕ → ℕ
next_depth l at =
    elim (ltb at EVENT) [
      | true ↦ 1
      | false ↦ elim (eqb (get_or l (at - EVENT) 0) Sort.BEGIN) [ true ↦ cell (get_or l (at - EVENT + DEPTH) 0 + 1) | false ↦ get_or l (at - EVENT + DEPTH) 0 ]
    ]

-- an event as it is written at a place
abbrev pub placed : ℕ → ℕ → ℕ → ℕ → List ℕ → ℕ → List ℕ
placed sort kind start end l at = event sort kind start end (next_depth l at)

-- the stack holds kind and end of the nodes whose closing was met
unfoldable pub buffered : Source → List (ℕ × ℕ) → List Event → List ℕ
buffered x st [] = []
buffered x [] (opened n ∷ es) = buffered x [] es ++ event Sort.BEGIN 0 (starts_at x n) (starts_at x n) (cell (height es))
buffered x (t ∷ st) (opened n ∷ es) = buffered x st es ++ event Sort.BEGIN t.0 (starts_at x n) t.1 (cell (height es))
buffered x st (leaf a n ∷ es) = buffered x st es ++ event Sort.TOKEN a (starts_at x n) (ends_at x n) (cell (height es))
buffered x st (closed a n m ∷ es) = buffered x ((a, span_end x n m) ∷ st) es ++ event Sort.END a (starts_at x n) (span_end x n m) (cell (height es - 1))
buffered x st (bad n c ∷ es) = buffered x st es ++ event Sort.ERROR (bads es) (starts_at x n) (ends_at x n) (cell (height es))

abbrev pub buffer : Source → List Event → List ℕ
buffer x o = buffered x [] o
