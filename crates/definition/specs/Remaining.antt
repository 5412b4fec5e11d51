-- Demand 3's words: "Whenever the reader, not stopped, stands between two items with fuel f left, what it writes up to the closing SOURCE_FILE
-- event is what demand 2 gives inside SOURCE_FILE for the remaining rows as a file of their own with fuel f, places and record numbers shifted."
-- REQUEST (x): "Demand 3 then shifts item numbers too."
use Rattle.std.specs.Prelude.{ℕ, suc, ◌+◌, ◌-◌, ◌≡◌, List, [], ◌∷◌, ◌++◌, map, true, false, eqb, length, get_or, drop}
use Rattle.std.proofs.Math.Option.{none}
use Rattle.kinds.specs.Kinds as k
use Rattle.kinds.specs.Sets.{kind_of, pick, trivial}
use Rattle.shapes.specs.Sort as Sort
use Rattle.shapes.specs.Shapes.{Entry, Rec}
use Rattle.definition.specs.Run.{State, Limits, Mode, ok, failed, stopped, rule_keywords, statement_keywords, start, items}
use Rattle.definition.specs.Render.{Source, starts_at, ends_at, span_end, Reading, inside, records, numbers}
use Rattle.definition.specs.Answer.{Desk, source_of}

-- "not stopped"
abbrev pub Running : Mode → Type 0
Running ok = Unit
Running failed = Unit
Running (stopped w) = ⊥

-- where the reader stands after n items; behind the last it stays
abbrev pub standing : Limits → Desk → ℕ → State
standing L d n = items L n (start d.ids d.fuel)

-- how many rows are before it, and where the next of them begins
abbrev pub rows_before : Desk → State → ℕ
rows_before d s = length d.ids - length s.rest

abbrev pub place : Desk → State → ℕ
place d s = get_or (0 ∷ d.ends) (rows_before d s) 0

-- what it has written inside SOURCE_FILE, and the error records
abbrev pub written : Desk → State → List Entry
written d s = inside (source_of d) s.out

abbrev pub recorded : Limits → Desk → State → List Rec
recorded L d s = records L (source_of d) s.out []

-- the numbers of their items, where it stands after n items
abbrev pub items_before : Limits → Desk → ℕ → List ℕ
items_before L d n = numbers L n 1 (start d.ids d.fuel)

-- places counted from p on
abbrev pub back_by : ℕ → List ℕ → List ℕ
back_by p l = map (λ i. i - p) l

-- "the remaining rows as a file of their own with fuel f", lent what one likes
abbrev pub remaining : Desk → State → List ℕ → List ℕ → List ℕ → Desk
remaining d s scratch events errors =
    record {
      bytes = drop (place d s) d.bytes;
      ids = drop (rows_before d s) d.ids;
      starts = back_by (place d s) (drop (rows_before d s) d.starts);
      ends = back_by (place d s) (drop (rows_before d s) d.ends);
      fuel = s.fuel;
      scratch = scratch;
      events = events;
      errors = errors;
    }

-- "places and record numbers shifted": by p places and c records
abbrev pub shift : ℕ → ℕ → Entry → Entry
shift p c q = (q.0, elim (eqb q.0 Sort.ERROR) as (λ _. ℕ) [ true ↦ q.1 + c | false ↦ q.1 ], p + q.2, p + q.3, q.4)

abbrev pub shifts : ℕ → ℕ → List Entry → List Entry
shifts p c [] = []
shifts p c (q ∷ l) = shift p c q ∷ shifts p c l

abbrev pub shift_records : ℕ → List Rec → List Rec
shift_records p [] = []
shift_records p (q ∷ l) = (p + q.0, p + q.1, q.2, q.3, map (λ i. p + i) q.4) ∷ shift_records p l

-- item numbers shifted, by n items
abbrev pub shift_items : ℕ → List ℕ → List ℕ
shift_items n l = map (λ i. n + i) l

-- a list "inside SOURCE_FILE", z the source's length
abbrev pub in_file : ℕ → List Entry → List Entry
in_file z l = (Sort.BEGIN, k.SOURCE_FILE, 0, z, 0) ∷ l ++ ((Sort.END, k.SOURCE_FILE, 0, z, 0) ∷ [])

-- r is the desk's reading, r' that of the remaining rows where the reader stands at s, after n items
pub record Continued (L : Limits) (d : Desk) (n : ℕ) (s : State) (r r' : Reading) : Type 0 where
  pub outcome : r.outcome ≡ r'.outcome
  pub covered : r.covered ≡ rows_before d s + r'.covered
  pub left : r.left ≡ r'.left
  pub inner : List Entry
  pub alone : r'.events ≡ in_file (length d.bytes - place d s) inner
  pub events : r.events ≡ in_file (length d.bytes) (written d s ++ shifts (place d s) (length (recorded L d s)) inner)
  pub errors : r.errors ≡ recorded L d s ++ shift_records (place d s) r'.errors
  pub items : r.items ≡ items_before L d n ++ shift_items n r'.items

-- "none of those keywords in it"
abbrev pub Keyless : List ℕ → Type 0
Keyless [] = Unit
Keyless (i ∷ is) = (pick rule_keywords i ≡ none) × Keyless is

-- "a junk run may not begin with one of the two"
abbrev pub Astray : List ℕ → Type 0
Astray [] = Unit
Astray (i ∷ is) = pick statement_keywords i ≡ none

-- not empty, and its last row is no trivia
abbrev pub Solid : List ℕ → Type 0
Solid [] = ⊥
Solid (i ∷ []) = trivial i ≡ false
Solid (i ∷ j ∷ js) = Solid (j ∷ js)

-- the events of the rows j, before the rows r, in so many nodes
abbrev pub tokens : Source → ℕ → List ℕ → List ℕ → List Entry
tokens x h [] r = []
tokens x h (i ∷ j) r = let n = suc (length (j ++ r)) in (Sort.TOKEN, kind_of i, starts_at x n, ends_at x n, h) ∷ tokens x h j r

-- "one error, one ERROR node": the run j before the rows r, c records before it
abbrev pub junk_error : Source → List ℕ → List ℕ → Rec
junk_error x j r = let n = length (j ++ r) in (starts_at x n, ends_at x n, 10, [], [])

abbrev pub junk_events : Source → ℕ → List ℕ → List ℕ → List Entry
junk_events x c j r =
    let n = length (j ++ r) in
    let a = starts_at x n in
    let z = span_end x n (length r) in
    (Sort.ERROR, c, a, ends_at x n, 1) ∷ (Sort.BEGIN, k.ERROR, a, z, 1) ∷ tokens x 2 j r ++ ((Sort.END, k.ERROR, a, z, 1) ∷ [])

-- v is where the reader stands behind the run, the item behind n others: not stopped, with the fuel that it had
pub record Junk (L : Limits) (d : Desk) (n : ℕ) (s v : State) (j r : List ℕ) : Type 0 where
  pub going : Running v.mode
  pub stands : v.rest ≡ r
  pub fuel : v.fuel ≡ s.fuel
  pub gap : List ℕ
  pub front : s.rest ≡ gap ++ (j ++ r)
  pub errors : recorded L d v ≡ recorded L d s ++ (junk_error (source_of d) j r ∷ [])
  pub items : items_before L d (n + 1) ≡ items_before L d n ++ ((n + 1) ∷ [])
  pub events : written d v ≡ written d s ++ (tokens (source_of d) 1 gap (j ++ r) ++ junk_events (source_of d) (length (recorded L d s)) j r)
