-- The public definition: the desk's refusals in the table's order, the answer, and what the reader returns and leaves in what it was lent.
use Rattle.std.specs.Prelude.{ℕ, zero, suc, ◌+◌, ◌-◌, ◌*◌, ◌/◌, max, List, [], ◌∷◌, ◌++◌, Bool, true, false, ◌&&◌, ◌||◌, not, eqb, ltb, length, replicate}
use Rattle.kinds.specs.Sets.{is_id}
use Rattle.shapes.specs.Refusal as Refusal
use Rattle.shapes.specs.Shapes.{flat, owned, flat_records}
pub use Rattle.definition.specs.Run.{any}
use Rattle.definition.specs.Run.{Limits, State, read}
use Rattle.definition.specs.Render.{Source, Reading, item_numbers, rendered, moments, over}

-- "Input: source bytes; three equally long lists of 32-bit numbers (token id, start, end); fuel, any 32-bit number; scratch; room for events;
-- room for errors." The last three as they are lent; "Rooms are counted in 32-bit numbers", scratch in "words of 64 bits".
pub record Desk : Type 0 where
  pub bytes : List ℕ
  pub ids : List ℕ
  pub starts : List ℕ
  pub ends : List ℕ
  pub fuel : ℕ
  pub scratch : List ℕ
  pub events : List ℕ
  pub errors : List ℕ

-- 3: "an id not in KINDS.md"
abbrev pub no_id : ℕ → Bool
no_id i = not (is_id i)

-- 4: "rows do not tile: first start not 0, an end not past its start, a start not the previous end, last end not the source length; or no rows
-- and a source not empty". The rows tile the source from a on, z its length.
abbrev pub tile : ℕ → ℕ → List ℕ → List ℕ → Bool
tile a z [] [] = eqb a z
tile a z [] (e ∷ es) = false
tile a z (s ∷ ss) [] = false
tile a z (s ∷ ss) (e ∷ es) = eqb s a && ltb s e && tile e z ss es

-- 6: "scratch under (2 x (rows + 1) + 63) / 64, rounded down, words of 64 bits"
abbrev pub words : ℕ → ℕ
words rows = (2 * (rows + 1) + 63) / 64

-- the list's rows 1 to 6: whether it applies, and its number; "5 is no longer given; its number is not used again"
abbrev pub grounds : Desk → List (Bool × ℕ)
grounds d =
    let n = length d.ids in
    let z = length d.bytes in
    (ltb 1048576 z || ltb 65536 (max n (max (length d.starts) (length d.ends))), Refusal.LONG)
    ∷ (not (eqb n (length d.starts) && eqb n (length d.ends)), Refusal.UNEQUAL)
    ∷ (any no_id d.ids, Refusal.ID)
    ∷ (not (tile 0 z d.starts d.ends), Refusal.TILES)
    ∷ (ltb (length d.scratch) (words n), Refusal.SCRATCH)
    ∷ []

-- the first that applies; 0 where none does
abbrev pub first_of : List (Bool × ℕ) → ℕ
first_of [] = 0
first_of (c ∷ cs) = elim c.0 [ true ↦ c.1 | false ↦ first_of cs ]

abbrev pub refusal : Desk → ℕ
refusal d = first_of (grounds d)

pub data Answer : Type 0 where
  refused : ℕ → Answer
  given : Reading → Answer

abbrev pub source_of : Desk → Source
source_of d = record { bytes = d.bytes; ids = d.ids; ends = d.ends }

-- 7: "by the rules below, the event list would at some moment exceed its room, 8 not before"; 8: "likewise the error records, 7 not before"; 0 where
-- no room is exceeded
abbrev pub exceeded : Limits → Desk → State → ℕ
exceeded L d s = over (length d.events) (length d.errors) (moments L (source_of d) s)

abbrev pub answer_of : Limits → Desk → State → Answer
answer_of L d s = elim (exceeded L d s) [ zero ↦ given (rendered L (source_of d) (item_numbers L d.ids d.fuel) s) | suc n ↦ refused (suc n) ]

-- "In this order; the first that applies is given."
abbrev pub answer : Limits → Desk → Answer
answer L d = elim (refusal d) [ zero ↦ answer_of L d (read L d.ids d.fuel) | suc n ↦ refused (suc n) ]

-- what is returned, and what the three buffers hold then
pub record After : Type 0 where
  pub number : ℕ  -- the refusal's, 0 where none is given
  pub outcome : ℕ
  pub covered : ℕ
  pub event_count : ℕ
  pub error_count : ℕ
  pub left : ℕ
  pub events : List ℕ
  pub errors : List ℕ
  pub scratch : List ℕ

-- "A refusal returns its number and zeros."
abbrev pub refusing : ℕ → List ℕ → List ℕ → List ℕ → After
refusing n ev er sc =
    record { number = n; outcome = 0; covered = 0; event_count = 0; error_count = 0; left = 0; events = ev; errors = er; scratch = sc }

-- "all zero", as long as lent
abbrev pub blank : List ℕ → List ℕ
blank l = replicate (length l) 0

-- "Event and error cells past the finished lists, and scratch, are zero.": the finished list w in the buffer l
abbrev pub filled : List ℕ → List ℕ → List ℕ
filled w l = w ++ replicate (length l - length w) 0

-- "The reader's 7 and 8 leave events, errors and scratch all zero; every other refusal leaves all as lent."
abbrev pub as_lent : ℕ → Bool
as_lent n = ltb n Refusal.EVENTS

-- "An answer returns outcome, rows covered, counts of events and error records, fuel left"
abbrev pub left_by : Desk → Answer → After
left_by d (refused n) =
    elim (as_lent n) [
      | true ↦ refusing n d.events d.errors d.scratch
      | false ↦ refusing n (blank d.events) (blank d.errors) (blank d.scratch)
    ]
left_by d (given r) =
    record {
      number = 0;
      outcome = r.outcome;
      covered = r.covered;
      event_count = length r.events;
      error_count = length r.errors;
      left = r.left;
      events = filled (flat r.events) d.events;
      errors = filled (flat_records (owned r.errors r.items)) d.errors;
      scratch = blank d.scratch;
    }

-- THE PUBLIC DEFINITION: a promise of the reader is one equation with it
abbrev pub after : Limits → Desk → After
after L d = left_by d (answer L d)
