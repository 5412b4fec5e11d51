-- What the exports return and leave behind, in numbers.
use Rattle.std.specs.Prelude.{ℕ, zero, suc, ◌%◌, ◌^◌, List, [], ◌∷◌, Result, Ok, Err}
use Rattle.shapes.specs.declared.refusal.Refusal.{Refusal}
use Rattle.shapes.specs.Refusal.{number}
use Rattle.definition.specs.Answer.{After}
use Rattle.reading.specs.Reading.{Outcome}
use Rattle.definition.specs.Merge.{Returned}
use Rattle.outline.specs.Rules as o
use Rattle.cutter.specs.Rows as c
use Rattle.messages.specs.Message as m

-- the refusal's number, the cell of the count or the length, and the room; the cell has 32 bits, and a list whose count needs more takes 64 GiB, a
-- text 4 GiB
pub record Face : Type 0 where
  pub number : ℕ
  pub count : List ℕ
  pub room : List ℕ

abbrev pub face : Returned → Face
face r = record { number = r.number; count = (r.count % 2 ^ 32) ∷ []; room = r.room }

-- likewise of a list of rules, or of an outline
abbrev pub list_face : o.Returned → Face
list_face r = record { number = r.number; count = (r.count % 2 ^ 32) ∷ []; room = r.room }

abbrev pub message_face : m.Returned → Face
message_face r = record { number = r.number; count = (r.count % 2 ^ 32) ∷ []; room = r.room }

abbrev pub faced : ℕ → List ℕ → List ℕ → Face
faced number count room = record { number = number; count = count; room = room }

-- the number and the count's cell that an answer is told by, whatever its room
abbrev pub told_of : Result ℕ Refusal → ℕ × List ℕ
told_of (Ok n) = (0, n ∷ [])
told_of (Err e) = (number e, 0 ∷ [])

-- the refusal's number, the answer's five cells, and the three buffers; rows and counts in cells of 32 bits
pub record ReadFace : Type 0 where
  pub number : ℕ
  pub answer : List ℕ
  pub events : List ℕ
  pub errors : List ℕ
  pub scratch : List ℕ

-- the answer's first cell: the line that 19 is given with, or else the outcome
abbrev pub first_cell : ℕ → ℕ → ℕ
first_cell zero outcome = outcome
first_cell (suc n) outcome = suc n

abbrev pub read_face : Outcome → ReadFace
read_face o =
    let a = o.after in
    record {
      number = a.number;
      answer = first_cell o.line a.outcome ∷ (a.covered % 2 ^ 32) ∷ (a.event_count % 2 ^ 32) ∷ a.error_count ∷ a.left ∷ [];
      events = a.events;
      errors = a.errors;
      scratch = a.scratch;
    }

abbrev pub read_faced : ℕ → List ℕ → List ℕ → List ℕ → List ℕ → ReadFace
read_faced number answer events errors scratch = record { number = number; answer = answer; events = events; errors = errors; scratch = scratch }

-- the refusal's number, the count's cell and the three lists of rows
pub record CutFace : Type 0 where
  pub number : ℕ
  pub count : List ℕ
  pub ids : List ℕ
  pub starts : List ℕ
  pub ends : List ℕ

abbrev pub cut_face : c.After → CutFace
cut_face a = record { number = a.number; count = a.count ∷ []; ids = a.ids; starts = a.starts; ends = a.ends }

abbrev pub cut_faced : ℕ → List ℕ → List ℕ → List ℕ → List ℕ → CutFace
cut_faced number count ids starts ends = record { number = number; count = count; ids = ids; starts = starts; ends = ends }
