-- What the code's answers stand for.
use Rattle.std.specs.Prelude.{ℕ, ◌+◌, ◌≡◌, List, [], ◌∷◌, ◌++◌, cond, leb, length, drop}
use denote.Ref.{Bor}
use Rattle.std.specs.Prelude.{Option, None, Some}
use Rattle.std.specs.Prelude.{Result, Ok, Err}
use Rattle.shapes.specs.Refusal.{DAY}
use Rattle.listing.specs.Lines.{parted}
use Rattle.replay.specs.Day.{Entry, entry, entry_of, Totals, day_of, totals_of, written, writable, file_line}
use Rattle.replay.specs.declared.lines.Entry as code
use Rattle.replay.specs.declared.lines.Unwritten.{Unwritten}
use Rattle.replay.specs.declared.lines.Unwritten.TheVariants as unwritten
use Rattle.replay.specs.declared.lines.BadLine.{BadLine}
use Rattle.replay.specs.declared.tally.Fate.{Fate}
use Rattle.replay.specs.declared.tally.File.{File}
use Rattle.replay.specs.declared.tally.Tally.{Tally}

-- an entry whose name is a part of a line or of a file's name
abbrev pub meant : code.Entry → Entry
meant e = entry e.name.now e.size e.edition e.answer

abbrev pub read_as : Option code.Entry → Option Entry
read_as None = None
read_as (Some e) = Some (meant e)

-- the entry of the first line of these, where a line feed ends that line and it reads, and the pieces behind that line feed
abbrev pub before_pieces : List (List ℕ) → Option Entry → Option (Entry × List (List ℕ))
before_pieces ps None = None
before_pieces ps (Some e) = Some (e, ps)

abbrev pub first_of : List (List ℕ) → Option (Entry × List (List ℕ))
first_of [] = None
first_of (l ∷ []) = None
first_of (l ∷ k ∷ ls) = before_pieces (k ∷ ls) (entry_of (parted 9 l))

abbrev pub first_as : Option (code.Entry × Bor (List ℕ)) → Option (Entry × List (List ℕ))
first_as None = None
first_as (Some p) = Some (meant p.0, parted 10 p.1.now)

abbrev pub totals_from : Result Tally BadLine → Totals
totals_from (Ok t) = record { number = 0; line = 0; tally = t }
totals_from (Err b) = record { number = DAY; line = b.number; tally = b.tally }

-- what writing returns, and what the room holds then
pub record Put : Type 0 where
  pub result : Result ℕ Unwritten
  pub room : List ℕ

abbrev pub putting : Result ℕ Unwritten → List ℕ → Put
putting r room = record { result = r; room = room }

-- the text at the room's front, where it has so many bytes more than the name; else the room is as lent
abbrev pub placed : ℕ → List ℕ → List ℕ → List ℕ → Put
placed more name text room =
    cond (leb (length name + more) (length room))
    (putting (Ok (length text)) (text ++ drop (length text) room))
    (putting (Err unwritten.Full) room)

-- four numbers of at most 20 digits and a letter, each with its tab, and the line feed: 87 bytes
abbrev pub recording : Entry → List ℕ → Put
recording e room = cond (writable e.name) (placed 87 e.name (written e) room) (putting (Err unwritten.Name) room)

-- five such numbers, three letters, and the tab before the name: 112 bytes
abbrev pub showing : List ℕ → File → List ℕ → Put
showing name f room = placed 112 name (file_line name f) room

-- the day was replayed: for some fates of its files, one for each line before the first that does not read, these are the totals
pub record Again (text : List ℕ) (r : Result Tally BadLine) : Type 0 where
  pub fates : List Fate
  pub all : length fates ≡ length (day_of text).entries
  pub is : totals_from r ≡ totals_of (day_of text) fates
