-- A day as lines (document 02, request (xii)): "Record a day as lines: file name, length, settings edition, outcome or refusal, count of errors." Fields are
-- parted by tabs, and every line has its line feed. The outcome stands behind `R`, the refusal behind `F`.
use Rattle.std.specs.Prelude.{ℕ, zero, suc, List, [], ◌∷◌, ◌++◌, map, Bool, true, false, cond, ◌&&◌, eqb}
use Rattle.std.specs.Prelude.{Option, None, Some}
use Rattle.shapes.specs.Outcome.{DONE, SPENT, DEEP}
use Rattle.shapes.specs.Refusal.{DAY}
use Rattle.listing.specs.Numbers.{number, decimal}
use Rattle.listing.specs.Lines.{parted, is_letter}
use Rattle.listing.specs.Listing.{led, line_with}
use Rattle.replay.specs.Tally.{marked, one, replayed}
use Rattle.replay.specs.declared.lines.Shown.{Shown}
use Rattle.replay.specs.declared.tally.Answer.{Answer}
use Rattle.replay.specs.declared.tally.Answer.TheVariants as answer
use Rattle.replay.specs.declared.tally.Fate.{Fate}
use Rattle.replay.specs.declared.tally.Fate.TheVariants as fate
use Rattle.replay.specs.declared.tally.File.{File}
use Rattle.replay.specs.declared.tally.Tally.{Tally}

-- what a line records of a file
pub record Entry : Type 0 where
  pub name : List ℕ
  pub size : ℕ
  pub edition : ℕ
  pub answer : Answer

abbrev pub entry : List ℕ → ℕ → ℕ → Answer → Entry
entry name size edition a = record { name = name; size = size; edition = edition; answer = a }

-- WRITING

-- the letter, the outcome or the refusal, and the count of errors, which a refused file has none of
abbrev pub shown_of : Answer → Shown
shown_of (answer.Done e) = record { letter = 82; number = DONE; errors = e }
shown_of (answer.Spent e) = record { letter = 82; number = SPENT; errors = e }
shown_of (answer.Deep e) = record { letter = 82; number = DEEP; errors = e }
shown_of (answer.Refused n) = record { letter = 70; number = n; errors = 0 }

abbrev pub fields_of : Shown → List (List ℕ)
fields_of s = (s.letter ∷ []) ∷ map decimal (s.number ∷ s.errors ∷ [])

abbrev pub entry_fields : Entry → List (List ℕ)
entry_fields e = map decimal (e.size ∷ e.edition ∷ []) ++ fields_of (shown_of e.answer)

-- the line of an entry, with its line feed
abbrev pub written : Entry → List ℕ
written e = e.name ++ (led 9 (entry_fields e) ++ (10 ∷ []))

abbrev pub single : List (List ℕ) → Bool
single [] = false
single (p ∷ []) = true
single (p ∷ q ∷ ps) = false

-- no tab and no line feed stands in the name
abbrev pub writable : List ℕ → Bool
writable name = single (parted 9 name) && single (parted 10 name)

-- READING

-- "Outcome 0 is done, 1 out of fuel, 2 too deep."
abbrev pub ended_of : ℕ → ℕ → Option Answer
ended_of n e =
    cond (eqb n DONE) (Some (answer.Done e)) (cond (eqb n SPENT) (Some (answer.Spent e)) (cond (eqb n DEEP) (Some (answer.Deep e)) None))

abbrev pub refused_of : ℕ → ℕ → Option Answer
refused_of n e = cond (eqb e 0) (Some (answer.Refused n)) None

abbrev pub answer_of : List ℕ → ℕ → ℕ → Option Answer
answer_of l n e = cond (is_letter 82 l) (ended_of n e) (cond (is_letter 70 l) (refused_of n e) None)

abbrev pub with_answer : List ℕ → ℕ → ℕ → Option Answer → Option Entry
with_answer name s d None = None
with_answer name s d (Some a) = Some (entry name s d a)

abbrev pub entry_from : List ℕ → Option ℕ → Option ℕ → List ℕ → Option ℕ → Option ℕ → Option Entry
entry_from name None d l n e = None
entry_from name (Some s) None l n e = None
entry_from name (Some s) (Some d) l None e = None
entry_from name (Some s) (Some d) l (Some n) None = None
entry_from name (Some s) (Some d) l (Some n) (Some e) = with_answer name s d (answer_of l n e)

-- a field too few or too many does not read
abbrev pub entry_of : List (List ℕ) → Option Entry
entry_of [] = None
entry_of (name ∷ []) = None
entry_of (name ∷ s ∷ []) = None
entry_of (name ∷ s ∷ d ∷ []) = None
entry_of (name ∷ s ∷ d ∷ l ∷ []) = None
entry_of (name ∷ s ∷ d ∷ l ∷ n ∷ []) = None
entry_of (name ∷ s ∷ d ∷ l ∷ n ∷ e ∷ []) = entry_from name (number s) (number d) l (number n) (number e)
entry_of (name ∷ s ∷ d ∷ l ∷ n ∷ e ∷ f ∷ fs) = None

-- the entries of the lines before the first that does not read, and that line's number, from 1; 0 where every line reads
pub record Day : Type 0 where
  pub entries : List Entry
  pub bad : ℕ

-- line n, and the lines behind it
abbrev pub following : ℕ → Option Entry → Day → Day
following n None d = record { entries = []; bad = n }
following n (Some e) d = record { entries = e ∷ d.entries; bad = d.bad }

-- what stands behind the last line feed, as line n
abbrev pub behind_last : ℕ → List ℕ → Day
behind_last n [] = record { entries = []; bad = 0 }
behind_last n (b ∷ bs) = record { entries = []; bad = n }

abbrev pub lines_of : ℕ → List (List ℕ) → Day
lines_of n [] = record { entries = []; bad = 0 }
lines_of n (l ∷ []) = behind_last n l
lines_of n (l ∷ k ∷ ls) = following n (entry_of (parted 9 l)) (lines_of (suc n) (k ∷ ls))

unfoldable pub day_of : List ℕ → Day
day_of text = lines_of 1 (parted 10 text)

-- REPLAYING

-- each entry with what became of its file
abbrev pub files_of : List Entry → List Fate → List File
files_of [] fs = []
files_of (e ∷ es) [] = []
files_of (e ∷ es) (f ∷ fs) = record { recorded = e.answer; fate = f } ∷ files_of es fs

-- the refusal's number, 0 where there is none; its line; and the totals
pub record Totals : Type 0 where
  pub number : ℕ
  pub line : ℕ
  pub tally : Tally

abbrev pub refusal_at : ℕ → ℕ
refusal_at zero = 0
refusal_at (suc n) = DAY

-- "Refusals: 20, a day line that does not read, with its number; totals of the lines before it are returned."
abbrev pub totals_of : Day → List Fate → Totals
totals_of d fs = record { number = refusal_at d.bad; line = d.bad; tally = replayed (files_of d.entries fs) }

-- WHAT A REPLAY WRITES

-- `M` for a file that is missing, `C` for one of another length
abbrev pub fate_shown : Fate → Shown
fate_shown (fate.Read a) = shown_of a
fate_shown fate.Missing = record { letter = 77; number = 0; errors = 0 }
fate_shown fate.Changed = record { letter = 67; number = 0; errors = 0 }

-- "per file, the recorded and the new answer and a mark where they differ": `D`, name, recorded, new, and 1 for the mark, else 0
abbrev pub file_line : List ℕ → File → List ℕ
file_line name f = line_with 68 (name ∷ (fields_of (shown_of f.recorded) ++ (fields_of (fate_shown f.fate) ++ map decimal (one (marked f) ∷ []))))

-- `T`, "files, files with each new outcome, files refused, files that differ", and those counted apart
abbrev pub totals_line : Tally → List ℕ
totals_line t =
    line_with 84 (map decimal (t.files ∷ t.done ∷ t.spent ∷ t.deep ∷ t.refused ∷ t.differ ∷ t.apart ∷ []))

-- `F`, 20 and the line's number
abbrev pub bad_line : ℕ → List ℕ
bad_line n = line_with 70 (map decimal (DAY ∷ n ∷ []))
