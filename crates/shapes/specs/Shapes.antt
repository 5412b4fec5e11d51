-- The shapes of what the reader writes: an event and an error record as numbers, in lists of numbers.
use Rattle.std.specs.Prelude.{ℕ, suc, ◌+◌, min, List, [], ◌∷◌, ◌++◌, true, false, eqb, length, get_or}

-- EVENTS

-- "An event is" sort (1 begin, 2 token, 3 end, 4 error), kind or error record index (from 0), start, end; "an event becomes five numbers, the fifth being
-- the count of nodes open around it" (request (vii))
abbrev pub EVENT : ℕ
EVENT = 5

-- where its kind, its end and its depth stand in it
abbrev pub KIND : ℕ
KIND = 1

abbrev pub END : ℕ
END = 3

abbrev pub DEPTH : ℕ
DEPTH = 4

abbrev pub Entry : Type 0
Entry = ℕ × ℕ × ℕ × ℕ × ℕ

abbrev pub event : ℕ → ℕ → ℕ → ℕ → ℕ → List ℕ
event sort kind start end depth = sort ∷ kind ∷ start ∷ end ∷ depth ∷ []

abbrev pub flat : List Entry → List ℕ
flat [] = []
flat (e ∷ es) = e.0 ∷ e.1 ∷ e.2 ∷ e.3 ∷ e.4 ∷ flat es

-- the events that a list of numbers has; what is left over is none
abbrev pub entries : List ℕ → List Entry
entries [] = []
entries (a ∷ []) = []
entries (a ∷ b ∷ []) = []
entries (a ∷ b ∷ c ∷ []) = []
entries (a ∷ b ∷ c ∷ d ∷ []) = []
entries (a ∷ b ∷ c ∷ d ∷ h ∷ l) = (a, b, c, d, h) ∷ entries l

-- ERROR RECORDS

-- "An error record is start, end, form, count of names, then the names."; "Every error record gets the number of its item, from 1" (request (x)), behind
-- the form: how many numbers stand before the names, and where those are that are looked up
abbrev pub HEAD : ℕ
HEAD = 5

abbrev pub FORM : ℕ
FORM = 2

abbrev pub COUNT : ℕ
COUNT = 4

-- start, end, form and names; behind the names, in form 9 alone, the place (request (vi))
abbrev pub Rec : Type 0
Rec = ℕ × ℕ × ℕ × List ℕ × List ℕ

-- with the number of its item
abbrev pub Owned : Type 0
Owned = Rec × ℕ

abbrev pub flat_records : List Owned → List ℕ
flat_records [] = []
flat_records (e ∷ es) = e.0.0 ∷ e.0.1 ∷ e.0.2 ∷ e.1 ∷ length e.0.3 ∷ e.0.3 ++ (e.0.4 ++ flat_records es)

-- records, each with its number; there are as many of these
abbrev pub owned : List Rec → List ℕ → List Owned
owned [] is = []
owned (q ∷ l) [] = (q, 0) ∷ owned l []
owned (q ∷ l) (i ∷ is) = (q, i) ∷ owned l is

-- the records of one item
abbrev pub of_item : ℕ → List Rec → List Owned
of_item i [] = []
of_item i (q ∷ l) = (q, i) ∷ of_item i l

-- records without their numbers, and the numbers alone
abbrev pub bare : List Owned → List Rec
bare [] = []
bare (e ∷ es) = e.0 ∷ bare es

abbrev pub items_in : List Owned → List ℕ
items_in [] = []
items_in (e ∷ es) = e.1 ∷ items_in es

-- how many numbers stand behind a record's count
abbrev pub behind : ℕ → ℕ → ℕ
behind form names = elim (eqb form 9) [ true ↦ suc names | false ↦ names ]

-- and how many it has in all
abbrev pub record_size : ℕ → ℕ → ℕ
record_size form names = behind form names + HEAD

-- where the record behind the one at a place begins; the list's end where none can
abbrev pub next_record : List ℕ → ℕ → ℕ
next_record l at = min (length l) (at + record_size (get_or l (at + FORM) 0) (get_or l (at + COUNT) 0))
