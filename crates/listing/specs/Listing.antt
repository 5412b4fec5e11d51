-- The listing (document 01): a line is its letter and its fields, parted by tabs. "Numbers are decimal; kinds and names are spelled as in KINDS.md."
-- Each line is said once, over the edition of the listing (document 02, requests (ix) and (x)).
use Rattle.std.specs.Prelude.{ℕ, zero, suc, ◌+◌, List, [], ◌∷◌, ◌++◌, map, cond, eqb, ltb, get_or, take, drop}
use Rattle.kinds.specs.Spelling.{kind_text, name_text}
use Rattle.shapes.specs.Sort as Sort
use Rattle.shapes.specs.Shapes.{HEAD, FORM, COUNT, record_size}
use Rattle.listing.specs.Numbers.{decimal}

-- texts, a mark in front of each
abbrev pub led : ℕ → List (List ℕ) → List ℕ
led m [] = []
led m (t ∷ ts) = m ∷ (t ++ led m ts)

-- "names joined by commas or `-`"
abbrev pub joined : List (List ℕ) → List ℕ
joined [] = 45 ∷ []
joined (t ∷ ts) = t ++ led 44 ts

abbrev pub line_with : ℕ → List (List ℕ) → List ℕ
line_with letter fields = letter ∷ (led 9 fields ++ (10 ∷ []))

-- "Edition 2 .. adds depth as last field of `B`, `T` and `E` lines"; "A listing's `X` line gets the number as its last field in edition 2 only"
unfoldable pub last_field : ℕ → ℕ → List (List ℕ)
last_field edition n = cond (ltb edition 2) [] (decimal n ∷ [])

-- `L` and the edition
abbrev pub head_line : ℕ → List ℕ
head_line edition = line_with 76 (map decimal (edition ∷ []))

-- "`F` and the number"
abbrev pub refusal_line : ℕ → List ℕ
refusal_line n = line_with 70 (map decimal (n ∷ []))

-- "`N` and the number, from 1, of the first such line"
abbrev pub unread_line : ℕ → List ℕ
unread_line n = line_with 78 (map decimal (n ∷ []))

-- "`R` holds outcome, rows, fuel left."
abbrev pub result_line : ℕ → ℕ → ℕ → List ℕ
result_line outcome rows fuel = line_with 82 (map decimal (outcome ∷ rows ∷ fuel ∷ []))

-- "A token line is `T`, kind, start, end."; `B` and `E` lines alike
abbrev pub node_line : ℕ → ℕ → ℕ → ℕ → ℕ → ℕ → List ℕ
node_line edition letter kind start end depth = line_with letter (kind_text kind ∷ (map decimal (start ∷ end ∷ []) ++ last_field edition depth))

-- "An error record is start, end, form, count of names, then the names." A list that begins with one has these names: no name stands twice, and
-- there are 85
unfoldable pub names_of : List ℕ → List ℕ
names_of l = take 85 (take (get_or l COUNT 0) (drop HEAD l))

-- request (vi): "in listings, a field after the names", form 9's alone
unfoldable pub place_of : List ℕ → List (List ℕ)
place_of l = cond (eqb (get_or l FORM 0) 9) (decimal (get_or l (HEAD + get_or l COUNT 0) 0) ∷ []) []

-- request (x): "Every error record gets the number of its item, from 1", behind the form
abbrev pub item_of : List ℕ → ℕ
item_of l = get_or l (FORM + 1) 0

-- what both editions show of an error
abbrev pub error_fields : List ℕ → List (List ℕ)
error_fields l = map decimal (get_or l FORM 0 ∷ get_or l 0 0 ∷ get_or l 1 0 ∷ []) ++ (joined (map name_text (names_of l)) ∷ place_of l)

-- "An error line is `X`, form, start, end, names joined by commas or `-`."; the item stands behind form 9's place
unfoldable pub error_line : ℕ → List ℕ → List ℕ
error_line edition l = line_with 88 (error_fields l ++ last_field edition (item_of l))

-- the records from the given one, from 0, on
abbrev pub records_from : ℕ → List ℕ → List ℕ
records_from zero l = l
records_from (suc k) l = records_from k (drop (record_size (get_or l FORM 0) (get_or l COUNT 0)) l)

-- "sort (1 begin, 2 token, 3 end, 4 error), kind or error record index (from 0), start, end", and the depth
unfoldable pub event_line : ℕ → List ℕ → ℕ → ℕ → ℕ → ℕ → ℕ → List ℕ
event_line edition errors sort second start end depth =
    cond (eqb sort Sort.BEGIN) (node_line edition 66 second start end depth)
    (cond (eqb sort Sort.TOKEN) (node_line edition 84 second start end depth)
    (cond (eqb sort Sort.END) (node_line edition 69 second start end depth)
    (cond (eqb sort Sort.ERROR) (error_line edition (records_from second errors)) [])))

abbrev pub event_lines : ℕ → List ℕ → List ℕ → List ℕ
event_lines edition errors [] = []
event_lines edition errors (a ∷ []) = []
event_lines edition errors (a ∷ b ∷ []) = []
event_lines edition errors (a ∷ b ∷ c ∷ []) = []
event_lines edition errors (a ∷ b ∷ c ∷ d ∷ []) = []
event_lines edition errors (a ∷ b ∷ c ∷ d ∷ depth ∷ events) = event_line edition errors a b c d depth ++ event_lines edition errors events

-- the listing of a file that was read
abbrev pub listed : ℕ → List ℕ → List ℕ → ℕ → ℕ → ℕ → List ℕ
listed edition events errors outcome rows fuel = head_line edition ++ (event_lines edition errors events ++ result_line outcome rows fuel)

-- "A refused file gets the `L` line, then `F` and the number."
abbrev pub refused : ℕ → ℕ → List ℕ
refused edition n = head_line edition ++ refusal_line n

-- "A line that does not read is answered with its line number: the `L` line, then `N` and the number"
abbrev pub unread : ℕ → ℕ → List ℕ
unread edition n = head_line edition ++ unread_line n
