-- An error record as numbers, and which records read (refusal 11).
-- "An error record is start, end, form, count of names, then the names."; behind the form its item's number (request (x)), in form 9 the place behind the
-- names (request (vi)). Where its numbers stand crate shapes says.
use Rattle.std.specs.Prelude.{ℕ, zero, suc, ◌+◌, ◌-◌, List, [], ◌∷◌, Bool, true, false, cond, not, ◌&&◌, ◌||◌, eqb, ltb, leb, length, get_or, take, drop}
use Rattle.shapes.specs.Shapes.{HEAD, FORM, COUNT}
use Rattle.utf8.specs.Utf8.{utf8}

-- how many numbers stand before the names, and which of them is the count
abbrev pub head : ℕ
head = HEAD

abbrev pub count_at : ℕ
count_at = COUNT

abbrev pub start : List ℕ → ℕ
start r = get_or r 0 0

abbrev pub end : List ℕ → ℕ
end r = get_or r 1 0

abbrev pub form : List ℕ → ℕ
form r = get_or r FORM 0

abbrev pub count : List ℕ → ℕ
count r = get_or r count_at 0

abbrev pub names : List ℕ → List ℕ
names r = take (count r) (drop head r)

-- how many numbers stand behind the names of form 9, and of any form
abbrev pub places : ℕ
places = 1

abbrev pub behind : ℕ → ℕ
behind f = cond (eqb f 9) places 0

-- how many numbers a record has; what stands behind the first record of a list, and from a later one on, the first being number 0
abbrev pub size : List ℕ → ℕ
size r = head + count r + behind (form r)

abbrev pub record_at : ℕ → List ℕ → List ℕ
record_at zero r = r
record_at (suc n) r = record_at n (drop (size r) r)

-- a part of a list, from a place up to before another
abbrev pub part : List ℕ → ℕ → ℕ → List ℕ
part l from to = take (to - from) (drop from l)

abbrev pub found : List ℕ → List ℕ → List ℕ
found source r = part source (start r) (end r)

-- WHAT READS

-- "a count that its form does not have (1 to 3: at least one; else 0)"
abbrev pub counts : ℕ → ℕ → Bool
counts f n = cond (ltb f 4) (leb 1 n) (eqb n 0)

abbrev pub has : List ℕ → ℕ → Bool
has [] n = false
has (m ∷ l) n = cond (eqb m n) true (has l n)

-- "a number that is no name, or one twice": the names before it are given
abbrev pub named : List ℕ → List ℕ → Bool
named before [] = true
named before (n ∷ ns) = ltb n 85 && not (has before n) && named (n ∷ before) ns

abbrev pub empty : List ℕ → Bool
empty [] = true
empty (b ∷ t) = false

-- "quoted text (forms 1 and 4) that is empty or not UTF-8; form 3 with a span that is not empty"
abbrev pub quotes : ℕ → Bool
quotes f = eqb f 1 || eqb f 4

abbrev pub shows : ℕ → List ℕ → Bool
shows f t = cond (quotes f) (not (empty t) && utf8 t) (cond (eqb f 3) (empty t) true)

unfoldable pub reads : List ℕ → List ℕ → Bool
reads source r =
    leb head (length r)
    && leb (start r) (end r)
    && leb (end r) (length source)
    && leb 1 (form r)
    && leb (form r) 10
    && counts (form r) (count r)
    && leb (size r) (length r)
    && named [] (names r)
    && shows (form r) (found source r)
