-- A listing of one edition as one of the other (document 02, request (ix)): "Edition 2 has `L`, a tab and 2, and adds depth as last field of `B`, `T`
-- and `E` lines." Request (x): "A listing's `X` line gets the number as its last field in edition 2 only; edition 2 lines without it no longer read
-- (16). Going back to edition 1 drops it, and an edition 1 listing turned into edition 2 has 0 there". So an edition 2 event line is one of edition 1
-- with a field behind it. The way is up, from 1 to 2, or down.
use Rattle.std.specs.Prelude.{ℕ, suc, ◌-◌, List, [], ◌∷◌, ◌++◌, Bool, true, false, cond, ◌&&◌, ◌||◌, eqb, leb, ltb, length, replicate}
use Rattle.std.proofs.Math.Option.{Option, none, some}
use Rattle.shapes.specs.Sort as Sort
use Rattle.listing.specs.Numbers.{decimal}
use Rattle.listing.specs.Lines.{parted}
use Rattle.editions.specs.Words.{equal, plain}
use Rattle.editions.specs.Sorts.{RESULT, ALONE, sort_of}

-- ONE LINE

-- how many nodes are open behind an event of the sort, from those before it
unfoldable pub opened : ℕ → ℕ → ℕ
opened sort d = cond (eqb sort Sort.BEGIN) (suc d) (cond (eqb sort Sort.END) (d - 1) d)

-- the field of edition 2: "the count of nodes open around it", a begin's and its end's the same; an error's item is 0, "for not known"
unfoldable pub field : ℕ → ℕ → ℕ
field sort d = cond (eqb sort Sort.ERROR) 0 (cond (eqb sort Sort.END) (d - 1) d)

-- it is an event, and no end with no node open
unfoldable pub allowed : ℕ → ℕ → Bool
allowed sort d = cond (eqb sort 0) false (cond (ltb Sort.ERROR sort) false (cond (eqb sort Sort.END) (ltb 0 d) true))

-- the field is an item, or the counted depth
unfoldable pub right : ℕ → ℕ → List ℕ → Bool
right sort d f = cond (eqb sort Sort.ERROR) (plain f) (equal f (decimal (field sort d)))

-- a line of the sort, with this number, ends the listing: a depth is 0 there, and what stands alone is line 2
unfoldable pub ends : ℕ → ℕ → ℕ → Bool
ends sort n d = eqb d 0 && (eqb sort RESULT || (eqb sort ALONE && eqb n 2))

abbrev pub shed_from : ℕ → ℕ → List ℕ → Option (List ℕ × List ℕ) → Option (List ℕ × List ℕ)
shed_from m b bs none = cond (eqb b m) (some ([], bs)) none
shed_from m b bs (some s) = some (b ∷ s.0, s.1)

-- what stands before the last mark, and behind it
abbrev pub shed : ℕ → List ℕ → Option (List ℕ × List ℕ)
shed m [] = none
shed m (b ∷ bs) = shed_from m b bs (shed m bs)

-- a line does not read where it stands; or whether it ends the listing, how many nodes are open behind it, and what is written for it
pub data Step : Type 0 where
  stray : Step
  becomes : Bool → ℕ → List ℕ → Step

-- the `L` line
abbrev pub head_text : ℕ → List ℕ
head_text edition = 76 ∷ 9 ∷ decimal edition

abbrev pub from : Bool → ℕ
from up = cond up 1 2

abbrev pub to : Bool → ℕ
to up = cond up 2 1

unfoldable pub head_step : Bool → List ℕ → Step
head_step up l = cond (equal l (head_text (from up))) (becomes false 0 (head_text (to up))) stray

abbrev pub up_as : ℕ → ℕ → List ℕ → Step
up_as sort d l = cond (allowed sort d) (becomes false (opened sort d) (l ++ (9 ∷ decimal (field sort d)))) stray

unfoldable pub up_step : ℕ → List ℕ → Step
up_step d l = up_as (sort_of (parted 9 l)) d l

abbrev pub down_as : ℕ → ℕ → List ℕ × List ℕ → Step
down_as sort d s = cond (allowed sort d && right sort d s.1) (becomes false (opened sort d) s.0) stray

abbrev pub down_from : ℕ → Option (List ℕ × List ℕ) → Step
down_from d none = stray
down_from d (some s) = down_as (sort_of (parted 9 s.0)) d s

unfoldable pub down_step : ℕ → List ℕ → Step
down_step d l = down_from d (shed 9 l)

-- line n, from 1, where d nodes are open
unfoldable pub step_at : Bool → ℕ → ℕ → List ℕ → Step
step_at up n d l =
    cond (eqb n 1) (head_step up l)
    (cond (ends (sort_of (parted 9 l)) n d) (becomes true 0 l)
    (cond up (up_step d l) (down_step d l)))

-- ALL LINES

-- the number of the first line that does not read; or all lines that are written
pub data Made : Type 0 where
  bad : ℕ → Made
  lines : List (List ℕ) → Made

-- "nothing behind the `R`, `N` or `F` line": nothing stands behind its line feed
abbrev pub only : ℕ → List ℕ → List (List ℕ) → Made
only n t [] = bad n
only n t ([] ∷ []) = lines (t ∷ [])
only n t ([] ∷ l ∷ ls) = bad n
only n t ((b ∷ l) ∷ ls) = bad n

abbrev pub ahead : List (List ℕ) → Made → Made
ahead ts (bad n) = bad n
ahead ts (lines us) = lines (ts ++ us)

abbrev pub opened_behind : Step → ℕ
opened_behind stray = 0
opened_behind (becomes last d t) = d

-- line n, the lines behind it, and what those are made into
abbrev pub next : ℕ → Step → List (List ℕ) → Made → Made
next n stray ls m = bad n
next n (becomes true d t) ls m = only (suc n) t ls
next n (becomes false d t) ls m = ahead (t ∷ []) m

-- the lines from line n on; what stands behind the last line feed is no line
abbrev pub made : Bool → ℕ → ℕ → List (List ℕ) → Made
made up n d [] = bad n
made up n d (l ∷ []) = bad n
made up n d (l ∷ k ∷ ls) = next n (step_at up n d l) (k ∷ ls) (made up (suc n) (opened_behind (step_at up n d l)) (k ∷ ls))

unfoldable pub made_of : Bool → List ℕ → Made
made_of up text = made up 1 0 (parted 10 text)

-- lines, each with its line feed
abbrev pub ended : List (List ℕ) → List ℕ
ended [] = []
ended (l ∷ ls) = l ++ (10 ∷ ended ls)

abbrev pub text_of : Made → List ℕ
text_of (bad n) = []
text_of (lines ls) = ended ls

-- THE ANSWER

-- the refusal's number, 0 where there is none; the line of refusal 16; how long the new listing is, and what the room holds then
pub record Answer : Type 0 where
  pub number : ℕ
  pub line : ℕ
  pub count : ℕ
  pub room : List ℕ

abbrev pub refused : ℕ → ℕ → List ℕ → Answer
refused n line room = record { number = n; line = line; count = 0; room = room }

-- 17: "no room"; else the text in the room, and zeros behind it
abbrev pub fitted : List ℕ → List ℕ → Answer
fitted text room =
    cond (leb (length text) (length room))
    (record { number = 0; line = 0; count = length text; room = text ++ replicate (length room - length text) 0 })
    (refused 17 0 room)

-- 16: "not a listing of edition 1 or 2 or a wrong depth, with its line number"; "output left as lent"
abbrev pub answered : Made → List ℕ → Answer
answered (bad n) room = refused 16 n room
answered (lines ls) room = fitted (ended ls) room

unfoldable pub converted : Bool → List ℕ → List ℕ → Answer
converted up text room = answered (made_of up text) room
