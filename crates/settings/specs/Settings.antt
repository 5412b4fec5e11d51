-- Settings with a history (document 02, requests (xi) and (xiv)): "one record a line: edition number, the three values, fields parted by tabs. Edition 1
-- has no line: it is today's values with the fuel given to the call. Lines rise from 2 without gaps; a new one is added at the end and none is changed."
-- "(a fourth value, 1 for allowed; editions written before have 1)"
use Rattle.std.specs.Prelude.{ℕ, zero, suc, ◌-◌, ◌^◌, List, [], ◌∷◌, ◌++◌, map, Bool, cond, ◌&&◌, eqb, leb, ltb, length, replicate}
use Rattle.std.specs.Prelude.{Option, Some, None}
use Rattle.listing.specs.Numbers.{number, decimal}
use Rattle.listing.specs.Lines.{parted}
use Rattle.listing.specs.Listing.{led}
use Rattle.settings.specs.declared.lines.Values.{Values}

-- "the depth limit (1 to 1,024) and the length above which found text is left out (today 15, allowed 0 to 255)"; fuel is any 32-bit number;
-- "19 also covers a fourth value other than 0 or 1"
abbrev pub in_range : Values → Bool
in_range v = ltb v.fuel (2 ^ 32) && leb 1 v.depth && leb v.depth 1024 && leb v.quote 255 && leb v.entrypoint 1

-- an edition's number and its values, where they are in their ranges
abbrev pub ranged : ℕ → Values → Option (ℕ × Values)
ranged e v = cond (in_range v) (Some (e, v)) None

abbrev pub edition_of : Option ℕ → Option ℕ → Option ℕ → Option ℕ → Option ℕ → Option (ℕ × Values)
edition_of None f d q p = None
edition_of (Some e) None d q p = None
edition_of (Some e) (Some f) None q p = None
edition_of (Some e) (Some f) (Some d) None p = None
edition_of (Some e) (Some f) (Some d) (Some q) None = None
edition_of (Some e) (Some f) (Some d) (Some q) (Some p) = ranged e (record { fuel = f; depth = d; quote = q; entrypoint = p })

-- "edition number, the three values", and the fourth; a line of three values has 1 there, wherever it stands; a field too few or too many does not read
abbrev pub line_of : List (List ℕ) → Option (ℕ × Values)
line_of [] = None
line_of (e ∷ []) = None
line_of (e ∷ f ∷ []) = None
line_of (e ∷ f ∷ d ∷ []) = None
line_of (e ∷ f ∷ d ∷ q ∷ []) = edition_of (number e) (number f) (number d) (number q) (Some 1)
line_of (e ∷ f ∷ d ∷ q ∷ p ∷ []) = edition_of (number e) (number f) (number d) (number q) (number p)
line_of (e ∷ f ∷ d ∷ q ∷ p ∷ g ∷ fs) = None

-- the values of a line that has this edition's number
abbrev pub in_turn : ℕ → Option (ℕ × Values) → Option Values
in_turn e None = None
in_turn e (Some l) = cond (eqb l.0 e) (Some l.1) None

-- what settings text is: the number of its first line that does not read, has a value outside its range or a number out of turn; or else the values
-- of editions 2, 3 and so on
pub data Settings : Type 0 where
  bad : ℕ → Settings
  editions : List Values → Settings

-- line n, and what the lines behind it are
abbrev pub from : ℕ → Option Values → Settings → Settings
from n None s = bad n
from n (Some v) (bad m) = bad m
from n (Some v) (editions vs) = editions (v ∷ vs)

-- what stands behind the last line feed, as line n
abbrev pub behind_last : ℕ → List ℕ → Settings
behind_last n [] = editions []
behind_last n (b ∷ bs) = bad n

-- the lines from line n on, which has edition n + 1: lines count from 1 and editions from 2
abbrev pub lines_of : ℕ → List (List ℕ) → Settings
lines_of n [] = editions []
lines_of n (l ∷ []) = behind_last n l
lines_of n (l ∷ k ∷ ls) = from n (in_turn (suc n) (line_of (parted 9 l))) (lines_of (suc n) (k ∷ ls))

unfoldable pub settings_of : List ℕ → Settings
settings_of text = lines_of 1 (parted 10 text)

-- "today's values with the fuel given to the call"
abbrev pub today : ℕ → Values
today fuel = record { fuel = fuel; depth = 1024; quote = 15; entrypoint = 1 }

abbrev pub no_values : Values
no_values = record { fuel = 0; depth = 0; quote = 0; entrypoint = 0 }

-- the refusal's number, 0 where there is none; the line of refusal 19; the values. "A refusal returns its number and zeros."
pub record Reply : Type 0 where
  pub number : ℕ
  pub line : ℕ
  pub values : Values

abbrev pub bad_line : ℕ → Reply
bad_line n = record { number = 19; line = n; values = no_values }

abbrev pub unknown : Reply
unknown = record { number = 18; line = 0; values = no_values }

abbrev pub named : Values → Reply
named v = record { number = 0; line = 0; values = v }

-- the edition with this number, where the first has number 1
abbrev pub numbered : ℕ → List Values → Reply
numbered zero vs = unknown
numbered (suc n) [] = unknown
numbered (suc zero) (v ∷ vs) = named v
numbered (suc (suc n)) (v ∷ vs) = numbered (suc n) vs

abbrev pub choice_in : Settings → ℕ → ℕ → Reply
choice_in (bad n) edition fuel = bad_line n
choice_in (editions vs) edition fuel = numbered edition (today fuel ∷ vs)

-- "A reading names its edition"
unfoldable pub choice : List ℕ → ℕ → ℕ → Reply
choice text edition fuel = choice_in (settings_of text) edition fuel

-- the line of an edition
abbrev pub written : ℕ → Values → List ℕ
written e v = decimal e ++ (led 9 (map decimal (v.fuel ∷ v.depth ∷ v.quote ∷ v.entrypoint ∷ [])) ++ (10 ∷ []))

-- what adding returns, and what the room holds then
pub record Grown : Type 0 where
  pub number : ℕ
  pub line : ℕ
  pub count : ℕ
  pub room : List ℕ

abbrev pub refusing : ℕ → ℕ → List ℕ → Grown
refusing n line room = record { number = n; line = line; count = 0; room = room }

-- 12: "text room too small"; else the new text in the room, and zeros behind it
abbrev pub fitted : List ℕ → List ℕ → Grown
fitted text room =
    cond (leb (length text) (length room))
    (record { number = 0; line = 0; count = length text; room = text ++ replicate (length room - length text) 0 })
    (refusing 12 0 room)

-- as line n, with edition n + 1
abbrev pub added_at : ℕ → List ℕ → Values → List ℕ → Grown
added_at n text v room = cond (ltb (suc n) (2 ^ 32) && in_range v) (fitted (text ++ written (suc n) v) room) (refusing 19 n room)

abbrev pub added_to : Settings → List ℕ → Values → List ℕ → Grown
added_to (bad n) text v room = refusing 19 n room
added_to (editions vs) text v room = added_at (suc (length vs)) text v room

-- "a new one is added at the end and none is changed"
unfoldable pub added : List ℕ → Values → List ℕ → Grown
added text v room = added_to (settings_of text) text v room
