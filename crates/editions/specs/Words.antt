-- The words that stand in the fields of a listing: "Numbers are decimal; kinds and names are spelled as in KINDS.md." A number has no leading zeros.
use Rattle.std.specs.Prelude.{ℕ, suc, List, [], ◌∷◌, Bool, true, false, cond, not, ◌&&◌, eqb, ltb, take, drop, Option, Some, None}
use Rattle.kinds.specs.Spelling.{kind_texts, name_texts}
use Rattle.listing.specs.Numbers.{is_number}

-- the texts are the same
abbrev pub equal : List ℕ → List ℕ → Bool
equal [] [] = true
equal [] (c ∷ cs) = false
equal (b ∷ bs) [] = false
equal (b ∷ bs) (c ∷ cs) = eqb b c && equal bs cs

-- a zero stands alone
abbrev pub unpadded : List ℕ → Bool
unpadded [] = true
unpadded (b ∷ []) = true
unpadded (b ∷ c ∷ bs) = not (eqb b 48)

-- digits only, under 2^32, without leading zeros
unfoldable pub plain : List ℕ → Bool
plain f = is_number f && unpadded f

abbrev pub among : List (List ℕ) → List ℕ → Bool
among [] t = false
among (u ∷ us) t = cond (equal u t) true (among us t)

-- a kind's text, from one number up to another
unfoldable pub kind_among : ℕ → ℕ → List ℕ → Bool
kind_among from to t = among (drop from (take to kind_texts)) t

-- where a text stands first among others; their count where it is none of them
abbrev pub place_in : List (List ℕ) → List ℕ → ℕ
place_in [] t = 0
place_in (u ∷ us) t = cond (equal u t) 0 (suc (place_in us t))

-- the name that the text is, or 85
unfoldable pub name_number : List ℕ → ℕ
name_number t = place_in name_texts t

-- the number, where the text is a name
abbrev pub named : List ℕ → Option ℕ
named t = cond (ltb (name_number t) 85) (Some (name_number t)) None
