-- What stands behind a line's letter, field by field.
use Rattle.std.specs.Prelude.{ℕ, zero, suc, List, [], ◌∷◌, Bool, true, false, cond, not, ◌&&◌, eqb, leb, ltb, Option, Some, None}
use Rattle.listing.specs.Numbers.{value}
use Rattle.listing.specs.Lines.{parted}
use Rattle.editions.specs.Words.{equal, plain, kind_among, name_number}

-- so many numbers
abbrev pub plains : ℕ → List (List ℕ) → Bool
plains zero [] = true
plains zero (f ∷ fs) = false
plains (suc n) [] = false
plains (suc n) (f ∷ fs) = plain f && plains n fs

-- "kind, start, end": a kind from one number up to another
abbrev pub node : ℕ → ℕ → List (List ℕ) → Bool
node from to [] = false
node from to (k ∷ fs) = plains 2 fs && kind_among from to k

abbrev pub has : ℕ → List ℕ → Bool
has n [] = false
has n (m ∷ ms) = cond (eqb n m) true (has n ms)

-- names, none twice and none of those seen
abbrev pub fresh : List ℕ → List (List ℕ) → Bool
fresh seen [] = true
fresh seen (t ∷ ts) = ltb (name_number t) 85 && not (has (name_number t) seen) && fresh (name_number t ∷ seen) ts

-- "names joined by commas or `-`": forms 1 to 3 have at least one, the others none
abbrev pub named : ℕ → List ℕ → Bool
named form t = cond (leb form 3) (fresh [] (parted 44 t)) (equal t (45 ∷ []))

-- behind the names, in form 9 alone, the place may stand
abbrev pub place : ℕ → List (List ℕ) → Bool
place form [] = true
place form (p ∷ ps) = eqb form 9 && plains 1 (p ∷ ps)

abbrev pub placed : ℕ → List (List ℕ) → Bool
placed form [] = false
placed form (names ∷ fs) = named form names && place form fs

-- the form that the text is, 1 to 10, or 0
unfoldable pub form_of : List ℕ → ℕ
form_of f = cond (plain f && leb (value f) 10) (value f) 0

-- the form, where the text is one
abbrev pub formed : List ℕ → Option ℕ
formed f = cond (eqb (form_of f) 0) None (Some (form_of f))

-- "form, start, end, names", and the place
abbrev pub error : List (List ℕ) → Bool
error [] = false
error (form ∷ []) = false
error (form ∷ start ∷ []) = false
error (form ∷ start ∷ end ∷ fs) = not (eqb (form_of form) 0) && plain start && plain end && placed (form_of form) fs
