-- What the lines of the input read to (document 01): "The program reads tab-separated lines from standard input: `S`, file name, fuel;
-- then `T`, id, start, end per row". A carriage return, a field too many and a line over 8,192 bytes do not read.
use Rattle.std.specs.Prelude.{ℕ, ◌+◌, ◌-◌, ◌≤◌, ◌≡◌, List, [], ◌∷◌, ◌++◌, Bool, false, cond, leb, ltb, eqb, length, take, drop, Option, Some, None}
use Rattle.listing.specs.Numbers.{number}
use Rattle.listing.specs.declared.read.Line.{Line}
use Rattle.listing.specs.declared.read.Line.TheVariants as line
use Rattle.listing.specs.declared.read.Next.{Next}
use Rattle.listing.specs.declared.read.Next.TheVariants as next

-- a text in front of the first of the pieces
abbrev pub onto : List ℕ → List (List ℕ) → List (List ℕ)
onto t [] = t ∷ []
onto t (p ∷ ps) = (t ++ p) ∷ ps

-- the pieces that a mark parts a text into: fields by tabs, lines by line feeds
abbrev pub parted : ℕ → List ℕ → List (List ℕ)
parted m [] = [] ∷ []
parted m (b ∷ bs) = cond (eqb b m) ([] ∷ parted m bs) (onto (b ∷ []) (parted m bs))

-- the field is this letter
abbrev pub is_letter : ℕ → List ℕ → Bool
is_letter x [] = false
is_letter x (b ∷ []) = eqb b x
is_letter x (b ∷ c ∷ bs) = false

-- a name of n bytes stands behind the letter and its tab
abbrev pub source_from : ℕ → Option ℕ → Option Line
source_from n None = None
source_from n (Some fuel) = Some (line.Source 2 (2 + n) fuel)

-- "file name, fuel"
abbrev pub source_of : List (List ℕ) → Option Line
source_of [] = None
source_of (name ∷ []) = None
source_of (name ∷ fuel ∷ []) = source_from (length name) (number fuel)
source_of (name ∷ fuel ∷ f ∷ fs) = None

abbrev pub row_from : Option ℕ → Option ℕ → Option ℕ → Option Line
row_from None start end = None
row_from (Some a) None end = None
row_from (Some a) (Some b) None = None
row_from (Some a) (Some b) (Some c) = Some (line.Row a b c)

-- "id, start, end"
abbrev pub row_of : List (List ℕ) → Option Line
row_of [] = None
row_of (id ∷ []) = None
row_of (id ∷ start ∷ []) = None
row_of (id ∷ start ∷ end ∷ []) = row_from (number id) (number start) (number end)
row_of (id ∷ start ∷ end ∷ f ∷ fs) = None

-- by the letter, `S` or `T`
abbrev pub fields_of : List (List ℕ) → Option Line
fields_of [] = None
fields_of (l ∷ fs) = cond (is_letter 83 l) (source_of fs) (cond (is_letter 84 l) (row_of fs) None)

-- a line that no carriage return parts
abbrev pub plain_of : List (List ℕ) → Option Line
plain_of [] = None
plain_of (l ∷ []) = fields_of (parted 9 l)
plain_of (l ∷ k ∷ ls) = None

unfoldable pub line_of : List ℕ → Option Line
line_of l = cond (leb (length l) 8192) (plain_of (parted 13 l)) None

abbrev pub unended : List ℕ → Next
unended [] = next.Nothing
unended (b ∷ bs) = next.Partial

-- the first of the lines that begin at the given place
abbrev pub first_of : ℕ → List (List ℕ) → Next
first_of at [] = next.Nothing
first_of at (l ∷ []) = unended l
first_of at (l ∷ k ∷ ls) = next.Whole (at + length l) (at + length l + 1)

unfoldable pub next_of : List ℕ → ℕ → Next
next_of s at = first_of at (parted 10 (drop at s))

-- what stands behind a piece that ends at the given place: nothing where the text ends there
abbrev pub behind : ℕ → List ℕ → ℕ → List (List ℕ)
behind m s to = cond (ltb to (length s)) (parted m (drop (to + 1) s)) []

-- the first piece from a place on ends at the other
pub record Piece (m : ℕ) (s : List ℕ) (from to : ℕ) : Type 0 where
  pub forward : from ≤ to
  pub within : to ≤ length s
  pub is : parted m (drop from s) ≡ take (to - from) (drop from s) ∷ behind m s to
