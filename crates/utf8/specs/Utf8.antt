-- UTF-8: the Unicode Standard's table of well_formed byte sequences, as request (iii) takes it: document 01's rule (module 2) with "after E0 the next byte is
-- A0..BF, after ED 80..9F, after F0 90..BF, after F4 80..8F".
use Rattle.std.specs.Prelude.{ℕ, suc, List, [], ◌∷◌, Bool, true, false, cond, ◌&&◌, leb, replicate}
use Rattle.std.proofs.Math.Option.{Option, none, some}

-- the least and the greatest byte of a range
abbrev pub Range : Type 0
Range = ℕ × ℕ

abbrev pub within : Range → ℕ → Bool
within r b = leb r.0 b && leb b r.1

abbrev pub follower : Range
follower = (0x80, 0xBF)

abbrev pub followers : ℕ → List Range
followers n = replicate n follower

-- the characters: the range of the first byte, and of each that follows
abbrev pub characters : List (Range × List Range)
characters =
    ((0x00, 0x7F), followers 0)
    ∷ ((0xC2, 0xDF), followers 1)
    ∷ ((0xE0, 0xE0), (0xA0, 0xBF) ∷ followers 1)
    ∷ ((0xE1, 0xEC), followers 2)
    ∷ ((0xED, 0xED), (0x80, 0x9F) ∷ followers 1)
    ∷ ((0xEE, 0xEF), followers 2)
    ∷ ((0xF0, 0xF0), (0x90, 0xBF) ∷ followers 2)
    ∷ ((0xF1, 0xF3), followers 3)
    ∷ ((0xF4, 0xF4), (0x80, 0x8F) ∷ followers 2)
    ∷ []

-- what is due after a byte that begins a character; none where it begins none
abbrev pub begun : List (Range × List Range) → ℕ → Option (List Range)
begun [] b = none
begun (c ∷ cs) b = cond (within c.0 b) (some c.1) (begun cs b)

-- what is due after one byte more; none where it can neither begin nor continue a character
abbrev pub next : List Range → ℕ → Option (List Range)
next [] b = begun characters b
next (r ∷ due) b = cond (within r b) (some due) none

abbrev pub nothing : List Range → Bool
nothing [] = true
nothing (r ∷ due) = false

-- the bytes meet what is due, and are whole characters from there on
abbrev pub walk : List Range → List ℕ → Bool
walk due [] = nothing due
walk due (b ∷ bs) = elim (next due b) [ none ↦ false | some due' ↦ walk due' bs ]

unfoldable pub utf8 : List ℕ → Bool
utf8 bs = walk [] bs

-- Request (vi): "the place of the first byte that cannot begin or continue a character", by the same table

-- where the character begins that stands at place i: there, if nothing is due, else at place f, where the one at hand began
abbrev pub since : List Range → ℕ → ℕ → ℕ
since [] i f = i
since (r ∷ due) i f = f

-- the place, from place i on, in a character that began at place f. "Where a character is cut short by the token's end, the place is that character's
-- first byte."; where no byte is bad it is the end
abbrev pub seek : ℕ → ℕ → List Range → List ℕ → ℕ
seek i f due [] = since due i f
seek i f due (b ∷ bs) = elim (next due b) [ none ↦ i | some due' ↦ seek (suc i) (since due i f) due' bs ]

unfoldable pub bad_byte : List ℕ → ℕ
bad_byte bs = seek 0 0 [] bs
