-- Where a place of the source stands, as people count: lines and columns from 1, a line ended by its line feed, and a column for each byte.
use Rattle.std.specs.Prelude.{ℕ, suc, List, [], ◌∷◌, cond, eqb, take}
use Rattle.messages.specs.declared.spot.Spot.{Spot}

-- from a spot past one byte, and past all of a list
abbrev pub past : Spot → ℕ → Spot
past p b = cond (eqb b 10) (record { line = suc p.line; column = 1 }) (record { line = p.line; column = suc p.column })

abbrev pub behind : Spot → List ℕ → Spot
behind p [] = p
behind p (b ∷ bs) = behind (past p b) bs

unfoldable pub spot_of : List ℕ → ℕ → Spot
spot_of source at = behind (record { line = 1; column = 1 }) (take at source)
