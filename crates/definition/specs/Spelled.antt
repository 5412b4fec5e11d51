-- A text of ASCII characters as source bytes, for the tables.
use Rattle.std.specs.Prelude.{ℕ}
use Prim.Native.Char.{code}
use Prim.Native.String.{String, [], ◌∷◌}
use mathlib.Core.List as l

abbrev pub spelled : String → l.List ℕ
spelled [] = l.[]
spelled (c ∷ t) = l.◌∷◌ (code c) (spelled t)

-- one text behind another
abbrev pub joined : String → String → String
joined [] t = t
joined (c ∷ s) t = c ∷ joined s t
