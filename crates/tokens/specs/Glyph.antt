-- The character at the start of the bytes, by the Unicode Standard's table (crate utf8): its class in a mode, and its length. A byte that begins no character is
-- taken by itself, as INVALID.
use Rattle.std.specs.Prelude.{ℕ, zero, suc, ◌+◌, ◌-◌, ◌*◌, List, [], ◌∷◌, Bool, true, cond, ◌&&◌, length, get_or}
use Rattle.std.proofs.Math.Option.{Option, none, some}
use Rattle.utf8.specs.Utf8.{Range, within, characters, begun}
use Rattle.tokens.specs.Classes.{class, wide_class, INVALID}

-- the bytes from place i on meet what is due; bytes past the end read as 0, which follows nothing
abbrev pub meets : List Range → List ℕ → ℕ → Bool
meets [] s i = true
meets (r ∷ due) s i = within r (get_or s i 0) && meets due s (suc i)

-- how many bytes the character has; 0 where there is none
abbrev pub counted : Option (List Range) → List ℕ → ℕ
counted none s = 0
counted (some due) s = cond (meets due s 1) (suc (length due)) 0

abbrev pub sequence : List ℕ → ℕ
sequence s = counted (begun characters (get_or s 0 0)) s

-- the number of a character of two, three or four bytes
abbrev pub two : ℕ → ℕ → ℕ
two a b = (a - 0xC0) * 64 + (b - 0x80)

abbrev pub three : ℕ → ℕ → ℕ → ℕ
three a b c = (a - 0xE0) * 4096 + (b - 0x80) * 64 + (c - 0x80)

abbrev pub four : ℕ → ℕ → ℕ → ℕ → ℕ
four a b c d = (a - 0xF0) * 262144 + (b - 0x80) * 4096 + (c - 0x80) * 64 + (d - 0x80)

-- the class of a character with so many followers: in ASCII that of its byte in the mode, else that of its number
abbrev pub class_of : ℕ → ℕ → List ℕ → ℕ
class_of m zero s = class m (get_or s 0 0)
class_of m (suc zero) s = wide_class (two (get_or s 0 0) (get_or s 1 0))
class_of m (suc (suc zero)) s = wide_class (three (get_or s 0 0) (get_or s 1 0) (get_or s 2 0))
class_of m (suc (suc (suc n))) s = wide_class (four (get_or s 0 0) (get_or s 1 0) (get_or s 2 0) (get_or s 3 0))

abbrev pub shown : ℕ → ℕ → List ℕ → ℕ × ℕ
shown m zero s = (INVALID, 1)
shown m (suc n) s = (class_of m n s, suc n)

unfoldable pub glyph : ℕ → List ℕ → ℕ × ℕ
glyph m s = shown m (sequence s) s
