-- How the code tells a character: the byte's class says whether it begins a character of several bytes, and then the character's number says whether it is one.
use Rattle.std.specs.Prelude.{ℕ, List, [], ◌∷◌, Bool, cond, not, ◌&&◌, leb, ltb, eqb, get_or, Option, None, Some}
use Rattle.tokens.specs.Classes.{class, wide_class, INVALID, LEAD}
use Rattle.tokens.specs.Glyph.{two, three, four}

abbrev pub follower : ℕ → Bool
follower b = leb 0x80 b && leb b 0xBF

-- shortest form, and no surrogate
abbrev pub plain : ℕ → Bool
plain n = leb 0x800 n && not (leb 0xD800 n && leb n 0xDFFF)

abbrev pub high : ℕ → Bool
high n = leb 0x10000 n && leb n 0x10FFFF

-- number and length of the character that begins with a, from C2 to F4, where it is one
unfoldable pub decoded : ℕ → ℕ → ℕ → ℕ → Option (ℕ × ℕ)
decoded a b c d =
    cond (ltb a 0xE0)
    (cond (follower b) (Some (two a b, 2)) None)
    (cond (ltb a 0xF0)
    (cond (follower b && follower c && plain (three a b c)) (Some (three a b c, 3)) None)
    (cond (follower b && follower c && follower d && high (four a b c d)) (Some (four a b c d, 4)) None))

-- class and length
abbrev pub spread : Option (ℕ × ℕ) → ℕ × ℕ
spread None = (INVALID, 1)
spread (Some u) = (wide_class u.0, u.1)

-- class and length of the character at the start of the bytes
unfoldable pub told : ℕ → List ℕ → ℕ × ℕ
told m s =
    cond (eqb (class m (get_or s 0 0)) LEAD)
    (spread (decoded (get_or s 0 0) (get_or s 1 0) (get_or s 2 0) (get_or s 3 0)))
    (class m (get_or s 0 0), 1)

-- ranges, one after the other
abbrev pub flat : List (ℕ × ℕ × ℕ) → List ℕ
flat [] = []
flat (r ∷ rs) = r.0 ∷ r.1 ∷ r.2 ∷ flat rs
