-- The rows of a source: which mode cuts at each place, and what `cut` answers.
use Rattle.std.specs.Prelude.{ℕ, zero, suc, ◌+◌, ◌-◌, List, [], ◌∷◌, ◌++◌, map, Bool, true, false, cond, ◌&&◌, ◌||◌, ltb, eqb, length, take, drop, None, Some, Result, Ok, Err}
use Prim.Native.Char.{code}
use Prim.Native.String as s
use Rattle.shapes.specs.Refusal as Refusal
use Rattle.kinds.specs.Kinds as k
use Rattle.kinds.specs.Sets.{trivial}
use Rattle.tokens.specs.Classes as c
use Rattle.tokens.specs.Glyph.{glyph}
use Rattle.tokens.specs.Expr.{Match, longest}
use Rattle.tokens.specs.Tokens as t
use Rattle.cutter.specs.declared.place.Place.{Place}
use Rattle.cutter.specs.declared.place.Place.TheVariants.{Elsewhere, Named, Equated, InHex, InJump, Unclosed}
use Rattle.shapes.specs.declared.refusal.Refusal as D

-- plain ASCII: a character's code is its byte
abbrev pub bytes : s.String → List ℕ
bytes s.[] = []
bytes (s.◌∷◌ x xs) = code x ∷ bytes xs

-- in the order of their ids, the first of which is ALL_KW
unfoldable pub keywords : List (List ℕ)
keywords =
    map bytes
    ("all" ∷ "and" ∷ "any" ∷ "ascii" ∷ "at" ∷ "base64" ∷ "base64wide" ∷ "condition" ∷ "contains" ∷ "defined" ∷ "endswith" ∷ "entrypoint"
    ∷ "false" ∷ "filesize" ∷ "for" ∷ "fullword" ∷ "global" ∷ "icontains" ∷ "iendswith" ∷ "iequals" ∷ "import" ∷ "in" ∷ "include"
    ∷ "istartswith" ∷ "matches" ∷ "meta" ∷ "nocase" ∷ "none" ∷ "not" ∷ "of" ∷ "or" ∷ "private" ∷ "rule" ∷ "startswith" ∷ "strings" ∷ "them"
    ∷ "true" ∷ "wide" ∷ "xor" ∷ "with" ∷ [])

abbrev pub same : List ℕ → List ℕ → Bool
same [] [] = true
same [] (y ∷ ys) = false
same (x ∷ xs) [] = false
same (x ∷ xs) (y ∷ ys) = eqb x y && same xs ys

-- the id of an identifier's text
abbrev pub sought : ℕ → List (List ℕ) → List ℕ → ℕ
sought id [] text = k.IDENT
sought id (w ∷ ws) text = cond (same w text) id (sought (suc id) ws text)

unfoldable pub keyword : List ℕ → ℕ
keyword text = sought k.ALL_KW keywords text

-- a row's id, its length, and where it leaves the cutting
abbrev pub Row : Type 0
Row = ℕ × ℕ × Place

-- "Hex mode starts after a pattern identifier, an equals sign and an opening brace, trivia aside"
abbrev pub onwards : Place → ℕ → Place
onwards Elsewhere id = Elsewhere
onwards Named id = cond (eqb id k.EQUAL) Equated Elsewhere
onwards Equated id = cond (eqb id k.L_BRACE) InHex Elsewhere
onwards InHex id = Elsewhere
onwards InJump id = Elsewhere
-- "and ends with the closing brace; jump mode is the bracket within it", also where normal mode cuts before the closing brace
onwards Unclosed id = cond (eqb id k.L_BRACKET) InJump (cond (eqb id k.R_BRACE) Elsewhere Unclosed)

abbrev pub next : Place → ℕ → Place
next p id = cond (eqb id k.PATTERN_IDENT) Named (cond (trivial id) p (onwards p id))

abbrev pub named : ℕ → List ℕ → ℕ
named id text = cond (eqb id k.IDENT) (keyword text) id

-- nothing matches: INVALID_UTF8, or UNKNOWN up to white space, of one byte at least
abbrev pub strange_by : Match → List ℕ → Row
strange_by None s = (cond (eqb (glyph 0 s).0 c.INVALID) k.INVALID_UTF8 k.UNKNOWN, 1, Elsewhere)
strange_by (Some m) s = (k.UNKNOWN, m.1, Elsewhere)

unfoldable pub strange : List ℕ → Row
strange s = strange_by (longest 0 t.unknown s) s

abbrev pub normal_by : Match → Place → List ℕ → Row
normal_by None p s = strange s
normal_by (Some m) p s = (named m.0 (take m.1 s), m.1, next p m.0)

unfoldable pub normal_row : Place → List ℕ → Row
normal_row p s = normal_by (longest 0 t.normal s) p s

-- what hex mode does not match normal mode cuts: the closing brace, or something else within the pattern
abbrev pub hex_by : Match → List ℕ → Row
hex_by None s = normal_row Unclosed s
hex_by (Some m) s = (m.0, m.1, cond (eqb m.0 k.L_BRACKET) InJump InHex)

unfoldable pub hex_row : List ℕ → Row
hex_row s = hex_by (longest 1 t.hex s) s

abbrev pub jump_by : Match → List ℕ → Row
jump_by None s = hex_row s
jump_by (Some m) s = (m.0, m.1, InJump)

unfoldable pub jump_row : List ℕ → Row
jump_row s = jump_by (longest 2 t.jump s) s

-- the row at the start of the bytes
unfoldable pub row : Place → List ℕ → Row
row Elsewhere s = normal_row Elsewhere s
row Named s = normal_row Named s
row Equated s = normal_row Equated s
row InHex s = hex_row s
row InJump s = jump_row s
row Unclosed s = normal_row Unclosed s

-- the rows of the bytes from place `at` on, of which `skip` belong to the row before: id, start and end
abbrev pub rows : ℕ → ℕ → Place → List ℕ → List (ℕ × ℕ × ℕ)
rows at skip p [] = []
rows at (suc skip) p (b ∷ bs) = rows at skip p bs
rows at zero p (b ∷ bs) =
    let r = row p (b ∷ bs) in
    (r.0, at, at + r.1) ∷ rows (at + r.1) (r.1 - 1) r.2 bs

unfoldable pub cutting : List ℕ → List (ℕ × ℕ × ℕ)
cutting s = rows 0 0 Elsewhere s

-- what a call returns (a refusal's number or 0, the count of rows), and what the three lists hold then
pub record After : Type 0 where
  pub number : ℕ
  pub count : ℕ
  pub ids : List ℕ
  pub starts : List ℕ
  pub ends : List ℕ

-- a finished list in what was lent; the cells behind it stay as lent
abbrev pub put : List ℕ → List ℕ → List ℕ
put xs lent = xs ++ drop (length xs) lent

-- "rows left as lent"
abbrev pub refused : ℕ → List ℕ → List ℕ → List ℕ → After
refused n ids starts ends = record { number = n; count = 0; ids = ids; starts = starts; ends = ends }

-- 1: source over 1,048,576 bytes; 13: "row room smaller than the rows needed, after 1"
unfoldable pub cut : List ℕ → List ℕ → List ℕ → List ℕ → After
cut s ids starts ends =
    let rs = cutting s in
    let n = length rs in
    cond (ltb 1048576 (length s)) (refused Refusal.LONG ids starts ends)
    (cond (ltb (length ids) n || ltb (length starts) n || ltb (length ends) n) (refused Refusal.ROWS ids starts ends)
    (record {
      number = 0;
      count = n;
      ids = put (map (λ r. r.0) rs) ids;
      starts = put (map (λ r. r.1) rs) starts;
      ends = put (map (λ r. r.2) rs) ends;
    }))

-- the number and the count for each case of the answer
abbrev pub returning : Result ℕ D.Refusal → List ℕ → List ℕ → List ℕ → After
returning (Ok n) ids starts ends = record { number = 0; count = n; ids = ids; starts = starts; ends = ends }
returning (Err e) ids starts ends = refused (Refusal.number e) ids starts ends
