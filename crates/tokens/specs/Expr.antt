-- Regular expressions over classes, and the longest match: Brzozowski's derivatives ("Derivatives of Regular Expressions", JACM 1964).
use Rattle.std.specs.Prelude.{ℕ, zero, suc, ◌+◌, ◌-◌, List, [], ◌∷◌, Bool, true, false, cond, ◌&&◌, ◌||◌, eqb, Option, None, Some}
use Rattle.tokens.specs.Glyph.{glyph}

infixr 60 ◌⨾◌
infixr 50 ◌∣◌
-- nothing more; a character of one of the classes, of any other class; one after the other; either; any number of
pub data Expr : Type 0 where
  ε : Expr
  one but : List ℕ → Expr
  ◌⨾◌ ◌∣◌ : Expr → Expr → Expr
  many : Expr → Expr

abbrev pub has : List ℕ → ℕ → Bool
has [] c = false
has (x ∷ xs) c = eqb c x || has xs c

-- whether the empty text matches
abbrev pub nullable : Expr → Bool
nullable ε = true
nullable (one xs) = false
nullable (but xs) = false
nullable (r ⨾ s) = nullable r && nullable s
nullable (r ∣ s) = nullable r || nullable s
nullable (many r) = true

-- one [] matches no text; the two joins below leave it out
abbrev pub never : Expr → Bool
never ε = false
never (one []) = true
never (one (x ∷ xs)) = false
never (but xs) = false
never (r ⨾ s) = false
never (r ∣ s) = false
never (many r) = false

abbrev pub isε : Expr → Bool
isε ε = true
isε (one xs) = false
isε (but xs) = false
isε (r ⨾ s) = false
isε (r ∣ s) = false
isε (many r) = false

abbrev pub after : Expr → Expr → Expr
after r s = cond (never r) (one []) (cond (isε r) s (r ⨾ s))

abbrev pub either : Expr → Expr → Expr
either r s = cond (never r) s (cond (never s) r (r ∣ s))

-- what has to follow a character of class c, so that both match
abbrev pub derive : ℕ → Expr → Expr
derive c ε = one []
derive c (one xs) = cond (has xs c) ε (one [])
derive c (but xs) = cond (has xs c) (one []) ε
derive c (r ⨾ s) = either (after (derive c r) s) (cond (nullable r) (derive c s) (one []))
derive c (r ∣ s) = either (derive c r) (derive c s)
derive c (many r) = after (derive c r) (many r)

-- kinds of rows, each with its expression
abbrev pub Tokens : Type 0
Tokens = List (ℕ × Expr)

abbrev pub keep : ℕ → Expr → Tokens → Tokens
keep k r ts = cond (never r) ts ((k, r) ∷ ts)

abbrev pub step : ℕ → Tokens → Tokens
step c [] = []
step c (t ∷ ts) = keep t.0 (derive c t.1) (step c ts)

-- the kind that matches here; the first where several do
abbrev pub whole : Tokens → Option ℕ
whole [] = None
whole (t ∷ ts) = cond (nullable t.1) (Some t.0) (whole ts)

-- a kind, and the place where its text ends
abbrev pub Match : Type 0
Match = Option (ℕ × ℕ)

abbrev pub better : Option ℕ → ℕ → Match → Match
better None at best = best
better (Some k) at best = Some (k, at)

-- the bytes from place `at` on, of which `skip` belong to the character that was taken last; the last match stands, so the longest does
abbrev pub walk : ℕ → ℕ → ℕ → Tokens → Match → List ℕ → Match
walk m at skip ts best [] = best
walk m at (suc skip) ts best (b ∷ bs) = walk m at skip ts best bs
walk m at zero ts best (b ∷ bs) =
    let g = glyph m (b ∷ bs) in
    let ts' = step g.0 ts in
    walk m (at + g.1) (g.1 - 1) ts' (better (whole ts') (at + g.1) best) bs

-- the longest match in mode m at the start of the bytes, and its length
unfoldable pub longest : ℕ → Tokens → List ℕ → Match
longest m ts s = walk m 0 0 ts None s
