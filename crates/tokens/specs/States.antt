-- What the code's states stand for. No promise of `cut` cites this file.
use Rattle.std.specs.Prelude.{ℕ, zero, suc, ◌+◌, ◌*◌, ◌≤◌, ◌<◌, ◌≡◌, List, [], ◌∷◌, map, Bool, cond, ◌||◌, eqb, length, get_or, Option, None, Some}
use Rattle.tokens.specs.Expr.{Tokens, step, Match, has, walk}
use Rattle.tokens.specs.Tokens as t
use Rattle.tokens.specs.Table.{next_table, end_table, pairs, words}
use Rattle.tokens.specs.declared.glyph.Glyph.{Glyph}
use Rattle.tokens.specs.declared.runner.Runner.{Runner}

abbrev pub glyph_of : Glyph → ℕ × ℕ
glyph_of g = (g.class, g.width)

-- a match is of one byte at least, and ends within n bytes
abbrev pub Inside : Match → ℕ → Type 0
Inside None n = Unit
Inside (Some m) n = (0 < m.1) × (m.1 ≤ n)

-- what a state may still match: what is left of its start's expressions after its word
abbrev pub start_of : ℕ → Tokens
start_of zero = t.normal
start_of (suc zero) = t.hex
start_of (suc (suc zero)) = t.jump
start_of (suc (suc (suc n))) = t.unknown

abbrev pub along : Tokens → List ℕ → Tokens
along ts [] = ts
along ts (c ∷ cs) = along (step c ts) cs

abbrev pub led : List ℕ → Tokens
led [] = []
led (n ∷ cs) = along (start_of n) cs

unfoldable pub labels : List Tokens
labels = map led words

unfoldable pub label : ℕ → Tokens
label s = get_or labels s []

-- the matcher ends no row from a state on, behind k bytes, wherever the text is said to stand
abbrev pub Hop : ℕ → ℕ → ℕ → List ℕ → Type 0
Hop m st k xs = (at : ℕ) → walk m at k (label st) None xs ≡ None

-- a match that failed, followed on
pub record Run (m : ℕ) (r : Runner) (s : List ℕ) : Type 0 where
  pub small : r.state < 88
  pub within : r.skip ≤ length s
  pub hop : Hop m r.state r.skip s

-- the next state
abbrev pub to : ℕ → ℕ → ℕ
to st c = get_or next_table (st * 45 + c) 0

-- the id of a row that may end in a state
abbrev pub ended : ℕ → Option ℕ
ended x = cond (eqb x 255) None (Some x)

-- the next state, or 0 where a row may end
abbrev pub quiet : ℕ → ℕ → ℕ
quiet st c = cond (eqb (get_or end_table (to st c) 0) 255) (to st c) 0

-- whatever row the second state may end, the first ends no later
abbrev pub covers : ℕ → ℕ → Bool
covers a b = eqb a b || has pairs (a * 88 + b)
