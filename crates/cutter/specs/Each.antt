-- What each row is, with no derivative: the longest text at its place that its mode's expressions match; or what a row is where they match none.
use Rattle.std.specs.Prelude.{ℕ, ◌-◌, ◌≤◌, ◌≡◌, List, [], ◌∷◌, cond, ◌⊎◌, eqb, length, take, drop}
use Rattle.kinds.specs.Kinds as k
use Rattle.tokens.specs.Classes as c
use Rattle.tokens.specs.Glyph.{glyph}
use Rattle.tokens.specs.Expr.{Tokens}
use Rattle.tokens.specs.Tokens as t
use Rattle.tokens.specs.Matches.{Fits}
use Rattle.cutter.specs.Rows.{Row, named, next}
use Rattle.cutter.specs.declared.place.Place.{Place}
use Rattle.cutter.specs.declared.place.Place.TheVariants.{Elsewhere, Named, Equated, InHex, InJump, Unclosed}

-- the first n bytes match an expression of kind i, and no longer part matches any
pub record Longest (m : ℕ) (ts : Tokens) (s : List ℕ) (i n : ℕ) : Type 0 where
  pub fits : Fits m ts s i n
  pub most : (i' n' : ℕ) → Fits m ts s i' n' → n' ≤ n

-- no part from here on matches any
abbrev pub Unmatched : ℕ → Tokens → List ℕ → Type 0
Unmatched m ts s = (i n : ℕ) → Fits m ts s i n → ⊥

-- the mode's longest match, which makes the row; or the mode matches nothing, and the rest decides
abbrev pub Mode : ℕ → Tokens → List ℕ → (ℕ → ℕ → Row) → Row → Type 0 → Type 0
Mode m ts s made r rest = ((i : ℕ) × (n : ℕ) × Longest m ts s i n × (r ≡ made i n)) ⊎ (Unmatched m ts s × rest)

-- "a byte that nothing matches is an UNKNOWN row by the crate's rule"
abbrev pub Strange : List ℕ → Row → Type 0
Strange s r =
    Mode 0 t.unknown s (λ i n. (k.UNKNOWN, n, Elsewhere)) r
    (r ≡ (cond (eqb (glyph 0 s).0 c.INVALID) k.INVALID_UTF8 k.UNKNOWN, 1, Elsewhere))

abbrev pub Normal : Place → List ℕ → Row → Type 0
Normal p s r = Mode 0 t.normal s (λ i n. (named i (take n s), n, next p i)) r (Strange s r)

abbrev pub Hex : List ℕ → Row → Type 0
Hex s r = Mode 1 t.hex s (λ i n. (i, n, cond (eqb i k.L_BRACKET) InJump InHex)) r (Normal Unclosed s r)

abbrev pub Jump : List ℕ → Row → Type 0
Jump s r = Mode 2 t.jump s (λ i n. (i, n, InJump)) r (Hex s r)

-- the row at the start of the bytes
abbrev pub Cuts : Place → List ℕ → Row → Type 0
Cuts Elsewhere s r = Normal Elsewhere s r
Cuts Named s r = Normal Named s r
Cuts Equated s r = Normal Equated s r
Cuts InHex s r = Hex s r
Cuts InJump s r = Jump s r
Cuts Unclosed s r = Normal Unclosed s r

-- the rows of the bytes from place `at` on: each is cut where the one before it ends, and where that one left the cutting
abbrev pub Each : Place → ℕ → List ℕ → List (ℕ × ℕ × ℕ) → Type 0
Each p at s [] = length s ≡ 0
Each p at s (r ∷ rs) = (q : Place) × Cuts p s (r.0, r.2 - r.1, q) × (r.1 ≡ at) × Each q r.2 (drop (r.2 - r.1) s) rs
