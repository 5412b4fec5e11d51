-- Every source's rows tile it.
use Prim.Native.Nat.{ℕ, zero, suc, ◌+◌, ◌-◌, ◌≤◌, ◌<◌}
use mathlib.Core.Path.{◌≡◌, refl}
use mathlib.Core.List.{List, [], ◌∷◌}
use Rattle.std.specs.Prelude.{Option, None, Some}
use native.Mathlib.Omega.{arith}
use lib.ListN.{length}
use Rattle.tokens.specs.Glyph.{glyph}
use Rattle.tokens.specs.Expr.{Tokens, Match, step, whole, better, walk, longest}
use Rattle.tokens.specs.Tokens as t
use Rattle.cutter.specs.Rows.{Row, strange_by, strange, normal_by, normal_row, hex_by, hex_row, jump_by, jump_row, row, rows, cutting}
use Rattle.cutter.specs.Tiles.{Tiles}
use Rattle.cutter.specs.declared.place.Place.{Place}
use Rattle.cutter.specs.declared.place.Place.TheVariants.{Elsewhere, Named, Equated, InHex, InJump, Unclosed}
use Rattle.tokens.proofs.Glyphs.{glyph_some, glyph_within}

-- a match is of one byte at least and ends within n bytes
abbrev Good : ℕ → Match → Type 0
Good n None = Unit
Good n (Some m) = (0 < m.1) × (m.1 ≤ n)

better_good : (n at : ℕ) (o : Option ℕ) (b : Match) → 0 < at → at ≤ n → Good n b → Good n (better o at b)
better_good n at None b h l g = g
better_good n at (Some k) b h l g = (h, l)

walk_good : (n m at k : ℕ) (ts : Tokens) (b : Match) (xs : List ℕ) → k ≤ length xs → at + (length xs - k) ≡ n → Good n b → Good n (walk m at k ts b xs)
walk_good n m at k ts b [] h e g = g
walk_good n m at (suc k) ts b (x ∷ xs) h e g = walk_good n m at k ts b xs (omega arith) (omega arith) g
walk_good n m at zero ts b (x ∷ xs) h e g =
    let w = (glyph m (x ∷ xs)).1 in
    let ts' = step (glyph m (x ∷ xs)).0 ts in
    let s : 0 < w = glyph_some (x ∷ xs) (omega arith) m in
    let l : w ≤ suc (length xs) = glyph_within (x ∷ xs) (omega arith) m in
    walk_good n m (at + w) (w - 1) ts' (better (whole ts') (at + w) b) xs (omega arith) (omega arith) (better_good n (at + w) (whole ts') b (omega arith) (omega arith) g)

longest_good : (m : ℕ) (ts : Tokens) (s : List ℕ) → Good (length s) (longest m ts s)
unfolding longest
longest_good m ts s = walk_good (length s) m 0 0 ts None s (omega arith) (omega arith) tt

-- so is a row
module _ (s : List ℕ) (some_bytes : 0 < length s) where
  abbrev Fine : Row → Type 0
  Fine r = (0 < r.1) × (r.1 ≤ length s)

  strange_fine : Fine (strange s)
  unfolding strange
  strange_fine = go (longest 0 t.unknown s) (longest_good 0 t.unknown s)
    where
      go : (o : Match) → Good (length s) o → Fine (strange_by o s)
      go None g = (omega arith, some_bytes)
      go (Some m) g = g

  normal_fine : (p : Place) → Fine (normal_row p s)
  unfolding normal_row
  normal_fine p = go (longest 0 t.normal s) (longest_good 0 t.normal s)
    where
      go : (o : Match) → Good (length s) o → Fine (normal_by o p s)
      go None g = strange_fine
      go (Some m) g = g

  hex_fine : Fine (hex_row s)
  unfolding hex_row
  hex_fine = go (longest 1 t.hex s) (longest_good 1 t.hex s)
    where
      go : (o : Match) → Good (length s) o → Fine (hex_by o s)
      go None g = normal_fine Unclosed
      go (Some m) g = g

  jump_fine : Fine (jump_row s)
  unfolding jump_row
  jump_fine = go (longest 2 t.jump s) (longest_good 2 t.jump s)
    where
      go : (o : Match) → Good (length s) o → Fine (jump_by o s)
      go None g = hex_fine
      go (Some m) g = g

  pub row_fine : (p : Place) → Fine (row p s)
  unfolding row
  row_fine Elsewhere = normal_fine Elsewhere
  row_fine Named = normal_fine Named
  row_fine Equated = normal_fine Equated
  row_fine InHex = hex_fine
  row_fine InJump = jump_fine
  row_fine Unclosed = normal_fine Unclosed

tiled : (n at k : ℕ) (p : Place) (xs : List ℕ) → k ≤ length xs → at + (length xs - k) ≡ n → Tiles at n (rows at k p xs)
tiled n at k p [] h e = omega arith
tiled n at (suc k) p (x ∷ xs) h e = tiled n at k p xs (omega arith) (omega arith)
tiled n at zero p (x ∷ xs) h e =
    let r = row p (x ∷ xs) in
    let f = row_fine (x ∷ xs) (omega arith) p in
    let s : 0 < r.1 = f.0 in
    let l : r.1 ≤ suc (length xs) = f.1 in
    (refl, omega arith, tiled n (at + r.1) (r.1 - 1) r.2 xs (omega arith) (omega arith))

-- the theorem
pub tiles : (s : List ℕ) → Tiles 0 (length s) (cutting s)
unfolding cutting
tiles s = tiled (length s) 0 0 Elsewhere s (omega arith) (omega arith)

-- there is at most one row a byte
few_from : (at k : ℕ) (p : Place) (xs : List ℕ) → k ≤ length xs → length (rows at k p xs) + k ≤ length xs
few_from at k p [] h = omega arith
few_from at (suc k) p (x ∷ xs) h = let f : length (rows at k p xs) + k ≤ length xs = few_from at k p xs (omega arith) in omega arith
few_from at zero p (x ∷ xs) h =
    let r = row p (x ∷ xs) in
    let f = row_fine (x ∷ xs) (omega arith) p in
    let s : 0 < r.1 = f.0 in
    let l : r.1 ≤ suc (length xs) = f.1 in
    let g : length (rows (at + r.1) (r.1 - 1) r.2 xs) + (r.1 - 1) ≤ length xs = few_from (at + r.1) (r.1 - 1) r.2 xs (omega arith) in
    omega arith

-- the theorem: rooms of the source's length always suffice
pub few : (s : List ℕ) → length (cutting s) ≤ length s
unfolding cutting
few s = let f : length (rows 0 0 Elsewhere s) + 0 ≤ length s = few_from 0 0 Elsewhere s (omega arith) in omega arith
