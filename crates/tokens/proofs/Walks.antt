-- One turn of the longest match, and its ends.
use Prim.Native.Nat.{ℕ, zero, suc, ◌+◌, ◌-◌, ◌*◌, ◌≤◌, ◌<◌}
use mathlib.Core.Path.{◌≡◌, refl, sym, ap, ap₂, ◌∙◌}
use mathlib.Core.List.{List, [], ◌∷◌}
use Rattle.std.specs.Prelude.{None, Some}
use native.Mathlib.Omega.{arith}
use native.Mathlib.Nat.{le_of_eq}
use lib.ListN.{length, get_or, take, drop, length-drop, drop_of_length-le}
use lib.Seq.{drop-cons, drop-drop, take_all}
use Rattle.tokens.specs.Glyph.{glyph}
use Rattle.tokens.specs.Expr.{Tokens, Match, step, whole, better, walk, longest}
use Rattle.tokens.specs.Table.{next_table, end_table}
use Rattle.tokens.specs.States.{label, ended, Inside}
use Rattle.tokens.proofs.Tests.{next_at, end_at, starts_none}
use Rattle.tokens.proofs.Glyphs.{glyph_some, glyph_within, glyph_class}

-- bytes of the character taken last are passed over
pub skipped : (m at k : ℕ) (ts : Tokens) (b : Match) (xs : List ℕ) → walk m at k ts b xs ≡ walk m at 0 ts b (drop k xs)
skipped m at zero ts b [] = refl
skipped m at zero ts b (x ∷ xs) = refl
skipped m at (suc k) ts b [] = refl
skipped m at (suc k) ts b (x ∷ xs) = skipped m at k ts b xs

-- nothing matches any more
pub nothing_left : (m at k : ℕ) (b : Match) (xs : List ℕ) → walk m at k [] b xs ≡ b
nothing_left m at k b [] = refl
nothing_left m at (suc k) b (x ∷ xs) = nothing_left m at k b xs
nothing_left m at zero b (x ∷ xs) = nothing_left m (at + (glyph m (x ∷ xs)).1) ((glyph m (x ∷ xs)).1 - 1) b xs

-- one character
pub taken : (m at : ℕ) (ts : Tokens) (b : Match) (x : ℕ) (xs : List ℕ) (g : ℕ × ℕ) → g ≡ glyph m (x ∷ xs) → 0 < g.1
    → walk m at 0 ts b (x ∷ xs) ≡ walk m (at + g.1) 0 (step g.0 ts) (better (whole (step g.0 ts)) (at + g.1) b) (drop g.1 (x ∷ xs))
taken m at ts b x xs g e h =
    ap away (sym e)
    ∙ skipped m (at + g.1) (g.1 - 1) (step g.0 ts) (better (whole (step g.0 ts)) (at + g.1) b) xs
    ∙ ap (λ l. walk m (at + g.1) 0 (step g.0 ts) (better (whole (step g.0 ts)) (at + g.1) b) l) (behind g.1 h)
  where
    away : ℕ × ℕ → Match
    away g = walk m (at + g.1) (g.1 - 1) (step g.0 ts) (better (whole (step g.0 ts)) (at + g.1) b) xs

    behind : (n : ℕ) → 0 < n → drop (n - 1) xs ≡ drop n (x ∷ xs)
    behind zero l = absurd (omega arith)
    behind (suc n) l = let e : suc n - 1 ≡ n = omega arith in ap (λ k. drop k xs) e

module _ (m : ℕ) (s : List ℕ) (i st : ℕ) (b : Match) (g : ℕ × ℕ) (hi : i < length s) (hs : st < 88) (e : g ≡ glyph m (drop i s)) where
  left_over : 0 < length (drop i s)
  left_over = simp length-drop (omega arith)

  pub wide_some : 0 < g.1
  wide_some = rw e (glyph_some (drop i s) left_over m)

  pub wide_within : i + g.1 ≤ length s
  wide_within =
      let h : (glyph m (drop i s)).1 ≤ length (drop i s) = glyph_within (drop i s) left_over m in
      let l : length (drop i s) ≡ length s - i = length-drop i s in
      let w : g.1 ≡ (glyph m (drop i s)).1 = ap (λ u. u.1) e in
      omega arith

  abbrev pub to : ℕ
  to = get_or next_table (st * 45 + g.0) 0

  narrow : g.0 < 45
  narrow = rw e (glyph_class m (drop i s))

  pub to_small : to < 88
  to_small = (next_at st g.0 hs narrow).0

  pub turn : walk m i 0 (label st) b (drop i s) ≡ walk m (i + g.1) 0 (label to) (better (whole (label to)) (i + g.1) b) (drop (i + g.1) s)
  turn =
      let d : drop i s ≡ get_or s i 0 ∷ drop (suc i) s = drop-cons s i 0 hi in
      let t : step g.0 (label st) ≡ label to = (next_at st g.0 hs narrow).1 in
      ap (walk m i 0 (label st) b) d
      ∙ taken m i (label st) b (get_or s i 0) (drop (suc i) s) g (e ∙ ap (glyph m) d) wide_some
      ∙ ap₂ (λ ts l. walk m (i + g.1) 0 ts (better (whole ts) (i + g.1) b) l) t (ap (drop g.1) (sym d) ∙ drop-drop g.1 i s)

  -- no expression is left: what matched last stands
  pub dead : to ≡ 0 → walk m i 0 (label st) b (drop i s) ≡ b
  dead z =
      let l : label to ≡ [] = ap label z ∙ starts_none in
      turn ∙ ap (λ ts. walk m (i + g.1) 0 ts (better (whole ts) (i + g.1) b) (drop (i + g.1) s)) l ∙ nothing_left m (i + g.1) 0 b (drop (i + g.1) s)

  -- no row may end here, and one may
  module _ (t : ℕ) (p : t ≡ to) where
    same_end : ended (get_or end_table t 0) ≡ whole (label to)
    same_end = ap (λ n. ended (get_or end_table n 0)) p ∙ end_at to to_small

    pub unended : ended (get_or end_table t 0) ≡ None → walk m (i + g.1) 0 (label t) b (drop (i + g.1) s) ≡ walk m i 0 (label st) b (drop i s)
    unended z =
        ap (λ n. walk m (i + g.1) 0 (label n) b (drop (i + g.1) s)) p
        ∙ sym (turn ∙ ap (λ o. walk m (i + g.1) 0 (label to) (better o (i + g.1) b) (drop (i + g.1) s)) (sym same_end ∙ z))

    pub ending : (k : ℕ) → ended (get_or end_table t 0) ≡ Some k → walk m (i + g.1) 0 (label t) (Some (k, i + g.1)) (drop (i + g.1) s) ≡ walk m i 0 (label st) b (drop i s)
    ending k z =
        ap (λ n. walk m (i + g.1) 0 (label n) (Some (k, i + g.1)) (drop (i + g.1) s)) p
        ∙ sym (turn ∙ ap (λ o. walk m (i + g.1) 0 (label to) (better o (i + g.1) b) (drop (i + g.1) s)) (sym same_end ∙ z))

-- a part from i on
pub tail : (s : List ℕ) (i : ℕ) → take (length s - i) (drop i s) ≡ drop i s
tail s i = take_all (length s - i) (drop i s) (le_of_eq (length-drop i s))

pub begun : (m : ℕ) (ts : Tokens) (s : List ℕ) → walk m 0 0 ts None (drop 0 s) ≡ longest m ts s
unfolding longest
begun m ts s = refl

pub over : (m i : ℕ) (ts : Tokens) (b : Match) (s : List ℕ) → length s ≤ i → walk m i 0 ts b (drop i s) ≡ b
over m i ts b s h = rw (drop_of_length-le s h)

-- a match within so many bytes is within more
pub inside : (b : Match) (i n : ℕ) → i ≤ n → Inside b i → Inside b n
inside None i n h g = tt
inside (Some x) i n h g = (g.0, omega (arith, g.1))
