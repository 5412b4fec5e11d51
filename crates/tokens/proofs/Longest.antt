-- `longest` is the longest match: what it finds matches, and nothing longer does.
use Prim.Native.Nat.{ℕ, zero, suc, ◌+◌, ◌-◌, ◌≤◌, ◌<◌}
use mathlib.Core.Path.{◌≡◌, refl, sym, ap, ◌∙◌, subst}
use mathlib.Core.List.{List, [], ◌∷◌}
use mathlib.Core.Bool.{Bool, true, false, cond}
use Rattle.std.specs.Prelude.{Option, None, Some}
use mathlib.Core.Logic.{◌⊎◌, inl, inr, ⊎_elim}
use native.Mathlib.Omega.{arith}
use lib.Dec.{T}
use lib.ListN.{drop}
use Rattle.tokens.specs.Glyph.{glyph}
use Rattle.tokens.specs.Expr.{Expr, Tokens, Match, never, nullable, derive, step, whole, better, walk, longest}
use Rattle.tokens.specs.Matches.{Matches, Reads, Listed, Fits}
use Rattle.tokens.proofs.Glyphs.{glyph_some}
use Rattle.tokens.proofs.Derived.{never_none, null_to, null_from, derive_to, derive_from}
use Rattle.tokens.proofs.Walks.{taken}

-- what is listed after a character
step_listed : (c k : ℕ) (r : Expr) (ts : Tokens) (w : List ℕ) → Listed k r ts → Matches (derive c r) w → Listed k (derive c r) (step c ts)
step_listed c k r [] w i m = absurd i
step_listed c k r (t ∷ ts) w i m =
    go (never (derive c t.1)) (λ n e. never_none (derive c r) w (subst (λ x. T (never (derive c x))) (sym e) n) m) (λ j. step_listed c k r ts w j m) i
  where
    go : (b : Bool) → (T b → r ≡ t.1 → ⊥) → (Listed k r ts → Listed k (derive c r) (step c ts)) → Listed k r (t ∷ ts)
        → Listed k (derive c r) (cond b (step c ts) ((t.0, derive c t.1) ∷ step c ts))
    go true f g i = ⊎_elim (λ p. absurd (f tt p.1)) g i
    go false f g i = ⊎_elim (λ p. inl (p.0, ap (derive c) p.1)) (λ j. inr (g j)) i

listed_step : (c k : ℕ) (r : Expr) (ts : Tokens) → Listed k r (step c ts) → (x : Expr) × Listed k x ts × (r ≡ derive c x)
listed_step c k r [] i = absurd i
listed_step c k r (t ∷ ts) i = go (never (derive c t.1)) (listed_step c k r ts) i
  where
    go : (b : Bool) → (Listed k r (step c ts) → (x : Expr) × Listed k x ts × (r ≡ derive c x))
        → Listed k r (cond b (step c ts) ((t.0, derive c t.1) ∷ step c ts)) → (x : Expr) × Listed k x (t ∷ ts) × (r ≡ derive c x)
    go true g i = let p = g i in (p.0, inr p.1, p.2)
    go false g i = ⊎_elim (λ p. (t.1, inl (p.0, refl), p.1)) (λ j. let p = g j in (p.0, inr p.1, p.2)) i

whole_some : (k : ℕ) (r : Expr) (ts : Tokens) → Listed k r ts → T (nullable r) → (x : ℕ) × (whole ts ≡ Some x)
whole_some k r [] i n = absurd i
whole_some k r (t ∷ ts) i n = go (nullable t.1) (λ e. subst (λ x. T (nullable x)) e n) (λ j. whole_some k r ts j n) i
  where
    go : (b : Bool) → (r ≡ t.1 → T b) → (Listed k r ts → (x : ℕ) × (whole ts ≡ Some x)) → Listed k r (t ∷ ts)
        → (x : ℕ) × (cond b (Some t.0) (whole ts) ≡ Some x)
    go true f g i = (t.0, refl)
    go false f g i = ⊎_elim (λ p. absurd (f p.1)) g i

some_whole : (k : ℕ) (ts : Tokens) → whole ts ≡ Some k → (r : Expr) × Listed k r ts × T (nullable r)
some_whole k [] e = let z : ◌≡◌ {A = ℕ} 0 1 = cc in absurd (omega arith)
some_whole k (t ∷ ts) e = go (nullable t.1) refl e (some_whole k ts)
  where
    go : (b : Bool) → nullable t.1 ≡ b → cond b (Some t.0) (whole ts) ≡ Some k → (whole ts ≡ Some k → (r : Expr) × Listed k r ts × T (nullable r))
        → (r : Expr) × Listed k r (t ∷ ts) × T (nullable r)
    go true f e g = let p : k ≡ t.0 = cc in (t.1, inl (p, refl), subst T (sym f) tt)
    go false f e g = let p = g e in (p.0, inr p.1, p.2)

-- a match is only ever replaced by one that ends further on
pub kept : (m at j : ℕ) (ts : Tokens) (k n : ℕ) (xs : List ℕ) → n ≤ at
    → (k' : ℕ) × (n' : ℕ) × (walk m at j ts (Some (k, n)) xs ≡ Some (k', n')) × (n ≤ n')
kept m at j ts k n [] h = (k, n, refl, omega arith)
kept m at (suc j) ts k n (x ∷ xs) h = kept m at j ts k n xs h
kept m at zero ts k n (x ∷ xs) h =
    let g = glyph m (x ∷ xs) in
    go (whole (step g.0 ts)) (λ k₁ n₁ l. kept m (at + g.1) (g.1 - 1) (step g.0 ts) k₁ n₁ xs l)
  where
    go : (o : Option ℕ)
        → ((k₁ n₁ : ℕ) → n₁ ≤ at + (glyph m (x ∷ xs)).1
        → (k' : ℕ) × (n' : ℕ) × (walk m (at + (glyph m (x ∷ xs)).1) ((glyph m (x ∷ xs)).1 - 1) (step (glyph m (x ∷ xs)).0 ts) (Some (k₁, n₁)) xs ≡ Some (k', n')) × (n₁ ≤ n'))
        → (k' : ℕ) × (n' : ℕ)
        × (walk m (at + (glyph m (x ∷ xs)).1) ((glyph m (x ∷ xs)).1 - 1) (step (glyph m (x ∷ xs)).0 ts) (better o (at + (glyph m (x ∷ xs)).1) (Some (k, n))) xs ≡ Some (k', n')) × (n ≤ n')
    go None f = f k n (omega arith)
    go (Some k₂) f = let p = f k₂ (at + (glyph m (x ∷ xs)).1) (omega arith) in (p.0, p.1, p.2, omega (arith, p.3))

reached : (w : List ℕ) (m at : ℕ) (ts : Tokens) (b : Match) (s : List ℕ) (n c k : ℕ) (r : Expr)
    → Reads m s n (c ∷ w) → Listed k r ts → Matches r (c ∷ w)
    → (k' : ℕ) × (n' : ℕ) × (walk m at 0 ts b s ≡ Some (k', n')) × (at + n ≤ n')
reached [] m at ts b [] n c k r rd i mt = absurd rd
reached (d ∷ w) m at ts b [] n c k r rd i mt = absurd rd
reached [] m at ts b (x ∷ xs) n c k r rd i mt =
    let g = glyph m (x ∷ xs) in
    let d : Matches (derive g.0 r) [] = derive_from g.0 r [] (subst (λ y. Matches r (y ∷ [])) rd.0 mt) in
    let o = whole_some k (derive g.0 r) (step g.0 ts) (step_listed g.0 k r ts [] i d) (null_from (derive g.0 r) d) in
    let p = kept m (at + g.1) 0 (step g.0 ts) o.0 (at + g.1) (drop g.1 (x ∷ xs)) (omega arith) in (
      p.0,
      p.1,
      taken m at ts b x xs g refl (glyph_some (x ∷ xs) (omega arith) m)
          ∙ ap (λ y. walk m (at + g.1) 0 (step g.0 ts) (better y (at + g.1) b) (drop g.1 (x ∷ xs))) o.1
          ∙ p.2,
      omega (arith, p.3, rd.2, rd.3),
    )
reached (d ∷ w) m at ts b (x ∷ xs) n c k r rd i mt =
    let g = glyph m (x ∷ xs) in
    let e : Matches (derive g.0 r) (d ∷ w) = derive_from g.0 r (d ∷ w) (subst (λ y. Matches r (y ∷ d ∷ w)) rd.0 mt) in
    let p =
    reached w m (at + g.1) (step g.0 ts) (better (whole (step g.0 ts)) (at + g.1) b) (drop g.1 (x ∷ xs)) rd.1 d k (derive g.0 r)
    rd.3 (step_listed g.0 k r ts (d ∷ w) i e) e
    in
    (p.0, p.1, taken m at ts b x xs g refl (glyph_some (x ∷ xs) (omega arith) m) ∙ p.2, omega (arith, p.3, rd.2))

-- nothing longer matches
pub none_longer : (m : ℕ) (ts : Tokens) (s : List ℕ) (k n : ℕ) → Fits m ts s k n → (k' : ℕ) × (n' : ℕ) × (longest m ts s ≡ Some (k', n')) × (n ≤ n')
unfolding longest
none_longer m ts s k n f =
    let p = reached f.word m 0 ts None s n f.class k f.expr f.reads f.listed f.matches in
    (p.0, p.1, p.2, omega (arith, p.3))

-- what is found matches
behind : (n x : ℕ) (xs : List ℕ) → 0 < n → drop (n - 1) xs ≡ drop n (x ∷ xs)
behind zero x xs l = absurd (omega arith)
behind (suc n) x xs l = let e : suc n - 1 ≡ n = omega arith in ap (λ k. drop k xs) e

-- either the match stood before, or it lies further on
Found : (m at j : ℕ) (ts : Tokens) (b : Match) (xs : List ℕ) (k n : ℕ) → Type 0
Found m at j ts b xs k n = (b ≡ Some (k, n)) ⊎ ((i : ℕ) × (n ≡ at + i) × Fits m ts (drop j xs) k i)

-- one character before what fits
longer : (m : ℕ) (ts : Tokens) (x : ℕ) (xs : List ℕ) (k i : ℕ)
    → let g = glyph m (x ∷ xs) in Fits m (step g.0 ts) (drop (g.1 - 1) xs) k i → Fits m ts (x ∷ xs) k (g.1 + i)
longer m ts x xs k i f =
    let g = glyph m (x ∷ xs) in
    let p = listed_step g.0 k f.expr ts f.listed in
    record {
      class = g.0;
      word = f.class ∷ f.word;
      expr = p.0;
      reads = (refl, i, refl, subst (λ l. Reads m l i (f.class ∷ f.word)) (behind g.1 x xs (glyph_some (x ∷ xs) (omega arith) m)) f.reads);
      listed = p.1;
      matches = derive_to g.0 p.0 (f.class ∷ f.word) (subst (λ y. Matches y (f.class ∷ f.word)) p.2 f.matches);
    }

-- one character that fits
single : (m : ℕ) (ts : Tokens) (x : ℕ) (xs : List ℕ) (k : ℕ)
    → let g = glyph m (x ∷ xs) in whole (step g.0 ts) ≡ Some k → Fits m ts (x ∷ xs) k g.1
single m ts x xs k e =
    let g = glyph m (x ∷ xs) in
    let q = some_whole k (step g.0 ts) e in
    let p = listed_step g.0 k q.0 ts q.1 in
    record {
      class = g.0;
      word = [];
      expr = p.0;
      reads = (refl, 0, omega arith, refl);
      listed = p.1;
      matches = derive_to g.0 p.0 [] (subst (λ y. Matches y []) p.2 (null_to q.0 q.2));
    }

found : (m at j : ℕ) (ts : Tokens) (b : Match) (xs : List ℕ) (k n : ℕ) → walk m at j ts b xs ≡ Some (k, n) → Found m at j ts b xs k n
unfolding Found
found m at j ts b [] k n e = inl e
found m at (suc j) ts b (x ∷ xs) k n e = found m at j ts b xs k n e
found m at zero ts b (x ∷ xs) k n e =
    let g = glyph m (x ∷ xs) in
    ⊎_elim (λ p. first (whole (step g.0 ts)) refl p)
    (λ p. inr (g.1 + p.0, omega (arith, p.1), longer m ts x xs k p.0 p.2))
    (found m (at + g.1) (g.1 - 1) (step g.0 ts) (better (whole (step g.0 ts)) (at + g.1) b) xs k n e)
  where
    first : (o : Option ℕ) → whole (step (glyph m (x ∷ xs)).0 ts) ≡ o → better o (at + (glyph m (x ∷ xs)).1) b ≡ Some (k, n)
        → (b ≡ Some (k, n)) ⊎ ((i : ℕ) × (n ≡ at + i) × Fits m ts (x ∷ xs) k i)
    first None f p = inl p
    first (Some y) f p =
        let q : ◌≡◌ {A = ℕ × ℕ} (y, at + (glyph m (x ∷ xs)).1) (k, n) = cc in
        let a : y ≡ k = ap (λ u. u.0) q in
        let c : at + (glyph m (x ∷ xs)).1 ≡ n = ap (λ u. u.1) q in
        inr ((glyph m (x ∷ xs)).1, sym c, single m ts x xs k (f ∙ ap Some a))

pub longest_fits : (m : ℕ) (ts : Tokens) (s : List ℕ) (k n : ℕ) → longest m ts s ≡ Some (k, n) → Fits m ts s k n
unfolding longest Found
longest_fits m ts s k n e =
    ⊎_elim (λ p. let z : ◌≡◌ {A = ℕ} 0 1 = cc in absurd (omega arith))
    (λ p. let q : p.0 ≡ n = omega (arith, p.1) in subst (λ i. Fits m ts s k i) q p.2)
    (found m 0 0 ts None s k n e)
