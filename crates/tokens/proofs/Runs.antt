-- Laws for a matcher that remembers failures: a match that failed is followed on (a state that never ends a row), and a fresh match fails where what is
-- followed covers it.
use Prim.Native.Nat.{ℕ, zero, suc, ◌+◌, ◌-◌, ◌*◌, ◌/◌, ◌%◌, ◌≤◌, ◌<◌}
use mathlib.Core.Path.{◌≡◌, refl, sym, ap, ◌∙◌, subst}
use mathlib.Core.List.{List, [], ◌∷◌}
use mathlib.Core.Bool.{Bool, true, false, cond, ◌||◌}
use Rattle.std.specs.Prelude.{Option, None, Some}
use mathlib.Core.Logic.{◌⊎◌, inl, inr, ⊎_elim}
use native.Mathlib.Omega.{arith}
use native.Mathlib.Decide.{ℕ_discrete}
use lib.Dec.{T, eqb, eqb→eq}
use lib.ListN.{length, get_or, drop}
use lib.Seq.{drop-drop, get_or-drop}
use borrow.Author.Tests.{eq-eqb, ne_eqb}
use Rattle.tokens.specs.Glyph.{glyph}
use Rattle.tokens.specs.Expr.{Tokens, Match, has, step, whole, better, walk, longest}
use Rattle.tokens.specs.Table.{next_table, end_table, pairs}
use Rattle.tokens.specs.States.{label, Hop, to, ended, quiet, covers}
use Rattle.tokens.proofs.Equal.{both, left, right}
use Rattle.tokens.proofs.Tests.{next_at, end_at, starts_none}
use Rattle.tokens.proofs.Glyphs.{glyph_class}
use Rattle.tokens.proofs.Walks as w
use Rattle.tokens.proofs.Longest.{kept}

never_both : (o : Match) (k n : ℕ) → o ≡ Some (k, n) → o ≡ None → ⊥
never_both o k n e f = let z : ◌≡◌ {A = ℕ} 0 1 = cc in omega arith

ended_none : (x : ℕ) → x ≡ 255 → ended x ≡ None
ended_none x e = rw (eq-eqb x 255 e)

ended_some : (x : ℕ) → (x ≡ 255 → ⊥) → ended x ≡ Some x
ended_some x e = rw (ne_eqb x 255 e)

-- where a text stands does not matter
pub hop_free : (m at at' k : ℕ) (ts : Tokens) (xs : List ℕ) → walk m at k ts None xs ≡ None → walk m at' k ts None xs ≡ None
hop_free m at at' k ts [] e = refl
hop_free m at at' (suc k) ts (x ∷ xs) e = hop_free m at at' k ts xs e
hop_free m at at' zero ts (x ∷ xs) e =
    go (whole (step (glyph m (x ∷ xs)).0 ts))
    (hop_free m (at + (glyph m (x ∷ xs)).1) (at' + (glyph m (x ∷ xs)).1) ((glyph m (x ∷ xs)).1 - 1) (step (glyph m (x ∷ xs)).0 ts) xs) e
  where
    go : (o : Option ℕ)
        → (walk m (at + (glyph m (x ∷ xs)).1) ((glyph m (x ∷ xs)).1 - 1) (step (glyph m (x ∷ xs)).0 ts) None xs ≡ None
        → walk m (at' + (glyph m (x ∷ xs)).1) ((glyph m (x ∷ xs)).1 - 1) (step (glyph m (x ∷ xs)).0 ts) None xs ≡ None)
        → walk m (at + (glyph m (x ∷ xs)).1) ((glyph m (x ∷ xs)).1 - 1) (step (glyph m (x ∷ xs)).0 ts) (better o (at + (glyph m (x ∷ xs)).1) None) xs ≡ None
        → walk m (at' + (glyph m (x ∷ xs)).1) ((glyph m (x ∷ xs)).1 - 1) (step (glyph m (x ∷ xs)).0 ts) (better o (at' + (glyph m (x ∷ xs)).1) None) xs ≡ None
    go None rest f = rest f
    go (Some y) rest f =
        let p = kept m (at + (glyph m (x ∷ xs)).1) ((glyph m (x ∷ xs)).1 - 1) (step (glyph m (x ∷ xs)).0 ts) y (at + (glyph m (x ∷ xs)).1) xs (omega arith) in
        absurd (never_both _ p.0 p.1 p.2 f)

-- state 0 ends nothing; a failed match is one to follow, from its start
pub hop_zero : (m k : ℕ) (xs : List ℕ) → Hop m 0 k xs
hop_zero m k xs at = ap (λ ts. walk m at k ts None xs) starts_none ∙ w.nothing_left m at k None xs

pub hop_failed : (m st : ℕ) (xs : List ℕ) → longest m (label st) xs ≡ None → Hop m st 0 xs
unfolding longest
hop_failed m st xs e at = hop_free m 0 at 0 (label st) xs e

pub failed_hop : (m st : ℕ) (xs : List ℕ) → Hop m st 0 xs → longest m (label st) xs ≡ None
unfolding longest
failed_hop m st xs h = h 0

pub hop_skip : (m st k : ℕ) (xs : List ℕ) → Hop m st k xs → Hop m st 0 (drop k xs)
hop_skip m st k xs h at = sym (w.skipped m at k (label st) None xs) ∙ h at

pub skip_hop : (m st k : ℕ) (xs : List ℕ) → Hop m st 0 (drop k xs) → Hop m st k xs
skip_hop m st k xs h at = w.skipped m at k (label st) None xs ∙ h at

-- one character: on, and back
module _ (m : ℕ) (s : List ℕ) (i st : ℕ) (g : ℕ × ℕ) (hi : i < length s) (hs : st < 88) (e : g ≡ glyph m (drop i s)) where
  pub hop_step : Hop m st 0 (drop i s) → Hop m (quiet st g.0) 0 (drop (i + g.1) s)
  hop_step h = go (ℕ_discrete (get_or end_table (to st g.0) 0) 255)
    where
      go : Dec (get_or end_table (to st g.0) 0 ≡ 255) → Hop m (quiet st g.0) 0 (drop (i + g.1) s)
      go (yes z) at =
          ap (λ b. walk m at 0 (label (cond b (to st g.0) 0)) None (drop (i + g.1) s)) (eq-eqb _ 255 z)
          ∙ hop_free m (i + g.1) at 0 (label (to st g.0)) (drop (i + g.1) s) (w.unended m s i st None g hi hs e (to st g.0) refl (ended_none _ z) ∙ h i)
      go (no z) at =
          ap (λ b. walk m at 0 (label (cond b (to st g.0) 0)) None (drop (i + g.1) s)) (ne_eqb _ 255 z)
          ∙ hop_zero m 0 (drop (i + g.1) s) at

  pub hop_back : (quiet st g.0 ≡ 0 → ⊥) → Hop m (quiet st g.0) 0 (drop (i + g.1) s) → Hop m st 0 (drop i s)
  hop_back n h = go (ℕ_discrete (get_or end_table (to st g.0) 0) 255)
    where
      go : Dec (get_or end_table (to st g.0) 0 ≡ 255) → Hop m st 0 (drop i s)
      go (yes z) at =
          hop_free m i at 0 (label st) (drop i s)
          (sym (w.unended m s i st None g hi hs e (to st g.0) refl (ended_none _ z))
          ∙ sym (ap (λ b. walk m (i + g.1) 0 (label (cond b (to st g.0) 0)) None (drop (i + g.1) s)) (eq-eqb _ 255 z))
          ∙ h (i + g.1))
      go (no z) at = absurd (n (ap (λ b. cond b (to st g.0) 0) (ne_eqb _ 255 z)))

-- kept by a class that leads the pair to x and y: the second goes nowhere, or the first ends a row, or the second ends none and the pair goes to a pair
abbrev held : ℕ → ℕ → Bool
held x y = eqb y 0 || cond (eqb (get_or end_table x 0) 255) (both (eqb (get_or end_table y 0) 255) (covers x y)) true

abbrev holds : ℕ → ℕ → ℕ → Bool
holds a b c = held (to a c) (to b c)

-- the same of the first n classes, the two states' rows of the table being walked side by side
abbrev keeps : List ℕ → List ℕ → ℕ → Bool
keeps xs ys zero = true
keeps (x ∷ xs) (y ∷ ys) (suc n) = both (held x y) (keeps xs ys n)
keeps (x ∷ xs) [] (suc n) = false
keeps [] ys (suc n) = false

keeps_sound : (xs ys : List ℕ) (n : ℕ) → T (keeps xs ys n) → (c : ℕ) → c < n → T (held (get_or xs c 0) (get_or ys c 0))
keeps_sound xs ys zero t c h = absurd (omega arith)
keeps_sound (x ∷ xs) (y ∷ ys) (suc n) t zero h = left (held x y) (keeps xs ys n) t
keeps_sound (x ∷ xs) (y ∷ ys) (suc n) t (suc c) h = keeps_sound xs ys n (right (held x y) (keeps xs ys n) t) c (omega arith)
keeps_sound (x ∷ xs) [] (suc n) t c h = absurd t
keeps_sound [] ys (suc n) t c h = absurd t

abbrev row_of : ℕ → List ℕ
row_of st = drop (st * 45) next_table

class_sound : (a b : ℕ) → T (keeps (row_of a) (row_of b) 45) → (c : ℕ) → c < 45 → T (holds a b c)
class_sound a b t c h =
    subst (λ y. T (held (to a c) y)) (get_or-drop (b * 45) next_table c 0)
    (subst (λ x. T (held x (get_or (row_of b) c 0))) (get_or-drop (a * 45) next_table c 0) (keeps_sound (row_of a) (row_of b) 45 t c h))

abbrev pair_right : ℕ → Bool
pair_right p = both (both (eqb (p / 88 * 88 + p % 88) p) (lib.Dec.ltb (p / 88) 88)) (keeps (row_of (p / 88)) (row_of (p % 88)) 45)

abbrev all_right : List ℕ → Bool
all_right [] = true
all_right (p ∷ ps) = both (pair_right p) (all_right ps)

-- every pair is kept by every class
pairs_right : T (all_right pairs)
unfolding pairs next_table end_table
pairs_right = tt

right_of : (ps : List ℕ) (p : ℕ) → T (all_right ps) → T (has ps p) → T (pair_right p)
right_of [] p t h = absurd h
right_of (q ∷ ps) p t h = go (eqb p q) refl h (right_of ps p (right (pair_right q) (all_right ps) t))
  where
    go : (b : Bool) → eqb p q ≡ b → T (b || has ps p) → (T (has ps p) → T (pair_right p)) → T (pair_right p)
    go true e u rest = subst (λ x. T (pair_right x)) (sym (eqb→eq p q (subst T (sym e) tt))) (left (pair_right q) (all_right ps) t)
    go false e u rest = rest u

-- one character, in terms of the tables
tabled : (m at n k st c : ℕ) (xs : List ℕ) → st < 88 → c < 45
    → walk m at k (step c (label st)) (better (whole (step c (label st))) n None) xs
    ≡ walk m at k (label (to st c)) (better (ended (get_or end_table (to st c) 0)) n None) xs
tabled m at n k st c xs hs hc =
    let t = next_at st c hs hc in
    ap (λ ts. walk m at k ts (better (whole ts) n None) xs) t.1
    ∙ ap (λ o. walk m at k (label (to st c)) (better o n None) xs) (sym (end_at (to st c) t.0))

-- what never ends a row goes on to what never does, and by a state that ends none
on : (m a : ℕ) (x : ℕ) (xs : List ℕ) → a < 88 → Hop m a 0 (x ∷ xs)
    → let g = glyph m (x ∷ xs) in (get_or end_table (to a g.0) 0 ≡ 255) × Hop m (to a g.0) (g.1 - 1) xs
on m a x xs ha h = go (ℕ_discrete (get_or end_table (to a (glyph m (x ∷ xs)).0) 0) 255)
  where
    at_zero : let g = glyph m (x ∷ xs) in walk m (0 + g.1) (g.1 - 1) (label (to a g.0)) (better (ended (get_or end_table (to a g.0) 0)) (0 + g.1) None) xs ≡ None
    at_zero = let g = glyph m (x ∷ xs) in sym (tabled m (0 + g.1) (0 + g.1) (g.1 - 1) a g.0 xs ha (glyph_class m (x ∷ xs))) ∙ h 0

    go : Dec (get_or end_table (to a (glyph m (x ∷ xs)).0) 0 ≡ 255)
        → let g = glyph m (x ∷ xs) in (get_or end_table (to a g.0) 0 ≡ 255) × Hop m (to a g.0) (g.1 - 1) xs
    go (yes z) =
        let g = glyph m (x ∷ xs) in (
          z,
          λ at. hop_free m (0 + g.1) at (g.1 - 1) (label (to a g.0)) xs
              (sym (ap (λ o. walk m (0 + g.1) (g.1 - 1) (label (to a g.0)) (better o (0 + g.1) None) xs) (ended_none _ z)) ∙ at_zero),
        )
    go (no z) =
        let g = glyph m (x ∷ xs) in
        let p = kept m (0 + g.1) (g.1 - 1) (label (to a g.0)) (get_or end_table (to a g.0) 0) (0 + g.1) xs (omega arith) in
        absurd
        (never_both _ p.0 p.1 p.2
        (sym (ap (λ o. walk m (0 + g.1) (g.1 - 1) (label (to a g.0)) (better o (0 + g.1) None) xs) (ended_some _ z)) ∙ at_zero))

-- and the other way round
back : (m b : ℕ) (x : ℕ) (xs : List ℕ) → b < 88
    → let g = glyph m (x ∷ xs) in get_or end_table (to b g.0) 0 ≡ 255 → Hop m (to b g.0) (g.1 - 1) xs → Hop m b 0 (x ∷ xs)
back m b x xs hb z h at =
    let g = glyph m (x ∷ xs) in
    tabled m (at + g.1) (at + g.1) (g.1 - 1) b g.0 xs hb (glyph_class m (x ∷ xs))
    ∙ ap (λ o. walk m (at + g.1) (g.1 - 1) (label (to b g.0)) (better o (at + g.1) None) xs) (ended_none _ z)
    ∙ h (at + g.1)

zero_ends : get_or end_table 0 0 ≡ 255
unfolding end_table
zero_ends = refl

-- the law: where the first of a pair never ends a row, the second never does
pub covered : (m k a b : ℕ) (xs : List ℕ) → a < 88 → b < 88 → T (covers a b) → Hop m a k xs → Hop m b k xs
covered m k a b [] ha hb t h = λ at. refl
covered m (suc k) a b (x ∷ xs) ha hb t h = covered m k a b xs ha hb t h
covered m zero a b (x ∷ xs) ha hb t h =
    let g = glyph m (x ∷ xs) in
    let c = g.0 in
    let hc : c < 45 = glyph_class m (x ∷ xs) in
    let o = on m a x xs ha h in
    pick (eqb a b) refl t (λ u. covered m (g.1 - 1) (to a c) (to b c) xs (next_at a c ha hc).0 (next_at b c hb hc).0 u o.1)
  where
    second : (p : Bool) (q : Bool) → T (p || q) → (p ≡ true) ⊎ T q
    second true q t = inl refl
    second false q t = inr t

    third : (z v : ℕ) (q : Bool) → z ≡ 255 → T (cond (eqb z 255) q true) → T q
    third z v q e t = subst (λ y. T (cond y q true)) (eq-eqb z 255 e) t

    pick : (y : Bool) → eqb a b ≡ y → T (y || has pairs (a * 88 + b))
        → (T (covers (to a (glyph m (x ∷ xs)).0) (to b (glyph m (x ∷ xs)).0)) → Hop m (to b (glyph m (x ∷ xs)).0) ((glyph m (x ∷ xs)).1 - 1) xs)
        → Hop m b 0 (x ∷ xs)
    pick true e u rest = subst (λ y. Hop m y 0 (x ∷ xs)) (eqb→eq a b (subst T (sym e) tt)) h
    pick false e u rest =
        let g = glyph m (x ∷ xs) in
        let c = g.0 in
        let hc : c < 45 = glyph_class m (x ∷ xs) in
        let p = a * 88 + b in
        let r = right_of pairs p pairs_right u in
        let d : p / 88 ≡ a = omega arith in
        let f : p % 88 ≡ b = omega arith in
        let l : T (holds (p / 88) (p % 88) c) =
        class_sound (p / 88) (p % 88)
        (right (both (eqb (p / 88 * 88 + p % 88) p) (lib.Dec.ltb (p / 88) 88)) (keeps (row_of (p / 88)) (row_of (p % 88)) 45) r) c hc in
        let l' : T (holds a b c) = subst (λ y. T (holds a y c)) f (subst (λ y. T (holds y (p % 88) c)) d l) in
        ⊎_elim
        (λ z. let n : to b c ≡ 0 = eqb→eq (to b c) 0 (subst T (sym z) tt) in
        back m b x xs hb (ap (λ y. get_or end_table y 0) n ∙ zero_ends) (subst (λ y. Hop m y (g.1 - 1) xs) (sym n) (hop_zero m (g.1 - 1) xs)))
        (λ q. let v = third (get_or end_table (to a c) 0) 0 (both (eqb (get_or end_table (to b c) 0) 255) (covers (to a c) (to b c))) (on m a x xs ha h).0 q in
        back m b x xs hb (eqb→eq (get_or end_table (to b c) 0) 255 (left (eqb (get_or end_table (to b c) 0) 255) (covers (to a c) (to b c)) v))
        (rest (right (eqb (get_or end_table (to b c) 0) 255) (covers (to a c) (to b c)) v)))
        (second (eqb (to b c) 0) (cond (eqb (get_or end_table (to a c) 0) 255) (both (eqb (get_or end_table (to b c) 0) 255) (covers (to a c) (to b c))) true) l')

-- the code's entries
pub quiet_small : (st c : ℕ) → st < 88 → c < 45 → quiet st c < 88
quiet_small st c hs hc = go (eqb (get_or end_table (to st c) 0) 255)
  where
    go : (b : Bool) → cond b (to st c) 0 < 88
    go true = (next_at st c hs hc).0
    go false = omega arith

-- two characters on, and back
pub two_deep : (m : ℕ) (s : List ℕ) (a b : ℕ) (g h : ℕ × ℕ) → a < 88 → b < 88 → 0 < length s → g ≡ glyph m s → g.1 < length s → h ≡ glyph m (drop g.1 s)
    → (quiet b g.0 ≡ 0 → ⊥) → (quiet (quiet b g.0) h.0 ≡ 0 → ⊥)
    → T (covers (quiet (quiet a g.0) h.0) (quiet (quiet b g.0) h.0)) → Hop m a 0 s → Hop m b 0 s
two_deep m s a b g h ha hb some_bytes e more f nb nd t p =
    let z : g.1 ≡ 0 + g.1 = omega arith in
    let i : 0 + g.1 < length s = omega arith in
    let f' : h ≡ glyph m (drop (0 + g.1) s) = f ∙ ap (λ k. glyph m (drop k s)) z in
    let c : g.0 < 45 = subst (λ u. u.0 < 45) (sym e) (glyph_class m s) in
    let d : h.0 < 45 = subst (λ u. u.0 < 45) (sym f) (glyph_class m (drop g.1 s)) in
    let a₁ = quiet_small a g.0 ha c in
    let b₁ = quiet_small b g.0 hb c in
    let one = hop_step m s 0 a g some_bytes ha e p in
    let two = hop_step m s (0 + g.1) (quiet a g.0) h i a₁ f' one in
    let other = covered m 0 (quiet (quiet a g.0) h.0) (quiet (quiet b g.0) h.0) (drop (0 + g.1 + h.1) s) (quiet_small (quiet a g.0) h.0 a₁ d) (quiet_small (quiet b g.0) h.0 b₁ d) t two in
    hop_back m s 0 b g some_bytes hb e nb (hop_back m s (0 + g.1) (quiet b g.0) h i b₁ f' nd other)

pub run_end : (m st at len : ℕ) (s : List ℕ) → len ≤ at → Hop m st 0 (drop at s) → Hop m st (at - len) (drop len s)
run_end m st at len s h p =
    let e : len + (at - len) ≡ at = omega arith in
    skip_hop m st (at - len) (drop len s) (subst (λ l. Hop m st 0 l) (sym (drop-drop (at - len) len s ∙ ap (λ k. drop k s) e)) p)
