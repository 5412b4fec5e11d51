-- The derivative is right: what is left of an expression after a character matches a text just where the expression matches the character and the text.
use Prim.Native.Nat.{ℕ}
use mathlib.Core.Path.{◌≡◌, refl, sym, ap, ◌∙◌, subst}
use mathlib.Core.List.{List, [], ◌∷◌, ◌++◌}
use mathlib.Core.Bool.{Bool, true, false, cond, not, ◌&&◌, ◌||◌}
use mathlib.Core.Logic.{◌⊎◌, inl, inr, ⊎_elim}
use native.Mathlib.Omega.{arith}
use lib.Dec.{T}
use Rattle.tokens.specs.Expr.{Expr, ε, one, but, ◌⨾◌, ◌∣◌, many, has, nullable, never, isε, after, either, derive}
use Rattle.tokens.specs.Matches.{Empty, Single, Many, done, more, Matches}

-- one [] matches nothing, and `never` tells it
no_match : (w : List ℕ) → Matches (one []) w → ⊥
no_match [] m = m
no_match (c ∷ []) m = m
no_match (c ∷ d ∷ w) m = m

pub never_none : (r : Expr) (w : List ℕ) → T (never r) → Matches r w → ⊥
never_none ε w t m = t
never_none (one []) w t m = no_match w m
never_none (one (x ∷ xs)) w t m = t
never_none (but xs) w t m = t
never_none (r ⨾ s) w t m = t
never_none (r ∣ s) w t m = t
never_none (many r) w t m = t

only_ε : (r : Expr) (w : List ℕ) → T (isε r) → Matches r w → Empty w
only_ε ε w t m = m
only_ε (one xs) w t m = absurd t
only_ε (but xs) w t m = absurd t
only_ε (r ⨾ s) w t m = absurd t
only_ε (r ∣ s) w t m = absurd t
only_ε (many r) w t m = absurd t

is_ε : (r : Expr) → T (isε r) → Matches r []
is_ε ε t = tt
is_ε (one xs) t = absurd t
is_ε (but xs) t = absurd t
is_ε (r ⨾ s) t = absurd t
is_ε (r ∣ s) t = absurd t
is_ε (many r) t = absurd t

-- the two joins
either_to : (r s : Expr) (w : List ℕ) → Matches (either r s) w → Matches r w ⊎ Matches s w
either_to r s w = go (never r) (never s)
  where
    go : (a b : Bool) → Matches (cond a s (cond b r (r ∣ s))) w → Matches r w ⊎ Matches s w
    go true b m = inr m
    go false true m = inl m
    go false false m = m

either_from : (r s : Expr) (w : List ℕ) → Matches r w ⊎ Matches s w → Matches (either r s) w
either_from r s w m = go (never r) (never s) (λ t. never_none r w t) (λ t. never_none s w t)
  where
    go : (a b : Bool) → (T a → Matches r w → ⊥) → (T b → Matches s w → ⊥) → Matches (cond a s (cond b r (r ∣ s))) w
    go true b f g = ⊎_elim (λ x. absurd (f tt x)) (λ x. x) m
    go false true f g = ⊎_elim (λ x. x) (λ x. absurd (g tt x)) m
    go false false f g = m

after_to : (r s : Expr) (w : List ℕ) → Matches (after r s) w → Matches (r ⨾ s) w
after_to r s w = go (never r) (isε r) (is_ε r)
  where
    go : (a b : Bool) → (T b → Matches r []) → Matches (cond a (one []) (cond b s (r ⨾ s))) w → Matches (r ⨾ s) w
    go true b f m = absurd (no_match w m)
    go false true f m = ([], w, refl, f tt, m)
    go false false f m = m

empty : (u v : List ℕ) → Empty u → u ++ v ≡ v
empty [] v e = refl
empty (c ∷ u) v e = absurd e

after_from : (r s : Expr) (w : List ℕ) → Matches (r ⨾ s) w → Matches (after r s) w
after_from r s w m = go (never r) (isε r) (never_none r m.0) (only_ε r m.0)
  where
    go : (a b : Bool) → (T a → Matches r m.0 → ⊥) → (T b → Matches r m.0 → Empty m.0) → Matches (cond a (one []) (cond b s (r ⨾ s))) w
    go true b f g = absurd (f tt m.3)
    go false true f g = subst (Matches s) (sym (m.2 ∙ empty m.0 m.1 (g tt m.3))) m.4
    go false false f g = m

both_of : (a b : Bool) → T (a && b) → T a × T b
both_of true b t = (tt, t)
both_of false b t = absurd t

of_both : (a b : Bool) → T a → T b → T (a && b)
of_both true b s t = t
of_both false b s t = absurd s

-- the empty text
pub null_to : (r : Expr) → T (nullable r) → Matches r []
null_to ε t = tt
null_to (one xs) t = t
null_to (but xs) t = t
null_to (r ⨾ s) t = let p = both_of (nullable r) (nullable s) t in ([], [], refl, null_to r p.0, null_to s p.1)
null_to (r ∣ s) t = go (nullable r) (null_to r) (null_to s) t
  where
    go : (a : Bool) → (T a → Matches r []) → (T (nullable s) → Matches s []) → T (a || nullable s) → Matches r [] ⊎ Matches s []
    go true f g t = inl (f tt)
    go false f g t = inr (g t)
null_to (many r) t = done

split_nil : (u v : List ℕ) → [] ≡ u ++ v → (u ≡ []) × (v ≡ [])
split_nil [] v e = (refl, sym e)
split_nil (c ∷ u) v e = let z : ◌≡◌ {A = ℕ} 0 1 = cc in absurd (omega arith)

pub null_from : (r : Expr) → Matches r [] → T (nullable r)
null_from ε m = tt
null_from (one xs) m = m
null_from (but xs) m = m
null_from (r ⨾ s) m =
    let p = split_nil m.0 m.1 m.2 in
    of_both (nullable r) (nullable s) (null_from r (subst (Matches r) p.0 m.3)) (null_from s (subst (Matches s) p.1 m.4))
null_from (r ∣ s) m = ⊎_elim (λ x. on_left (nullable r) (null_from r x)) (λ x. on_right (nullable r) (null_from s x)) m
  where
    on_left : (a : Bool) → T a → T (a || nullable s)
    on_left true t = tt
    on_left false t = absurd t

    on_right : (a : Bool) → T (nullable s) → T (a || nullable s)
    on_right true t = tt
    on_right false t = t
null_from (many r) m = tt

-- one character
one_to : (b : Bool) (w : List ℕ) → Matches (cond b ε (one [])) w → T b × Empty w
one_to true w m = (tt, m)
one_to false w m = absurd (no_match w m)

one_from : (b : Bool) (w : List ℕ) → T b → Empty w → Matches (cond b ε (one [])) w
one_from true w t e = e
one_from false w t e = absurd t

but_to : (b : Bool) (w : List ℕ) → Matches (cond b (one []) ε) w → T (not b) × Empty w
but_to true w m = absurd (no_match w m)
but_to false w m = (tt, m)

but_from : (b : Bool) (w : List ℕ) → T (not b) → Empty w → Matches (cond b (one []) ε) w
but_from true w t e = absurd t
but_from false w t e = e

single_to : (p : ℕ → Bool) (c : ℕ) (w : List ℕ) → T (p c) → Empty w → Single p (c ∷ w)
single_to p c [] t e = t
single_to p c (d ∷ w) t e = absurd e

single_from : (p : ℕ → Bool) (c : ℕ) (w : List ℕ) → Single p (c ∷ w) → T (p c) × Empty w
single_from p c [] m = (m, tt)
single_from p c (d ∷ w) m = absurd m

if_to : (b : Bool) (r : Expr) (w : List ℕ) → Matches (cond b r (one [])) w → T b × Matches r w
if_to true r w m = (tt, m)
if_to false r w m = absurd (no_match w m)

if_from : (b : Bool) (r : Expr) (w : List ℕ) → T b → Matches r w → Matches (cond b r (one [])) w
if_from true r w t m = m
if_from false r w t m = absurd t

pub derive_to : (c : ℕ) (r : Expr) (w : List ℕ) → Matches (derive c r) w → Matches r (c ∷ w)
derive_to c ε w m = no_match w m
derive_to c (one xs) w m = let p = one_to (has xs c) w m in single_to (has xs) c w p.0 p.1
derive_to c (but xs) w m = let p = but_to (has xs c) w m in single_to (λ d. not (has xs d)) c w p.0 p.1
derive_to c (r ⨾ s) w m =
    ⊎_elim
    (λ x. let p = after_to (derive c r) s w x in (c ∷ p.0, p.1, ap (λ l. c ∷ l) p.2, derive_to c r p.0 p.3, p.4))
    (λ x. let p = if_to (nullable r) (derive c s) w x in ([], c ∷ w, refl, null_to r p.0, derive_to c s w p.1))
    (either_to (after (derive c r) s) (cond (nullable r) (derive c s) (one [])) w m)
derive_to c (r ∣ s) w m = ⊎_elim (λ x. inl (derive_to c r w x)) (λ x. inr (derive_to c s w x)) (either_to (derive c r) (derive c s) w m)
derive_to c (many r) w m = let p = after_to (derive c r) (many r) w m in more c p.0 p.1 (derive_to c r p.0 p.3) p.4 (ap (λ l. c ∷ l) p.2)

pub derive_from : (c : ℕ) (r : Expr) (w : List ℕ) → Matches r (c ∷ w) → Matches (derive c r) w
derive_from c ε w m = absurd m
derive_from c (one xs) w m = let p = single_from (has xs) c w m in one_from (has xs c) w p.0 p.1
derive_from c (but xs) w m = let p = single_from (λ d. not (has xs d)) c w m in but_from (has xs c) w p.0 p.1
derive_from c (r ⨾ s) w m =
    either_from (after (derive c r) s) (cond (nullable r) (derive c s) (one [])) w
    (go m.0 m.1 m.2 m.3 m.4 (derive_from c r) (derive_from c s))
  where
    go : (u v : List ℕ) → c ∷ w ≡ u ++ v → Matches r u → Matches s v
        → ((x : List ℕ) → Matches r (c ∷ x) → Matches (derive c r) x) → ((x : List ℕ) → Matches s (c ∷ x) → Matches (derive c s) x)
        → Matches (after (derive c r) s) w ⊎ Matches (cond (nullable r) (derive c s) (one [])) w
    go [] v e mr ms f g = inr (if_from (nullable r) (derive c s) w (null_from r mr) (g w (subst (Matches s) (sym e) ms)))
    go (d ∷ u) v e mr ms f g =
        let p : d ≡ c = cc in
        let q : w ≡ u ++ v = cc in
        inl (after_from (derive c r) s w (u, v, q, f u (subst (λ x. Matches r (x ∷ u)) p mr), ms))
derive_from c (r ∣ s) w m = either_from (derive c r) (derive c s) w (⊎_elim (λ x. inl (derive_from c r w x)) (λ x. inr (derive_from c s w x)) m)
derive_from c (many r) w m = go (c ∷ w) refl m (derive_from c r)
  where
    go : (l : List ℕ) → l ≡ c ∷ w → Many (Matches r) l → ((x : List ℕ) → Matches r (c ∷ x) → Matches (derive c r) x) → Matches (after (derive c r) (many r)) w
    go l e done f = let z : ◌≡◌ {A = ℕ} 0 1 = cc in absurd (omega arith)
    go l e (more d u v mr ms k) f =
        let p : d ≡ c = cc in
        let q : w ≡ u ++ v = cc in
        after_from (derive c r) (many r) w (u, v, q, f u (subst (λ x. Matches r (x ∷ u)) p mr), ms)
