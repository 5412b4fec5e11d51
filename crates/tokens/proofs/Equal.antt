-- Equality of expressions and of tokens, as a test.
use Prim.Native.Nat.{ℕ}
use mathlib.Core.Path.{◌≡◌, refl, ap, ap₂}
use mathlib.Core.List.{List, [], ◌∷◌}
use mathlib.Core.Bool.{Bool, true, false}
use lib.Dec.{T, eqb, eqb→eq}
use Rattle.tokens.specs.Expr.{Expr, ε, one, but, ◌⨾◌, ◌∣◌, many, Tokens}

abbrev pub both : Bool → Bool → Bool
both true b = b
both false b = false

pub left : (a b : Bool) → T (both a b) → T a
left true b t = tt
left false b t = t

pub right : (a b : Bool) → T (both a b) → T b
right true b t = t
right false b t = absurd t

abbrev pub same_list : List ℕ → List ℕ → Bool
same_list [] [] = true
same_list [] (y ∷ ys) = false
same_list (x ∷ xs) [] = false
same_list (x ∷ xs) (y ∷ ys) = both (eqb x y) (same_list xs ys)

pub same_list→ : (xs ys : List ℕ) → T (same_list xs ys) → xs ≡ ys
same_list→ [] [] t = refl
same_list→ [] (y ∷ ys) t = absurd t
same_list→ (x ∷ xs) [] t = absurd t
same_list→ (x ∷ xs) (y ∷ ys) t =
    ap₂ ◌∷◌ (eqb→eq x y (left (eqb x y) (same_list xs ys) t)) (same_list→ xs ys (right (eqb x y) (same_list xs ys) t))

abbrev pub same_expr : Expr → Expr → Bool
same_expr ε ε = true
same_expr ε (one r') = false
same_expr ε (but r') = false
same_expr ε (r' ⨾ s') = false
same_expr ε (r' ∣ s') = false
same_expr ε (many r') = false
same_expr (one r) ε = false
same_expr (one r) (one r') = same_list r r'
same_expr (one r) (but r') = false
same_expr (one r) (r' ⨾ s') = false
same_expr (one r) (r' ∣ s') = false
same_expr (one r) (many r') = false
same_expr (but r) ε = false
same_expr (but r) (one r') = false
same_expr (but r) (but r') = same_list r r'
same_expr (but r) (r' ⨾ s') = false
same_expr (but r) (r' ∣ s') = false
same_expr (but r) (many r') = false
same_expr (r ⨾ s) ε = false
same_expr (r ⨾ s) (one r') = false
same_expr (r ⨾ s) (but r') = false
same_expr (r ⨾ s) (r' ⨾ s') = both (same_expr r r') (same_expr s s')
same_expr (r ⨾ s) (r' ∣ s') = false
same_expr (r ⨾ s) (many r') = false
same_expr (r ∣ s) ε = false
same_expr (r ∣ s) (one r') = false
same_expr (r ∣ s) (but r') = false
same_expr (r ∣ s) (r' ⨾ s') = false
same_expr (r ∣ s) (r' ∣ s') = both (same_expr r r') (same_expr s s')
same_expr (r ∣ s) (many r') = false
same_expr (many r) ε = false
same_expr (many r) (one r') = false
same_expr (many r) (but r') = false
same_expr (many r) (r' ⨾ s') = false
same_expr (many r) (r' ∣ s') = false
same_expr (many r) (many r') = same_expr r r'

pub same_expr→ : (r s : Expr) → T (same_expr r s) → r ≡ s
same_expr→ ε ε t = refl
same_expr→ ε (one r') t = absurd t
same_expr→ ε (but r') t = absurd t
same_expr→ ε (r' ⨾ s') t = absurd t
same_expr→ ε (r' ∣ s') t = absurd t
same_expr→ ε (many r') t = absurd t
same_expr→ (one r) ε t = absurd t
same_expr→ (one r) (one r') t = ap one (same_list→ r r' t)
same_expr→ (one r) (but r') t = absurd t
same_expr→ (one r) (r' ⨾ s') t = absurd t
same_expr→ (one r) (r' ∣ s') t = absurd t
same_expr→ (one r) (many r') t = absurd t
same_expr→ (but r) ε t = absurd t
same_expr→ (but r) (one r') t = absurd t
same_expr→ (but r) (but r') t = ap but (same_list→ r r' t)
same_expr→ (but r) (r' ⨾ s') t = absurd t
same_expr→ (but r) (r' ∣ s') t = absurd t
same_expr→ (but r) (many r') t = absurd t
same_expr→ (r ⨾ s) ε t = absurd t
same_expr→ (r ⨾ s) (one r') t = absurd t
same_expr→ (r ⨾ s) (but r') t = absurd t
same_expr→ (r ⨾ s) (r' ⨾ s') t = ap₂ ◌⨾◌ (same_expr→ r r' (left (same_expr r r') (same_expr s s') t)) (same_expr→ s s' (right (same_expr r r') (same_expr s s') t))
same_expr→ (r ⨾ s) (r' ∣ s') t = absurd t
same_expr→ (r ⨾ s) (many r') t = absurd t
same_expr→ (r ∣ s) ε t = absurd t
same_expr→ (r ∣ s) (one r') t = absurd t
same_expr→ (r ∣ s) (but r') t = absurd t
same_expr→ (r ∣ s) (r' ⨾ s') t = absurd t
same_expr→ (r ∣ s) (r' ∣ s') t = ap₂ ◌∣◌ (same_expr→ r r' (left (same_expr r r') (same_expr s s') t)) (same_expr→ s s' (right (same_expr r r') (same_expr s s') t))
same_expr→ (r ∣ s) (many r') t = absurd t
same_expr→ (many r) ε t = absurd t
same_expr→ (many r) (one r') t = absurd t
same_expr→ (many r) (but r') t = absurd t
same_expr→ (many r) (r' ⨾ s') t = absurd t
same_expr→ (many r) (r' ∣ s') t = absurd t
same_expr→ (many r) (many r') t = ap many (same_expr→ r r' t)

abbrev pub alike : Tokens → Tokens → Bool
alike [] [] = true
alike [] (t ∷ ts) = false
alike (t ∷ ts) [] = false
alike (t ∷ ts) (u ∷ us) = both (eqb t.0 u.0) (both (same_expr t.1 u.1) (alike ts us))

pub alike→ : (ts us : Tokens) → T (alike ts us) → ts ≡ us
alike→ [] [] t = refl
alike→ [] (u ∷ us) t = absurd t
alike→ (x ∷ ts) [] t = absurd t
alike→ (x ∷ ts) (u ∷ us) t =
    let p = right (eqb x.0 u.0) (both (same_expr x.1 u.1) (alike ts us)) t in
    let e : x.0 ≡ u.0 = eqb→eq x.0 u.0 (left (eqb x.0 u.0) (both (same_expr x.1 u.1) (alike ts us)) t) in
    let f : x.1 ≡ u.1 = same_expr→ x.1 u.1 (left (same_expr x.1 u.1) (alike ts us) p) in
    let g : ts ≡ us = alike→ ts us (right (same_expr x.1 u.1) (alike ts us) p) in
    let h : ◌≡◌ {A = ℕ × Expr} (x.0, x.1) (u.0, u.1) = ap₂ (λ a b. (a, b)) e f in
    ap₂ ◌∷◌ h g
