-- A keyword that one production alone can take, and only first: wherever a PEG takes up such a row, that production was accepted there.
use Prim.Native.Nat.{ℕ}
use mathlib.Core.Path.{◌≡◌, refl, ap, sym, ◌∙◌, subst}
use mathlib.Core.Logic.{◌⊎◌, inl, inr}
use mathlib.Core.List.{List, [], ◌∷◌}
use mathlib.Core.Bool.{Bool, true, false, ◌&&◌, ◌||◌}
use mathlib.Core.Option.{Option, none, some}
use lib.Dec.{T}
use Rattle.kinds.specs.Kinds as kinds
use Rattle.kinds.specs.Sets.{id_of, pick}
use Rattle.definition.specs.Prog.{Production, FOR_EXPR, WITH_EXPR, Prog, eat, unless, ifnext, opt, many, then, ◌⨟◌, ◌⫽◌, last, recover, node, memo}
use Rattle.definition.specs.Grammar.{grammar, kind}
use Rattle.definition.specs.Run.{Next, end, other, hit, sought}
use Rattle.definition.specs.Ford.{Res}
use Rattle.definition.proofs.Peg.{Peg, eat_yes, unless_yes, ifnext_hit, ifnext_miss, opt_yes, opt_no, many_yes, many_no, then_is, seq_yes, alt_yes, alt_no, last_is, recover_is, node_is, memo_is}
use Rattle.definition.proofs.Every.{and_left, and_right, either_way, productions, all, is, each_but, never}
use Rattle.definition.proofs.Grows.{sought_hit}

abbrev free : ℕ → Next → Bool
free w end = true
free w other = true
free w (hit a is) = false

-- no step of the program takes a row of id w
abbrev pub bare : ℕ → Prog → Bool
bare w (eat S N) = free w (sought S (w ∷ []))
bare w (unless S) = true
bare w (ifnext S p) = bare w p
bare w (opt p) = bare w p
bare w (many p) = bare w p
bare w (then p) = bare w p
bare w (p ⨟ q) = bare w p && bare w q
bare w (p ⫽ q) = bare w p && bare w q
bare w (last p) = bare w p
bare w (recover S) = true
bare w (node a) = true
bare w (memo a) = true

module _ (E : Bool) (w : ℕ) (k : Production) (S N : List ℕ) (q : Prog) where
  -- from r down to r' row by row, with the production accepted at each row of id w
  pub data Each : List ℕ → List ℕ → Type 0 where
    none_left : {r : List ℕ} → Each r r
    one_more : {i : ℕ} {is r : List ℕ} → (i ≡ w → (r₁ : List ℕ) × Peg E (grammar E k) (i ∷ is) (Res.yes r₁)) → Each is r → Each (i ∷ is) r

  pub each_trans : {a b c : List ℕ} → Each a b → Each b c → Each a c
  each_trans none_left e = e
  each_trans (one_more h d) e = one_more h (each_trans d e)

  -- a program takes no such row, or is the production's own: its keyword, and then a program that takes none
  abbrev pub Fit : Prog → Type 0
  Fit p = T (bare w p) ⊎ (p ≡ eat S N ⨟ q)

  abbrev pub Goes : {p : Prog} → Fit p → List ℕ → List ℕ → Type 0
  Goes (inl t) r r' = Each r r'
  Goes (inr e) r r' = (i : ℕ) × (is : List ℕ) × (r ≡ i ∷ is) × Each is r'

  taken : (S : List ℕ) (i : ℕ) (is : List ℕ) (a : ℕ) (js : List ℕ) → sought S (i ∷ is) ≡ hit a js → T (free w (sought S (w ∷ []))) → i ≡ w → ⊥
  taken S i is a js e t h = go (pick S w) (subst (λ (j : ℕ). sought S (j ∷ is) ≡ hit a js) h e) t
    where
      go : (x : Option ℕ) → ◌≡◌ {A = Next} (elim x [ none ↦ other | some b ↦ hit b is ]) (hit a js) → T (free w (elim x as (λ _. Next) [ none ↦ other | some b ↦ hit b [] ])) → ⊥
      go none e t = never cc
      go (some b) e t = t

  -- the row that an `eat` takes
  eaten : (S' r is r' : List ℕ) (a : ℕ) → sought S' r ≡ hit a is → is ≡ r' → (i : ℕ) × (r ≡ i ∷ r')
  eaten S' r is r' a e h = let p = sought_hit S' r a is e in (p.0, p.1 ∙ ap (λ (l : List ℕ). p.0 ∷ l) h)

  each_eat : (S' r is r' : List ℕ) (a : ℕ) → sought S' r ≡ hit a is → is ≡ r' → T (free w (sought S' (w ∷ []))) → Each r r'
  each_eat S' r is r' a e h t =
      let p = eaten S' r is r' a e h in
      subst (λ (l : List ℕ). Each l r') (sym p.1) (one_more (λ i=w. absurd (taken S' p.0 r' a is (subst (λ (l : List ℕ). sought S' l ≡ hit a is) p.1 e) t i=w)) none_left)

  -- a production's row
  abbrev pub Others : Type 0
  Others = (a : Production) → T (bare w (grammar E a)) ⊎ ((grammar E a ≡ eat S N ⨟ q) × (a ≡ k))

  abbrev fit_of : (a : Production) → T (bare w (grammar E a)) ⊎ ((grammar E a ≡ eat S N ⨟ q) × (a ≡ k)) → Fit (grammar E a)
  fit_of a (inl t) = inl t
  fit_of a (inr e) = inr e.0

  each_node : (a : Production) (o : T (bare w (grammar E a)) ⊎ ((grammar E a ≡ eat S N ⨟ q) × (a ≡ k))) (r r' : List ℕ) → Peg E (grammar E a) r (Res.yes r') → Goes (fit_of a o) r r' → Each r r'
  each_node a (inl t) r r' d g = g
  each_node a (inr e) r r' d g =
      subst (λ (l : List ℕ). Each l r') (sym g.2) (one_more (λ _. (r', subst (λ (b : Production). Peg E (grammar E b) (g.0 ∷ g.1) (Res.yes r')) e.1 (subst (λ (l : List ℕ). Peg E (grammar E a) l (Res.yes r')) g.2 d))) g.3)

  eat_inv : {S' N' r r' : List ℕ} → Peg E (eat S' N') r (Res.yes r') → (i : ℕ) × (r ≡ i ∷ r')
  eat_inv {r = r} {r' = r'} (eat_yes {S = S₁} a f) = eaten S₁ r r' r' a f refl

  module _ (others : Others) (bare-q : T (bare w q)) where
    pub each : {p : Prog} {r r' : List ℕ} → Peg E p r (Res.yes r') → (h : Fit p) → Goes h r r'
    each {r = r} {r' = r'} (eat_yes {S = S₁} a f) (inl t) = each_eat S₁ r r' r' a f refl t
    each (eat_yes a f) (inr g) = never cc
    each (unless_yes m) (inl t) = none_left
    each (unless_yes m) (inr g) = never cc
    each (ifnext_hit a is f d) (inl t) = each d (inl t)
    each (ifnext_hit a is f d) (inr g) = never cc
    each (ifnext_miss m) (inl t) = none_left
    each (ifnext_miss m) (inr g) = never cc
    each (opt_yes d) (inl t) = each d (inl t)
    each (opt_yes d) (inr g) = never cc
    each (opt_no d) (inl t) = none_left
    each (opt_no d) (inr g) = never cc
    each (many_yes d d') (inl t) = each_trans (each d (inl t)) (each d' (inl t))
    each (many_yes d d') (inr g) = never cc
    each (many_no d) (inl t) = none_left
    each (many_no d) (inr g) = never cc
    each (then_is d) (inl t) = each d (inl t)
    each (then_is d) (inr g) = never cc
    each (seq_yes {p = p₁} {q = q₁} d d') (inl t) = each_trans (each d (inl (and_left (bare w p₁) (bare w q₁) t))) (each d' (inl (and_right (bare w p₁) (bare w q₁) t)))
    each {r = r} (seq_yes {p = p₁} {q = q₁} {r' = r₁} d d') (inr g) =
        let g₁ : p₁ ≡ eat S N = cc in
        let g₂ : q ≡ q₁ = cc in
        let i = eat_inv {S' = S} {N' = N} (subst (λ (z : Prog). Peg E z r (Res.yes r₁)) g₁ d) in
        (i.0, r₁, i.1, each d' (inl (subst (λ (z : Prog). T (bare w z)) g₂ bare-q)))
    each (alt_yes {p = p₁} {q = q₁} d) (inl t) = each d (inl (and_left (bare w p₁) (bare w q₁) t))
    each (alt_yes d) (inr g) = never cc
    each (alt_no {p = p₁} {q = q₁} d d') (inl t) = each d' (inl (and_right (bare w p₁) (bare w q₁) t))
    each (alt_no d d') (inr g) = never cc
    each (last_is d) (inl t) = each d (inl t)
    each (last_is d) (inr g) = never cc
    each recover_is (inl t) = none_left
    each recover_is (inr g) = never cc
    each {r = r} {r' = r'} (node_is {a = a} d) (inl t) = each_node a (others a) r r' d (each d (fit_of a (others a)))
    each (node_is d) (inr g) = never cc
    each {r = r} {r' = r'} (memo_is {a = a} d) (inl t) = each_node a (others a) r r' d (each d (fit_of a (others a)))
    each (memo_is d) (inr g) = never cc

-- the part of for_expr behind its keyword, and of with_expr
unfoldable pub for_rest : Prog → Prog
for_rest (p ⨟ q) = q
for_rest (eat S N) = unless []
for_rest (unless S) = unless []
for_rest (ifnext S p) = unless []
for_rest (opt p) = unless []
for_rest (many p) = unless []
for_rest (then p) = unless []
for_rest (p ⫽ q) = unless []
for_rest (last p) = unless []
for_rest (recover S) = unless []
for_rest (node a) = unless []
for_rest (memo a) = unless []

-- one law over the keyword and its production
only : (E : Bool) (w : ℕ) (k : Production) (S N : List ℕ) (q : Prog) → grammar E k ≡ eat S N ⨟ q → T (all (λ a. bare w (grammar E a) || is k a) productions) → Others E w k S N q
only E w k S N q e t a = go (each_but k (λ a. bare w (grammar E a)) t a)
  where
    go : T (bare w (grammar E a)) ⊎ (a ≡ k) → T (bare w (grammar E a)) ⊎ ((grammar E a ≡ eat S N ⨟ q) × (a ≡ k))
    go (inl x) = inl x
    go (inr x) = inr (ap (grammar E) x ∙ e, x)

pub only_for : (E : Bool) → Others E kinds.FOR_KW FOR_EXPR (kinds.FOR_KW ∷ []) (kinds.EXPRESSION ∷ []) (for_rest (grammar E FOR_EXPR))
unfolding productions grammar kind id_of for_rest
only_for E = only E kinds.FOR_KW FOR_EXPR (kinds.FOR_KW ∷ []) (kinds.EXPRESSION ∷ []) (for_rest (grammar E FOR_EXPR)) refl (either_way (λ E. T (all (λ a. bare kinds.FOR_KW (grammar E a) || is FOR_EXPR a) productions)) tt tt E)

pub bare_for : (E : Bool) → T (bare kinds.FOR_KW (for_rest (grammar E FOR_EXPR)))
unfolding grammar id_of for_rest
bare_for E = tt

pub only_with : (E : Bool) → Others E kinds.WITH_KW WITH_EXPR (kinds.WITH_KW ∷ []) (kinds.EXPRESSION ∷ []) (for_rest (grammar E WITH_EXPR))
unfolding productions grammar kind id_of for_rest
only_with E = only E kinds.WITH_KW WITH_EXPR (kinds.WITH_KW ∷ []) (kinds.EXPRESSION ∷ []) (for_rest (grammar E WITH_EXPR)) refl (either_way (λ E. T (all (λ a. bare kinds.WITH_KW (grammar E a) || is WITH_EXPR a) productions)) tt tt E)

pub bare_with : (E : Bool) → T (bare kinds.WITH_KW (for_rest (grammar E WITH_EXPR)))
unfolding grammar id_of for_rest
bare_with E = tt

-- Where a PEG over the productions took rows from r down to r', for_expr was accepted at each `for` among them; with_expr at each `with`.
pub every_for : (E : Bool) {p : Prog} {r r' : List ℕ} → Peg E p r (Res.yes r') → T (bare kinds.FOR_KW p) → Each E kinds.FOR_KW FOR_EXPR (kinds.FOR_KW ∷ []) (kinds.EXPRESSION ∷ []) (for_rest (grammar E FOR_EXPR)) r r'
every_for E d t = each E kinds.FOR_KW FOR_EXPR _ _ _ (only_for E) (bare_for E) d (inl t)

pub every_with : (E : Bool) {p : Prog} {r r' : List ℕ} → Peg E p r (Res.yes r') → T (bare kinds.WITH_KW p) → Each E kinds.WITH_KW WITH_EXPR (kinds.WITH_KW ∷ []) (kinds.EXPRESSION ∷ []) (for_rest (grammar E WITH_EXPR)) r r'
every_with E d t = each E kinds.WITH_KW WITH_EXPR _ _ _ (only_with E) (bare_with E) d (inl t)
