-- The one place that goes through the productions: a test that each passes, computed, holds of any; and a kind belongs to one production.
use Prim.Native.Nat.{ℕ, zero, suc, ◌-◌}
use mathlib.Core.Path.{◌≡◌, refl, ap, sym, ◌∙◌, subst}
use mathlib.Core.Logic.{◌⊎◌, inl, inr}
use mathlib.Core.List.{List, [], ◌∷◌}
use mathlib.Core.Bool.{Bool, true, false, ◌&&◌, ◌||◌, not}
use lib.Dec.{T, eqb, eqb→eq}
use lib.ListN.{get_or}
use native.Mathlib.Omega.{arith}
use Rattle.kinds.specs.Kinds as kinds
use Rattle.definition.specs.Prog.{Production, RULE_DECL, RULE_MODS, RULE_TAGS, META_BLK, META_DEF, PATTERNS_BLK, PATTERN_DEF, PATTERN_MODS, PATTERN_MOD, HEX_PATTERN, HEX_SUB_PATTERN, HEX_ALTERNATIVE, HEX_JUMP, CONDITION_BLK, BOOLEAN_EXPR, BOOLEAN_TERM, EXPR, FUNC_CALL, RANGE, TERM, PRIMARY_EXPR, FOR_EXPR, OF_EXPR, WITH_EXPR, WITH_DECLS, WITH_DECL, QUANTIFIER, ITERABLE, BOOLEAN_EXPR_TUPLE, EXPR_TUPLE, PATTERN_IDENT_TUPLE, IMPORT_STMT, INCLUDE_STMT}
unfoldable pub use Rattle.definition.specs.Prog.{productions}
use Rattle.definition.specs.Grammar.{kind}

-- what cannot be: `never cc`, where two different constructors are said to be one
pub never : {A : Type 0} → ◌≡◌ {A = ℕ} 0 1 → A
never e = absurd (omega (arith, e))

pub and_left : (a b : Bool) → T (a && b) → T a
and_left true b t = tt
and_left false b t = absurd t

pub and_right : (a b : Bool) → T (a && b) → T b
and_right true b t = t
and_right false b t = absurd t

pub both : (a b : Bool) → T a → T b → T (a && b)
both true b s t = t
both false b s t = s

pub or_cases : (a b : Bool) → T (a || b) → T a ⊎ T b
or_cases true b t = inl tt
or_cases false b t = inr t

pub clash : {A : Type 0} (b : Bool) → T (not b) → T b → A
clash true n t = absurd n
clash false n t = absurd t

-- what holds where entrypoint is allowed and where it is not holds of both, E which of the two
pub either_way : (P : Bool → Type 0) → P true → P false → (E : Bool) → P E
either_way P t f true = t
either_way P t f false = f

unkind : ℕ → Production
unkind n = get_or productions (n - kinds.RULE_DECL) RULE_DECL

unkind_kind : (a : Production) → unkind (kind a) ≡ a
unfolding productions unkind kind
unkind_kind RULE_DECL = refl
unkind_kind RULE_MODS = refl
unkind_kind RULE_TAGS = refl
unkind_kind META_BLK = refl
unkind_kind META_DEF = refl
unkind_kind PATTERNS_BLK = refl
unkind_kind PATTERN_DEF = refl
unkind_kind PATTERN_MODS = refl
unkind_kind PATTERN_MOD = refl
unkind_kind HEX_PATTERN = refl
unkind_kind HEX_SUB_PATTERN = refl
unkind_kind HEX_ALTERNATIVE = refl
unkind_kind HEX_JUMP = refl
unkind_kind CONDITION_BLK = refl
unkind_kind BOOLEAN_EXPR = refl
unkind_kind BOOLEAN_TERM = refl
unkind_kind EXPR = refl
unkind_kind FUNC_CALL = refl
unkind_kind RANGE = refl
unkind_kind TERM = refl
unkind_kind PRIMARY_EXPR = refl
unkind_kind FOR_EXPR = refl
unkind_kind OF_EXPR = refl
unkind_kind WITH_EXPR = refl
unkind_kind WITH_DECLS = refl
unkind_kind WITH_DECL = refl
unkind_kind QUANTIFIER = refl
unkind_kind ITERABLE = refl
unkind_kind BOOLEAN_EXPR_TUPLE = refl
unkind_kind EXPR_TUPLE = refl
unkind_kind PATTERN_IDENT_TUPLE = refl
unkind_kind IMPORT_STMT = refl
unkind_kind INCLUDE_STMT = refl

pub kind_inj : (a b : Production) → kind a ≡ kind b → a ≡ b
kind_inj a b e = sym (unkind_kind a) ∙ ap unkind e ∙ unkind_kind b

abbrev pub all : (Production → Bool) → List Production → Bool
all c [] = true
all c (a ∷ l) = c a && all c l

all_at : (c : Production → Bool) (l : List Production) (n : ℕ) (d : Production) → T (all c l) → T (c d) → T (c (get_or l n d))
all_at c [] n d t e = e
all_at c (a ∷ l) zero d t e = and_left (c a) (all c l) t
all_at c (a ∷ l) (suc n) d t e = all_at c l n d (and_right (c a) (all c l) t) e

-- a test that all productions pass
pub each : (c : Production → Bool) → T (all c productions) → (a : Production) → T (c a)
unfolding productions unkind
each c t a = subst (λ (b : Production). T (c b)) (unkind_kind a) (all_at c productions (kind a - kinds.RULE_DECL) RULE_DECL t (and_left (c RULE_DECL) _ t))

-- what holds of all that pass the test p
pub each_if : (p c : Production → Bool) → T (all (λ a. not (p a) || c a) productions) → (a : Production) → T (p a) → T (c a)
each_if p c t a = go (p a) (each (λ a. not (p a) || c a) t a)
  where
    go : (b : Bool) → T (not b || c a) → T b → T (c a)
    go true x y = x
    go false x y = absurd y

abbrev pub is : Production → Production → Bool
is k a = eqb (kind a) (kind k)

-- what holds of all but one
pub each_but : (k : Production) (c : Production → Bool) → T (all (λ a. c a || is k a) productions) → (a : Production) → T (c a) ⊎ (a ≡ k)
each_but k c t a = go (or_cases (c a) (is k a) (each (λ a. c a || is k a) t a))
  where
    go : T (c a) ⊎ T (is k a) → T (c a) ⊎ (a ≡ k)
    go (inl x) = inl x
    go (inr x) = inr (kind_inj a k (eqb→eq (kind a) (kind k) x))
