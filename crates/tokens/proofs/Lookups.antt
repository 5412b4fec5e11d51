-- The code's tables are the definitions' lists.
use Prim.Native.Nat.{ℕ, ◌+◌, ◌-◌, ◌*◌}
use mathlib.Core.Path.{◌≡◌, refl, sym, ap, ap₂, ◌∙◌}
use mathlib.Core.List.{List, [], ◌∷◌}
use mathlib.Core.Bool.{Bool, true, false, ◌||◌}
use native.Mathlib.Omega.{arith}
use lib.Dec.{eqb}
use borrow.Author.Tests.{eq-eqb, ne_eqb, eqb-true, eqb-false}
use Rattle.std.specs.Prelude.{nat_eq, None, Some}
use Rattle.std.specs.List.{list_any}
use Rattle.tokens.specs.Decoded.{flat}
use Rattle.tokens.specs.Expr.{has}
use Rattle.tokens.specs.States.{ended}
use lib.ListN.{get_or, take, drop}
use Rattle.tokens.specs.Classes.{class_in, wides, wide_class}
use Rattle.tokens.specs.Table.{class_table, next_table, end_table, key_table, pairs}
use Rattle.tokens.specs.declared.table.TheConstants.{CLASSES, NEXT, FINALS, WIDES, KEYS, PAIRS}

pub classes : CLASSES ≡ class_table
unfolding class_table
classes = refl

pub nexts : NEXT ≡ next_table
unfolding next_table
nexts = refl

pub ends : FINALS ≡ end_table
unfolding end_table
ends = refl

pub keys : KEYS ≡ key_table
unfolding key_table
keys = refl

pub listed : PAIRS ≡ pairs
unfolding pairs
listed = refl

pub ranges : flat WIDES ≡ wides
unfolding wides
ranges = refl

pub wide_ranges : (x : ℕ) → class_in (flat WIDES) x ≡ wide_class x
unfolding wide_class
wide_ranges x = ap (λ t. class_in t x) ranges

-- a number that is listed
any_has : (xs : List ℕ) (c : ℕ) → list_any (λ y. nat_eq y c) xs ≡ has xs c
any_has [] c = refl
any_has (x ∷ xs) c = ap₂ (λ p q. p || q) (turned x c) (any_has xs c)
  where
    turned : (x c : ℕ) → nat_eq x c ≡ eqb c x
    turned x c = go (eqb c x) refl
      where
        go : (b : Bool) → eqb c x ≡ b → nat_eq x c ≡ b
        go true e = rw (sym (eqb-true c x e)) (eq-eqb c c refl)
        go false e = ne_eqb x c (λ f. eqb-false c x e (sym f))

pub any_listed : (c : ℕ) → list_any (λ y. nat_eq y c) PAIRS ≡ has pairs c
any_listed c = any_has PAIRS c ∙ ap (λ t. has t c) listed

-- the id that a state ends
pub end_none : (x y : ℕ) → x ≡ y → x ≡ 255 → None ≡ ended y
end_none x y e f = rw (eq-eqb y 255 (sym e ∙ f))

pub end_some : (x y : ℕ) → x ≡ y → (x ≡ 255 → ⊥) → Some x ≡ ended y
end_some x y e f = rw (e, ne_eqb y 255 (λ z. f (e ∙ z)))

-- a keyword's letters
pub word : (j n : ℕ) → n ≡ get_or key_table (j * 12) 0
    → take (j * 12 + 1 + n - (j * 12 + 1)) (drop (j * 12 + 1) KEYS) ≡ take (get_or key_table (j * 12) 0) (drop (j * 12 + 1) key_table)
word j n e =
    let p : j * 12 + 1 + n - (j * 12 + 1) ≡ get_or key_table (j * 12) 0 = omega (arith, e) in
    ap₂ (λ k t. take k (drop (j * 12 + 1) t)) p keys
