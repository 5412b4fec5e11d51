-- The library's look through a list is the definition's. Assumes nothing.
use Prim.Native.Nat.{ℕ}
use mathlib.Core.Path.{◌≡◌, refl, ap, ◌∙◌}
use mathlib.Core.List.{List, [], ◌∷◌}
use mathlib.Core.Bool.{Bool, true, false, ◌||◌}
use Rattle.std.specs.List.{list_any}
use Rattle.definition.specs.Answer.{any}

-- the library's look through a list is the definition's
pub any_of : (p : ℕ → Bool) (l : List ℕ) → list_any p l ≡ any p l
any_of p [] = refl
any_of p (x ∷ l) = ap (λ (b : Bool). p x || b) (any_of p l) ∙ go (p x)
  where
    go : (b : Bool) → (b || any p l) ≡ elim b [ true ↦ true | false ↦ any p l ]
    go true = refl
    go false = refl
