-- What ranges give is below a number where all their classes are.
use Prim.Native.Nat.{ℕ, ◌<◌}
use mathlib.Core.List.{List, [], ◌∷◌}
use mathlib.Core.Bool.{Bool, true, false, cond, ◌&&◌}
use native.Mathlib.Omega.{arith}
use lib.Dec.{T, leb, ltb, ltb→lt}
use Rattle.tokens.specs.Classes.{class_in, wides, wide_class}
use Rattle.tokens.proofs.Equal.{both, left, right}

-- every class is below n
abbrev pub small : ℕ → List ℕ → Bool
small n [] = true
small n (lo ∷ []) = true
small n (lo ∷ hi ∷ []) = true
small n (lo ∷ hi ∷ c ∷ rows) = both (ltb c n) (small n rows)

pub below : (n : ℕ) (xs : List ℕ) (x : ℕ) → 0 < n → T (small n xs) → class_in xs x < n
below n [] x h t = h
below n (lo ∷ []) x h t = h
below n (lo ∷ hi ∷ []) x h t = h
below n (lo ∷ hi ∷ c ∷ rows) x h t =
    pick (leb lo x && leb x hi) (ltb→lt c n (left (ltb c n) (small n rows) t)) (below n rows x h (right (ltb c n) (small n rows) t))
  where
    pick : (b : Bool) → c < n → class_in rows x < n → cond b c (class_in rows x) < n
    pick true p q = p
    pick false p q = q

pub wide_small : (x : ℕ) → wide_class x < 45
unfolding wides wide_class
wide_small x = below 45 wides x (omega arith) tt
