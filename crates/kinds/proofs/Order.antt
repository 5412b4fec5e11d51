-- The kinds of a set, and a number that no set has. Assumes nothing.
use Prim.Native.Nat.{ℕ, ◌≤◌}
use mathlib.Core.Path.{◌≡◌, sym}
use mathlib.Core.List.{List, [], map}
use Rattle.std.proofs.Common.{Bor}
use lib.ListN.{get_or, get_or-map, get_or-eq_default}
use Rattle.kinds.specs.Sets.{sets, set_of}

-- a number that no set has
pub set_none : (s : ℕ) → 56 ≤ s → set_of s ≡ []
set_none s h = get_or-eq_default sets [] h

-- what one of a table's slices holds
pub held : (xs : List (Bor (List ℕ))) (k : ℕ) (d : Bor (List ℕ)) → (get_or xs k d).now ≡ get_or (map (λ (b : Bor (List ℕ)). b.now) xs) k d.now
held xs k d = sym (get_or-map (λ (b : Bor (List ℕ)). b.now) xs k d)
