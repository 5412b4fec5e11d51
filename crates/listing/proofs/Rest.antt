-- The rest of a list from a place on, as the code lends it. Assumes nothing.
use Prim.Native.Nat.{ℕ, ◌-◌}
use mathlib.Core.Path.{◌≡◌}
use mathlib.Core.List.{List}
use native.Mathlib.Omega.{arith}
use lib.ListN.{length, take, drop, length-drop}
use lib.Seq.{take_all}

abbrev pub rest : List ℕ → ℕ → List ℕ
rest l at = take (length l - at) (drop at l)

pub rest_is : (l : List ℕ) (at : ℕ) → rest l at ≡ drop at l
rest_is l at = take_all (length l - at) (drop at l) (omega (arith, length-drop at l))
