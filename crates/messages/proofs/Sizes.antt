-- A record has as many numbers here as crate shapes counts.
use Prim.Native.Nat.{ℕ, suc, ◌+◌}
use mathlib.Core.Path.{◌≡◌}
use mathlib.Core.Bool.{Bool, true, false, cond}
use mathlib.Core.List.{List}
use native.Mathlib.Omega.{arith}
use lib.Dec.{eqb}
use Rattle.shapes.specs.Shapes.{HEAD, record_size}
use Rattle.messages.specs.Record.{form, count, places, size}

pub size_shapes : (r : List ℕ) → size r ≡ record_size (form r) (count r)
size_shapes r = go (eqb (form r) 9) (count r)
  where
    go : (t : Bool) (n : ℕ) → HEAD + n + cond t places 0 ≡ elim t as (λ _. ℕ) [ true ↦ suc n | false ↦ n ] + HEAD
    go true n = omega arith
    go false n = omega arith
