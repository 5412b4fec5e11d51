-- Tests.
use Prim.Native.Nat.{ℕ}
use mathlib.Core.Path.{◌≡◌, refl}
use mathlib.Core.Bool.{Bool, true, false, ◌&&◌}
use lib.Dec.{eqb}
use borrow.Author.Tests.{eqb-true}
use native.Mathlib.Omega.{arith}
use Rattle.kinds.specs.Kinds as k
use Rattle.shapes.specs.Shapes.{Entry}
use Rattle.definition.specs.Merge.{error_of}

pub never : {A : Type 0} → false ≡ true → A
never h = let z : ◌≡◌ {A = ℕ} 0 1 = cc in absurd (omega arith)

pub and_left : (a b : Bool) → a && b ≡ true → a ≡ true
and_left true b h = refl
and_left false b h = h

pub and_right : (a b : Bool) → a && b ≡ true → b ≡ true
and_right true b h = h
and_right false b h = never h

pub sort_of : (s : ℕ) (e : Entry) → error_of s e ≡ true → e.0 ≡ s
sort_of s e h = eqb-true e.0 s (and_left (eqb e.0 s) (eqb e.1 k.ERROR) h)

pub kind_of : (s : ℕ) (e : Entry) → error_of s e ≡ true → e.1 ≡ k.ERROR
kind_of s e h = eqb-true e.1 k.ERROR (and_right (eqb e.0 s) (eqb e.1 k.ERROR) h)
