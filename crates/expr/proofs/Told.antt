-- A set by another name, and the items of a repetition. Assumes nothing.
use Prim.Native.Nat.{ℕ}
use mathlib.Core.Path.{◌≡◌, sym, subst}
use mathlib.Core.List.{List}
use mathlib.Core.Bool.{Bool, true}
use lib.Dec.{T}
use Rattle.definition.specs.Run as P
use Rattle.definition.specs.Render.{Source}
use Rattle.notes.specs.Whole.{Whole}
use Rattle.notes.specs.Means.{Bufs}
use Rattle.notes.specs.Did.{Did}
use Rattle.notes.specs.declared.reading.RowList.{RowList}
use Rattle.notes.specs.declared.reading.Lent.{Lent}
use Rattle.steps.specs.declared.state.State.{State}
use Rattle.steps.specs.Steps.{Eats}
use Rattle.parts.specs.Reads.{reads}
use Rattle.parts.proofs.Exec.{guarded}
use Rattle.expr.specs.Parts.{item_of}
use Rattle.expr.specs.declared.Item.{Item}
use Rattle.expr.specs.declared.Item.TheVariants.{Ident, Term, Expr, PrimaryExpr, BooleanTerm, BooleanExpr}

-- a row of a set by another name of the set
pub as_set : {S S' : List ℕ} (N : List ℕ) → S ≡ S' → {rows : RowList} {s r : State} {l m : Lent} → Eats (P.eats S N) rows s l r m → Eats (P.eats S' N) rows s l r m
as_set N e {rows} {s} {r} {l} {m} y = subst (λ (S : List ℕ). Eats (P.eats S N) rows s l r m) e y

-- an item by which it is
pub told : (E : Bool) (d : ℕ) {x : Source} {s r : Whole} {b b' : Bufs} {i v : Item} → i ≡ v → Did (reads E d true (item_of v)) x s r b b' → Did (reads E d true (item_of i)) x s r b b'
told E d {x} {s} {r} {b} {b'} e y = subst (λ (z : Item). Did (reads E d true (item_of z)) x s r b b') (sym e) y

-- none of them does anything but in good order
pub item_guarded : (i : Item) → T (guarded (item_of i))
item_guarded Ident = tt
item_guarded Term = tt
item_guarded Expr = tt
item_guarded PrimaryExpr = tt
item_guarded BooleanTerm = tt
item_guarded BooleanExpr = tt
