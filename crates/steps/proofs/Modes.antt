-- A mode and its number: what tests of a mode tell. Assumes nothing.
use Prim.Native.Nat.{ℕ, ◌≤◌, ◌<◌}
use mathlib.Core.Path.{◌≡◌, sym, ap}
use mathlib.Core.Bool.{true, false, not}
use borrow.Author.Tests.{leb-true, leb-false, eqb-true, eqb-false}
use lib.Dec.{leb, eqb}
use Rattle.shapes.specs.declared.mode.Mode.{Mode}
use Rattle.shapes.specs.Mode.{number}
use Rattle.notes.proofs.Core.{off, on}

abbrev mode_at : ℕ → Mode
mode_at n = record { number = n }

pub same_mode : {m k : Mode} → number m ≡ number k → m ≡ k
same_mode e = ap mode_at e

module _ (m : Mode) where
  -- `!= Mode::FINE` and `== Mode::FINE`
  pub not_fine : true ≡ not (eqb (number m) 0) → number m ≡ 0 → ⊥
  not_fine e = eqb-false (number m) 0 (off (eqb (number m) 0) e)

  pub fine : false ≡ not (eqb (number m) 0) → number m ≡ 0
  fine e = eqb-true (number m) 0 (on (eqb (number m) 0) e)

  pub is_fine : true ≡ eqb (number m) 0 → number m ≡ 0
  is_fine e = eqb-true (number m) 0 (sym e)

  pub isnt_fine : false ≡ eqb (number m) 0 → number m ≡ 0 → ⊥
  isnt_fine e = eqb-false (number m) 0 (sym e)

  -- `!= Mode::FAILED` and `== Mode::FAILED`
  pub not_failed : true ≡ not (eqb (number m) 1) → number m ≡ 1 → ⊥
  not_failed e = eqb-false (number m) 1 (off (eqb (number m) 1) e)

  pub failed : false ≡ not (eqb (number m) 1) → number m ≡ 1
  failed e = eqb-true (number m) 1 (on (eqb (number m) 1) e)

  pub is_failed : true ≡ eqb (number m) 1 → number m ≡ 1
  is_failed e = eqb-true (number m) 1 (sym e)

  pub isnt_failed : false ≡ eqb (number m) 1 → number m ≡ 1 → ⊥
  isnt_failed e = eqb-false (number m) 1 (sym e)

  -- `is_stopped`
  pub stopped : true ≡ leb 2 (number m) → 2 ≤ number m
  stopped e = leb-true 2 (number m) (sym e)

  pub not_stopped : false ≡ leb 2 (number m) → number m < 2
  not_stopped e = leb-false 2 (number m) (sym e)
