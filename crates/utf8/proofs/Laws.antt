-- The table's rule, by one computed test over an interval of first bytes; what one byte does to the ranges due; and the law of the loop.
use Prim.Native.Nat.{ℕ, suc, ◌≤◌, ◌<◌}
use native.Mathlib.Omega.{arith}
use mathlib.Core.Path.{◌≡◌, refl, sym, ◌∙◌}
use mathlib.Core.Logic.{◌⊎◌, inl, inr, ⊎_elim}
use mathlib.Core.List.{List, [], ◌∷◌}
use mathlib.Core.Bool.{Bool, true, false, ◌&&◌, ◌||◌}
use lib.Dec.{T, leb, leb→le}
use borrow.Author.Tests.{le-leb, lt-leb, leb-true}
use Rattle.utf8.specs.Utf8.{Range, begun}

both : (a b : Bool) → T (a && b) → T a × T b
both true b t = (tt, t)
both false b t = absurd t

-- nothing changes at k among the bytes from lo up to hi, hi left out
abbrev pub clear : ℕ → ℕ → ℕ → Bool
clear lo hi k = leb k lo || leb hi k

abbrev pub steady : ℕ → ℕ → List (Range × List Range) → Bool
steady lo hi [] = true
steady lo hi (c ∷ cs) = clear lo hi c.0.0 && (clear lo hi (suc c.0.1) && steady lo hi cs)

-- where no row of the table begins or ends among those bytes, all of them begin alike
module _ {lo hi b : ℕ} (from : lo ≤ b) (to : b < hi) where
  apart : (k : ℕ) (t : Bool) → leb k lo ≡ t → T (t || leb hi k) → (k ≤ lo) ⊎ (hi ≤ k)
  apart k true e h = inl (leb-true k lo e)
  apart k false e h = inr (leb→le hi k h)

  low : (k : ℕ) → T (clear lo hi k) → leb k lo ≡ leb k b
  low k h =
      ⊎_elim
      (λ p. le-leb k lo p ∙ sym (le-leb k b (omega arith)))
      (λ p. lt-leb k lo (omega arith) ∙ sym (lt-leb k b (omega arith)))
      (apart k _ refl h)

  high : (k : ℕ) → T (clear lo hi (suc k)) → leb lo k ≡ leb b k
  high k h =
      ⊎_elim
      (λ p. lt-leb lo k p ∙ sym (lt-leb b k (omega arith)))
      (λ p. le-leb lo k (omega arith) ∙ sym (le-leb b k (omega arith)))
      (apart (suc k) _ refl h)

  pub alike : (cs : List (Range × List Range)) → T (steady lo hi cs) → begun cs lo ≡ begun cs b
  alike [] t = refl
  alike (c ∷ cs) t =
      let p = both (clear lo hi c.0.0) (clear lo hi (suc c.0.1) && steady lo hi cs) t in
      let q = both (clear lo hi (suc c.0.1)) (steady lo hi cs) p.1 in
      rw (low c.0.0 p.0, high c.0.1 q.0, alike cs q.1)
