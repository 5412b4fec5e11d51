-- Tests that antt computes over all numbers below a bound, and what a test that holds says. Assumes nothing.
use Prim.Native.Nat.{ℕ, zero, suc, ◌<◌}
use mathlib.Core.Path.{◌≡◌, refl, sym, ap, ◌∙◌}
use mathlib.Core.Bool.{Bool, true, false, not}
use native.Mathlib.Omega.{arith}
use native.Mathlib.Decide.{ℕ_discrete}
use borrow.Author.Tests.{not-true}

abbrev pub both : Bool → Bool → Bool
both true b = b
both false b = false

pub both_left : (a b : Bool) → both a b ≡ true → a ≡ true
both_left true b t = refl
both_left false b t = t

pub both_right : (a b : Bool) → both a b ≡ true → b ≡ true
both_right true b t = t
both_right false b t = cc

-- the test holds of every number below n
abbrev pub all : (ℕ → Bool) → ℕ → Bool
all p zero = true
all p (suc n) = both (p n) (all p n)

pub all_sound : (p : ℕ → Bool) (n : ℕ) → all p n ≡ true → (i : ℕ) → i < n → p i ≡ true
all_sound p zero t i h = absurd (omega arith)
all_sound p (suc n) t i h = go (ℕ_discrete i n) (all_sound p n (both_right (p n) (all p n) t) i)
  where
    go : Dec (i ≡ n) → (i < n → p i ≡ true) → p i ≡ true
    go (yes e) rest = ap p e ∙ both_left (p n) (all p n) t
    go (no e) rest = rest (omega (arith, e))

-- two tests have the same answer
abbrev pub alike : Bool → Bool → Bool
alike true b = b
alike false b = not b

pub alike_sound : (a b : Bool) → alike a b ≡ true → a ≡ b
alike_sound true b t = sym t
alike_sound false b t = sym (not-true b t)
