-- A list of distinct numbers below n has at most n elements. Assumes nothing.
use Prim.Native.Nat.{ℕ, zero, suc, ◌≤◌, ◌<◌}
use mathlib.Core.Path.{◌≡◌, refl, sym, ap, ◌∙◌}
use mathlib.Core.List.{List, [], ◌∷◌, ◌++◌}
use mathlib.Core.Bool.{Bool, true, false}
use native.Mathlib.Omega.{arith}
use borrow.Author.Tests.{eqb-true, eqb-false, ne_eqb}
use lib.Dec.{eqb}
use lib.ListN.{length}
use Rattle.definition.specs.Run as P
use Rattle.notes.specs.Did.{Below, Distinct}

-- a number that a list does not have is neither its first nor in the rest
pub has_not : (x y : ℕ) (l : List ℕ) → P.has (y ∷ l) x ≡ false → (x ≡ y → ⊥) × (P.has l x ≡ false)
has_not x y l = go (eqb x y) refl
  where
    go : (b : Bool) → eqb x y ≡ b → elim b [ true ↦ true | false ↦ P.has l x ] ≡ false → (x ≡ y → ⊥) × (P.has l x ≡ false)
    go true q e = let z : ◌≡◌ {A = ℕ} 0 1 = cc in absurd (omega arith)
    go false q e = (eqb-false x y q, e)

pub has_none : (x y : ℕ) (l : List ℕ) → (x ≡ y → ⊥) → P.has l x ≡ false → P.has (y ∷ l) x ≡ false
has_none x y l n e = ap (λ (b : Bool). elim b [ true ↦ true | false ↦ P.has l x ]) (ne_eqb x y n) ∙ e

module _ (m : ℕ) where
  -- the list without the first m in it
  abbrev without : List ℕ → List ℕ
  without [] = []
  without (x ∷ l) = elim (eqb m x) [ true ↦ l | false ↦ x ∷ without l ]

  has_without : (y : ℕ) (l : List ℕ) → P.has l y ≡ false → P.has (without l) y ≡ false
  has_without y [] e = e
  has_without y (x ∷ l) e = go (eqb m x) (has_without y l (has_not y x l e).1)
    where
      go : (b : Bool) → P.has (without l) y ≡ false → P.has (elim b [ true ↦ l | false ↦ x ∷ without l ]) y ≡ false
      go true ih = (has_not y x l e).1
      go false ih = has_none y x (without l) (has_not y x l e).0 ih

  lower : (l : List ℕ) → P.has l m ≡ false → Below (suc m) l → Below m l
  lower [] e b = b
  lower (x ∷ l) e b = (omega (arith, b.0, (has_not m x l e).0), lower l (has_not m x l e).1 b.1)

  abbrev Less : List ℕ → List ℕ → Type 0
  Less l k = Distinct k × Below m k × (length l ≤ suc (length k))

  less : (l : List ℕ) → Distinct l → Below (suc m) l → Less l (without l)
  less [] d b = (d, b, omega arith)
  less (x ∷ l) d b = go (eqb m x) refl (less l d.1 b.1)
    where
      go : (c : Bool) → eqb m x ≡ c → Less l (without l) → Less (x ∷ l) (elim c [ true ↦ l | false ↦ x ∷ without l ])
      go true q ih = (d.1, lower l (ap (P.has l) (eqb-true m x q) ∙ d.0) b.1, omega arith)
      go false q ih = ((has_without x l d.0, ih.0), (omega (arith, b.0, eqb-false m x q), ih.1), omega (arith, ih.2))

pub few : (n : ℕ) (l : List ℕ) → Distinct l → Below n l → length l ≤ n
few zero [] d b = omega arith
few zero (x ∷ l) d b = absurd (omega (arith, b.0))
few (suc n) l d b = let h = less n l d b in omega (arith, few n (without n l) h.0 h.1, h.2)

-- one more, that was not there
pub distinct_more : (x : ℕ) (l : List ℕ) → Distinct l → P.has l x ≡ false → Distinct (l ++ (x ∷ []))
distinct_more x [] d e = (e, d)
distinct_more x (y ∷ l) d e =
    (has_more y l d.0 (λ q. (has_not x y l e).0 (sym q)), distinct_more x l d.1 (has_not x y l e).1)
  where
    has_more : (y : ℕ) (l : List ℕ) → P.has l y ≡ false → (y ≡ x → ⊥) → P.has (l ++ (x ∷ [])) y ≡ false
    has_more y [] e n = has_none y x [] n e
    has_more y (z ∷ l) e n = has_none y z (l ++ (x ∷ [])) (has_not y z l e).0 (has_more y l (has_not y z l e).1 n)

pub below_more : (n x : ℕ) (l : List ℕ) → Below n l → x < n → Below n (l ++ (x ∷ []))
below_more n x [] b h = (h, b)
below_more n x (y ∷ l) b h = (b.0, below_more n x l b.1 h)
