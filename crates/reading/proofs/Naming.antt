-- 18 behind the refusals before it, from what the code knows. Assumes nothing.
use Prim.Native.Nat.{ℕ, zero, suc}
use mathlib.Core.Path.{◌≡◌, refl, sym, ap, ◌∙◌}
use mathlib.Core.List.{List, [], ◌∷◌, ◌++◌}
use mathlib.Core.Bool.{Bool, true, false}
use Rattle.shapes.specs.Refusal as Refusal
use Rattle.definition.specs.Answer.{Desk, grounds, first_of, refusal}
use Rattle.reading.specs.Reading.{lent, unknown_to}

-- no ground has number 0
abbrev Positive : List (Bool × ℕ) → Type 0
Positive [] = Unit
Positive ((b, zero) ∷ cs) = ⊥
Positive ((b, suc n) ∷ cs) = Positive cs

last_ground : (cs : List (Bool × ℕ)) (n : ℕ) → Positive cs → first_of (cs ++ ((true, n) ∷ [])) ≡ elim (first_of cs) [ zero ↦ n | suc m ↦ suc m ]
last_ground [] n p = refl
last_ground ((b, zero) ∷ cs) n p = absurd p
last_ground ((true, suc m) ∷ cs) n p = refl
last_ground ((false, suc m) ∷ cs) n p = last_ground cs n p

module _ (d : Desk) {n : ℕ} (e : n ≡ refusal d) where
  last : first_of (grounds d ++ ((true, Refusal.EDITION) ∷ [])) ≡ elim (refusal d) [ zero ↦ Refusal.EDITION | suc m ↦ suc m ]
  last = last_ground (grounds d) Refusal.EDITION tt

  pub refused_before : (n ≡ 0 → ⊥) → lent n d ≡ unknown_to d
  refused_before h = ap (λ (m : ℕ). lent m d) (go (refusal d) e ∙ sym last)
    where
      go : (m : ℕ) → n ≡ m → n ≡ elim m [ zero ↦ Refusal.EDITION | suc k ↦ suc k ]
      go zero i = absurd (h i)
      go (suc k) i = i

  pub refused_last : n ≡ 0 → lent Refusal.EDITION d ≡ unknown_to d
  refused_last h = ap (λ (m : ℕ). lent m d) (ap (λ (m : ℕ). elim m [ zero ↦ Refusal.EDITION | suc k ↦ suc k ]) (sym h ∙ e) ∙ sym last)
