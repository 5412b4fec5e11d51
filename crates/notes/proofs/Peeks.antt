-- Looking past trivia. Assumes nothing.
use Prim.Native.Nat.{ℕ, suc, ◌+◌, ◌≤◌, ◌<◌}
use mathlib.Core.Path.{◌≡◌, refl, sym, ap, ◌∙◌}
use mathlib.Core.List.{List, [], ◌∷◌}
use mathlib.Core.Bool.{Bool, true, false}
use native.Mathlib.Nat.{le_refl}
use native.Mathlib.Omega.{arith}
use native.Mathlib.Numerals.{add-one}
use lib.ListN.{length, get_or, drop, drop_of_length-le, length-drop}
use lib.Seq.{drop-cons}
use Rattle.kinds.specs.Sets.{trivial}
use Rattle.definition.specs.Run as P
use Rattle.notes.specs.Did.{Peeked}

-- one row of trivia is passed over, and no other row
pub skip_yes : (i : ℕ) (is : List ℕ) → trivial i ≡ true → P.skip (i ∷ is) ≡ P.skip is
skip_yes i is t = ap (λ (b : Bool). elim b [ true ↦ P.skip is | false ↦ i ∷ is ]) t

pub skip_no : (i : ℕ) (is : List ℕ) → trivial i ≡ false → P.skip (i ∷ is) ≡ i ∷ is
skip_no i is t = ap (λ (b : Bool). elim b [ true ↦ P.skip is | false ↦ i ∷ is ]) t

-- from p up to before r are trivia
pub record Peeking (ids : List ℕ) (p r : ℕ) : Type 0 where
  pub ahead : p ≤ r
  pub within : r ≤ length ids
  pub rest : P.skip (drop r ids) ≡ P.skip (drop p ids)

pub peeking : {ids : List ℕ} {p : ℕ} → p ≤ length ids → Peeking ids p p
peeking h = record { ahead = le_refl _; within = h; rest = refl }

module _ {ids : List ℕ} {p r : ℕ} (g : Peeking ids p r) where
  pub peeks_on : r < length ids → trivial (get_or ids r 0) ≡ true → Peeking ids p (r + 1)
  peeks_on h t = record { ahead = omega (arith, g.ahead); within = omega arith; rest = simp add-one (sym (skip_yes (get_or ids r 0) (drop (suc r) ids) t) ∙ ap P.skip (sym (drop-cons ids r 0 h)) ∙ g.rest) }

  pub peeks_stop : r < length ids → trivial (get_or ids r 0) ≡ false → Peeked ids p r
  peeks_stop h t = record { ahead = g.ahead; within = g.within; rest = drop-cons ids r 0 h ∙ sym (skip_no (get_or ids r 0) (drop (suc r) ids) t) ∙ ap P.skip (sym (drop-cons ids r 0 h)) ∙ g.rest }

  pub peeks_end : length ids ≤ r → Peeked ids p r
  peeks_end h = record { ahead = g.ahead; within = g.within; rest = drop_of_length-le ids h ∙ ap P.skip (sym (drop_of_length-le ids h)) ∙ g.rest }

skip_short : (l : List ℕ) → length (P.skip l) ≤ length l
skip_short [] = le_refl _
skip_short (i ∷ is) = go (trivial i) (skip_short is)
  where
    go : (b : Bool) → length (P.skip is) ≤ length is → length {A = ℕ} (elim b as (λ _. List ℕ) [ true ↦ P.skip is | false ↦ i ∷ is ]) ≤ suc (length is)
    go true h = omega arith
    go false h = le_refl _

-- one row on, where it is known what stands past the trivia behind it
pub peeks_shift : {ids : List ℕ} {p r : ℕ} → Peeking ids p r → p < r → Peeking ids (p + 1) r
peeks_shift {ids} {p} {r} g h = record { ahead = omega arith; within = g.within; rest = g.rest ∙ go (trivial (get_or ids p 0)) refl }
  where
    i : ℕ
    i = get_or ids p 0

    is : List ℕ
    is = drop (suc p) ids

    cons : drop p ids ≡ i ∷ is
    cons = drop-cons ids p 0 (omega (arith, g.within, h))

    go : (b : Bool) → trivial i ≡ b → P.skip (drop p ids) ≡ P.skip (drop (p + 1) ids)
    go true e = ap P.skip cons ∙ skip_yes i is e ∙ ap (λ (n : ℕ). P.skip (drop n ids)) (sym (add-one p))
    go false e = absurd (omega (arith, skip_short (drop r ids), length-drop r ids, ap length (g.rest ∙ ap P.skip cons ∙ skip_no i is e), length-drop (suc p) ids, h, g.within))

pub peeks_on_behind : {ids : List ℕ} {p : ℕ} → p < length ids → Peeking ids (p + 1) (p + 1)
peeks_on_behind h = peeking (omega arith)
