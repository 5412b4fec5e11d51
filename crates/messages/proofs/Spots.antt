-- Lines and columns, a byte further. Assumes nothing.
use Prim.Native.Nat.{ℕ, suc, ◌+◌, ◌≤◌, ◌<◌, min}
use mathlib.Core.Path.{◌≡◌, refl, sym, ap, ◌∙◌}
use mathlib.Core.List.{List, [], ◌∷◌, ◌++◌}
use mathlib.Core.Bool.{Bool, cond}
use native.Mathlib.Numerals.{add-one}
use native.Mathlib.Omega.{arith}
use borrow.Author.Tests.{eq-eqb, ne_eqb}
use lib.ListN.{length, get_or, take}
use lib.Seq.{take-suc, take_all}
use Rattle.std.proofs.lemmas.List.{take_min}
use Rattle.messages.specs.Spot.{past, behind, spot_of}
use Rattle.messages.specs.declared.spot.Spot.{Spot}

behind_one : (p : Spot) (l : List ℕ) (b : ℕ) → behind p (l ++ (b ∷ [])) ≡ past (behind p l) b
behind_one p [] b = refl
behind_one p (c ∷ l) b = behind_one (past p c) l b

abbrev pub at_spot : ℕ → ℕ → Spot
at_spot line column = record { line = line; column = column }

-- i bytes are past; neither number is over i + 1
pub record Going (s : List ℕ) (i line column : ℕ) : Type 0 where
  pub is : behind (at_spot 1 1) (take i s) ≡ at_spot line column
  pub lines : line ≤ i + 1
  pub columns : column ≤ i + 1

module _ {s : List ℕ} {i line column : ℕ} (g : Going s i line column) (h : i < length s) where
  on : {p : Spot} → past (at_spot line column) (get_or s i 0) ≡ p → behind (at_spot 1 1) (take (i + 1) s) ≡ p
  on e =
      ap (λ (n : ℕ). behind (at_spot 1 1) (take n s)) (add-one i)
      ∙ ap (behind (at_spot 1 1)) (take-suc s i 0 h)
      ∙ behind_one (at_spot 1 1) (take i s) (get_or s i 0)
      ∙ ap (λ (p : Spot). past p (get_or s i 0)) g.is
      ∙ e

  pub feed : get_or s i 0 ≡ 10 → Going s (i + 1) (line + 1) 1
  feed e =
      record {
        is = on (ap (λ (b : Bool). cond b (at_spot (suc line) 1) (at_spot line (suc column))) (eq-eqb (get_or s i 0) 10 e) ∙ ap (λ (n : ℕ). at_spot n 1) (sym (add-one line)));
        lines = omega (arith, g.lines);
        columns = omega arith;
      }

  pub other : (get_or s i 0 ≡ 10 → ⊥) → Going s (i + 1) line (column + 1)
  other e =
      record {
        is = on (ap (λ (b : Bool). cond b (at_spot (suc line) 1) (at_spot line (suc column))) (ne_eqb (get_or s i 0) 10 e) ∙ ap (at_spot line) (sym (add-one column)));
        lines = omega (arith, g.lines);
        columns = omega (arith, g.columns);
      }

-- all bytes are past
pub gone : {s : List ℕ} {i line column : ℕ} → Going s i line column → length s ≤ i → at_spot line column ≡ behind (at_spot 1 1) s
gone {s} {i} g h = sym g.is ∙ ap (behind (at_spot 1 1)) (take_all i s h)

-- what is past at the end is what the definition takes
pub cut_at : (s : List ℕ) (at : ℕ) {end : ℕ} → end ≡ min at (length s) → behind (at_spot 1 1) (take end s) ≡ spot_of s at
unfolding spot_of
cut_at s at e = ap (behind (at_spot 1 1)) (ap (λ (n : ℕ). take n s) e ∙ take_min at s)
