-- The sort of a line, by its letter and what stands behind it. Assumes nothing.
use Prim.Native.Nat.{ℕ, ◌+◌, ◌≤◌, ◌<◌}
use mathlib.Core.Path.{◌≡◌, refl, sym, ap, ◌∙◌}
use mathlib.Core.List.{List, [], ◌∷◌}
use mathlib.Core.Bool.{Bool, true, false, cond}
use native.Mathlib.Omega.{arith}
use borrow.Author.Tests.{ne_eqb}
use lib.Dec.{eqb}
use lib.ListN.{length, get_or, drop}
use lib.Seq.{take-suc}
use Rattle.std.specs.Prelude.{Option, Some}
use Rattle.std.specs.Bool.{then_some}
use Rattle.shapes.specs.declared.sort.Sort.TheVariants as S
use Rattle.listing.specs.Lines.{parted, behind, Piece}
use Rattle.listing.proofs.Pieces.{part, marked, unmarked, part_length}
use Rattle.listing.proofs.Rest.{rest, rest_is}
use Rattle.editions.specs.Fields.{plains, node, error}
use Rattle.editions.specs.Sorts.{NODES, KINDS, number_of, lettered, sort_of}
use Rattle.editions.specs.declared.sort.LineSort.{LineSort}
use Rattle.editions.specs.declared.sort.LineSort.TheVariants as L

-- BY THE LETTER

counted : (s : LineSort) (b : Bool) → number_of (then_some b s) ≡ cond b (number_of (Some s)) 0
counted s true = refl
counted s false = refl

module _ (c : ℕ) (fs : List (List ℕ)) where
  is_letter : (x : ℕ) (s : LineSort) (t : Bool) → cond t (number_of (Some s)) 0 ≡ lettered x fs → c ≡ x → {b : Bool} {r : Option LineSort} → b ≡ t → r ≡ then_some b s
      → number_of r ≡ lettered c fs
  is_letter x s t i k {b} e f =
      ap number_of f ∙ counted s b ∙ ap (λ (b : Bool). cond b (number_of (Some s)) 0) e ∙ i ∙ ap (λ (c : ℕ). lettered c fs) (sym k)

  module _ {b : Bool} {r : Option LineSort} where
    pub begin_line : c ≡ 66 → b ≡ node NODES KINDS fs → r ≡ then_some b (L.Event S.Begin) → number_of r ≡ lettered c fs
    unfolding lettered
    begin_line k e f = is_letter 66 (L.Event S.Begin) (node NODES KINDS fs) refl k e f

    pub token_line : c ≡ 84 → b ≡ node 0 NODES fs → r ≡ then_some b (L.Event S.Token) → number_of r ≡ lettered c fs
    unfolding lettered
    token_line k e f = is_letter 84 (L.Event S.Token) (node 0 NODES fs) refl k e f

    pub end_line : c ≡ 69 → b ≡ node NODES KINDS fs → r ≡ then_some b (L.Event S.End) → number_of r ≡ lettered c fs
    unfolding lettered
    end_line k e f = is_letter 69 (L.Event S.End) (node NODES KINDS fs) refl k e f

    pub error_line_lem : c ≡ 88 → b ≡ error fs → r ≡ then_some b (L.Event S.Error) → number_of r ≡ lettered c fs
    unfolding lettered
    error_line_lem k e f = is_letter 88 (L.Event S.Error) (error fs) refl k e f

    pub result_line : c ≡ 82 → b ≡ plains 3 fs → r ≡ then_some b L.Result → number_of r ≡ lettered c fs
    unfolding lettered
    result_line k e f = is_letter 82 L.Result (plains 3 fs) refl k e f

    pub unread_line : c ≡ 78 → b ≡ plains 1 fs → r ≡ then_some b L.Alone → number_of r ≡ lettered c fs
    unfolding lettered
    unread_line k e f = is_letter 78 L.Alone (plains 1 fs) refl k e f

    pub refusal_line : c ≡ 70 → b ≡ plains 1 fs → r ≡ then_some b L.Alone → number_of r ≡ lettered c fs
    unfolding lettered
    refusal_line k e f = is_letter 70 L.Alone (plains 1 fs) refl k e f

  pub no_letter : (c ≡ 66 → ⊥) → (c ≡ 84 → ⊥) → (c ≡ 69 → ⊥) → (c ≡ 88 → ⊥) → (c ≡ 82 → ⊥) → (c ≡ 78 → ⊥) → (c ≡ 70 → ⊥) → 0 ≡ lettered c fs
  unfolding lettered
  no_letter b t e x r n f = rw (ne_eqb c 66 b, ne_eqb c 84 t, ne_eqb c 69 e, ne_eqb c 88 x, ne_eqb c 82 r, ne_eqb c 78 n, ne_eqb c 70 f)

-- A LINE

unlettered : (f : List ℕ) (fs : List (List ℕ)) → (length f ≡ 1 → ⊥) → 0 ≡ sort_of (f ∷ fs)
unfolding sort_of
unlettered [] fs h = refl
unlettered (c ∷ []) fs h = absurd (h refl)
unlettered (c ∷ d ∷ l) fs h = refl

-- no line is its letter alone
alone : (f : List ℕ) → 0 ≡ sort_of (f ∷ [])
unfolding sort_of lettered
alone [] = refl
alone (c ∷ []) = go (eqb c 66) (go (eqb c 84) (go (eqb c 69) (go (eqb c 88) (go (eqb c 82) (go (eqb c 78) (go (eqb c 70) refl))))))
  where
    go : (t : Bool) {n : ℕ} → 0 ≡ n → 0 ≡ cond t 0 n
    go true e = refl
    go false e = e
alone (c ∷ d ∷ l) = refl

module _ {s : List ℕ} {a : ℕ} (q : Piece 9 s 0 a) where
  pub no_single : (a ≡ 1 → ⊥) → 0 ≡ sort_of (parted 9 s)
  no_single h =
      unlettered (part 0 a s) (behind 9 s a) (λ e. h (omega (arith, e, part_length 0 a s q.forward q.within)))
      ∙ sym (ap sort_of q.is)

  module _ (e : a ≡ 1) where
    pub no_field : length s < 2 → 0 ≡ sort_of (parted 9 s)
    no_field h = alone (part 0 a s) ∙ sym (ap sort_of (unmarked q (omega arith)))

    pub letter_decides : 2 ≤ length s → lettered (get_or s 0 0) (parted 9 (rest s 2)) ≡ sort_of (parted 9 s)
    unfolding sort_of
    letter_decides h =
        ap (λ (t : List ℕ). lettered (get_or s 0 0) (parted 9 t)) (rest_is s 2)
        ∙ sym (ap sort_of (marked q (omega arith))
        ∙ ap (λ (f : List ℕ). sort_of (f ∷ parted 9 (drop (a + 1) s))) (ap (λ (n : ℕ). part 0 n s) e ∙ take-suc s 0 0 (omega arith))
        ∙ ap (λ (n : ℕ). sort_of ((get_or s 0 0 ∷ []) ∷ parted 9 (drop (n + 1) s))) e)
