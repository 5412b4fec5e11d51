-- What a line reads to, by the place where each of its fields ends; and the line that begins at a place. Assumes nothing.
use Prim.Native.Nat.{ℕ, ◌+◌, ◌-◌, ◌≤◌, ◌<◌}
use mathlib.Core.Path.{◌≡◌, refl, sym, ap, ◌∙◌}
use mathlib.Core.List.{List, [], ◌∷◌}
use mathlib.Core.Bool.{Bool, true, false, cond}
use Rattle.std.specs.Prelude.{Option, Some, None}
use native.Mathlib.Omega.{arith}
use borrow.Author.Tests.{le-leb, lt-leb, ne_eqb}
use lib.Dec.{eqb}
use lib.ListN.{length, get_or, drop, drop_of_length-le}
use lib.Seq.{take-suc}
use Rattle.listing.specs.Numbers.{number}
use Rattle.listing.specs.Lines.{parted, behind, is_letter, source_from, source_of, row_from, row_of, fields_of, plain_of, line_of, unended, first_of, next_of, Piece}
use Rattle.listing.specs.declared.read.Line.{Line}
use Rattle.listing.specs.declared.read.Line.TheVariants as line
use Rattle.listing.specs.declared.read.Next.TheVariants as next
use Rattle.listing.proofs.Pieces.{part, marked, unmarked, one_piece, part_length, part_whole}

-- where the piece that begins at from ends
ends_at : (from to : ℕ) (s : List ℕ) → from ≤ to → to ≤ length s → from + length (part from to s) ≡ to
ends_at from to s h k = omega (arith, part_length from to s h k)

pub named : {a fuel : ℕ} → 2 ≤ a → Some (line.Source 2 a fuel) ≡ source_from (a - 2) (Some fuel)
named {a} {fuel} h = ap (λ (n : ℕ). Some (line.Source 2 n fuel)) (omega arith)

-- the fields behind the letter, which begin at place 2
module _ {s : List ℕ} {a : ℕ} (p : Piece 9 s 2 a) where
  pub source_short : length s ≤ a → None ≡ source_of (parted 9 (drop 2 s))
  source_short h = sym (ap source_of (unmarked p h))

  pub row_short : length s ≤ a → None ≡ row_of (parted 9 (drop 2 s))
  row_short h = sym (ap row_of (unmarked p h))

  module _ {b : ℕ} (h : a < length s) (q : Piece 9 s (a + 1) b) where
    pub source_long : b < length s → None ≡ source_of (parted 9 (drop 2 s))
    source_long k =
        sym (ap source_of (marked p h)
        ∙ ap (λ (fs : List (List ℕ)). source_of (part 2 a s ∷ fs)) (marked q k)
        ∙ one_piece (λ (fs : List (List ℕ)). source_of (part 2 a s ∷ part (a + 1) b s ∷ fs) ≡ None) (λ f fs. refl) 9 (drop (b + 1) s))

    pub source_two : length s ≤ b → {fuel : Option ℕ} → fuel ≡ number (part (a + 1) b s) → source_from (a - 2) fuel ≡ source_of (parted 9 (drop 2 s))
    source_two k e =
        sym (ap source_of (marked p h)
        ∙ ap (λ (fs : List (List ℕ)). source_of (part 2 a s ∷ fs)) (unmarked q k)
        ∙ ap (λ (n : ℕ). source_from n (number (part (a + 1) b s))) (part_length 2 a s p.forward p.within)
        ∙ ap (source_from (a - 2)) (sym e))

    pub row_two : length s ≤ b → None ≡ row_of (parted 9 (drop 2 s))
    row_two k = sym (ap row_of (marked p h) ∙ ap (λ (fs : List (List ℕ)). row_of (part 2 a s ∷ fs)) (unmarked q k))

    module _ {c : ℕ} (k : b < length s) (r : Piece 9 s (b + 1) c) where
      pub row_long : c < length s → None ≡ row_of (parted 9 (drop 2 s))
      row_long l =
          sym (ap row_of (marked p h)
          ∙ ap (λ (fs : List (List ℕ)). row_of (part 2 a s ∷ fs)) (marked q k)
          ∙ ap (λ (fs : List (List ℕ)). row_of (part 2 a s ∷ part (a + 1) b s ∷ fs)) (marked r l)
          ∙ one_piece (λ (fs : List (List ℕ)). row_of (part 2 a s ∷ part (a + 1) b s ∷ part (b + 1) c s ∷ fs) ≡ None) (λ f fs. refl) 9 (drop (c + 1) s))

      pub row_three : length s ≤ c
          → row_from (number (part 2 a s)) (number (part (a + 1) b s)) (number (part (b + 1) c s)) ≡ row_of (parted 9 (drop 2 s))
      row_three l =
          sym (ap row_of (marked p h)
          ∙ ap (λ (fs : List (List ℕ)). row_of (part 2 a s ∷ fs)) (marked q k)
          ∙ ap (λ (fs : List (List ℕ)). row_of (part 2 a s ∷ part (a + 1) b s ∷ fs)) (unmarked r l))

pub too_long : (s : List ℕ) → 8192 < length s → None ≡ line_of s
unfolding line_of
too_long s h = rw (lt-leb (length s) 8192 h)

unlettered : (f : List ℕ) (fs : List (List ℕ)) → (length f ≡ 1 → ⊥) → None ≡ fields_of (f ∷ fs)
unlettered [] fs h = refl
unlettered (b ∷ []) fs h = absurd (h refl)
unlettered (b ∷ c ∷ f) fs h = refl

alone : (f : List ℕ) → None ≡ fields_of (f ∷ [])
alone f = go (is_letter 83 f) (is_letter 84 f)
  where
    go : (t u : Bool) → ◌≡◌ {A = Option Line} None (cond t None (cond u None None))
    go true u = refl
    go false true = refl
    go false false = refl

-- a line that is short enough, by the places of its first carriage return and its first tab
module _ {s : List ℕ} {r : ℕ} (fits : length s ≤ 8192) (p : Piece 13 s 0 r) where
  pub returned : r < length s → None ≡ line_of s
  unfolding line_of
  returned h =
      sym (rw (le-leb (length s) 8192 fits)
      (ap plain_of (marked p h) ∙ one_piece (λ (ls : List (List ℕ)). plain_of (part 0 r s ∷ ls) ≡ None) (λ l ls. refl) 13 (drop (r + 1) s)))

  plain : length s ≤ r → line_of s ≡ fields_of (parted 9 s)
  unfolding line_of
  plain h = rw (le-leb (length s) 8192 fits) (ap plain_of (unmarked p h) ∙ ap (λ (l : List ℕ). fields_of (parted 9 l)) (part_whole r s h))

  module _ {a : ℕ} (bare : length s ≤ r) (q : Piece 9 s 0 a) where
    pub no_letter : (a ≡ 1 → ⊥) → None ≡ line_of s
    no_letter h =
        unlettered (part 0 a s) (behind 9 s a) (λ e. h (omega (arith, e, part_length 0 a s q.forward q.within)))
        ∙ sym (plain bare ∙ ap fields_of q.is)

    pub no_field : a ≡ 1 → length s < 2 → None ≡ line_of s
    no_field e h = alone (part 0 a s) ∙ sym (plain bare ∙ ap fields_of (unmarked q (omega arith)))

    module _ (e : a ≡ 1) (h : 2 ≤ length s) where
      first : part 0 a s ≡ get_or s 0 0 ∷ []
      first = ap (λ (n : ℕ). part 0 n s) e ∙ take-suc s 0 0 (omega arith)

      lettered : line_of s
          ≡ cond (eqb (get_or s 0 0) 83) (source_of (parted 9 (drop 2 s))) (cond (eqb (get_or s 0 0) 84) (row_of (parted 9 (drop 2 s))) None)
      lettered =
          plain bare
          ∙ ap fields_of (marked q (omega arith))
          ∙ ap (λ (f : List ℕ). fields_of (f ∷ parted 9 (drop (a + 1) s))) first
          ∙ ap (λ (n : ℕ). fields_of ((get_or s 0 0 ∷ []) ∷ parted 9 (drop (n + 1) s))) e

      -- what stands where the first byte is x
      with_letter : (x : ℕ) → get_or s 0 0 ≡ x
          → cond (eqb x 83) (source_of (parted 9 (drop 2 s))) (cond (eqb x 84) (row_of (parted 9 (drop 2 s))) None) ≡ line_of s
      with_letter x k =
          sym (lettered
          ∙ ap (λ (x : ℕ). cond (eqb x 83) (source_of (parted 9 (drop 2 s))) (cond (eqb x 84) (row_of (parted 9 (drop 2 s))) None)) k)

      pub is_source : get_or s 0 0 ≡ 83 → source_of (parted 9 (drop 2 s)) ≡ line_of s
      is_source k = with_letter 83 k

      pub is_row : get_or s 0 0 ≡ 84 → row_of (parted 9 (drop 2 s)) ≡ line_of s
      is_row k = with_letter 84 k

      pub is_neither : (get_or s 0 0 ≡ 83 → ⊥) → (get_or s 0 0 ≡ 84 → ⊥) → None ≡ line_of s
      is_neither k l = rw (lettered, ne_eqb (get_or s 0 0) 83 k, ne_eqb (get_or s 0 0) 84 l)

pub at_end : (s : List ℕ) (at : ℕ) → length s ≤ at → next.Nothing ≡ next_of s at
unfolding next_of
at_end s at h = sym (ap (λ (l : List ℕ). first_of at (parted 10 l)) (drop_of_length-le s h))

unended_some : (l : List ℕ) → 0 < length l → next.Partial ≡ unended l
unended_some [] h = absurd (omega arith)
unended_some (b ∷ bs) h = refl

module _ {s : List ℕ} {at to : ℕ} (p : Piece 10 s at to) where
  pub unfinished : at < length s → length s ≤ to → next.Partial ≡ next_of s at
  unfolding next_of
  unfinished h k =
      unended_some (part at to s) (omega (arith, part_length at to s p.forward p.within))
      ∙ sym (ap (first_of at) (unmarked p k))

  pub finished : to < length s → next.Whole to (to + 1) ≡ next_of s at
  unfolding next_of
  finished h =
      ap (λ (n : ℕ). next.Whole n (n + 1)) (sym (ends_at at to s p.forward p.within))
      ∙ sym (ap (first_of at) (marked p h)
      ∙ one_piece (λ (ls : List (List ℕ)). first_of at (part at to s ∷ ls) ≡ next.Whole (at + length (part at to s)) (at + length (part at to s) + 1)) (λ l ls. refl) 10 (drop (to + 1) s))
