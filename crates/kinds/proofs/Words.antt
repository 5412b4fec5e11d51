-- A pair of words read bit by bit, and the rule of the sets' words: one computed test over all sets and ids. Assumes nothing.
use Prim.Native.Nat.{ℕ, ◌-◌, ◌/◌, ◌%◌, ◌^◌, ◌≤◌, ◌<◌}
use mathlib.Core.Path.{◌≡◌, refl, sym, ap, ap₂, ◌∙◌}
use mathlib.Core.List.{List, [], ◌∷◌}
use mathlib.Core.Bool.{Bool, true, false}
use mathlib.Core.Option.{none, some}
use native.Mathlib.Nat.{zero-div}
use native.Mathlib.Decide.{dec_lt}
use native.Mathlib.Omega.{arith}
use borrow.Author.Tests.{eqb-true, ltb-true, ne_eqb}
use lib.Bits.{bit_and, and_mask}
use lib.Dec.{eqb, ltb}
use lib.ListN.{length, get_or, get_or-eq_default}
use Rattle.kinds.specs.Sets.{id_of, pick, set_of}
use Rattle.kinds.specs.Answers.{in_pair, is_some, words}
use Rattle.kinds.proofs.Order.{set_none}
use Rattle.kinds.proofs.Tables.{both, both_left, both_right, all, all_sound, alike, alike_sound}

-- the code's test of the bit b in the word number w
abbrev tested : List ℕ → ℕ → ℕ → Bool
tested p w b = eqb (bit_and (get_or p w 0 / 2 ^ b) 1) 1

module _ (p : List ℕ) (i : ℕ) where
  in_word : (w b : ℕ) → w ≡ i / 64 → b ≡ i % 64 → tested p w b ≡ in_pair p i
  unfolding in_pair
  in_word w b e f = ap (λ (x : ℕ). eqb x 1) (and_mask (get_or p w 0 / 2 ^ b) 1) ∙ ap₂ (λ (v a : ℕ). eqb (get_or p v 0 / 2 ^ a % 2) 1) e f

  pub in_low : i < 64 → tested p 0 i ≡ in_pair p i
  in_low h = in_word 0 i (omega arith) (omega arith)

  pub in_high : 64 ≤ i → i < 128 → tested p 1 (i - 64) ≡ in_pair p i
  in_high h k = in_word 1 (i - 64) (omega arith) (omega arith)

  pub in_none : length p ≡ 2 → 128 ≤ i → false ≡ in_pair p i
  unfolding in_pair
  in_none h k =
      sym (ap (λ (x : ℕ). eqb (x / 2 ^ (i % 64) % 2) 1) (get_or-eq_default p 0 (omega arith)) ∙ ap (λ (x : ℕ). eqb (x % 2) 1) (zero-div (2 ^ (i % 64))))

-- a number that no pair has
pub in_nothing : (l : List (List ℕ)) (s i : ℕ) → length l ≤ s → in_pair (get_or l s []) i ≡ false
unfolding in_pair
in_nothing l s i h =
    ap (λ (p : List ℕ). eqb (get_or p (i / 64) 0 / 2 ^ (i % 64) % 2) 1) (get_or-eq_default l [] h) ∙ ap (λ (x : ℕ). eqb (x % 2) 1) (zero-div (2 ^ (i % 64)))

-- the ids of the kinds are bits of a pair
abbrev low : List ℕ → Bool
low [] = true
low (a ∷ S) = both (ltb (id_of a) 128) (low S)

low_none : (S : List ℕ) (i : ℕ) → low S ≡ true → 128 ≤ i → pick S i ≡ none
low_none [] i t h = refl
low_none (a ∷ S) i t h =
    let k : id_of a < 128 = ltb-true (id_of a) 128 (both_left (ltb (id_of a) 128) (low S) t) in
    ap (λ (b : Bool). elim b [ true ↦ some a | false ↦ pick S i ]) (ne_eqb i (id_of a) (λ e. omega arith))
    ∙ low_none S i (both_right (ltb (id_of a) 128) (low S) t) h

-- the words' rule at one id, and at one set
abbrev agrees : ℕ → ℕ → Bool
agrees s i = alike (in_pair (get_or words s []) i) (is_some (pick (set_of s) i))

abbrev right : ℕ → Bool
right s = both (eqb (length (get_or words s [])) 2) (both (low (set_of s)) (all (agrees s) 128))

tried : all right 56 ≡ true
unfolding id_of in_pair words
tried = refl

pub words_right : (s i : ℕ) → s < 56 → in_pair (get_or words s []) i ≡ is_some (pick (set_of s) i)
words_right s i h = go (dec_lt i 128)
  where
    here : right s ≡ true
    here = all_sound right 56 tried s h

    rest : both (low (set_of s)) (all (agrees s) 128) ≡ true
    rest = both_right (eqb (length (get_or words s [])) 2) (both (low (set_of s)) (all (agrees s) 128)) here

    go : Dec (i < 128) → in_pair (get_or words s []) i ≡ is_some (pick (set_of s) i)
    go (yes k) = alike_sound _ _ (all_sound (agrees s) 128 (both_right (low (set_of s)) (all (agrees s) 128) rest) i k)
    go (no k) =
        sym (in_none (get_or words s []) i (eqb-true _ 2 (both_left (eqb (length (get_or words s [])) 2) (both (low (set_of s)) (all (agrees s) 128)) here)) (omega (arith, k)))
        ∙ sym (ap is_some (low_none (set_of s) i (both_left (low (set_of s)) (all (agrees s) 128) rest) (omega (arith, k))))

long : length words ≡ 56
unfolding words
long = refl

-- the table as it is lent, at any number
pub lent_right : (l : List (List ℕ)) → l ≡ words → (s i : ℕ) → in_pair (get_or l s []) i ≡ is_some (pick (set_of s) i)
lent_right l e s i = ap (λ (t : List (List ℕ)). in_pair (get_or t s []) i) e ∙ go (dec_lt s 56)
  where
    go : Dec (s < 56) → in_pair (get_or words s []) i ≡ is_some (pick (set_of s) i)
    go (yes h) = words_right s i h
    go (no h) = in_nothing words s i (rw long (omega (arith, h))) ∙ sym (ap (λ (S : List ℕ). is_some (pick S i)) (set_none s (omega (arith, h))))
