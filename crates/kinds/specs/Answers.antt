-- What the answers of this crate stand for.
use Rattle.std.specs.Prelude.{ℕ, ◌+◌, ◌-◌, ◌/◌, ◌%◌, ◌^◌, ◌≤◌, ◌≡◌, List, [], ◌∷◌, ◌++◌, map, Bool, true, false, eqb, length, get_or, take, drop}
use Rattle.std.proofs.Math.Option.{Option, none, some}
use Rattle.kinds.specs.Sets.{id_of, pick, sets, set_of}

abbrev pub is_some : Option ℕ → Bool
is_some none = false
is_some (some a) = true

-- bit i, counted through the words
unfoldable pub in_pair : List ℕ → ℕ → Bool
in_pair p i = eqb (get_or p (i / 64) 0 / 2 ^ (i % 64) % 2) 1

-- the word number w of a set: the powers of two of its ids in that word, summed
abbrev word : ℕ → List ℕ → ℕ
word w [] = 0
word w (a ∷ S) = elim (eqb (id_of a / 64) w) [ true ↦ 2 ^ (id_of a % 64) + word w S | false ↦ word w S ]

-- the table of the sets' pairs
unfoldable pub words : List (List ℕ)
words = map (λ S. word 0 S ∷ word 1 S ∷ []) sets

-- the kind that the set number s names for the id, or the id where the set has none
unfoldable pub kind_in : ℕ → ℕ → ℕ
kind_in s i = elim (pick (set_of s) i) [ none ↦ i | some a ↦ a ]

-- the lists one after the other
abbrev pub joined : List (List ℕ) → List ℕ
joined [] = []
joined (S ∷ Ss) = S ++ joined Ss

-- where each list begins when the first begins at n, and where the last ends
abbrev pub starts : ℕ → List (List ℕ) → List ℕ
starts n [] = n ∷ []
starts n (L ∷ Ls) = n ∷ starts (n + length L) Ls

-- the list l stands in the whole at from up to to
pub record PartOf (whole l : List ℕ) (from to : ℕ) : Type 0 where
  pub forward : from ≤ to
  pub within : to ≤ length whole
  pub is : take (to - from) (drop from whole) ≡ l
