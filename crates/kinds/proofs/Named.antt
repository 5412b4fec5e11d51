-- The kind that a set names for an id: the id itself but in two sets, by one computed test over all sets. Assumes nothing.
use Prim.Native.Nat.{ℕ, ◌<◌}
use mathlib.Core.Path.{◌≡◌, refl, sym, ap, ◌∙◌}
use mathlib.Core.List.{List, [], ◌∷◌}
use mathlib.Core.Bool.{Bool, true, false}
use mathlib.Core.Option.{Option, none, some}
use native.Mathlib.Decide.{dec_lt}
use native.Mathlib.Omega.{arith}
use borrow.Author.Tests.{eqb-true, ne_eqb}
use lib.Dec.{eqb}
use Rattle.std.proofs.Common.{cond, ◌==◌}
use Rattle.std.specs.Prelude.{Some}
use Rattle.std.specs.List.{find}
use Rattle.std.specs.Option.{unwrap_or}
use Rattle.kinds.specs.Sets.{id_of, pick, set_of}
use Rattle.kinds.specs.Answers.{is_some, kind_in}
use Rattle.kinds.proofs.Order.{set_none}
use Rattle.kinds.proofs.Tables.{both, both_left, both_right, all, all_sound}

-- the kind of an answer, or the id
abbrev or_id : ℕ → Option ℕ → ℕ
or_id i o = elim o [ none ↦ i | some a ↦ a ]

-- the first kind with the id, by the library's `find`
pub found : (s i : ℕ) → unwrap_or (find (λ a. i == id_of a) (set_of s)) i ≡ kind_in s i
unfolding kind_in
found s i = go (set_of s)
  where
    go : (S : List ℕ) → unwrap_or (find (λ a. i == id_of a) S) i ≡ or_id i (pick S i)
    go [] = refl
    go (a ∷ S) =
        elim (eqb i (id_of a)) as (λ b. unwrap_or (cond b (Some a) (find (λ x. i == id_of x) S)) i ≡ or_id i (elim b [ true ↦ some a | false ↦ pick S i ])) [
          | true ↦ refl
          | false ↦ go S
        ]

-- where a set has the id, its first kind that has it
pub kind_in_right : (s i : ℕ) → is_some (pick (set_of s) i) ≡ true → pick (set_of s) i ≡ some (kind_in s i)
unfolding kind_in
kind_in_right s i t = go (pick (set_of s) i) t
  where
    go : (o : Option ℕ) → is_some o ≡ true → o ≡ some (or_id i o)
    go none t = cc
    go (some a) t = refl

-- each kind of the set has its id's number
abbrev own : List ℕ → Bool
own [] = true
own (a ∷ S) = both (eqb (id_of a) a) (own S)

own_pick : (S : List ℕ) (i : ℕ) → own S ≡ true → i ≡ or_id i (pick S i)
own_pick [] i t = refl
own_pick (a ∷ S) i t = go (eqb i (id_of a)) refl (own_pick S i (both_right (eqb (id_of a) a) (own S) t))
  where
    go : (b : Bool) → eqb i (id_of a) ≡ b → i ≡ or_id i (pick S i) → i ≡ or_id i (elim b [ true ↦ some a | false ↦ pick S i ])
    go true e rest = eqb-true i (id_of a) e ∙ eqb-true (id_of a) a (both_left (eqb (id_of a) a) (own S) t)
    go false e rest = rest

-- the rule at one set: the code searches the sets of MINUS and of the arithmetic operators
abbrev plain : ℕ → Bool
plain s = elim (eqb s 15) [ true ↦ true | false ↦ elim (eqb s 39) [ true ↦ true | false ↦ own (set_of s) ] ]

tried : all plain 56 ≡ true
unfolding id_of
tried = refl

pub plain_kind : (s i : ℕ) → (s ≡ 15 → ⊥) → (s ≡ 39 → ⊥) → i ≡ kind_in s i
unfolding kind_in
plain_kind s i n k = go (dec_lt s 56)
  where
    here : plain s ≡ own (set_of s)
    here = ap (λ (b : Bool). elim b [ true ↦ true | false ↦ elim (eqb s 39) [ true ↦ true | false ↦ own (set_of s) ] ]) (ne_eqb s 15 n) ∙ ap (λ (b : Bool). elim b [ true ↦ true | false ↦ own (set_of s) ]) (ne_eqb s 39 k)

    go : Dec (s < 56) → i ≡ kind_in s i
    go (yes h) = own_pick (set_of s) i (sym here ∙ all_sound plain 56 tried s h)
    go (no h) = sym (ap (λ (S : List ℕ). or_id i (pick S i)) (set_none s (omega (arith, h))))
