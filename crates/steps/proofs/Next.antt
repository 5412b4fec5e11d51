-- A step that only a state in good order takes, and what stands next past trivia. Assumes nothing.
use Prim.Native.Nat.{ℕ, zero, suc, ◌≤◌, ◌<◌}
use mathlib.Core.Path.{◌≡◌, refl, sym, ap, ◌∙◌}
use mathlib.Core.List.{List}
use mathlib.Core.Bool.{true, false}
use mathlib.Core.Option.{Option, none, some}
use lib.ListN.{length, get_or, drop, drop_of_length-le}
use lib.Seq.{drop-cons}
use Rattle.kinds.specs.Sets.{pick}
use Rattle.kinds.specs.Answers.{is_some}
use Rattle.definition.specs.Run as P
use Rattle.definition.specs.Run.{Mode, ok, failed, stopped, end, other, hit}
use Rattle.notes.specs.Means.{mode_of}
use Rattle.notes.specs.Did.{Peeked}

-- what stands behind `if_ok`, by the code's mode: r where it is 0
pub if_ok_yes : (r a : P.State) → a.mode ≡ ok → P.if_ok (λ _. r) a ≡ r
if_ok_yes r a e = ap (λ (m : Mode). elim m [ ok ↦ r | failed ↦ a | stopped w ↦ a ]) e

pub if_ok_no : (r : P.State) (n : ℕ) (a : P.State) → (n ≡ 0 → ⊥) → a.mode ≡ mode_of n → P.if_ok (λ _. r) a ≡ a
if_ok_no r n a h e = ap (λ (m : Mode). elim m [ ok ↦ r | failed ↦ a | stopped w ↦ a ]) e ∙ go n h
  where
    go : (n : ℕ) → (n ≡ 0 → ⊥) → elim (mode_of n) [ ok ↦ r | failed ↦ a | stopped w ↦ a ] ≡ a
    go zero h = absurd (h refl)
    go (suc zero) h = refl
    go (suc (suc zero)) h = refl
    go (suc (suc (suc n))) h = refl

-- what a set's answer for an id says
pub lacks : (S : List ℕ) (i : ℕ) → false ≡ is_some (pick S i) → pick S i ≡ none
lacks S i e = go (pick S i) e
  where
    go : (o : Option ℕ) → false ≡ is_some o → o ≡ none
    go none e = refl
    go (some a) e = cc

-- the kind that is picked where there is one
abbrev pub picked : Option ℕ → ℕ
picked none = 0
picked (some a) = a

pub has_some : (S : List ℕ) (i : ℕ) → true ≡ is_some (pick S i) → pick S i ≡ some (picked (pick S i))
has_some S i e = go (pick S i) e
  where
    go : (o : Option ℕ) → true ≡ is_some o → o ≡ some (picked o)
    go none e = cc
    go (some a) e = refl

-- the next row past trivia is at hand
module _ (S : List ℕ) {ids : List ℕ} {p at : ℕ} (q : Peeked ids p at) where
  next_row : (o : Option ℕ) → at < length ids → pick S (get_or ids at 0) ≡ o → P.next S (drop p ids) ≡ elim o [ none ↦ other | some a ↦ hit a (drop (suc at) ids) ]
  next_row o h e =
      ap (P.sought S) (sym q.rest ∙ drop-cons ids at 0 h)
      ∙ ap (λ (t : Option ℕ). elim t [ none ↦ other | some a ↦ hit a (drop (suc at) ids) ]) e

  pub next_hit : (k : ℕ) → at < length ids → pick S (get_or ids at 0) ≡ some k → P.next S (drop p ids) ≡ hit k (drop (suc at) ids)
  next_hit k h e = next_row (some k) h e

  -- the same by whether the set has the id
  pub next_has : at < length ids → true ≡ is_some (pick S (get_or ids at 0)) → P.next S (drop p ids) ≡ hit (picked (pick S (get_or ids at 0))) (drop (suc at) ids)
  next_has h e = next_row (some (picked (pick S (get_or ids at 0)))) h (has_some S (get_or ids at 0) e)

  pub next_lacks : at < length ids → false ≡ is_some (pick S (get_or ids at 0)) → P.next S (drop p ids) ≡ other
  next_lacks h e = next_row none h (lacks S (get_or ids at 0) e)

  pub next_end : length ids ≤ at → P.next S (drop p ids) ≡ end
  next_end h = ap (P.sought S) (sym q.rest ∙ drop_of_length-le ids h)
