-- Counting: how many events the marks leave, and that a tally of them, mark by mark, comes to refusal 10 or to the size of the finished list.
use Prim.Native.Nat.{ℕ, zero, suc, ◌+◌, ◌≤◌}
use mathlib.Core.Path.{◌≡◌, refl, ap, ap₂, sym, ◌∙◌}
use mathlib.Core.List.{List, [], ◌∷◌}
use mathlib.Core.Bool.{Bool, true, false}
use lib.ListN.{length}
use native.Mathlib.Nat.{add-zero, zero-add}
use native.Mathlib.Numerals.{add-one}
use native.Mathlib.Omega.{arith}
use Rattle.definition.specs.Merge.{Mark, opens, joins, closes, keeps, Span, paired, reach, merge}
use Rattle.merger.proofs.Bools.{never}
use Rattle.merger.specs.Count.{sized, counted, tally_at, inside, tallied}
use Rattle.merger.specs.declared.judge.Tally.{Tally}
use Rattle.std.specs.Prelude.{Option, Some, None}

abbrev left : List Mark → ℕ
left [] = 0
left (opens d z ∷ ms) = suc (left ms)
left (joins z ∷ ms) = left ms
left (closes d ∷ ms) = suc (left ms)
left (keeps e ∷ ms) = suc (left ms)

length_merge : (ms : List Mark) (st : List Span) → paired ms (length st) ≡ true → length (merge ms st) ≡ left ms
length_merge [] st h = refl
length_merge (opens d z ∷ ms) st h = ap suc (length_merge ms (reach ms 0 z ∷ st) h)
length_merge (joins z ∷ ms) [] h = never h
length_merge (joins z ∷ ms) (y ∷ st) h = length_merge ms (y ∷ st) h
length_merge (closes d ∷ ms) [] h = never h
length_merge (closes d ∷ ms) (y ∷ st) h = ap suc (length_merge ms st h)
length_merge (keeps e ∷ ms) st h = ap suc (length_merge ms st h)

-- what a tally comes to with the marks that are left
abbrev pub comes : Option Tally → List Mark → Option ℕ
comes None ms = None
comes (Some t) ms = sized (paired ms t.nodes) (t.left + left ms)

pub comes_first : (ms : List Mark) → counted ms ≡ comes (Some (tally_at 0 0)) ms
comes_first ms = go (paired ms 0) refl
  where
    go : (t : Bool) → paired ms 0 ≡ t → sized t (length (merge ms [])) ≡ sized t (0 + left ms)
    go true h = ap Some (length_merge ms [] h ∙ sym (zero-add (left ms)))
    go false h = refl

comes_more : (m : Mark) (ms : List Mark) (h n : ℕ) → comes (Some (tally_at h n)) (m ∷ ms) ≡ comes (tallied m h n) ms
comes_more (opens d z) ms h n = ap₂ (λ (i j : ℕ). sized (paired ms i) j) (sym (add-one h)) (omega arith)
comes_more (joins z) ms zero n = refl
comes_more (joins z) ms (suc h) n = refl
comes_more (closes d) ms zero n = refl
comes_more (closes d) ms (suc h) n = ap₂ (λ (i j : ℕ). sized (paired ms i) j) (omega arith) (omega arith)
comes_more (keeps e) ms h n = ap (sized (paired ms h)) (omega arith)

pub comes_turn : (ms ms' : List Mark) (m : Mark) (h n : ℕ) (t : Option Tally) → ms ≡ m ∷ ms' → t ≡ tallied m h n → comes (Some (tally_at h n)) ms ≡ comes t ms'
comes_turn ms ms' m h n t p q = ap (comes (Some (tally_at h n))) p ∙ comes_more m ms' h n ∙ ap (λ (u : Option Tally). comes u ms') (sym q)

pub comes_last : (h n : ℕ) → h ≡ 0 → comes (Some (tally_at h n)) [] ≡ Some n
comes_last h n e = ap (λ (i : ℕ). comes (Some (tally_at i n)) []) e ∙ ap Some (add-zero n)

pub comes_open : (h n : ℕ) → (h ≡ 0 → ⊥) → comes (Some (tally_at h n)) [] ≡ None
comes_open zero n f = absurd (f refl)
comes_open (suc h) n f = refl

pub inside_one : (h : ℕ) (t : Tally) → (h ≡ 0 → ⊥) → Some t ≡ inside h t
inside_one zero t f = absurd (f refl)
inside_one (suc h) t f = refl

-- the numbers of a tally
same_tally : {h n h' n' : ℕ} → Some (tally_at h n) ≡ Some (tally_at h' n') → (h ≡ h') × (n ≡ n')
same_tally {h} {n} e = (ap (λ (o : Option Tally). elim o [ None ↦ h | Some t ↦ t.nodes ]) e, ap (λ (o : Option Tally). elim o [ None ↦ n | Some t ↦ t.left ]) e)

pub tallied_more : (m : Mark) (h n h' n' : ℕ) → tallied m h n ≡ Some (tally_at h' n') → (h' ≤ h + 1) × (n' ≤ n + 1)
tallied_more (opens d z) h n h' n' e = let s = same_tally e in omega arith
tallied_more (joins z) zero n h' n' e = let z : ◌≡◌ {A = ℕ} 0 1 = cc in omega arith
tallied_more (joins z) (suc h) n h' n' e = let s = same_tally e in omega arith
tallied_more (closes d) zero n h' n' e = let z : ◌≡◌ {A = ℕ} 0 1 = cc in omega arith
tallied_more (closes d) (suc h) n h' n' e = let s = same_tally e in omega arith
tallied_more (keeps e) h n h' n' e' = let s = same_tally e' in omega arith
