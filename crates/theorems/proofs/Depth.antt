-- The merged list's depths are the counted ones: "only neighbours at one depth are joined", so every event that is left keeps the depth that it had.
use Prim.Native.Nat.{ℕ, zero, suc, ◌-◌, ◌%◌}
use mathlib.Core.Path.{◌≡◌, refl, ap, sym, ◌∙◌, subst}
use mathlib.Core.List.{List, [], ◌∷◌}
use mathlib.Core.Bool.{Bool, true, false, ◌&&◌}
use lib.Dec.{eqb, leb, T, eqb→eq, eqb_refl}
use lib.ListN.{length}
use native.Mathlib.Omega.{arith}
use Rattle.kinds.specs.Kinds as k
use Rattle.shapes.specs.Sort as Sort
use Rattle.shapes.specs.Shapes.{EVENT, Entry, entries}
use Rattle.definition.specs.Merge.{open_behind, deep, sound, well_formed, error_of, Span, Mark, opens, joins, closes, keeps, ended, marked, marks, paired, reach, merge, finished}
use Rattle.definition.proofs.Every.{and_left, and_right, never}

-- the same of the marks, where h nodes are open; two nodes that are joined leave as many open
abbrev level : ℕ → List Mark → Type 0
level h [] = Unit
level h (opens d z ∷ ms) = (d ≡ h) × level (suc h) ms
level zero (joins z ∷ ms) = ⊥
level (suc h) (joins z ∷ ms) = level (suc h) ms
level h (closes d ∷ ms) = (suc d ≡ h) × level d ms
level h (keeps e ∷ ms) = T (leb Sort.BEGIN e.0 && leb e.0 Sort.ERROR && deep h e) × level (open_behind h e) ms

-- the parts of a sound list's first event
module _ (h : ℕ) (e : Entry) (es : List Entry) (t : T (sound h (e ∷ es))) where
  own : T (leb Sort.BEGIN e.0 && leb e.0 Sort.ERROR && deep h e)
  own = and_left (leb Sort.BEGIN e.0 && leb e.0 Sort.ERROR && deep h e) (sound (open_behind h e) es) t

  here : T (deep h e)
  here = and_right (leb Sort.BEGIN e.0 && leb e.0 Sort.ERROR) (deep h e) own

  behind : T (sound (open_behind h e) es)
  behind = and_right (leb Sort.BEGIN e.0 && leb e.0 Sort.ERROR && deep h e) (sound (open_behind h e) es) t

and_both : (a b : Bool) → T a → T b → T (a && b)
and_both true b p q = q
and_both false b p q = absurd p

-- an ERROR begin or end has its sort
error_sort : (s : ℕ) (e : Entry) → error_of s e ≡ true → e.0 ≡ s
error_sort s e t = eqb→eq e.0 s (and_left (eqb e.0 s) (eqb e.1 k.ERROR) (subst T (sym t) tt))

deep_begin : (h : ℕ) (e : Entry) → e.0 ≡ Sort.BEGIN → T (deep h e) → (e.4 ≡ h) × (open_behind h e ≡ suc h)
deep_begin h e s t = (
  eqb→eq e.4 h (subst (λ (i : ℕ). T (elim (eqb i Sort.END) [ true ↦ eqb (suc e.4) h | false ↦ eqb e.4 h ])) s t),
  ap (λ (i : ℕ). elim (eqb i Sort.BEGIN) as (λ _. ℕ) [ true ↦ suc h | false ↦ elim (eqb i Sort.END) as (λ _. ℕ) [ true ↦ h - 1 | false ↦ h ] ]) s,
)

deep_end : (h : ℕ) (e : Entry) → e.0 ≡ Sort.END → T (deep h e) → (suc e.4 ≡ h) × (open_behind h e ≡ e.4)
deep_end h e s t =
    let q : suc e.4 ≡ h = eqb→eq (suc e.4) h (subst (λ (i : ℕ). T (elim (eqb i Sort.END) [ true ↦ eqb (suc e.4) h | false ↦ eqb e.4 h ])) s t) in
    (q, ap (λ (i : ℕ). elim (eqb i Sort.BEGIN) as (λ _. ℕ) [ true ↦ suc h | false ↦ elim (eqb i Sort.END) as (λ _. ℕ) [ true ↦ h - 1 | false ↦ h ] ]) s ∙ omega (arith, q))

ended_level : (d : ℕ) (ms : List Mark) → level d ms → level (suc d) (ended d ms)
ended_level d [] l = (refl, tt)
ended_level d (opens i z ∷ ms) l = l.1
ended_level zero (joins z ∷ ms) l = absurd l
ended_level (suc d) (joins z ∷ ms) l = (refl, l)
ended_level d (closes i ∷ ms) l = (refl, l)
ended_level d (keeps e ∷ ms) l = (refl, l)

levels : (h : ℕ) (es : List Entry) → T (sound h es) → level h (marks es)
levels h [] t = tt
levels h (e ∷ es) t = go (error_of Sort.BEGIN e) (error_of Sort.END e) refl refl (levels (open_behind h e) es (behind h e es t))
  where
    go : (a b : Bool) → error_of Sort.BEGIN e ≡ a → error_of Sort.END e ≡ b → level (open_behind h e) (marks es) → level h (marked a b e (marks es))
    go true b p q l = let d = deep_begin h e (error_sort Sort.BEGIN e p) (here h e es t) in (d.0, subst (λ (i : ℕ). level i (marks es)) d.1 l)
    go false true p q l =
        let d = deep_end h e (error_sort Sort.END e q) (here h e es t) in
        subst (λ (i : ℕ). level i (ended e.4 (marks es))) d.0 (ended_level e.4 (marks es) (subst (λ (i : ℕ). level i (marks es)) d.1 l))
    go false false p q l = (own h e es t, l)

-- what is written keeps it
merged_level : (h : ℕ) (ms : List Mark) (st : List Span) → level h ms → paired ms (length st) ≡ true → T (sound h (merge ms st))
merged_level h [] st l p = tt
merged_level h (opens d y ∷ ms) st l p = subst (λ (i : ℕ). T (eqb d i && sound (suc i) (merge ms (reach ms 0 y ∷ st)))) l.0 (and_both (eqb d d) (sound (suc d) (merge ms (reach ms 0 y ∷ st))) (eqb_refl d) (subst (λ (i : ℕ). T (sound (suc i) (merge ms (reach ms 0 y ∷ st)))) (sym l.0) (merged_level (suc h) ms (reach ms 0 y ∷ st) l.1 p)))
merged_level zero (joins y ∷ ms) st l p = absurd l
merged_level (suc h) (joins y ∷ ms) [] l p = never cc
merged_level (suc h) (joins y ∷ ms) (z ∷ st) l p = merged_level (suc h) ms (z ∷ st) l p
merged_level h (closes d ∷ ms) [] l p = never cc
merged_level h (closes d ∷ ms) (z ∷ st) l p = subst (λ (i : ℕ). T (eqb (suc d) i && sound (i - 1) (merge ms st))) l.0 (and_both (eqb (suc d) (suc d)) (sound (suc d - 1) (merge ms st)) (eqb_refl (suc d)) (subst (λ (i : ℕ). T (sound i (merge ms st))) (omega arith) (merged_level d ms st l.1 p)))
merged_level h (keeps e ∷ ms) st l p = and_both (leb Sort.BEGIN e.0 && leb e.0 Sort.ERROR && deep h e) (sound (open_behind h e) (merge ms st)) l.0 (merged_level (open_behind h e) ms st l.1 p)

-- THE THEOREM: of a list that is refused neither 9 nor 10 the merged list's depths are the counted ones
pub merged_sound : (l : List ℕ) → well_formed l ≡ true → paired (marks (entries l)) 0 ≡ true → T (sound 0 (finished l))
merged_sound l w p = merged_level 0 (marks (entries l)) [] (levels 0 (entries l) (and_right (eqb (length l % EVENT) 0) (sound 0 (entries l)) (subst T (sym w) tt))) p
