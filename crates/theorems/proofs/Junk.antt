-- What the items write, in document 01's numbers: a junk run its error and its ERROR node, an accepted rule no record.
use Prim.Native.Nat.{ℕ, suc, ◌+◌}
use mathlib.Core.Path.{◌≡◌, refl, ap, ◌∙◌}
use mathlib.Core.List.{List, [], ◌∷◌, ◌++◌}
use mathlib.Core.Bool.{Bool, true, false}
use lib.ListN.{length}
use native.Mathlib.Omega.{arith}
use Rattle.kinds.specs.Kinds as kinds
use Rattle.kinds.specs.Sets.{trivial, kind_of}
use Rattle.shapes.specs.Sort as Sort
use Rattle.shapes.specs.Shapes.{Entry, Rec}
use Rattle.definition.specs.Run.{Limits, Event, opened, leaf, closed, bad, stray, skip, trivia_out}
use Rattle.definition.specs.Render.{Source, starts_at, span_end, bads, render, inside, records}
use Rattle.definition.specs.Remaining.{tokens, junk_error, junk_events}
use Rattle.definition.proofs.Shown.{render_keeps, records_keep}
use Rattle.theorems.proofs.Stands.{leaves}

module _ (x : Source) where
  -- rows are written as their tokens
  render_leaves : (j r : List ℕ) (o : List Event) (st : List (ℕ × ℕ)) (l : List Entry) → render x st (leaves j r o) l ≡ render x st o (tokens x (suc (length st)) j r ++ l)
  render_leaves [] r o st l = refl
  render_leaves (i ∷ j) r o st l = render_leaves j r (leaf (kind_of i) (suc (length (j ++ r))) ∷ o) st l

  records_leaves : (L : Limits) (j r : List ℕ) (o : List Event) (l : List Rec) → records L x (leaves j r o) l ≡ records L x o l
  records_leaves L [] r o l = refl
  records_leaves L (i ∷ j) r o l = records_leaves L j r (leaf (kind_of i) (suc (length (j ++ r))) ∷ o) l

  bads_leaves : (j r : List ℕ) (o : List Event) → bads (leaves j r o) ≡ bads o
  bads_leaves [] r o = refl
  bads_leaves (i ∷ j) r o = bads_leaves j r (leaf (kind_of i) (suc (length (j ++ r))) ∷ o)

  -- behind the events o: trivia g, the junk run j, and r the rows behind it
  pub junk_written : (g j r : List ℕ) (o : List Event) → let n : ℕ = length (j ++ r) in
      inside x (closed kinds.ERROR n (length r) ∷ leaves j r (opened n ∷ bad n stray ∷ leaves g (j ++ r) o)) ≡ inside x o ++ (tokens x 1 g (j ++ r) ++ junk_events x (bads o) j r)
  junk_written g j r o =
      let n : ℕ = length (j ++ r) in
      let a : ℕ = starts_at x n in
      let z : ℕ = span_end x n (length r) in
      render_leaves j r (opened n ∷ bad n stray ∷ leaves g (j ++ r) o) ((kinds.ERROR, z) ∷ []) ((Sort.END, kinds.ERROR, a, z, 1) ∷ [])
      ∙ ap (λ (i : ℕ). render x [] (leaves g (j ++ r) o) (junk_events x i j r)) (bads_leaves g (j ++ r) o)
      ∙ render_leaves g (j ++ r) o [] (junk_events x (bads o) j r)
      ∙ render_keeps x [] o [] (tokens x 1 g (j ++ r) ++ junk_events x (bads o) j r)

  pub junk_recorded : (L : Limits) (g j r : List ℕ) (o : List Event) → let n : ℕ = length (j ++ r) in
      records L x (closed kinds.ERROR n (length r) ∷ leaves j r (opened n ∷ bad n stray ∷ leaves g (j ++ r) o)) [] ≡ records L x o [] ++ (junk_error x j r ∷ [])
  junk_recorded L g j r o =
      let n : ℕ = length (j ++ r) in
      let q : List Rec = junk_error x j r ∷ [] in
      records_leaves L j r (opened n ∷ bad n stray ∷ leaves g (j ++ r) o) [] ∙ records_leaves L g (j ++ r) o q ∙ records_keep x L o [] q

  pub junk_bads : (g j r : List ℕ) (o : List Event) → let n : ℕ = length (j ++ r) in bads (closed kinds.ERROR n (length r) ∷ leaves j r (opened n ∷ bad n stray ∷ leaves g (j ++ r) o)) ≡ suc (bads o)
  junk_bads g j r o = let n : ℕ = length (j ++ r) in bads_leaves j r (opened n ∷ bad n stray ∷ leaves g (j ++ r) o) ∙ ap suc (bads_leaves g (j ++ r) o)

  -- what has no error adds no record
  pub unrecorded : (L : Limits) (w o : List Event) (l : List Rec) → bads (w ++ o) ≡ bads o → records L x (w ++ o) l ≡ records L x o l
  unrecorded L [] o l e = refl
  unrecorded L (opened n ∷ w) o l e = unrecorded L w o l e
  unrecorded L (leaf k n ∷ w) o l e = unrecorded L w o l e
  unrecorded L (closed k n m ∷ w) o l e = unrecorded L w o l e
  unrecorded L (bad n c ∷ w) o l e = absurd (more w e)
    where
      grow : (w : List Event) → (i : ℕ) × (bads (w ++ o) ≡ i + bads o)
      grow [] = (0, omega arith)
      grow (opened n ∷ w) = grow w
      grow (leaf k n ∷ w) = grow w
      grow (closed k n m ∷ w) = grow w
      grow (bad n c ∷ w) = let h = grow w in (suc h.0, omega (arith, h.1))

      more : (w : List Event) → suc (bads (w ++ o)) ≡ bads o → ⊥
      more w e = omega (arith, e, (grow w).1)

-- the trivia at an item's beginning
pub lead : (r : List ℕ) → (g : List ℕ) × (r ≡ g ++ skip r) × ((o : List Event) → trivia_out r o ≡ leaves g (skip r) o)
lead [] = ([], refl, λ o. refl)
lead (i ∷ is) = go (trivial i) (lead is)
  where
    go : (b : Bool) → ((g : List ℕ) × (is ≡ g ++ skip is) × ((o : List Event) → trivia_out is o ≡ leaves g (skip is) o)) → let s : List ℕ = elim b as (λ _. List ℕ) [ true ↦ skip is | false ↦ i ∷ is ] in (g : List ℕ) × (i ∷ is ≡ g ++ s) × ((o : List Event) → elim b as (λ _. List Event) [ true ↦ trivia_out is (leaf i (suc (length is)) ∷ o) | false ↦ o ] ≡ leaves g s o)
    go true h = (i ∷ h.0, ap (λ (l : List ℕ). i ∷ l) h.1, λ o. h.2 (leaf i (suc (length is)) ∷ o) ∙ ap (λ (l : List ℕ). leaves h.0 (skip is) (leaf i (suc (length l)) ∷ o)) h.1)
    go false h = ([], refl, λ o. refl)
