-- A look through the records finds a span exactly if the definition has a pending error there. Assumes nothing.
use Prim.Native.Nat.{ℕ, zero, suc, ◌+◌, ◌≤◌, ◌<◌}
use mathlib.Core.Path.{◌≡◌, refl, sym, ap, ap₂, ◌∙◌}
use mathlib.Core.List.{List, [], ◌∷◌, ◌++◌, append_assoc}
use mathlib.Core.Bool.{Bool, true, false, ◌&&◌}
use native.Mathlib.Omega.{arith}
use native.Mathlib.Nat.{add-zero}
use borrow.Author.Tests.{ne_eqb, eq-eqb, eqb-true, eqb-false}
use lib.Dec.{eqb}
use lib.ListN.{length, get_or, drop, length-drop}
use lib.Seq.{drop-append_seam, get_or-drop}
use Rattle.definition.specs.Run as P
use Rattle.definition.specs.Run.{Choice, Limits}
use Rattle.definition.specs.Render.{Source, starts_at, ends_at, record_of}
use Rattle.definition.proofs.Text.{behind_is}
use Rattle.notes.specs.Means.{recorded, Rows, Apart}
use Rattle.shapes.proofs.Laws.{add_head, next_rest}
use Rattle.shapes.specs.Shapes.{HEAD, FORM, COUNT, flat_records, of_item, behind, record_size, next_record}
use Rattle.choice.specs.Choice.{scan}
use Rattle.choice.proofs.Records.{own}

abbrev either : Bool → Bool → Bool
either b c = elim b [ true ↦ true | false ↦ c ]

module _ (s e : ℕ) where
  scan_pass : (k : ℕ) (l : List ℕ) → scan s e k l ≡ scan s e 0 (drop k l)
  unfolding scan
  scan_pass zero l = refl
  scan_pass (suc k) [] = refl
  scan_pass (suc k) (a ∷ l) = scan_pass k l

  scan_head : (l : List ℕ) → HEAD ≤ length l → scan s e 0 l ≡ either (eqb (get_or l 0 0) s && eqb (get_or l 1 0) e) (scan s e 0 (drop (record_size (get_or l FORM 0) (get_or l COUNT 0)) l))
  unfolding scan
  scan_head [] h = absurd (omega arith)
  scan_head (a ∷ []) h = absurd (omega arith)
  scan_head (a ∷ b ∷ []) h = absurd (omega arith)
  scan_head (a ∷ b ∷ f ∷ []) h = absurd (omega arith)
  scan_head (a ∷ b ∷ f ∷ i ∷ []) h = absurd (omega arith)
  scan_head (a ∷ b ∷ f ∷ i ∷ n ∷ l) h = ap (either (eqb a s && eqb b e)) (scan_pass (behind f n) l ∙ ap (λ (j : ℕ). scan s e 0 (drop j (a ∷ b ∷ f ∷ i ∷ n ∷ l))) (sym (add_head (behind f n))))

  scan_few : (l : List ℕ) → length l < HEAD → scan s e 0 l ≡ false
  unfolding scan
  scan_few [] h = refl
  scan_few (a ∷ []) h = refl
  scan_few (a ∷ b ∷ []) h = refl
  scan_few (a ∷ b ∷ f ∷ []) h = refl
  scan_few (a ∷ b ∷ f ∷ i ∷ []) h = refl
  scan_few (a ∷ b ∷ f ∷ i ∷ n ∷ l) h = absurd (omega arith)

  -- the records from a place on, as the loop looks at them
  module _ (l : List ℕ) (at : ℕ) where
    scan_at : at + HEAD ≤ length l → scan s e 0 (drop at l) ≡ either (eqb (get_or l at 0) s && eqb (get_or l (at + 1) 0) e) (scan s e 0 (drop (next_record l at) l))
    scan_at h =
        scan_head (drop at l) (omega (arith, length-drop at l))
        ∙ ap₂ (λ (i j : ℕ). either (eqb i s && eqb j e) (scan s e 0 (drop (record_size (get_or (drop at l) FORM 0) (get_or (drop at l) COUNT 0)) (drop at l)))) (get_or-drop at l 0 0 ∙ ap (λ (i : ℕ). get_or l i 0) (add-zero at)) (get_or-drop at l 1 0)
        ∙ ap (λ (t : List ℕ). either (eqb (get_or l at 0) s && eqb (get_or l (at + 1) 0) e) (scan s e 0 t)) (sym (next_rest l at))

    pub scan_hit : at + HEAD ≤ length l → get_or l at 0 ≡ s → get_or l (at + 1) 0 ≡ e → true ≡ scan s e 0 (drop at l)
    scan_hit h p q = ap₂ (λ (b c : Bool). either (b && c) (scan s e 0 (drop (next_record l at) l))) (sym (eq-eqb _ _ p)) (sym (eq-eqb _ _ q)) ∙ sym (scan_at h)

    pub scan_start : at + HEAD ≤ length l → (get_or l at 0 ≡ s → ⊥) → scan s e 0 (drop at l) ≡ scan s e 0 (drop (next_record l at) l)
    scan_start h p = scan_at h ∙ ap (λ (b : Bool). either (b && eqb (get_or l (at + 1) 0) e) (scan s e 0 (drop (next_record l at) l))) (ne_eqb _ _ p)

    pub scan_end : at + HEAD ≤ length l → get_or l at 0 ≡ s → (get_or l (at + 1) 0 ≡ e → ⊥) → scan s e 0 (drop at l) ≡ scan s e 0 (drop (next_record l at) l)
    scan_end h p q = scan_at h ∙ ap₂ (λ (b c : Bool). either (b && c) (scan s e 0 (drop (next_record l at) l))) (eq-eqb _ _ p) (ne_eqb _ _ q)

    pub scan_out : length l < at + HEAD → scan s e 0 (drop at l) ≡ false
    scan_out h = scan_few (drop at l) (omega (arith, length-drop at l))

-- the records of pending errors
module _ {x : Source} (w : Rows x) (r : ℕ) (h : r ≤ length x.ids) where
  -- one record, of which t stands behind the count
  scan_one : (a f o n : ℕ) (t l : List ℕ) → behind f n ≡ length t → a ≤ length x.ids → scan (starts_at x r) (ends_at x r) 0 (starts_at x a ∷ ends_at x a ∷ f ∷ o ∷ n ∷ t ++ l) ≡ either (eqb r a) (scan (starts_at x r) (ends_at x r) 0 l)
  unfolding scan
  scan_one a f o n t l k g = go (eqb r a) refl
    where
      on : scan (starts_at x r) (ends_at x r) (behind f n) (t ++ l) ≡ scan (starts_at x r) (ends_at x r) 0 l
      on = ap (λ (i : ℕ). scan (starts_at x r) (ends_at x r) i (t ++ l)) k ∙ scan_pass (starts_at x r) (ends_at x r) (length t) (t ++ l) ∙ ap (scan (starts_at x r) (ends_at x r) 0) (drop-append_seam t l)

      go : (b : Bool) → eqb r a ≡ b → scan (starts_at x r) (ends_at x r) 0 (starts_at x a ∷ ends_at x a ∷ f ∷ o ∷ n ∷ t ++ l) ≡ either b (scan (starts_at x r) (ends_at x r) 0 l)
      go true e =
          let q : a ≡ r = sym (eqb-true r a e) in
          ap₂ (λ (b c : Bool). either (b && c) (scan (starts_at x r) (ends_at x r) (behind f n) (t ++ l))) (eq-eqb _ _ (ap (starts_at x) q)) (eq-eqb _ _ (ap (ends_at x) q))
      go false e = ap (λ (b : Bool). either (b && eqb (ends_at x a) (ends_at x r)) (scan (starts_at x r) (ends_at x r) (behind f n) (t ++ l))) (ne_eqb _ _ (λ q. eqb-false r a e (sym (own w a r g h q)))) ∙ on

  pub scan_recorded : (L : Limits) (i n : ℕ) → n ≤ length x.ids → (es : List (ℕ × Choice)) → Apart n es → scan (starts_at x r) (ends_at x r) 0 (flat_records (of_item i (recorded L x es))) ≡ P.pending r es
  unfolding recorded
  scan_recorded L i n g [] k = scan_few (starts_at x r) (ends_at x r) [] (omega arith)
  scan_recorded L i n g (e ∷ es) k =
      let q = record_of L x e.0 e.1 in
      ap (λ (t : List ℕ). scan (starts_at x r) (ends_at x r) 0 (q.0 ∷ q.1 ∷ q.2 ∷ i ∷ length q.3 ∷ t)) (sym (append_assoc q.3 q.4 (flat_records (of_item i (recorded L x es)))))
      ∙ scan_one e.0 q.2 i (length q.3) (q.3 ++ q.4) (flat_records (of_item i (recorded L x es))) (behind_is L x e.0 e.1) (omega (arith, k.0))
      ∙ ap (either (eqb r e.0)) (scan_recorded L i n g es k.2)
