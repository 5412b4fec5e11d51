-- What std's `split` gives of a text, cut at a mark, are the pieces of the definition. Assumes nothing.
use Prim.Native.Nat.{ℕ, suc, ◌<◌}
use mathlib.Core.Path.{◌≡◌, refl, sym, ap, subst, ◌∙◌}
use mathlib.Core.List.{List, [], ◌∷◌, ◌++◌, append_assoc, append-nil}
use mathlib.Core.Bool.{Bool, true, false, cond}
use native.Mathlib.Omega.{arith}
use borrow.Author.Tests.{eqb-true}
use denote.Param.Members.{Mut}
use denote.Ref.{Bor}
use lib.Dec.{eqb}
use lib.ListN.{length, get_or}
use Rattle.std.specs.Bool.{MatchBool}
use Rattle.std.specs.Fn.{ComputesKey, CalledAt}
use Rattle.std.specs.List.{IsFirstMatchOrLen}
use Rattle.std.proofs.lemmas.Fn.{always_returns_same}
use Rattle.std.proofs.lemmas.Grind.{common_steps}
use Rattle.listing.specs.Lines.{parted}
use Rattle.listing.proofs.Lent.{in_parts}
use Rattle.listing.proofs.Marks.{Free, free_one}

-- a text that ends before its first mark has none
pub free : (m : ℕ) (t : List ℕ) → ((k : ℕ) → k < length t → eqb (get_or t k 0) m ≡ false) → Free m t
free m [] h = refl
free m (b ∷ t) h = free_one m b t (h 0 (omega arith)) (free m t (λ k l. h (suc k) (omega arith)))

module _ (m : ℕ) where
  -- a piece, by how `split` tells it
  piece : (xs x rest : List ℕ) (done : Bool) → MatchBool done (xs ≡ x) ((y : ℕ) × (xs ≡ x ++ (y ∷ rest))) → IsFirstMatchOrLen (λ b. eqb b m) xs (length x)
      → parted m xs ≡ x ∷ cond done [] (parted m rest)
  piece xs x rest true e h = ap (parted m) e ∙ free m x (λ k l. subst (λ (ys : List ℕ). eqb (get_or ys k 0) m ≡ false) e (h.0 k 0 (omega arith) l))
  piece xs x rest false e h =
      let front : Free m x = free m x (λ k l. let a = h.0 k 0 (omega arith) l in let b = e.1 in grind (arith, common_steps)) in
      let hit : eqb e.0 m ≡ true = let b = e.1 in let a = h.1 (grind (arith, common_steps)) 0 in grind (arith, common_steps) in
      ap (parted m) (e.1 ∙ ap (λ (y : ℕ). x ++ (y ∷ rest)) (eqb-true e.0 m hit))
      ∙ in_parts m x rest
      ∙ ap (λ (ps : List (List ℕ)). ps ++ parted m rest) front

  -- the pieces that are left, of an iterator that is done or has the rest
  abbrev left : Bool → List ℕ → List (List ℕ)
  left done rest = cond done [] (parted m rest)

  -- the pieces fs of the text are cut off, and the closure f looks for the mark
  pub record Cut {F : Type 0} (g : Mut F (Bor ℕ × Unit {0}) Bool) (text : List ℕ) (fs : List (List ℕ)) (f : F) (done : Bool) (rest : List ℕ) : Type 0 where
    pub tests : ComputesKey g (λ b. eqb b m) f
    pub is : parted m text ≡ fs ++ left done rest

  module _ {F : Type 0} {g : Mut F (Bor ℕ × Unit {0}) Bool} where
    -- the closure q looks for the mark, by what each call of it says
    pub looks : {q : F} → ((x : ℕ) (b : Bool) (p : F) → CalledAt g q x b p → (p ≡ q) × (b ≡ eqb x m)) → ComputesKey g (λ b. eqb b m) q
    looks {q} tests = always_returns_same g (λ a r. r ≡ eqb a.0.now m) q (λ a r p k. let t = tests a.0.now r p (record { shown = a.0; shows = refl; called = k }) in (t.1, t.0))

  module _ {F : Type 0} {g : Mut F (Bor ℕ × Unit {0}) Bool} {text : List ℕ} where
    -- before the first step
    pub uncut : {rest : List ℕ} {done : Bool} {f q : F} → rest ≡ text → done ≡ false → f ≡ q
        → ((x : ℕ) (b : Bool) (p : F) → CalledAt g q x b p → (p ≡ q) × (b ≡ eqb x m)) → Cut g text [] f done rest
    uncut {rest} {done} {f} {q} e d k tests =
        record {
          tests = subst (ComputesKey g (λ b. eqb b m)) (sym k) (looks tests);
          is = ap (parted m) (sym e) ∙ ap (λ (d : Bool). left d rest) (sym d);
        }

    module _ {fs : List (List ℕ)} {f : F} {done : Bool} {rest : List ℕ} (c : Cut g text fs f done rest) where
      -- no step is left
      pub all_cut : done ≡ true → parted m text ≡ fs
      all_cut k = c.is ∙ ap (λ (d : Bool). fs ++ left d rest) k ∙ append-nil fs

      -- a step, as `split_steps` tells it
      module _ (x : List ℕ) {q : F} (more : Bool) (last : List ℕ)
          (k : (done ≡ false) × MatchBool more (rest ≡ x) ((y : ℕ) × (rest ≡ x ++ (y ∷ last))) × ((p : ℕ → Bool) → ComputesKey g p f → ComputesKey g p q × IsFirstMatchOrLen p rest (length x))) where
        pub next_piece : parted m text ≡ fs ++ (x ∷ left more last)
        next_piece =
            c.is
            ∙ ap (λ (d : Bool). fs ++ left d rest) k.0
            ∙ ap (λ (ps : List (List ℕ)). fs ++ ps) (piece rest x last more k.1 (k.2 (λ b. eqb b m) c.tests).1)

        pub cut_off : Cut g text (fs ++ (x ∷ [])) q more last
        cut_off = record { tests = (k.2 (λ b. eqb b m) c.tests).0; is = next_piece ∙ sym (append_assoc fs (x ∷ []) (left more last)) }
