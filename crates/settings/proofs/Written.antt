-- The line of an edition reads back: its fields, and that no line feed stands in it. Assumes nothing.
use Prim.Native.Nat.{ℕ, ◌^◌, ◌<◌}
use mathlib.Core.Path.{◌≡◌, refl, sym, ap, ◌∙◌}
use mathlib.Core.List.{List, [], ◌∷◌, ◌++◌, map, append_assoc}
use mathlib.Core.Bool.{Bool, true, false, cond, ◌&&◌}
use Rattle.std.specs.Prelude.{Some, None}
use native.Mathlib.Omega.{arith}
use borrow.Author.Tests.{ltb-true, leb-true}
use lib.Dec.{eqb, leb, ltb}
use Rattle.listing.specs.Numbers.{number, decimal}
use Rattle.listing.specs.Lines.{onto, parted}
use Rattle.listing.specs.Listing.{led}
use Rattle.listing.proofs.Pieces.{one_piece}
use Rattle.listing.proofs.Digits.{reads_back}
use Rattle.listing.proofs.Lent.{in_parts}
use Rattle.listing.proofs.Marks.{free_append, both, free_decimal, decimals_free, free_led, fields_of}
use Rattle.settings.specs.Settings.{in_range, line_of, written}
use Rattle.settings.specs.declared.lines.Values.{Values}

-- the pieces of two texts one behind the other: the last of the first and the first of the second are one
abbrev pub glue : List (List ℕ) → List (List ℕ) → List (List ℕ)
glue [] qs = qs
glue (p ∷ []) qs = onto p qs
glue (p ∷ r ∷ ps) qs = p ∷ glue (r ∷ ps) qs

pub onto_none : (m : ℕ) (s : List ℕ) → onto [] (parted m s) ≡ parted m s
onto_none m s = one_piece (λ (ps : List (List ℕ)). onto [] ps ≡ ps) (λ p ps. refl) m s

onto_glue : (c : ℕ) (p : List ℕ) (ps qs : List (List ℕ)) → onto (c ∷ []) (glue (p ∷ ps) qs) ≡ glue (onto (c ∷ []) (p ∷ ps)) qs
onto_glue c p [] [] = refl
onto_glue c p [] (q ∷ qs) = refl
onto_glue c p (r ∷ ps) qs = refl

pub parted_append : (m : ℕ) (a b : List ℕ) → parted m (a ++ b) ≡ glue (parted m a) (parted m b)
parted_append m [] b = sym (onto_none m b)
parted_append m (c ∷ a) b = go (eqb c m) (parted_append m a b)
  where
    go : (t : Bool) → parted m (a ++ b) ≡ glue (parted m a) (parted m b)
        → cond t ([] ∷ parted m (a ++ b)) (onto (c ∷ []) (parted m (a ++ b))) ≡ glue (cond t ([] ∷ parted m a) (onto (c ∷ []) (parted m a))) (parted m b)
    go true e =
        ap (λ (ps : List (List ℕ)). [] ∷ ps) e
        ∙ one_piece (λ (ps : List (List ℕ)). [] ∷ glue ps (parted m b) ≡ glue ([] ∷ ps) (parted m b)) (λ p ps. refl) m a
    go false e =
        ap (onto (c ∷ [])) e
        ∙ one_piece (λ (ps : List (List ℕ)). onto (c ∷ []) (glue ps (parted m b)) ≡ glue (onto (c ∷ []) ps) (parted m b)) (λ p ps. onto_glue c p ps (parted m b)) m a

module _ (e : ℕ) (v : Values) where
  values : List ℕ
  values = v.fuel ∷ v.depth ∷ v.quote ∷ v.entrypoint ∷ []

  -- the line without its line feed
  pub body : List ℕ
  unfolding values
  body = decimal e ++ led 9 (map decimal values)

  pub one_line : parted 10 (written e v) ≡ body ∷ [] ∷ []
  unfolding values body
  one_line =
      ap (parted 10) (sym (append_assoc (decimal e) (led 9 (map decimal values)) (10 ∷ [])))
      ∙ in_parts 10 body []
      ∙ ap (λ (ps : List (List ℕ)). ps ++ ([] ∷ []))
      (free_append 10 (decimal e) (led 9 (map decimal values)) (free_decimal 10 (omega arith) e)
      (free_led 10 9 refl (map decimal values) (decimals_free 10 (omega arith) values)))

  module _ (h : e < 2 ^ 32) (r : in_range v ≡ true) where
    pub body_reads : line_of (parted 9 body) ≡ Some (e, v)
    unfolding values body
    body_reads =
        let o = both (ltb v.fuel (2 ^ 32) && leb 1 v.depth && leb v.depth 1024 && leb v.quote 255) (leb v.entrypoint 1) r in
        let a = both (ltb v.fuel (2 ^ 32) && leb 1 v.depth && leb v.depth 1024) (leb v.quote 255) o.0 in
        let b = both (ltb v.fuel (2 ^ 32) && leb 1 v.depth) (leb v.depth 1024) a.0 in
        let c = both (ltb v.fuel (2 ^ 32)) (leb 1 v.depth) b.0 in
        let f : number (decimal v.fuel) ≡ Some v.fuel = reads_back v.fuel (ltb-true v.fuel (2 ^ 32) c.0) in
        let d : number (decimal v.depth) ≡ Some v.depth = reads_back v.depth (omega (arith, leb-true v.depth 1024 b.1)) in
        let q : number (decimal v.quote) ≡ Some v.quote = reads_back v.quote (omega (arith, leb-true v.quote 255 a.1)) in
        let p : number (decimal v.entrypoint) ≡ Some v.entrypoint = reads_back v.entrypoint (omega (arith, leb-true v.entrypoint 1 o.1)) in
        ap line_of (fields_of 9 (decimal e) (map decimal values) (free_decimal 9 (omega arith) e) (decimals_free 9 (omega arith) values))
        ∙ rw (reads_back e h, f, d, q, p) (ap (λ (t : Bool). cond t (Some (e, v)) None) r)
