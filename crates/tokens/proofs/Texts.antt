-- A text is UTF-8, as crate utf8 has it, exactly where its characters, as the cutter has them, are no INVALID ones.
use Prim.Native.Nat.{ℕ, zero, suc, ◌+◌, ◌≤◌, ◌<◌}
use mathlib.Core.Path.{◌≡◌, refl, sym, ap, ◌∙◌}
use mathlib.Core.List.{List, [], ◌∷◌}
use mathlib.Core.Bool.{Bool, true, false, cond, not, ◌&&◌}
use mathlib.Core.Option.{Option, none, some}
use native.Mathlib.Omega.{arith}
use native.Mathlib.Decide.{dec_lt}
use native.Mathlib.Nat.{add-zero}
use lib.Dec.{T, leb, ltb, eqb, ltb→lt}
use lib.ListN.{length, get_or, drop, drop_of_length-le, get_or-eq_default}
use lib.Seq.{drop-cons}
use borrow.Author.Tests.{le-leb, lt-leb, lt-ltb}
use Rattle.utf8.specs.Utf8.{Range, within, characters, begun, nothing, walk, utf8}
use Rattle.utf8.proofs.Laws.{alike}
use Rattle.utf8.proofs.Table.{met}
use Rattle.tokens.specs.Classes.{class, class_in, wides, wide_class, OTHER, INVALID, LEAD}
use Rattle.tokens.specs.Glyph.{meets, counted, sequence, class_of, shown, glyph}
use Rattle.tokens.proofs.Equal.{both, left, right}
use Rattle.tokens.proofs.Agrees.{first_class, untrue}

-- every range leaves 0 out, as which bytes past the end read
abbrev solid : List Range → Bool
solid [] = true
solid (r ∷ due) = both (ltb 0 r.0) (solid due)

-- what is due passes the test f, in every row
abbrev such : (List Range → Bool) → List (Range × List Range) → Bool
such f [] = true
such f (row ∷ rows) = both (f row.1) (such f rows)

begun_such : (f : List Range → Bool) (rows : List (Range × List Range)) (b : ℕ) (due : List Range) → T (such f rows) → begun rows b ≡ some due → T (f due)
begun_such f [] b due t e = let z : ◌≡◌ {A = ℕ} 0 1 = cc in absurd (omega arith)
begun_such f (row ∷ rows) b due t e = go (begun_such f rows b due (right (f row.1) (such f rows) t)) (within row.0 b) e
  where
    go : (begun rows b ≡ some due → T (f due)) → (x : Bool) → cond x (some row.1) (begun rows b) ≡ some due → T (f due)
    go rest true e = let d : row.1 ≡ due = cc in rw d at (left (f row.1) (such f rows) t)
    go rest false e = rest e

grouped : (x y z : Bool) → x && (y && z) ≡ x && y && z
grouped true y z = refl
grouped false y z = refl

walk_meets : (due : List Range) (s : List ℕ) (i : ℕ) → T (solid due) → walk due (drop i s) ≡ (meets due s i && walk [] (drop (i + length due) s))
walk_meets [] s i t = rw add-zero
walk_meets (r ∷ due) s i t =
    let p = ltb→lt 0 r.0 (left (ltb 0 r.0) (solid due) t) in
    go p (walk_meets due s (suc i) (right (ltb 0 r.0) (solid due) t)) (dec_lt i (length s))
  where
    go : 0 < r.0 → walk due (drop (suc i) s) ≡ (meets due s (suc i) && walk [] (drop (suc i + length due) s)) → Dec (i < length s)
        → walk (r ∷ due) (drop i s) ≡ (within r (get_or s i 0) && meets due s (suc i) && walk [] (drop (i + suc (length due)) s))
    go p rest (yes h) =
        let e : suc i + length due ≡ i + suc (length due) = omega arith in
        let f : drop i s ≡ get_or s i 0 ∷ drop (suc i) s = drop-cons s i 0 h in
        ap (walk (r ∷ due)) f ∙ met r due (get_or s i 0) (drop (suc i) s)
        ∙ ap (λ x. within r (get_or s i 0) && x) (rest ∙ ap (λ n. meets due s (suc i) && walk [] (drop n s)) e)
        ∙ grouped (within r (get_or s i 0)) (meets due s (suc i)) _
    go p rest (no n) =
        let h : length s ≤ i = omega (arith, n) in
        let z : get_or s i 0 ≡ 0 = get_or-eq_default s 0 h in
        let w : within r (get_or s i 0) ≡ false = rw (z, lt-leb r.0 0 p) in
        rw (drop_of_length-le s h, w)

-- "a well_formed sequence": the text is UTF-8 exactly where one stands at its start and what is behind it is UTF-8
pub first_sequence : (s : List ℕ) → 0 < length s → utf8 s ≡ (ltb 0 (sequence s) && utf8 (drop (sequence s) s))
unfolding utf8
first_sequence [] h = absurd (omega arith)
first_sequence (b ∷ bs) h = go (begun characters b) refl
  where
    by : (t : Bool) (n : ℕ) → (t && walk [] (drop (suc n) (b ∷ bs))) ≡ (ltb 0 (cond t (suc n) 0) && walk [] (drop (cond t (suc n) 0) (b ∷ bs)))
    by true n = rw (lt-ltb 0 (suc n) (omega arith))
    by false n = refl

    go : (o : Option (List Range)) → begun characters b ≡ o
        → ◌≡◌ {A = Bool} (elim o as (λ _. Bool) [ none ↦ false | some due ↦ walk due bs ])
        (ltb 0 (counted o (b ∷ bs)) && walk [] (drop (counted o (b ∷ bs)) (b ∷ bs)))
    go none e = refl
    go (some due) e =
        let f : 1 + length due ≡ suc (length due) = omega arith in
        walk_meets due (b ∷ bs) 1 (begun_such solid characters b due tt e)
        ∙ ap (λ n. meets due (b ∷ bs) 1 && walk [] (drop n (b ∷ bs))) f
        ∙ by (meets due (b ∷ bs) 1) (length due)

-- no class of the list is k
abbrev without : ℕ → List ℕ → Bool
without k [] = not (eqb OTHER k)
without k (lo ∷ []) = not (eqb OTHER k)
without k (lo ∷ hi ∷ []) = not (eqb OTHER k)
without k (lo ∷ hi ∷ c ∷ rows) = both (not (eqb c k)) (without k rows)

not_in : (k : ℕ) (xs : List ℕ) (x : ℕ) → T (without k xs) → eqb (class_in xs x) k ≡ false
not_in k [] x t = untrue (eqb OTHER k) t
not_in k (lo ∷ []) x t = untrue (eqb OTHER k) t
not_in k (lo ∷ hi ∷ []) x t = untrue (eqb OTHER k) t
not_in k (lo ∷ hi ∷ c ∷ rows) x t =
    pick (leb lo x && leb x hi) (untrue (eqb c k) (left (not (eqb c k)) (without k rows) t)) (not_in k rows x (right (not (eqb c k)) (without k rows) t))
  where
    pick : (b : Bool) → eqb c k ≡ false → eqb (class_in rows x) k ≡ false → eqb (cond b c (class_in rows x)) k ≡ false
    pick true p q = p
    pick false p q = q

wide_valid : (x : ℕ) → eqb (wide_class x) INVALID ≡ false
unfolding wides wide_class
wide_valid x = not_in INVALID wides x tt

wide_classes : (m n : ℕ) (s : List ℕ) → eqb (class_of m (suc n) s) INVALID ≡ false
wide_classes m zero s = wide_valid _
wide_classes m (suc zero) s = wide_valid _
wide_classes m (suc (suc n)) s = wide_valid _

-- a row behind the first, which is that of ASCII
abbrev behind : List (Range × List Range) → List (Range × List Range)
behind [] = []
behind (row ∷ rows) = rows

-- a character is INVALID exactly where no sequence of the table stands
pub invalid_none : (m : ℕ) (s : List ℕ) → eqb (glyph m s).0 INVALID ≡ not (ltb 0 (sequence s))
unfolding glyph
invalid_none m s = go (dec_lt (get_or s 0 0) 0x80)
  where
    more : (o : Option (List Range)) → begun (behind characters) (get_or s 0 0) ≡ o → eqb (shown m (counted o s) s).0 INVALID ≡ not (ltb 0 (counted o s))
    more none e = refl
    more (some []) e = absurd (begun_such (λ due. not (nothing due)) (behind characters) (get_or s 0 0) [] tt e)
    more (some (r ∷ due)) e = by (meets (r ∷ due) s 1)
      where
        by : (t : Bool) → eqb (shown m (cond t (suc (suc (length due))) 0) s).0 INVALID ≡ not (ltb 0 (cond t (suc (suc (length due))) 0))
        by true = rw (wide_classes m (length due) s, lt-ltb 0 (suc (suc (length due))) (omega arith))
        by false = refl

    go : Dec (get_or s 0 0 < 0x80) → eqb (shown m (sequence s) s).0 INVALID ≡ not (ltb 0 (sequence s))
    go (yes g) =
        let t = rw (lt-ltb (get_or s 0 0) 0x80 g) at (first_class m (get_or s 0 0) (omega arith)) in
        let e = untrue (eqb (class m (get_or s 0 0)) INVALID) (right (not (eqb (class m (get_or s 0 0)) LEAD)) (not (eqb (class m (get_or s 0 0)) INVALID)) t) in
        rw (sym (alike {lo = 0} {hi = 0x80} {b = get_or s 0 0} (omega arith) g characters tt)) e
    go (no n) = rw (le-leb 0 (get_or s 0 0) (omega arith), lt-leb (get_or s 0 0) 0x7F (omega (arith, n))) (more (begun (behind characters) (get_or s 0 0)) refl)

pub first_character : (m : ℕ) (s : List ℕ) → 0 < length s
    → utf8 s ≡ (not (eqb (glyph m s).0 INVALID) && utf8 (drop (glyph m s).1 s))
unfolding glyph
first_character m s h = first_sequence s h ∙ go (sequence s) (invalid_none m s)
  where
    go : (n : ℕ) → eqb (shown m n s).0 INVALID ≡ not (ltb 0 n) → (ltb 0 n && utf8 (drop n s)) ≡ (not (eqb (shown m n s).0 INVALID) && utf8 (drop (shown m n s).1 s))
    go zero e = refl
    go (suc n) e = rw (e, lt-ltb 0 (suc n) (omega arith))
