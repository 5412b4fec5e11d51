-- What a day line reads to, by its fields and by the places where they end. Assumes nothing.
use Prim.Native.Nat.{ℕ, ◌+◌, ◌-◌, ◌≤◌, ◌<◌}
use mathlib.Core.Path.{◌≡◌, refl, sym, ap, ◌∙◌}
use mathlib.Core.List.{List, [], ◌∷◌}
use mathlib.Core.Bool.{Bool, true, false, cond, ◌&&◌}
use mathlib.Core.Logic.{⊎_elim}
use Rattle.std.specs.Prelude.{None, Some, ◌≢◌}
use native.Mathlib.Omega.{arith}
use borrow.Author.Tests.{eq-eqb, ne_eqb}
use lib.Dec.{eqb}
use lib.ListN.{length, take, drop, length-drop}
use lib.Seq.{take_all}
use Rattle.listing.specs.Lines.{onto, parted, Piece}
use Rattle.listing.proofs.Either.{either}
use Rattle.listing.proofs.Marks.{Free}
use Rattle.listing.proofs.Pieces.{part, marked, unmarked, one_piece}
use Rattle.replay.specs.Answer.{before_pieces, first_of}
use Rattle.replay.specs.Day.{Entry, single, writable, ended_of, entry_of}
use Rattle.shapes.specs.Outcome as outcome
use Rattle.shapes.specs.declared.outcome.Outcome.{Outcome}
use Rattle.shapes.specs.declared.outcome.Outcome.TheVariants as V

-- ANSWERS

pub no_outcome : (n e : ℕ) → ((s : Outcome) → outcome.number s ≢ n) → None ≡ ended_of n e
no_outcome n e h = rw (ne_eqb n 0 (λ i. h V.Done (sym i)), ne_eqb n 1 (λ i. h V.Spent (sym i)), ne_eqb n 2 (λ i. h V.Deep (sym i)))

-- NAMES

module _ {m : ℕ} {s : List ℕ} {to : ℕ} (p : Piece m s 0 to) where
  two_pieces : to < length s → single (parted m s) ≡ false
  two_pieces h = ap single (marked p h) ∙ one_piece (λ (ps : List (List ℕ)). single (part 0 to s ∷ ps) ≡ false) (λ q qs. refl) m (drop (to + 1) s)

  one_only : length s ≤ to → single (parted m s) ≡ true
  one_only h = ap single (unmarked p h)

  ends_it : eqb to (length s) ≡ single (parted m s)
  ends_it =
      ⊎_elim
      (λ h. ne_eqb to (length s) (λ e. omega arith) ∙ sym (two_pieces h))
      (λ h. eq-eqb to (length s) (omega (arith, p.within)) ∙ sym (one_only h))
      (either to (length s))

pub tabbed : {s : List ℕ} {to : ℕ} → Piece 9 s 0 to → to < length s → false ≡ writable s
tabbed {s} p h = sym (ap (λ (t : Bool). t && single (parted 10 s)) (two_pieces p h))

pub untabbed : {s : List ℕ} {a b : ℕ} → Piece 9 s 0 a → length s ≤ a → Piece 10 s 0 b → eqb b (length s) ≡ writable s
untabbed {s} p h q = ends_it q ∙ sym (ap (λ (t : Bool). t && single (parted 10 s)) (one_only p h))

-- a text with one piece is that piece
pub single_free : (m : ℕ) (s : List ℕ) → single (parted m s) ≡ true → Free m s
single_free m [] h = refl
single_free m (b ∷ bs) h = go (eqb b m) (single_free m bs) h
  where
    two : single ([] ∷ parted m bs) ≡ true → ⊥
    two = one_piece (λ (ps : List (List ℕ)). single ([] ∷ ps) ≡ true → ⊥) (λ p ps i. let z : ◌≡◌ {A = ℕ} 0 1 = cc in omega arith) m bs

    same : (p : List ℕ) (ps : List (List ℕ)) → single ((b ∷ p) ∷ ps) ≡ true → single (p ∷ ps) ≡ true
    same p [] i = refl
    same p (q ∷ ps) i = i

    go : (t : Bool) → (single (parted m bs) ≡ true → Free m bs) → single (cond t ([] ∷ parted m bs) (onto (b ∷ []) (parted m bs))) ≡ true → cond t ([] ∷ parted m bs) (onto (b ∷ []) (parted m bs)) ≡ (b ∷ bs) ∷ []
    go true f h = absurd (two h)
    go false f h = ap (onto (b ∷ [])) (f (one_piece (λ (ps : List (List ℕ)). single (onto (b ∷ []) ps) ≡ true → single ps ≡ true) same m bs h))

-- LINES

-- the first of some lines
pub first_line : (l : List ℕ) (m : ℕ) (s : List ℕ) → first_of (l ∷ parted m s) ≡ before_pieces (parted m s) (entry_of (parted 9 l))
first_line l m s = one_piece (λ (ls : List (List ℕ)). first_of (l ∷ ls) ≡ before_pieces ls (entry_of (parted 9 l))) (λ k ls. refl) m s

-- an entry that was read, and the text behind it
pub first_read : {s : List ℕ} {to : ℕ} → Piece 10 s 0 to → to < length s → {e : Entry} → Some e ≡ entry_of (parted 9 (take to s))
    → Some (e, parted 10 (take (length s - (to + 1)) (drop (to + 1) s))) ≡ first_of (parted 10 s)
first_read {s} {to} p h {e} k =
    ap (λ (t : List ℕ). Some (e, parted 10 t)) (take_all (length s - (to + 1)) (drop (to + 1) s) (simp length-drop (omega arith)))
    ∙ ap (before_pieces (parted 10 (drop (to + 1) s))) (k ∙ ap (λ (n : ℕ). entry_of (parted 9 (take n s))) whole)
    ∙ sym (first_line (part 0 to s) 10 (drop (to + 1) s))
    ∙ sym (ap first_of (marked p h))
  where
    whole : to ≡ to - 0
    whole = omega arith
