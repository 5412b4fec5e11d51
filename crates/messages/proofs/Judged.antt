-- What is known of a record that reads. Assumes nothing.
use Prim.Native.Nat.{ℕ, zero, suc, ◌+◌, ◌-◌, ◌≤◌, ◌<◌}
use mathlib.Core.Path.{◌≡◌, refl, sym, ap, ◌∙◌}
use mathlib.Core.List.{List, [], ◌∷◌}
use mathlib.Core.Bool.{Bool, true, false, cond, not, ◌&&◌, ◌||◌}
use native.Mathlib.Nat.{min-le_left}
use native.Mathlib.Numerals.{add-one}
use native.Mathlib.Omega.{arith}
use borrow.Author.Tests.{leb-true, eqb-true, le-ltb, lt-ltb}
use lib.Dec.{eqb, leb}
use lib.ListN.{length, get_or, take, drop}
use lib.Seq.{drop-cons, take-suc}
use Rattle.std.specs.List.{list_any}
use Rattle.std.proofs.lemmas.List.Folds.{list_any-append}
use Rattle.messages.specs.Record.{start, end, form, count, names, found, head, size, counts, has, named, shows, reads}
use Rattle.messages.specs.Written.{before}
use Rattle.messages.proofs.Cuts.{names_count}

pub and_left : (a b : Bool) → a && b ≡ true → a ≡ true
and_left true b e = refl
and_left false b e = e

pub and_right : (a b : Bool) → a && b ≡ true → b ≡ true
and_right true b e = e
and_right false b e = cc

pub record Judged (s r : List ℕ) : Type 0 where
  pub least : 1 ≤ form r
  pub most : form r ≤ 10
  pub kept : named [] (names r) ≡ true
  pub none : 4 ≤ form r → length (names r) ≡ 0
  pub shown : shows (form r) (found s r) ≡ true

module _ (s r : List ℕ) where
  abbrev t₁ : Bool
  t₁ = leb head (length r) && leb (start r) (end r) && leb (end r) (length s)

  abbrev t₂ : Bool
  t₂ = leb (size r) (length r)

  abbrev t₃ : Bool
  t₃ = counts (form r) (count r)

  pub judged : reads s r ≡ true → Judged s r
  unfolding reads
  judged e =
      let e₈ = and_left (t₁ && leb 1 (form r) && leb (form r) 10 && t₃ && t₂ && named [] (names r)) (shows (form r) (found s r)) e in
      let e₇ = and_left (t₁ && leb 1 (form r) && leb (form r) 10 && t₃ && t₂) (named [] (names r)) e₈ in
      let e₆ = and_left (t₁ && leb 1 (form r) && leb (form r) 10 && t₃) t₂ e₇ in
      let e₅ = and_left (t₁ && leb 1 (form r) && leb (form r) 10) t₃ e₆ in
      let e₄ = and_left (t₁ && leb 1 (form r)) (leb (form r) 10) e₅ in
      let c : t₃ ≡ true = and_right (t₁ && leb 1 (form r) && leb (form r) 10) t₃ e₆ in
      record {
        least = leb-true 1 (form r) (and_right t₁ (leb 1 (form r)) e₄);
        most = leb-true (form r) 10 (and_right (t₁ && leb 1 (form r)) (leb (form r) 10) e₅);
        kept = and_right (t₁ && leb 1 (form r) && leb (form r) 10 && t₃ && t₂) (named [] (names r)) e₈;
        none = λ h.
            let z : count r ≡ 0 = eqb-true (count r) 0 (sym (ap (λ (b : Bool). cond b (leb 1 (count r)) (eqb (count r) 0)) (le-ltb (form r) 4 h)) ∙ c) in
            omega (arith, z, names_count r, min-le_left (count r) (length r - head));
        shown = and_right (t₁ && leb 1 (form r) && leb (form r) 10 && t₃ && t₂ && named [] (names r)) (shows (form r) (found s r)) e;
      }

-- a number among the first ones of a list
pub met : (l : List ℕ) (i n : ℕ) → i ≤ length l → list_any (λ m. eqb m n) (take i l) ≡ has (before i l) n
met l zero n h = refl
met l (suc i) n h =
    ap (list_any (λ m. eqb m n)) (take-suc l i 0 h)
    ∙ list_any-append (λ m. eqb m n) (take i l) (get_or l i 0 ∷ [])
    ∙ seen (eqb (get_or l i 0) n) (list_any (λ m. eqb m n) (take i l)) (met l i n (omega arith))
  where
    seen : (b a : Bool) {h : Bool} → a ≡ h → a || (b || false) ≡ cond b true h
    seen true true e = refl
    seen true false e = refl
    seen false true e = e
    seen false false e = e

-- the numbers from i on are names, and none is among those before
module _ (l : List ℕ) (i : ℕ) where
  abbrev pub from_here : Bool
  from_here = named (before i l) (drop i l)

  here : i < length l → named (before i l) (get_or l i 0 ∷ drop (suc i) l) ≡ from_here
  here h = ap (named (before i l)) (sym (drop-cons l i 0 h))

  pub twice : i < length l → get_or l i 0 < 85 → has (before i l) (get_or l i 0) ≡ true → false ≡ from_here
  twice h e m =
      sym
      (ap (λ (b : Bool). b && not (has (before i l) (get_or l i 0)) && named (before (suc i) l) (drop (suc i) l)) (lt-ltb (get_or l i 0) 85 e)
      ∙ ap (λ (b : Bool). not b && named (before (suc i) l) (drop (suc i) l)) m)
      ∙ here h

  pub once : i < length l → get_or l i 0 < 85 → has (before i l) (get_or l i 0) ≡ false → named (before (i + 1) l) (drop (i + 1) l) ≡ from_here
  once h e m =
      ap (λ (k : ℕ). named (before k l) (drop k l)) (add-one i)
      ∙ sym
      (ap (λ (b : Bool). b && not (has (before i l) (get_or l i 0)) && named (before (suc i) l) (drop (suc i) l)) (lt-ltb (get_or l i 0) 85 e)
      ∙ ap (λ (b : Bool). not b && named (before (suc i) l) (drop (suc i) l)) m)
      ∙ here h

-- the names as the code lends them
pub names_part : (r : List ℕ) → named [] (take (head + count r - head) (drop head r)) ≡ named [] (names r)
names_part r = let e : head + count r - head ≡ count r = omega arith in ap (λ (n : ℕ). named [] (take n (drop head r))) e
