-- Facts on lists.
use Prim.Native.Nat.{ℕ, zero, suc, ◌+◌, ◌-◌, ◌≤◌, ◌<◌}
use mathlib.Core.Path.{◌≡◌, refl, sym, ap, ◌∙◌}
use mathlib.Core.List.{List, [], ◌∷◌, ◌++◌}
use mathlib.Core.Bool.{Bool, true, false, not}
use native.Mathlib.Omega.{arith}
use native.Mathlib.Numerals.{towards_suc, sub-one}
use lib.ListN.{length, get_or, take, drop, set, length-set, length-append}
use lib.Seq.{take_at, sets-eq, length-take-le, take-set-le}
use Rattle.shapes.specs.Shapes.{EVENT, event}

pub get_d_any : (l : List ℕ) (i d d' : ℕ) → i < length l → get_or l i d ≡ get_or l i d'
get_d_any [] i d d' h = absurd (omega arith)
get_d_any (x ∷ xs) zero d d' h = refl
get_d_any (x ∷ xs) (suc i) d d' h = get_d_any xs i d d' (omega arith)

-- the list after an event's stores
abbrev pub stored : List ℕ → ℕ → ℕ → ℕ → ℕ → ℕ → ℕ → List ℕ
stored l i a b c d e = set (set (set (set (set l i a) (i + 1) b) (i + 2) c) (i + 3) d) (i + 4) e

stored_eq : (l : List ℕ) (i a b c d e : ℕ) → i + EVENT ≤ length l → stored l i a b c d e ≡ take i l ++ event a b c d e ++ drop (i + EVENT) l
stored_eq l i a b c d e h = simp towards_suc (sets-eq (event a b c d e) l i h ∙ simp towards_suc)

pub take_event : (l : List ℕ) (i a b c d e : ℕ) → i + EVENT ≤ length l → take (i + EVENT) (stored l i a b c d e) ≡ take i l ++ event a b c d e
take_event l i a b c d e h =
    ap (take (i + EVENT)) (stored_eq l i a b c d e h)
    ∙ take_at (take i l ++ event a b c d e) (drop (i + EVENT) l) (i + EVENT) (length-append (take i l) (event a b c d e) ∙ omega (arith, length-take-le i l (omega arith)))

pub keep_event : (l : List ℕ) (i a b c d e : ℕ) → take i (stored l i a b c d e) ≡ take i l
keep_event l i a b c d e =
    take-set-le i _ (i + 4) e (omega arith) ∙ take-set-le i _ (i + 3) d (omega arith) ∙ take-set-le i _ (i + 2) c (omega arith) ∙ take-set-le i _ (i + 1) b (omega arith) ∙ take-set-le i l i a (omega arith)

pub length_event : (l : List ℕ) (i a b c d e : ℕ) → length (stored l i a b c d e) ≡ length l
length_event l i a b c d e = simp length-set

-- the entry behind the first
pub get_d_cons : (z : ℕ) (l : List ℕ) (i : ℕ) → (i ≡ 0 → ⊥) → get_or l (i - 1) 0 ≡ get_or (z ∷ l) i 0
get_d_cons z l zero h = absurd (h refl)
get_d_cons z l (suc i) h = ap (λ (k : ℕ). get_or l k 0) (sub-one (suc i))

-- what a test of `!b` tells
pub not_yes : (b : Bool) → not b ≡ true → b ≡ false
not_yes true e = sym e
not_yes false e = refl

pub not_no : (b : Bool) → not b ≡ false → b ≡ true
not_no true e = refl
not_no false e = sym e
