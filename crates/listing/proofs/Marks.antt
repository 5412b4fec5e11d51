-- Texts in which no mark stands, fields with marks between them, and the fields of a line one after another. Assumes nothing.
use Prim.Native.Nat.{ℕ, ◌+◌, ◌≤◌, ◌<◌}
use mathlib.Core.Path.{◌≡◌, refl, sym, ap, ◌∙◌}
use mathlib.Core.List.{List, [], ◌∷◌, ◌++◌, map, append_assoc, append-nil}
use mathlib.Core.Bool.{Bool, true, false, cond, ◌&&◌}
use native.Mathlib.Omega.{arith}
use borrow.Author.Tests.{leb-true, ne_eqb}
use lib.Dec.{eqb, leb}
use lib.ListN.{length, drop}
use Rattle.listing.specs.Numbers.{is_digit, all_digits, decimal}
use Rattle.listing.specs.Lines.{onto, parted, Piece}
use Rattle.listing.specs.Listing.{led}
use Rattle.listing.proofs.Pieces.{part, marked, unmarked, one_piece}
use Rattle.listing.proofs.Digits.{reads}
use Rattle.listing.proofs.Lent.{in_parts}

-- no mark stands in the text
abbrev pub Free : ℕ → List ℕ → Type 0
Free m t = parted m t ≡ t ∷ []

pub free_one : (m c : ℕ) (b : List ℕ) → eqb c m ≡ false → Free m b → Free m (c ∷ b)
free_one m c b e f = ap (λ (t : Bool). cond t ([] ∷ parted m b) (onto (c ∷ []) (parted m b))) e ∙ ap (onto (c ∷ [])) f

-- the first byte of a text without marks is none, and neither are the others
pub record Unmarked (m c : ℕ) (b : List ℕ) : Type 0 where
  pub here : eqb c m ≡ false
  pub rest : Free m b

pub free_apart : (m c : ℕ) (b : List ℕ) → Free m (c ∷ b) → Unmarked m c b
free_apart m c b f = go (eqb c m) refl f
  where
    led_by : (ps : List (List ℕ)) → onto (c ∷ []) ps ≡ (c ∷ b) ∷ [] → (ps ≡ [] → ⊥) → ps ≡ b ∷ []
    led_by [] e n = absurd (n refl)
    led_by (p ∷ ps) e n = cc

    some_piece : parted m b ≡ [] → ⊥
    some_piece e = one_piece (λ (ps : List (List ℕ)). ps ≡ [] → ⊥) (λ p ps i. let z : ◌≡◌ {A = ℕ} 0 1 = cc in omega arith) m b e

    go : (t : Bool) → eqb c m ≡ t → cond t ([] ∷ parted m b) (onto (c ∷ []) (parted m b)) ≡ (c ∷ b) ∷ [] → Unmarked m c b
    go true e i = absurd (let z : ◌≡◌ {A = ℕ} 0 1 = cc in omega arith)
    go false e i = record { here = e; rest = led_by (parted m b) i some_piece }

pub free_append : (m : ℕ) (a b : List ℕ) → Free m a → Free m b → Free m (a ++ b)
free_append m [] b f g = g
free_append m (c ∷ a) b f g =
    let u = free_apart m c a f in
    free_one m c (a ++ b) u.here (free_append m a b u.rest g)

pub both : (a b : Bool) → (a && b) ≡ true → (a ≡ true) × (b ≡ true)
both true b e = (refl, e)
both false b e = absurd (let z : ◌≡◌ {A = ℕ} 0 1 = cc in omega arith)

-- marks are below the digits
free_digits : (m : ℕ) → m < 48 → (t : List ℕ) → all_digits t ≡ true → Free m t
free_digits m h [] e = refl
free_digits m h (b ∷ t) e =
    let d = both (is_digit b) (all_digits t) e in
    let l = both (leb 48 b) (leb b 57) d.0 in
    free_one m b t (ne_eqb b m (λ i. omega (arith, leb-true 48 b l.0))) (free_digits m h t d.1)

pub free_decimal : (m : ℕ) → m < 48 → (n : ℕ) → Free m (decimal n)
free_decimal m h n = free_digits m h (decimal n) (reads n).digits

abbrev pub AllFree : ℕ → List (List ℕ) → Type 0
AllFree m [] = Unit
AllFree m (t ∷ ts) = Free m t × AllFree m ts

pub decimals_free : (m : ℕ) → m < 48 → (ns : List ℕ) → AllFree m (map decimal ns)
decimals_free m h [] = tt
decimals_free m h (n ∷ ns) = (free_decimal m h n, decimals_free m h ns)

-- what stands behind other marks has none of this one
pub free_led : (m n : ℕ) → eqb n m ≡ false → (ts : List (List ℕ)) → AllFree m ts → Free m (led n ts)
free_led m n e [] a = refl
free_led m n e (t ∷ ts) a = free_one m n (t ++ led n ts) e (free_append m t (led n ts) a.0 (free_led m n e ts a.1))

-- fields with marks between them are the pieces
pub fields_of : (m : ℕ) (t : List ℕ) (ts : List (List ℕ)) → Free m t → AllFree m ts → parted m (t ++ led m ts) ≡ t ∷ ts
fields_of m t [] f a = ap (parted m) (append-nil t) ∙ f
fields_of m t (u ∷ ts) f a =
    in_parts m t (u ++ led m ts)
    ∙ ap (λ (ps : List (List ℕ)). ps ++ parted m (u ++ led m ts)) f
    ∙ ap (λ (ps : List (List ℕ)). t ∷ ps) (fields_of m u ts a.0 a.1)

-- the pieces ps stand before the place
pub record Passed (m : ℕ) (s : List ℕ) (ps : List (List ℕ)) (at : ℕ) : Type 0 where
  pub is : parted m s ≡ ps ++ parted m (drop at s)

pub passed : (m : ℕ) (s : List ℕ) → Passed m s [] 0
passed m s = record { is = refl }

module _ {m : ℕ} {s : List ℕ} {ps : List (List ℕ)} {at to : ℕ} (g : Passed m s ps at) (p : Piece m s at to) where
  pub pass : to < length s → Passed m s (ps ++ (part at to s ∷ [])) (to + 1)
  pass h =
      record {
        is =
            g.is
            ∙ ap (λ (qs : List (List ℕ)). ps ++ qs) (marked p h)
            ∙ sym (append_assoc ps (part at to s ∷ []) (parted m (drop (to + 1) s)));
      }

  -- no other piece
  pub finish : length s ≤ to → ps ++ (part at to s ∷ []) ≡ parted m s
  finish h = sym (g.is ∙ ap (λ (qs : List (List ℕ)). ps ++ qs) (unmarked p h))
