-- What a caller may lend of what it read: a file name lies in its line, and a line in its bytes; and bytes that are read in parts are parted as the
-- whole. Assumes nothing.
use Prim.Native.Nat.{ℕ, suc, ◌+◌, ◌-◌, ◌≤◌, ◌<◌}
use mathlib.Core.Path.{◌≡◌, refl, sym, ap, subst, ◌∙◌}
use mathlib.Core.List.{List, [], ◌∷◌, ◌++◌}
use mathlib.Core.Bool.{Bool, true, false, cond}
use Rattle.std.specs.Prelude.{Option, Some, None}
use native.Mathlib.Omega.{arith}
use borrow.Author.Tests.{eq-eqb}
use lib.Dec.{leb, eqb}
use lib.ListN.{length, drop, length-drop}
use Rattle.listing.specs.Numbers.{number}
use Rattle.listing.specs.Lines.{onto, parted, source_from, source_of, row_from, row_of, fields_of, plain_of, line_of, first_of, next_of}
use Rattle.listing.specs.declared.read.Line.{Line}
use Rattle.listing.specs.declared.read.Line.TheVariants as line
use Rattle.listing.specs.declared.read.Next.{Next}
use Rattle.listing.specs.declared.read.Next.TheVariants as next
use Rattle.listing.proofs.Pieces.{one_piece}

-- how much the pieces take, each with its mark
abbrev total : List (List ℕ) → ℕ
total [] = 0
total (p ∷ ps) = suc (length p + total ps)

total_parted : (m : ℕ) (s : List ℕ) → total (parted m s) ≡ suc (length s)
total_parted m [] = refl
total_parted m (b ∷ bs) = go (eqb b m) (total_parted m bs)
  where
    led : (ps : List (List ℕ)) → total ps ≡ suc (length bs) → total (onto (b ∷ []) ps) ≡ suc (suc (length bs))
    led [] e = absurd (omega arith)
    led (p ∷ ps) e = omega arith

    go : (t : Bool) → total (parted m bs) ≡ suc (length bs) → total (cond t ([] ∷ parted m bs) (onto (b ∷ []) (parted m bs))) ≡ suc (suc (length bs))
    go true e = omega arith
    go false e = led (parted m bs) e

-- the name of a source line of n bytes lies in the line
abbrev Named : ℕ → Option Line → Type 0
Named n None = Unit
Named n (Some (line.Source from to fuel)) = (from ≤ to) × (to ≤ n)
Named n (Some (line.Row id start end)) = Unit

source_named : (n : ℕ) (fs : List (List ℕ)) → total fs + 1 ≡ n → Named n (source_of fs)
source_named n [] e = tt
source_named n (name ∷ []) e = tt
source_named n (name ∷ fuel ∷ []) e = go (number fuel)
  where
    go : (o : Option ℕ) → Named n (source_from (length name) o)
    go None = tt
    go (Some f) = omega arith
source_named n (name ∷ fuel ∷ f ∷ fs) e = tt

row_named : (n : ℕ) (fs : List (List ℕ)) → Named n (row_of fs)
row_named n [] = tt
row_named n (id ∷ []) = tt
row_named n (id ∷ start ∷ []) = tt
row_named n (id ∷ start ∷ end ∷ []) = go (number id) (number start) (number end)
  where
    go : (a b c : Option ℕ) → Named n (row_from a b c)
    go None b c = tt
    go (Some x) None c = tt
    go (Some x) (Some y) None = tt
    go (Some x) (Some y) (Some z) = tt
row_named n (id ∷ start ∷ end ∷ f ∷ fs) = tt

either_named : (n : ℕ) (t : Bool) (a b : Option Line) → Named n a → Named n b → Named n (cond t a b)
either_named n true a b p q = p
either_named n false a b p q = q

fields_named : (n : ℕ) (fs : List (List ℕ)) → total fs ≡ suc n → Named n (fields_of fs)
fields_named n [] e = tt
fields_named n ([] ∷ fs) e = tt
fields_named n ((b ∷ []) ∷ fs) e =
    either_named n (eqb b 83) (source_of fs) (cond (eqb b 84) (row_of fs) None) (source_named n fs (omega arith))
    (either_named n (eqb b 84) (row_of fs) None (row_named n fs) tt)
fields_named n ((b ∷ c ∷ f) ∷ fs) e = tt

plain_named : (n : ℕ) (ls : List (List ℕ)) → total ls ≡ suc n → Named n (plain_of ls)
plain_named n [] e = tt
plain_named n (l ∷ []) e = fields_named n (parted 9 l) (omega (arith, total_parted 9 l))
plain_named n (l ∷ k ∷ ls) e = tt

line_named : (l : List ℕ) → Named (length l) (line_of l)
unfolding line_of
line_named l =
    either_named (length l) (leb (length l) 8192) (plain_of (parted 13 l)) None (plain_named (length l) (parted 13 l) (total_parted 13 l)) tt

pub name_within : (l : List ℕ) {r : Option Line} {from to fuel : ℕ} → r ≡ line_of l → r ≡ Some (line.Source from to fuel) → (from ≤ to) × (to ≤ length l)
name_within l e f = subst (Named (length l)) (sym e ∙ f) (line_named l)

-- a whole line lies in the bytes, and its line feed too
abbrev Ended : ℕ → ℕ → Next → Type 0
Ended n at (next.Whole to following) = (at ≤ to) × (to < n) × (following ≡ to + 1)
Ended n at next.Partial = Unit
Ended n at next.Nothing = Unit

first_ended : (n at : ℕ) (ls : List (List ℕ)) → total ls ≡ suc (n - at) → Ended n at (first_of at ls)
first_ended n at [] e = tt
first_ended n at ([] ∷ []) e = tt
first_ended n at ((b ∷ bs) ∷ []) e = tt
first_ended n at (l ∷ k ∷ ls) e = (omega arith, omega arith, refl)

pub line_within : (s : List ℕ) {r : Next} {at to following : ℕ} → r ≡ next_of s at → r ≡ next.Whole to following
    → (at ≤ to) × (to < length s) × (following ≡ to + 1)
unfolding next_of
line_within s {r} {at} e f =
    subst (Ended (length s) at) (sym e ∙ f) (first_ended (length s) at (parted 10 (drop at s)) (total_parted 10 (drop at s) ∙ ap suc (length-drop at s)))

-- what a mark ends is parted alike whatever follows, and what follows as if it began there
pub in_parts : (m : ℕ) (a b : List ℕ) → parted m (a ++ (m ∷ b)) ≡ parted m a ++ parted m b
in_parts m [] b = rw (eq-eqb m m refl)
in_parts m (c ∷ a) b = go (eqb c m) (in_parts m a b)
  where
    led : (ps : List (List ℕ)) → ps ≡ parted m a ++ parted m b → onto (c ∷ []) ps ≡ onto (c ∷ []) (parted m a) ++ parted m b
    led ps e =
        ap (onto (c ∷ [])) e
        ∙ one_piece (λ (qs : List (List ℕ)). onto (c ∷ []) (qs ++ parted m b) ≡ onto (c ∷ []) qs ++ parted m b) (λ q qs. refl) m a

    go : (t : Bool) → parted m (a ++ (m ∷ b)) ≡ parted m a ++ parted m b
        → cond t ([] ∷ parted m (a ++ (m ∷ b))) (onto (c ∷ []) (parted m (a ++ (m ∷ b)))) ≡ cond t ([] ∷ parted m a) (onto (c ∷ []) (parted m a)) ++ parted m b
    go true e = ap (λ (ps : List (List ℕ)). [] ∷ ps) e
    go false e = led (parted m (a ++ (m ∷ b))) e
