-- Lines parted by line feeds and put together again; a field behind the last tab. Assumes nothing.
use Prim.Native.Nat.{ℕ}
use mathlib.Core.Path.{◌≡◌, refl, sym, ap, ap₂, ◌∙◌}
use mathlib.Core.List.{List, [], ◌∷◌, ◌++◌}
use mathlib.Core.Bool.{Bool, true, false, cond}
use mathlib.Core.Option.{Option, none, some}
use native.Mathlib.Omega.{arith}
use borrow.Author.Tests.{eq-eqb, eqb-true}
use lib.Dec.{eqb}
use Rattle.listing.specs.Lines.{onto, parted}
use Rattle.listing.proofs.Pieces.{one_piece}
use Rattle.listing.proofs.Lent.{in_parts}
use Rattle.listing.proofs.Marks.{Free, free_one, free_apart, AllFree}
use Rattle.editions.specs.Editions.{shed_from, shed, ended}

-- NO MARK

pub pieces_free : (m : ℕ) (s : List ℕ) → AllFree m (parted m s)
pieces_free m [] = (refl, tt)
pieces_free m (b ∷ bs) = go (eqb b m) refl (parted m bs) (pieces_free m bs)
  where
    go : (c : Bool) → eqb b m ≡ c → (ps : List (List ℕ)) → AllFree m ps → AllFree m (cond c ([] ∷ ps) (onto (b ∷ []) ps))
    go true e ps f = (refl, f)
    go false e [] f = (free_one m b [] e refl, tt)
    go false e (p ∷ ps) f = (free_one m b p e f.0, f.1)

-- the first of two
pub free_front : (m : ℕ) (a b : List ℕ) → Free m (a ++ b) → Free m a
free_front m [] b f = refl
free_front m (c ∷ a) b f = let x = free_apart m c (a ++ b) f in free_one m c a x.here (free_front m a b x.rest)

-- LINES

-- lines without a line feed, each with one behind it
pub parted_ended : (ls : List (List ℕ)) → AllFree 10 ls → parted 10 (ended ls) ≡ ls ++ ([] ∷ [])
parted_ended [] f = refl
parted_ended (l ∷ ls) f =
    in_parts 10 l (ended ls)
    ∙ ap (λ (ps : List (List ℕ)). ps ++ parted 10 (ended ls)) f.0
    ∙ ap (λ (ps : List (List ℕ)). l ∷ ps) (parted_ended ls f.1)

-- pieces with their marks between them
abbrev unparted : ℕ → List (List ℕ) → List ℕ
unparted m [] = []
unparted m (p ∷ []) = p
unparted m (p ∷ q ∷ ps) = p ++ (m ∷ unparted m (q ∷ ps))

unparted_onto : (m b : ℕ) (p : List ℕ) (ps : List (List ℕ)) → unparted m (onto (b ∷ []) (p ∷ ps)) ≡ b ∷ unparted m (p ∷ ps)
unparted_onto m b p [] = refl
unparted_onto m b p (q ∷ ps) = refl

unparted_parted : (m : ℕ) (s : List ℕ) → unparted m (parted m s) ≡ s
unparted_parted m [] = refl
unparted_parted m (b ∷ bs) = go (eqb b m) refl (unparted_parted m bs)
  where
    go : (c : Bool) → eqb b m ≡ c → unparted m (parted m bs) ≡ bs → unparted m (cond c ([] ∷ parted m bs) (onto (b ∷ []) (parted m bs))) ≡ b ∷ bs
    go true e f =
        one_piece (λ (ps : List (List ℕ)). unparted m ([] ∷ ps) ≡ m ∷ unparted m ps) (λ p ps. refl) m bs
        ∙ ap (λ (t : List ℕ). m ∷ t) f
        ∙ ap (λ (c : ℕ). c ∷ bs) (sym (eqb-true b m e))
    go false e f =
        one_piece (λ (ps : List (List ℕ)). unparted m (onto (b ∷ []) ps) ≡ b ∷ unparted m ps) (λ p ps. unparted_onto m b p ps) m bs
        ∙ ap (λ (t : List ℕ). b ∷ t) f

unparted_ended : (ls : List (List ℕ)) → unparted 10 (ls ++ ([] ∷ [])) ≡ ended ls
unparted_ended [] = refl
unparted_ended (l ∷ []) = refl
unparted_ended (l ∷ k ∷ ls) = ap (λ (t : List ℕ). l ++ (10 ∷ t)) (unparted_ended (k ∷ ls))

pub ended_parted : (text : List ℕ) (ls : List (List ℕ)) → parted 10 text ≡ ls ++ ([] ∷ []) → ended ls ≡ text
ended_parted text ls e = sym (unparted_ended ls) ∙ ap (unparted 10) (sym e) ∙ unparted_parted 10 text

-- THE LAST FIELD

pub bare_free : (m : ℕ) (t : List ℕ) → Free m t → shed m t ≡ none
bare_free m [] f = refl
bare_free m (b ∷ bs) f =
    let x = free_apart m b bs f in
    ap (shed_from m b bs) (bare_free m bs x.rest) ∙ ap (λ (c : Bool). cond c (some ([], bs)) none) x.here

pub shed_field : (m : ℕ) (a f : List ℕ) → shed m f ≡ none → shed m (a ++ (m ∷ f)) ≡ some (a, f)
shed_field m [] f e = ap (shed_from m m f) e ∙ ap (λ (c : Bool). cond c (some ([], f)) none) (eq-eqb m m refl)
shed_field m (b ∷ a) f e = ap (shed_from m b (a ++ (m ∷ f))) (shed_field m a f e)

-- what the two parts are
unfoldable front_of : Option (List ℕ × List ℕ) → List ℕ
front_of none = []
front_of (some s) = s.0

unfoldable field_of : Option (List ℕ × List ℕ) → List ℕ
field_of none = []
field_of (some s) = s.1

pub shed_sound : (m : ℕ) (l a f : List ℕ) → shed m l ≡ some (a, f) → l ≡ a ++ (m ∷ f)
unfolding front_of field_of
shed_sound m [] a f e = absurd (let z : ◌≡◌ {A = ℕ} 0 1 = cc in omega arith)
shed_sound m (b ∷ bs) a f e = go (shed m bs) refl e (λ c g i. shed_sound m bs c g i)
  where
    here : (t : Bool) → eqb b m ≡ t → cond {A = Option (List ℕ × List ℕ)} t (some ([], bs)) none ≡ some (a, f) → b ∷ bs ≡ a ++ (m ∷ f)
    here true j e = ap (λ (c : ℕ). c ∷ bs) (eqb-true b m j) ∙ ap₂ (λ (s t : List ℕ). s ++ (m ∷ t)) (ap front_of e) (ap field_of e)
    here false j e = absurd (let z : ◌≡◌ {A = ℕ} 0 1 = cc in omega arith)

    go : (o : Option (List ℕ × List ℕ)) → shed m bs ≡ o → shed_from m b bs o ≡ some (a, f)
        → ((c g : List ℕ) → shed m bs ≡ some (c, g) → bs ≡ c ++ (m ∷ g)) → b ∷ bs ≡ a ++ (m ∷ f)
    go none i e k = here (eqb b m) refl e
    go (some (c, g)) i e k = ap (λ (t : List ℕ). b ∷ t) (k c g i) ∙ ap₂ (λ (s t : List ℕ). s ++ (m ∷ t)) (ap front_of e) (ap field_of e)
