-- The pieces of a text: looking for the mark byte after byte finds the first of them. Assumes nothing.
use Prim.Native.Nat.{ℕ, suc, ◌+◌, ◌-◌, ◌≤◌, ◌<◌}
use mathlib.Core.Path.{◌≡◌, refl, sym, ap, subst, ◌∙◌}
use mathlib.Core.Logic.{◌⊎◌, inl, inr}
use mathlib.Core.List.{List, [], ◌∷◌}
use mathlib.Core.Bool.{Bool, true, false, cond, not}
use native.Mathlib.Omega.{arith}
use borrow.Author.Tests.{lt-ltb, le-ltb, ltb-false}
use lib.Dec.{eqb, ltb}
use lib.ListN.{length, take, drop, length-drop}
use lib.Seq.{take_all, length-take-le, drop-drop}
use Rattle.std.specs.Prelude.{◌==◌, position, Some, None}
use Rattle.std.specs.List.{position_or_len}
use Rattle.listing.specs.Lines.{onto, parted, behind, Piece}
use Rattle.listing.proofs.Either.{either}
use Rattle.listing.proofs.Rest.{rest, rest_is}

-- the text from a place up to another
abbrev pub part : ℕ → ℕ → List ℕ → List ℕ
part from to s = take (to - from) (drop from s)

-- where the first mark stands, or the text's end
abbrev front : ℕ → List ℕ → ℕ
front m s = position_or_len (λ b. b == m) s

front_within : (m : ℕ) (s : List ℕ) → front m s ≤ length s
front_within m [] = omega arith
front_within m (b ∷ bs) = go (eqb b m) (front_within m bs)
  where
    go : (t : Bool) → front m bs ≤ length bs → cond (not t) (1 + front m bs) 0 ≤ suc (length bs)
    go true h = omega arith
    go false h = omega arith

front_on : (m b k : ℕ) (bs : List ℕ) → onto (b ∷ []) (take k bs ∷ behind m bs k) ≡ take (1 + k) (b ∷ bs) ∷ behind m (b ∷ bs) (1 + k)
front_on m b k bs =
    let e : 1 + k ≡ suc k = omega arith in
    let f : suc k + 1 ≡ suc (k + 1) = omega arith in
    ap (λ (t : Bool). (b ∷ take k bs) ∷ cond t (parted m (drop (k + 1) bs)) []) (further (either k (length bs)))
    ∙ sym (ap (λ (n : ℕ). take n (b ∷ bs) ∷ behind m (b ∷ bs) n) e
    ∙ ap (λ (n : ℕ). (b ∷ take k bs) ∷ cond (ltb (suc k) (suc (length bs))) (parted m (drop n (b ∷ bs))) []) f)
  where
    further : (k < length bs) ⊎ (length bs ≤ k) → ltb k (length bs) ≡ ltb (suc k) (suc (length bs))
    further (inl h) = rw (lt-ltb k (length bs) h, lt-ltb (suc k) (suc (length bs)) (omega arith)) refl
    further (inr h) = rw (le-ltb k (length bs) h, le-ltb (suc k) (suc (length bs)) (omega arith)) refl

fronted : (m : ℕ) (s : List ℕ) → parted m s ≡ take (front m s) s ∷ behind m s (front m s)
fronted m [] = refl
fronted m (b ∷ bs) = go (eqb b m) (fronted m bs)
  where
    go : (t : Bool) → parted m bs ≡ take (front m bs) bs ∷ behind m bs (front m bs)
        → cond t ([] ∷ parted m bs) (onto (b ∷ []) (parted m bs)) ≡ take (cond (not t) (1 + front m bs) 0) (b ∷ bs) ∷ behind m (b ∷ bs) (cond (not t) (1 + front m bs) 0)
    go true e = ap (λ (t : Bool). [] ∷ cond t (parted m bs) []) (sym (lt-ltb 0 (suc (length bs)) (omega arith)))
    go false e = ap (onto (b ∷ [])) e ∙ front_on m b (front m bs) bs

front_some : (t : Bool) {k n : ℕ} → Some n ≡ cond t (Some k) None → n ≡ k
front_some true e = cc
front_some false e = absurd (let z : ◌≡◌ {A = ℕ} 0 1 = cc in omega arith)

front_none : {k n : ℕ} (t : Bool) → ltb k n ≡ t → None ≡ cond t (Some k) None → n ≤ k
front_none true i e = absurd (let z : ◌≡◌ {A = ℕ} 0 1 = cc in omega arith)
front_none {k} {n} false i e = ltb-false k n i

-- looking for the first mark of what stands from a place on finds the end of the piece
module _ {m : ℕ} {s : List ℕ} {from : ℕ} (h : from ≤ length s) where
  ends : (k : ℕ) → k ≡ front m (drop from s) → Piece m s from (from + k)
  ends k e =
      let short : k ≤ length s - from = omega (arith, e, front_within m (drop from s), length-drop from s) in
      let same : from + k - from ≡ k = omega arith in
      record {
        forward = omega arith;
        within = omega arith;
        is =
            fronted m (drop from s)
            ∙ ap (λ (n : ℕ). take n (drop from s) ∷ behind m (drop from s) n) (sym e)
            ∙ ap (λ (n : ℕ). take n (drop from s) ∷ behind m (drop from s) k) (sym same)
            ∙ ap (λ (ps : List (List ℕ)). take (from + k - from) (drop from s) ∷ ps) (further (either k (length s - from)));
      }
    where
      further : (k < length s - from) ⊎ (length s - from ≤ k) → behind m (drop from s) k ≡ behind m s (from + k)
      further (inl l) =
          rw (lt-ltb k (length (drop from s)) (simp length-drop l), lt-ltb (from + k) (length s) (omega arith))
          (ap (parted m) (drop-drop (k + 1) from s) ∙ ap (λ (n : ℕ). parted m (drop n s)) (omega arith))
      further (inr l) = rw (le-ltb k (length (drop from s)) (simp length-drop l), le-ltb (from + k) (length s) (omega arith)) refl

  pub found : {n : ℕ} → Some n ≡ position (λ b. b == m) (rest s from) → Piece m s from (from + n)
  found {n} e = ends n (front_some _ (e ∙ ap (position (λ b. b == m)) (rest_is s from)))

  pub unfound : None ≡ position (λ b. b == m) (rest s from) → Piece m s from (length s)
  unfound e =
      let k : length (drop from s) ≤ front m (drop from s) = front_none _ refl (e ∙ ap (position (λ b. b == m)) (rest_is s from)) in
      subst (Piece m s from) (omega (arith, k, front_within m (drop from s), length-drop from s)) (ends (front m (drop from s)) refl)

-- a piece that a mark ends has another behind it, and one that no mark ends has none
module _ {m : ℕ} {s : List ℕ} {from to : ℕ} (p : Piece m s from to) where
  pub marked : to < length s → parted m (drop from s) ≡ part from to s ∷ parted m (drop (to + 1) s)
  marked h = p.is ∙ ap (λ (t : Bool). part from to s ∷ cond t (parted m (drop (to + 1) s)) []) (lt-ltb to (length s) h)

  pub unmarked : length s ≤ to → parted m (drop from s) ≡ part from to s ∷ []
  unmarked h = p.is ∙ ap (λ (t : Bool). part from to s ∷ cond t (parted m (drop (to + 1) s)) []) (le-ltb to (length s) h)

-- there is always a piece
pub one_piece : (P : List (List ℕ) → Type 0) → ((p : List ℕ) (ps : List (List ℕ)) → P (p ∷ ps)) → (m : ℕ) (s : List ℕ) → P (parted m s)
one_piece P h m [] = h [] []
one_piece P h m (b ∷ bs) = go (eqb b m)
  where
    led : (ps : List (List ℕ)) → P (onto (b ∷ []) ps)
    led [] = h (b ∷ []) []
    led (p ∷ ps) = h (b ∷ p) ps

    go : (t : Bool) → P (cond t ([] ∷ parted m bs) (onto (b ∷ []) (parted m bs)))
    go true = h [] (parted m bs)
    go false = led (parted m bs)

pub part_length : (from to : ℕ) (s : List ℕ) → from ≤ to → to ≤ length s → length (part from to s) ≡ to - from
part_length from to s h k = length-take-le (to - from) (drop from s) (simp length-drop (omega arith))

pub part_whole : (to : ℕ) (s : List ℕ) → length s ≤ to → part 0 to s ≡ s
part_whole to s h = take_all (to - 0) s (omega arith)
