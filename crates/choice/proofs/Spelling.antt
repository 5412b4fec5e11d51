-- Names are spelled: each entered once, in order; those of the sets by one computed test over the 56, and those of codes. Assumes nothing.
use Prim.Native.Nat.{ℕ, zero, suc, ◌+◌, ◌≤◌, ◌<◌}
use mathlib.Core.Path.{◌≡◌, refl, sym, ap, ap₂, subst, ◌∙◌}
use mathlib.Core.List.{List, [], ◌∷◌, ◌++◌}
use mathlib.Core.Bool.{Bool, true, false}
use native.Mathlib.Decide.{dec_lt, ℕ_discrete}
use native.Mathlib.Numerals.{add-one}
use native.Mathlib.Omega.{arith}
use borrow.Author.Tests.{eq-eqb, ne_eqb, ltb-true, lt-ltb, le-ltb}
use lib.Dec.{ltb}
use Rattle.std.specs.List.{list_any}
use Rattle.std.specs.Prelude.{nat_eq, ◌||◌, Some, None, slice_get}
use lib.ListN.{length, get_or, take, drop, set, length-set, length-append, drop_of_length-le}
use lib.Seq.{drop-cons, get_or-take, length-take-le, take-suc, take-suc-set}
use Rattle.kinds.specs.Sets.{id_of, ids_of, set_of}
use Rattle.kinds.proofs.Tables.{both, both_left, both_right, all, all_sound}
use Rattle.kinds.proofs.Order.{set_none}
use Rattle.definition.specs.Run as P
use Rattle.notes.specs.declared.names.Notes.{Notes}
use Rattle.notes.specs.Bits.{ifb}
use Rattle.notes.specs.Means.{names_of, spelled_on, spelled}
use Rattle.notes.specs.Did.{Below, Coded}
use Rattle.notes.proofs.Pigeon.{few, distinct_more, below_more}
use Rattle.choice.specs.declared.Names.{Names}
use Rattle.choice.specs.Choice.{Spelt, Spells}

-- a slice's `contains` and the definition's test are one
pub has_any : (x : ℕ) (l : List ℕ) → list_any (λ y. nat_eq y x) l ≡ P.has l x
has_any x [] = refl
has_any x (y ∷ l) = go (ℕ_discrete x y) (has_any x l)
  where
    go : Dec (x ≡ y) → list_any (λ y. nat_eq y x) l ≡ P.has l x → (nat_eq y x || list_any (λ y. nat_eq y x) l) ≡ P.has (y ∷ l) x
    go (yes e) h = ap (λ (b : Bool). b || list_any (λ y. nat_eq y x) l) (eq-eqb y x (sym e)) ∙ sym (ap (λ (b : Bool). elim b [ true ↦ true | false ↦ P.has l x ]) (eq-eqb x y e))
    go (no n) h = ap (λ (b : Bool). b || list_any (λ y. nat_eq y x) l) (ne_eqb y x (λ e. n (sym e))) ∙ h ∙ sym (ap (λ (b : Bool). elim b [ true ↦ true | false ↦ P.has l x ]) (ne_eqb x y n))

-- so many names of a list
abbrev pub names_from : ℕ → List ℕ → Names
names_from n l = record { count = n; names = l }

-- one name
module _ (s : Names) (x : ℕ) (w : Spelt s.count s.names) where
  abbrev ns : List ℕ
  ns = take s.count s.names

  joined : (b : Bool) → b ≡ P.has ns x → elim b [ true ↦ ns | false ↦ ns ++ (x ∷ []) ] ≡ P.join ns (x ∷ [])
  joined b e = ap (λ (t : Bool). elim t [ true ↦ ns | false ↦ ns ++ (x ∷ []) ]) e

  pub enters_none : true ≡ P.has ns x → Spells (P.join ns (x ∷ [])) s
  enters_none e = record { names = joined true e; spelt = w }

  pub enters_one : x < 85 → false ≡ P.has ns x → Spells (P.join ns (x ∷ [])) (names_from (s.count + 1) (set s.names s.count x))
  enters_one h e =
      let more : take (s.count + 1) (set s.names s.count x) ≡ ns ++ (x ∷ []) = rw add-one (take-suc-set s.names s.count x (omega (arith, w.few, w.long))) in
      let below = below_more 85 x ns w.below h in
      let distinct = distinct_more x ns w.distinct (sym e) in
      let long : length ns ≡ s.count = length-take-le s.count s.names (omega (arith, w.few, w.long)) in
      record {
        names = more ∙ joined false e;
        spelt = record { few = omega (arith, few 85 (ns ++ (x ∷ [])) distinct below, length-append ns (x ∷ []), long); long = length-set s.names s.count x ∙ w.long; below = rw more below; distinct = rw more distinct };
      }

-- the sets: few kinds, each with an id
abbrev named : List ℕ → Bool
named [] = true
named (a ∷ S) = both (ltb (id_of a) 85) (named S)

named_below : (S : List ℕ) → named S ≡ true → Below 85 (ids_of S)
named_below [] t = tt
named_below (a ∷ S) t = (ltb-true (id_of a) 85 (both_left (ltb (id_of a) 85) (named S) t), named_below S (both_right (ltb (id_of a) 85) (named S) t))

abbrev brief : List ℕ → Bool
brief S = both (ltb (length (ids_of S)) 17) (named S)

tested : all (λ s. brief (set_of s)) 56 ≡ true
unfolding id_of
tested = refl

pub record Brief (ids : List ℕ) : Type 0 where
  pub below : Below 85 ids
  pub few : length ids ≤ 16

pub sets_brief : (s : ℕ) → Brief (ids_of (set_of s))
sets_brief s = go (dec_lt s 56)
  where
    go : Dec (s < 56) → Brief (ids_of (set_of s))
    go (yes h) =
        let t = all_sound (λ s. brief (set_of s)) 56 tested s h in
        record { below = named_below (set_of s) (both_right (ltb (length (ids_of (set_of s))) 17) (named (set_of s)) t); few = omega (arith, ltb-true (length (ids_of (set_of s))) 17 (both_left (ltb (length (ids_of (set_of s))) 17) (named (set_of s)) t)) }
    go (no h) = rw (set_none s (omega (arith, h))) (record { below = tt; few = omega arith })

-- what the answer for the name number k says
name_here : (ids : List ℕ) (k x : ℕ) → Some x ≡ slice_get ids k → (k < length ids) × (get_or ids k 0 ≡ x)
name_here [] k x e = let z : ◌≡◌ {A = ℕ} 0 1 = cc in absurd (omega arith)
name_here (a ∷ ids) zero x e = (omega arith, cc)
name_here (a ∷ ids) (suc k) x e = let h = name_here ids k x e in (omega (arith, h.0), h.1)

name_past : (ids : List ℕ) (k : ℕ) → None ≡ slice_get ids k → length ids ≤ k
name_past [] k e = omega arith
name_past (a ∷ ids) zero e = let z : ◌≡◌ {A = ℕ} 0 1 = cc in absurd (omega arith)
name_past (a ∷ ids) (suc k) e = omega (arith, name_past ids k e)

below_at : {n : ℕ} (ids : List ℕ) (k : ℕ) → Below n ids → k < length ids → get_or ids k 0 < n
below_at [] k b h = absurd (omega arith)
below_at (a ∷ ids) zero b h = b.0
below_at (a ∷ ids) (suc k) b h = below_at ids k b.1 (omega arith)

pub name_below : (set k x : ℕ) → Some x ≡ slice_get (ids_of (set_of set)) k → x < 85
name_below set k x e =
    let h = name_here (ids_of (set_of set)) k x e in
    omega (arith, below_at (ids_of (set_of set)) k (sets_brief set).below h.0, h.1)

-- names are entered one after the other
join_cons : (l : List ℕ) (x : ℕ) (xs : List ℕ) → P.join l (x ∷ xs) ≡ P.join (P.join l (x ∷ [])) xs
join_cons l x xs = go (P.has l x)
  where
    go : (b : Bool) → elim b [ true ↦ P.join l xs | false ↦ P.join (l ++ (x ∷ [])) xs ] ≡ P.join (elim b [ true ↦ l | false ↦ l ++ (x ∷ []) ]) xs
    go true = refl
    go false = refl

-- the first k are entered
pub record Entering (ids : List ℕ) (s r : Names) (k : ℕ) : Type 0 where
  pub spelt : Spelt r.count r.names
  pub rest : P.join (take r.count r.names) (drop k ids) ≡ P.join (take s.count s.names) ids

pub entering : (ids : List ℕ) (s : Names) → Spelt s.count s.names → Entering ids s s 0
entering ids s w = record { spelt = w; rest = refl }

module _ {ids : List ℕ} {s r : Names} {k : ℕ} (g : Entering ids s r k) where
  pub entering_on : (x : ℕ) {q : Names} → Some x ≡ slice_get ids k → Spells (P.join (take r.count r.names) (x ∷ [])) q → Entering ids s q (k + 1)
  entering_on x {q} e y =
      let h = name_here ids k x e in
      record {
        spelt = y.spelt;
        rest =
            ap₂ (λ (l : List ℕ) (i : ℕ). P.join l (drop i ids)) y.names (add-one k)
            ∙ sym (join_cons (take r.count r.names) x (drop (suc k) ids))
            ∙ ap (P.join (take r.count r.names)) (ap (λ (y : ℕ). y ∷ drop (suc k) ids) (sym h.1) ∙ sym (drop-cons ids k 0 h.0))
            ∙ g.rest;
      }

  pub entering_all : length ids ≤ k → Spells (P.join (take s.count s.names) ids) r
  entering_all h = record { names = sym (ap (P.join (take r.count r.names)) (drop_of_length-le ids h)) ∙ g.rest; spelt = g.spelt }

  pub entering_past : None ≡ slice_get ids k → Spells (P.join (take s.count s.names) ids) r
  entering_past e = entering_all (name_past ids k e)

-- the same names otherwise said
pub spells_as : {l m : List ℕ} {r : Names} → l ≡ m → Spells l r → Spells m r
spells_as e y = record { names = y.names ∙ e; spelt = y.spelt }

-- what a code stands for
pub code_set : (c : ℕ) → c < 55 → ids_of (set_of c) ≡ names_of c
unfolding names_of
code_set c h = ap (λ (b : Bool). ifb b (ids_of (set_of c)) ((c + 27) ∷ [])) (sym (lt-ltb c 55 h))

pub code_word : (c : ℕ) → 55 ≤ c → (c + 27) ∷ [] ≡ names_of c
unfolding names_of
code_word c h = ap (λ (b : Bool). ifb b (ids_of (set_of c)) ((c + 27) ∷ [])) (sym (le-ltb c 55 h))

-- codes are spelled one after the other
spelled_last : (l cs : List ℕ) (c : ℕ) → spelled_on l (cs ++ (c ∷ [])) ≡ P.join (spelled_on l cs) (names_of c)
spelled_last l [] c = refl
spelled_last l (d ∷ cs) c = spelled_last (P.join l (names_of d)) cs c

pub none_spelt : (names : List ℕ) → length names ≡ 96 → Spells [] (names_from 0 names)
none_spelt names h = record { names = refl; spelt = record { few = omega arith; long = h; below = tt; distinct = tt } }

-- the first i of the codes are spelled
pub record Spelling (notes : Notes) (i : ℕ) (r : Names) : Type 0 where
  pub within : i ≤ notes.count
  pub spells : Spells (spelled (take i notes.codes)) r

pub spelling : (notes : Notes) (names : List ℕ) → length names ≡ 96 → Spelling notes 0 (names_from 0 names)
spelling notes names h = record { within = omega arith; spells = none_spelt names h }

module _ (notes : Notes) (w : Coded notes) (i : ℕ) (h : i < notes.count) where
  pub code_below : get_or notes.codes i 0 < 58
  code_below = omega (arith, below_at (take notes.count notes.codes) i w.below (omega (arith, length-take-le notes.count notes.codes (omega (arith, w.few, w.long)))), get_or-take notes.count notes.codes i 0 h)

  pub spelling_on : {r q : Names} → Spelling notes i r → Spells (P.join (take r.count r.names) (names_of (get_or notes.codes i 0))) q → Spelling notes (i + 1) q
  spelling_on g y =
      let more : take (i + 1) notes.codes ≡ take i notes.codes ++ (get_or notes.codes i 0 ∷ []) = rw add-one (take-suc notes.codes i 0 (omega (arith, w.few, w.long))) in
      record {
        within = omega arith;
        spells =
            record {
              names =
                  y.names
                  ∙ ap (λ (l : List ℕ). P.join l (names_of (get_or notes.codes i 0))) g.spells.names
                  ∙ sym (spelled_last [] (take i notes.codes) (get_or notes.codes i 0))
                  ∙ ap spelled (sym more);
              spelt = y.spelt;
            };
      }

pub spelling_all : {notes : Notes} {i : ℕ} {r : Names} → Spelling notes i r → notes.count ≤ i → Spells (spelled (take notes.count notes.codes)) r
spelling_all {notes} {i} {r} g h = let e : i ≡ notes.count = omega (arith, g.within) in subst (λ (k : ℕ). Spells (spelled (take k notes.codes)) r) e g.spells
