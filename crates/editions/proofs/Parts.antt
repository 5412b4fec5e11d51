-- What stands behind a line's letter, by the places where the fields end. Assumes nothing.
use Prim.Native.Nat.{ℕ, zero, suc, ◌+◌, ◌-◌, ◌≤◌, ◌<◌}
use mathlib.Core.Path.{◌≡◌, refl, sym, ap, ap₂, ◌∙◌}
use mathlib.Core.List.{List, [], ◌∷◌}
use mathlib.Core.Bool.{Bool, true, false, cond, not, ◌&&◌, and-false}
use native.Mathlib.Omega.{arith}
use borrow.Author.Tests.{eq-eqb, ne_eqb, eqb-true, eqb-false, lt-ltb, le-ltb, le-leb, lt-leb, ltb-true, ltb-false}
use lib.Dec.{eqb, leb, ltb}
use lib.ListN.{length, get_or, drop, set, replicate, length-set, length-replicate, get_or-replicate}
use lib.Seq.{get_or-set_same, get_or-set_other}
use Rattle.std.specs.Prelude.{Some, None}
use Rattle.listing.specs.Numbers.{value, number}
use Rattle.listing.specs.Lines.{parted, behind, Piece}
use Rattle.listing.proofs.Pieces.{part, marked, unmarked, one_piece}
use Rattle.listing.proofs.Rest.{rest, rest_is}
use Rattle.editions.specs.Words.{equal, plain, kind_among, name_number}
use Rattle.editions.specs.Words as words
use Rattle.editions.specs.Fields.{plains, node, has, fresh, named, place, placed, form_of, formed, error}
use Rattle.editions.proofs.Texts.{is_some, no_number}

-- a piece that does not end with the text
pub short_of : {m : ℕ} {s : List ℕ} {from to : ℕ} → Piece m s from to → (to ≡ length s → ⊥) → to < length s
short_of p h = omega (arith, p.within, h)

-- A FORM

form_none : (t : List ℕ) → 0 ≡ form_of t → None ≡ formed t
form_none t e = ap (λ (n : ℕ). cond (eqb n 0) None (Some n)) e

pub no_form : (t : List ℕ) → plain t ≡ false → None ≡ formed t
unfolding form_of
no_form t e = form_none t (sym (ap (λ (b : Bool). cond (b && leb (value t) 10) (value t) 0) e))

module _ (t : List ℕ) {n : ℕ} (p : plain t ≡ true) (e : number t ≡ Some n) where
  by_value : cond (leb n 10) n 0 ≡ form_of t
  unfolding form_of
  by_value =
      sym (ap (λ (b : Bool). cond (b && leb (value t) 10) (value t) 0) p
      ∙ ap (λ (n : ℕ). cond (leb n 10) n 0) (is_some t e).1)

  pub zero_form : n ≡ 0 → None ≡ formed t
  zero_form h = form_none t (sym (ap (λ (n : ℕ). cond (leb n 10) n 0) h) ∙ by_value)

  pub large_form : 10 < n → None ≡ formed t
  large_form h = form_none t (sym (ap (λ (b : Bool). cond b n 0) (lt-leb n 10 h)) ∙ by_value)

  pub a_form : (n ≡ 0 → ⊥) → n ≤ 10 → Some n ≡ formed t
  a_form i h =
      ap (λ (b : Bool). cond b None (Some n)) (sym (ne_eqb n 0 i))
      ∙ ap (λ (n : ℕ). cond (eqb n 0) None (Some n)) (sym (ap (λ (b : Bool). cond b n 0) (le-leb n 10 h)) ∙ by_value)

pub no_form_number : (t : List ℕ) → plain t ≡ true → number t ≡ None → None ≡ formed t
no_form_number t p e = absurd (let z : ◌≡◌ {A = ℕ} 0 1 = cc (no_number t e) in omega arith)

-- a form that is read is none, or not 0
pub form_stray : (t : List ℕ) → None ≡ formed t → form_of t ≡ 0
form_stray t e = go (eqb (form_of t) 0) refl e
  where
    go : (b : Bool) → eqb (form_of t) 0 ≡ b → None ≡ cond b None (Some (form_of t)) → form_of t ≡ 0
    go true i e = eqb-true (form_of t) 0 i
    go false i e = absurd (let z : ◌≡◌ {A = ℕ} 0 1 = cc in omega arith)

pub form_read : (t : List ℕ) {n : ℕ} → Some n ≡ formed t → (n ≡ form_of t) × (n ≡ 0 → ⊥)
form_read t {n} e = go (eqb (form_of t) 0) refl e
  where
    go : (b : Bool) → eqb (form_of t) 0 ≡ b → Some n ≡ cond b None (Some (form_of t)) → (n ≡ form_of t) × (n ≡ 0 → ⊥)
    go true i e = absurd (let z : ◌≡◌ {A = ℕ} 0 1 = cc in omega arith)
    go false i e = let f : n ≡ form_of t = cc in (f, λ h. eqb-false (form_of t) 0 i (sym f ∙ h))

-- the name that is read
pub name_read : (t : List ℕ) {n : ℕ} → Some n ≡ words.named t → (n ≡ name_number t) × (n < 85)
name_read t {n} e = go (ltb (name_number t) 85) refl e
  where
    go : (b : Bool) → ltb (name_number t) 85 ≡ b → Some n ≡ cond b (Some (name_number t)) None → (n ≡ name_number t) × (n < 85)
    go true i e = let f : n ≡ name_number t = cc in (f, omega (arith, f, ltb-true (name_number t) 85 i))
    go false i e = absurd (let z : ◌≡◌ {A = ℕ} 0 1 = cc in omega arith)

pub name_stray : (t : List ℕ) → None ≡ words.named t → 85 ≤ name_number t
name_stray t e = go (ltb (name_number t) 85) refl e
  where
    go : (b : Bool) → ltb (name_number t) 85 ≡ b → None ≡ cond b (Some (name_number t)) None → 85 ≤ name_number t
    go true i e = absurd (let z : ◌≡◌ {A = ℕ} 0 1 = cc in omega arith)
    go false i e = ltb-false (name_number t) 85 i

-- SO MANY NUMBERS

-- those before the place are passed, and so many are left
pub record Counting (t : List ℕ) (count at left : ℕ) : Type 0 where
  pub within : at ≤ length t
  pub is : plains count (parted 9 t) ≡ plains left (parted 9 (drop at t))

pub counting : (t : List ℕ) (count : ℕ) → Counting t count 0 count
counting t count = record { within = omega arith; is = refl }

plains_less : (n : ℕ) → 0 < n → (f : List ℕ) (fs : List (List ℕ)) → plains n (f ∷ fs) ≡ (plain f && plains (n - 1) fs)
plains_less zero h f fs = absurd (omega arith)
plains_less (suc n) h f fs = let e : n ≡ suc n - 1 = omega arith in ap (λ (k : ℕ). plain f && plains k fs) e

plains_none : (n : ℕ) → eqb n 0 ≡ plains n []
plains_none zero = refl
plains_none (suc n) = ne_eqb (suc n) 0 (λ e. omega arith)

module _ {t : List ℕ} {count at left : ℕ} (g : Counting t count at left) where
  pub none_left : left ≤ 0 → false ≡ plains count (parted 9 t)
  none_left h =
      let e : left ≡ 0 = omega arith in
      sym (g.is
      ∙ ap (λ (n : ℕ). plains n (parted 9 (drop at t))) e
      ∙ one_piece (λ (fs : List (List ℕ)). plains 0 fs ≡ false) (λ f fs. refl) 9 (drop at t))

  module _ {to : ℕ} (p : Piece 9 t at to) (h : 0 < left) where
    -- the rest, whatever stands behind the field
    reads_as : (b : Bool) (fs : List (List ℕ)) → plain (part at to t) ≡ b → parted 9 (drop at t) ≡ part at to t ∷ fs
        → (b && plains (left - 1) fs) ≡ plains count (parted 9 t)
    reads_as b fs e f =
        sym (g.is
        ∙ ap (plains left) f
        ∙ plains_less left h (part at to t) fs
        ∙ ap (λ (b : Bool). b && plains (left - 1) fs) e)

    pub not_plain : plain (part at to t) ≡ false → false ≡ plains count (parted 9 t)
    not_plain e = reads_as false _ e p.is

    module _ (e : plain (part at to t) ≡ true) where
      pub last_number : length t ≤ to → eqb (left - 1) 0 ≡ plains count (parted 9 t)
      last_number k = plains_none (left - 1) ∙ reads_as true [] e (unmarked p k)

      pub counting_on : to < length t → Counting t count (to + 1) (left - 1)
      counting_on k = record { within = omega arith; is = sym (reads_as true (parted 9 (drop (to + 1) t)) e (marked p k)) }

-- A KIND AND A SPAN

module _ (from to : ℕ) {t : List ℕ} {end : ℕ} (p : Piece 9 t 0 end) where
  pub no_span : length t ≤ end → false ≡ node from to (parted 9 t)
  no_span h = sym (ap (node from to) (unmarked p h))

  module _ (h : end < length t) where
    node_as : (b : Bool) → plains 2 (parted 9 (rest t (end + 1))) ≡ b → (b && kind_among from to (part 0 end t)) ≡ node from to (parted 9 t)
    node_as b e =
        sym (ap (node from to) (marked p h)
        ∙ ap (λ (b : Bool). b && kind_among from to (part 0 end t)) (sym (ap (λ (u : List ℕ). plains 2 (parted 9 u)) (rest_is t (end + 1))) ∙ e))

    pub wrong_span : plains 2 (parted 9 (rest t (end + 1))) ≡ false → false ≡ node from to (parted 9 t)
    wrong_span e = node_as false e

    pub kind_decides : plains 2 (parted 9 (rest t (end + 1))) ≡ true → kind_among from to (part 0 end t) ≡ node from to (parted 9 t)
    kind_decides e = node_as true e

-- NAMES

-- the names before a place are new, and their marks are set
pub record Naming (t : List ℕ) (flags : List Bool) (at : ℕ) : Type 0 where
  pub seen : List ℕ
  pub within : at ≤ length t
  pub as_long : length flags ≡ 85
  pub flagged : (n : ℕ) → n < 85 → get_or flags n false ≡ has n seen
  pub is : fresh [] (parted 44 t) ≡ fresh seen (parted 44 (drop at t))

pub naming : (t : List ℕ) → Naming t (replicate 85 false) 0
naming t =
    record {
      seen = [];
      within = omega arith;
      as_long = length-replicate {A = Bool} 85 false;
      flagged = λ n h. get_or-replicate 85 n false false h;
      is = refl;
    }

module _ {t : List ℕ} {flags : List Bool} {at to : ℕ} (g : Naming t flags at) (p : Piece 44 t at to) where
  names_as : {n : ℕ} → n ≡ name_number (part at to t) → (b c : Bool) (ts : List (List ℕ)) → ltb n 85 ≡ b → has n g.seen ≡ c → parted 44 (drop at t) ≡ part at to t ∷ ts
      → (b && not c && fresh (n ∷ g.seen) ts) ≡ fresh [] (parted 44 t)
  names_as {n} e b c ts f h q =
      sym (g.is
      ∙ ap (fresh g.seen) q
      ∙ ap (λ (n : ℕ). ltb n 85 && not (has n g.seen) && fresh (n ∷ g.seen) ts) (sym e)
      ∙ ap₂ (λ (b c : Bool). b && not c && fresh (n ∷ g.seen) ts) f h)

  pub stranger : None ≡ words.named (part at to t) → false ≡ fresh [] (parted 44 t)
  stranger h =
      names_as refl false (has (name_number (part at to t)) g.seen) (behind 44 t to) (le-ltb (name_number (part at to t)) 85 (name_stray (part at to t) h)) refl p.is

  module _ {n : ℕ} (e : Some n ≡ words.named (part at to t)) where
    pub is_name : n < 85
    is_name = (name_read (part at to t) e).1

    pub twice : get_or flags n false ≡ true → false ≡ fresh [] (parted 44 t)
    twice k = names_as (name_read (part at to t) e).0 true true (behind 44 t to) (lt-ltb n 85 is_name) (sym (g.flagged n is_name) ∙ k) p.is

    module _ (k : get_or flags n false ≡ false) where
      new : has n g.seen ≡ false
      new = sym (g.flagged n is_name) ∙ k

      pub last_name : length t ≤ to → true ≡ fresh [] (parted 44 t)
      last_name l = names_as (name_read (part at to t) e).0 true false [] (lt-ltb n 85 is_name) new (unmarked p l)

      pub naming_on : to < length t → Naming t (set flags n true) (to + 1)
      naming_on l =
          record {
            seen = n ∷ g.seen;
            within = omega arith;
            as_long = length-set flags n true ∙ g.as_long;
            flagged = marks;
            is = sym (names_as (name_read (part at to t) e).0 true false (parted 44 (drop (to + 1) t)) (lt-ltb n 85 is_name) new (marked p l));
          }
        where
          marks : (m : ℕ) → m < 85 → get_or (set flags n true) m false ≡ has m (n ∷ g.seen)
          marks m i = go (eqb m n) refl
            where
              go : (b : Bool) → eqb m n ≡ b → get_or (set flags n true) m false ≡ cond b true (has m g.seen)
              go true j =
                  ap (λ (k : ℕ). get_or (set flags n true) k false) (eqb-true m n j)
                  ∙ get_or-set_same flags n true false (omega (arith, g.as_long, is_name))
              go false j = get_or-set_other flags n m true false (eqb-false m n j) ∙ g.flagged m i

pub few_names : (form : ℕ) (t : List ℕ) → form ≤ 3 → fresh [] (parted 44 t) ≡ named form t
few_names form t h = sym (ap (λ (b : Bool). cond b (fresh [] (parted 44 t)) (equal t (45 ∷ []))) (le-leb form 3 h))

pub no_names : (form : ℕ) (t : List ℕ) → 3 < form → equal t (45 ∷ []) ≡ named form t
no_names form t h = sym (ap (λ (b : Bool). cond b (fresh [] (parted 44 t)) (equal t (45 ∷ []))) (lt-leb form 3 h))

-- NAMES AND PLACE

module _ (form : ℕ) {t : List ℕ} {end : ℕ} (p : Piece 9 t 0 end) where
  told_as : (b : Bool) (fs : List (List ℕ)) → named form (part 0 end t) ≡ b → parted 9 t ≡ part 0 end t ∷ fs → (b && place form fs) ≡ placed form (parted 9 t)
  told_as b fs e q = sym (ap (placed form) q ∙ ap (λ (b : Bool). b && place form fs) e)

  pub wrong_names : named form (part 0 end t) ≡ false → false ≡ placed form (parted 9 t)
  wrong_names e = told_as false (behind 9 t end) e p.is

  module _ (e : named form (part 0 end t) ≡ true) where
    pub names_only : length t ≤ end → true ≡ placed form (parted 9 t)
    names_only h = told_as true [] e (unmarked p h)

    module _ (h : end < length t) where
      more : (eqb form 9 && plains 1 (parted 9 (drop (end + 1) t))) ≡ placed form (parted 9 t)
      more =
          sym (one_piece (λ (fs : List (List ℕ)). place form fs ≡ (eqb form 9 && plains 1 fs)) (λ f fs. refl) 9 (drop (end + 1) t))
          ∙ told_as true (parted 9 (drop (end + 1) t)) e (marked p h)

      pub no_place : (form ≡ 9 → ⊥) → false ≡ placed form (parted 9 t)
      no_place ne = sym (ap (λ (b : Bool). b && plains 1 (parted 9 (drop (end + 1) t))) (ne_eqb form 9 ne)) ∙ more

      pub the_place : form ≡ 9 → plains 1 (parted 9 (rest t (end + 1))) ≡ placed form (parted 9 t)
      the_place i =
          ap (λ (u : List ℕ). plains 1 (parted 9 u)) (rest_is t (end + 1))
          ∙ sym (ap (λ (b : Bool). b && plains 1 (parted 9 (drop (end + 1) t))) (eq-eqb form 9 i))
          ∙ more

-- AN ERROR

module _ {t : List ℕ} {a : ℕ} (p : Piece 9 t 0 a) where
  pub one_field : length t ≤ a → false ≡ error (parted 9 t)
  one_field h = sym (ap error (unmarked p h))

  module _ (h : a < length t) {b : ℕ} (q : Piece 9 t (a + 1) b) where
    pub two_fields : length t ≤ b → false ≡ error (parted 9 t)
    two_fields k = sym (ap error (marked p h) ∙ ap (λ (fs : List (List ℕ)). error (part 0 a t ∷ fs)) (unmarked q k))

    module _ (k : b < length t) {c : ℕ} (r : Piece 9 t (b + 1) c) where
      fields : (fs : List (List ℕ)) → parted 9 (drop (b + 1) t) ≡ part (b + 1) c t ∷ fs
          → (not (eqb (form_of (part 0 a t)) 0) && plain (part (a + 1) b t) && plain (part (b + 1) c t) && placed (form_of (part 0 a t)) fs) ≡ error (parted 9 t)
      fields fs e =
          sym (ap error (marked p h)
          ∙ ap (λ (fs : List (List ℕ)). error (part 0 a t ∷ fs)) (marked q k)
          ∙ ap (λ (fs : List (List ℕ)). error (part 0 a t ∷ part (a + 1) b t ∷ fs)) e)

      pub three_fields : length t ≤ c → false ≡ error (parted 9 t)
      three_fields l =
          sym (and-false (not (eqb (form_of (part 0 a t)) 0) && plain (part (a + 1) b t) && plain (part (b + 1) c t))) ∙ fields [] (unmarked r l)

      module _ (l : c < length t) where
        error_as : {form : ℕ} → form ≡ form_of (part 0 a t) → (x y z : Bool) → eqb form 0 ≡ x → plain (part (a + 1) b t) ≡ y → plain (part (b + 1) c t) ≡ z
            → (not x && y && z && placed form (parted 9 (rest t (c + 1)))) ≡ error (parted 9 t)
        error_as {form} f x y z u v w =
            sym (ap (λ (b : Bool). not b && y && z && placed form (parted 9 (rest t (c + 1)))) u)
            ∙ sym (ap₂ (λ (b d : Bool). not (eqb form 0) && b && d && placed form (parted 9 (rest t (c + 1)))) v w)
            ∙ ap (λ (s : List ℕ). not (eqb form 0) && plain (part (a + 1) b t) && plain (part (b + 1) c t) && placed form (parted 9 s)) (rest_is t (c + 1))
            ∙ ap (λ (n : ℕ). not (eqb n 0) && plain (part (a + 1) b t) && plain (part (b + 1) c t) && placed n (parted 9 (drop (c + 1) t))) f
            ∙ fields (parted 9 (drop (c + 1) t)) (marked r l)

        pub wrong_form : None ≡ formed (part 0 a t) → false ≡ error (parted 9 t)
        wrong_form i =
            error_as refl true (plain (part (a + 1) b t)) (plain (part (b + 1) c t)) (eq-eqb (form_of (part 0 a t)) 0 (form_stray (part 0 a t) i)) refl refl

        module _ {form : ℕ} (f : Some form ≡ formed (part 0 a t)) where
          no_zero : eqb form 0 ≡ false
          no_zero = ne_eqb form 0 (form_read (part 0 a t) f).1

          pub wrong_start : plain (part (a + 1) b t) ≡ false → false ≡ error (parted 9 t)
          wrong_start v = error_as (form_read (part 0 a t) f).0 false false (plain (part (b + 1) c t)) no_zero v refl

          module _ (v : plain (part (a + 1) b t) ≡ true) where
            pub wrong_end : plain (part (b + 1) c t) ≡ false → false ≡ error (parted 9 t)
            wrong_end w = error_as (form_read (part 0 a t) f).0 false true false no_zero v w

            pub names_decide : plain (part (b + 1) c t) ≡ true → placed form (parted 9 (rest t (c + 1))) ≡ error (parted 9 t)
            names_decide w = error_as (form_read (part 0 a t) f).0 false true true no_zero v w
