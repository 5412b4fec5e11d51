-- Comparing byte after byte; a number without leading zeros; looking for a kind's or a name's text, one after the other. Assumes nothing.
use Prim.Native.Nat.{ℕ, suc, ◌+◌, ◌≤◌, ◌<◌}
use mathlib.Core.Path.{◌≡◌, refl, sym, ap, ap₂, ◌∙◌}
use mathlib.Core.List.{List, [], ◌∷◌}
use mathlib.Core.Bool.{Bool, true, false, cond, not, ◌&&◌}
use native.Mathlib.Numerals.{add-one}
use native.Mathlib.Omega.{arith}
use borrow.Author.Tests.{eqb-true, lt-ltb}
use lib.Dec.{eqb, ltb}
use lib.ListN.{length, get_or, take, drop, length-take, drop_of_length-le}
use lib.Seq.{drop-cons, take_at, slice, slice-cons}
use Rattle.std.specs.Prelude.{Some, None}
use Rattle.kinds.specs.Spelling.{kind_texts, name_texts, kind_text, name_text, Spelled}
use Rattle.listing.specs.Numbers.{value, is_number, number}
use Rattle.listing.specs.Written.{Put}
use Rattle.listing.proofs.Written.{spelled}
use Rattle.editions.specs.Words.{equal, unpadded, plain, among, kind_among, place_in, name_number, named}

-- COMPARING

pub equal_same : (a b : List ℕ) → equal a b ≡ true → a ≡ b
equal_same [] [] e = refl
equal_same [] (c ∷ cs) e = absurd (let z : ◌≡◌ {A = ℕ} 0 1 = cc in omega arith)
equal_same (b ∷ bs) [] e = absurd (let z : ◌≡◌ {A = ℕ} 0 1 = cc in omega arith)
equal_same (b ∷ bs) (c ∷ cs) e = go (eqb b c) refl e (equal_same bs cs)
  where
    go : (t : Bool) → eqb b c ≡ t → (t && equal bs cs) ≡ true → (equal bs cs ≡ true → bs ≡ cs) → b ∷ bs ≡ c ∷ cs
    go true i e f = ap₂ (λ (x : ℕ) (xs : List ℕ). x ∷ xs) (eqb-true b c i) (f e)
    go false i e f = absurd (let z : ◌≡◌ {A = ℕ} 0 1 = cc in omega arith)

-- NUMBERS

is_none : (t : List ℕ) → number t ≡ None → is_number t ≡ false
unfolding number
is_none t e = go (is_number t) e
  where
    go : (b : Bool) → cond b (Some (value t)) None ≡ None → b ≡ false
    go true e = absurd (let z : ◌≡◌ {A = ℕ} 0 1 = cc in omega arith)
    go false e = refl

pub is_some : (t : List ℕ) {n : ℕ} → number t ≡ Some n → (is_number t ≡ true) × (value t ≡ n)
unfolding number
is_some t {n} e = go (is_number t) e
  where
    go : (b : Bool) → cond b (Some (value t)) None ≡ Some n → (b ≡ true) × (value t ≡ n)
    go true e = (refl, cc)
    go false e = absurd (let z : ◌≡◌ {A = ℕ} 0 1 = cc in omega arith)

pub no_number : (t : List ℕ) → number t ≡ None → false ≡ plain t
unfolding plain
no_number t e = sym (ap (λ (b : Bool). b && unpadded t) (is_none t e))

module _ (t : List ℕ) {n : ℕ} (e : number t ≡ Some n) where
  by_zeros : unpadded t ≡ plain t
  unfolding plain
  by_zeros = sym (ap (λ (b : Bool). b && unpadded t) (is_some t e).0)

  pub short_number : length t < 2 → true ≡ plain t
  short_number h = go t h ∙ by_zeros
    where
      go : (t : List ℕ) → length t < 2 → true ≡ unpadded t
      go [] h = refl
      go (b ∷ []) h = refl
      go (b ∷ c ∷ bs) h = absurd (omega arith)

  pub long_number : 2 ≤ length t → not (eqb (get_or t 0 0) 48) ≡ plain t
  long_number h = go t h ∙ by_zeros
    where
      go : (t : List ℕ) → 2 ≤ length t → not (eqb (get_or t 0 0) 48) ≡ unpadded t
      go [] h = absurd (omega arith)
      go (b ∷ []) h = absurd (omega arith)
      go (b ∷ c ∷ bs) h = refl

-- KINDS AND NAMES

-- what was written at the front of a word
pub spelt : {text before after : List ℕ} {k : ℕ} → Spelled text before after k → take k after ≡ text
spelt {text} {before} {after} {k} s = ap (take k) s.written ∙ take_at text (drop (length text) before) k (sym s.count)

pub spelt_number : {text before after : List ℕ} {k : ℕ} (t : List ℕ) → Put text 0 before after k → equal t (take k after) ≡ equal t text
spelt_number t p = ap (equal t) (spelt (spelled p))

-- the texts of the kinds before k are others
pub record Sought (from to : ℕ) (t : List ℕ) (k : ℕ) : Type 0 where
  pub is : kind_among from to t ≡ among (slice k to kind_texts) t

pub sought : (from to : ℕ) (t : List ℕ) → Sought from to t from
unfolding kind_among
sought from to t = record { is = refl }

module _ {from to : ℕ} {t : List ℕ} {k : ℕ} (g : Sought from to t k) (all : to ≤ 122) where
  module _ (h : k < to) {before after : List ℕ} {n : ℕ} (s : Spelled (kind_text k) before after n) where
    here : (b : Bool) → equal (take n after) t ≡ b → kind_among from to t ≡ cond b true (among (slice (suc k) to kind_texts) t)
    unfolding kind_text
    here b e =
        g.is
        ∙ ap (λ (us : List (List ℕ)). among us t) (slice-cons k to kind_texts [] h all)
        ∙ ap (λ (b : Bool). cond b true (among (slice (suc k) to kind_texts) t)) (sym (ap (λ (u : List ℕ). equal u t) (spelt s)) ∙ e)

    pub found_kind : equal (take n after) t ≡ true → true ≡ kind_among from to t
    found_kind e = sym (here true e)

    pub sought_on : equal (take n after) t ≡ false → Sought from to t (k + 1)
    sought_on e = record { is = rw add-one (here false e) }

  pub no_kind : to ≤ k → false ≡ kind_among from to t
  no_kind h =
      let short : length (take to kind_texts) ≤ k = simp length-take (omega arith) in
      sym (g.is ∙ ap (λ (us : List (List ℕ)). among us t) (drop_of_length-le (take to kind_texts) short))

-- the texts of the names before n are others
pub record Called (t : List ℕ) (n : ℕ) : Type 0 where
  pub within : n ≤ 85
  pub is : name_number t ≡ n + place_in (drop n name_texts) t

pub called : (t : List ℕ) → Called t 0
unfolding name_number
called t = record { within = omega arith; is = omega arith }

module _ {t : List ℕ} {n : ℕ} (g : Called t n) where
  module _ (h : n < 85) {before after : List ℕ} {k : ℕ} (s : Spelled (name_text n) before after k) where
    named_here : (b : Bool) → equal (take k after) t ≡ b → name_number t ≡ n + cond b 0 (suc (place_in (drop (suc n) name_texts) t))
    unfolding name_text
    named_here b e =
        g.is
        ∙ ap (λ (us : List (List ℕ)). n + place_in us t) (drop-cons name_texts n [] h)
        ∙ ap (λ (b : Bool). n + cond b 0 (suc (place_in (drop (suc n) name_texts) t))) (sym (ap (λ (u : List ℕ). equal u t) (spelt s)) ∙ e)

    pub found_name : equal (take k after) t ≡ true → Some n ≡ named t
    found_name e =
        let f : n ≡ name_number t = omega (arith, named_here true e) in
        ap (λ (b : Bool). cond b (Some n) None) (sym (lt-ltb n 85 h)) ∙ ap (λ (n : ℕ). cond (ltb n 85) (Some n) None) f

    pub called_on : equal (take k after) t ≡ false → Called t (n + 1)
    called_on e = record { within = omega arith; is = rw add-one (omega (arith, named_here false e)) }

  pub no_name : 85 ≤ n → None ≡ named t
  no_name h =
      let e : n ≡ 85 = omega (arith, g.within) in
      let f : 85 ≡ name_number t = sym (g.is ∙ ap (λ (n : ℕ). n + place_in (drop n name_texts) t) e) in
      ap (λ (n : ℕ). cond (ltb n 85) (Some n) None) f
