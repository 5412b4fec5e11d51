-- Entering codes: each once, in order; what they stand for is the definition's list of names. Assumes nothing.
use Prim.Native.Nat.{ℕ, zero, suc, ◌+◌, ◌/◌, ◌%◌, ◌^◌, ◌≤◌, ◌<◌}
use mathlib.Core.Path.{◌≡◌, refl, sym, ap, ap₂, ◌∙◌}
use mathlib.Core.List.{List, [], ◌∷◌, ◌++◌}
use mathlib.Core.Bool.{Bool, true, false}
use native.Mathlib.Nat.{zero-div}
use native.Mathlib.Numerals.{add-one}
use native.Mathlib.Omega.{arith}
use borrow.Author.Tests.{eq-eqb, eqb-true, lt-ltb}
use lib.Bits.{bit_and, bit_or}
use lib.Dec.{eqb}
use lib.ListN.{length, get_or, take, set, length-set, length-append}
use lib.Seq.{length-take-le, take-suc-set}
use Rattle.kinds.specs.Sets.{set_of, ids_of}
use Rattle.definition.specs.Run as P
use Rattle.notes.specs.Whole.{Whole}
use Rattle.notes.specs.Bits.{ifb, bit_at}
use Rattle.notes.specs.Change.{with_codes}
use Rattle.notes.specs.Means.{names_of, spelled_on, spelled, names_in}
use Rattle.notes.specs.Did.{Below, Distinct, Named, Enters}
use Rattle.notes.proofs.Bits.{power, tests_bit, stores_bit}
use Rattle.notes.proofs.Pigeon.{few, distinct_more, below_more}

-- a list has what it had, and what was put behind it
has_cons : (x y : ℕ) (l : List ℕ) → P.has l x ≡ true → P.has (y ∷ l) x ≡ true
has_cons x y l h = go (eqb x y)
  where
    go : (b : Bool) → elim b [ true ↦ true | false ↦ P.has l x ] ≡ true
    go true = refl
    go false = h

has_front : (x : ℕ) (l m : List ℕ) → P.has l x ≡ true → P.has (l ++ m) x ≡ true
has_front x [] m h = let z : ◌≡◌ {A = ℕ} 0 1 = cc in absurd (omega arith)
has_front x (y ∷ l) m h = go (eqb x y) (has_front x l m) h
  where
    go : (b : Bool) → (P.has l x ≡ true → P.has (l ++ m) x ≡ true) → elim b [ true ↦ true | false ↦ P.has l x ] ≡ true → elim b [ true ↦ true | false ↦ P.has (l ++ m) x ] ≡ true
    go true f q = refl
    go false f q = f q

has_last : (x y : ℕ) (l : List ℕ) → P.has (l ++ (y ∷ [])) x ≡ ifb (eqb x y) true (P.has l x)
has_last x y [] = go (eqb x y)
  where
    go : (b : Bool) → elim b [ true ↦ true | false ↦ false ] ≡ ifb b true false
    go true = refl
    go false = refl
has_last x y (z ∷ l) = go (eqb x z) (has_last x y l)
  where
    swap : (b : Bool) → true ≡ ifb b true true
    swap true = refl
    swap false = refl

    go : (b : Bool) → P.has (l ++ (y ∷ [])) x ≡ ifb (eqb x y) true (P.has l x) → elim b [ true ↦ true | false ↦ P.has (l ++ (y ∷ [])) x ] ≡ ifb (eqb x y) true (elim b [ true ↦ true | false ↦ P.has l x ])
    go true q = swap (eqb x y)
    go false q = q

-- joining keeps what was there, and brings what is joined
join_keeps : (n : ℕ) (l ns : List ℕ) → P.has l n ≡ true → P.has (P.join l ns) n ≡ true
join_keeps n l [] h = h
join_keeps n l (x ∷ xs) h = go (P.has l x) (λ k g. join_keeps n k xs g)
  where
    go : (b : Bool) → ((k : List ℕ) → P.has k n ≡ true → P.has (P.join k xs) n ≡ true) → P.has (elim b as (λ _. List ℕ) [ true ↦ P.join l xs | false ↦ P.join (l ++ (x ∷ [])) xs ]) n ≡ true
    go true f = f l h
    go false f = f (l ++ (x ∷ [])) (has_front n l (x ∷ []) h)

join_brings : (n : ℕ) (l ns : List ℕ) → P.has ns n ≡ true → P.has (P.join l ns) n ≡ true
join_brings n l [] h = let z : ◌≡◌ {A = ℕ} 0 1 = cc in absurd (omega arith)
join_brings n l (x ∷ xs) h = go (eqb n x) refl (P.has l x) refl (λ k g. join_brings n k xs g) h
  where
    go : (b : Bool) → eqb n x ≡ b → (c : Bool) → P.has l x ≡ c → ((k : List ℕ) → P.has xs n ≡ true → P.has (P.join k xs) n ≡ true) → elim b [ true ↦ true | false ↦ P.has xs n ] ≡ true → P.has (elim c as (λ _. List ℕ) [ true ↦ P.join l xs | false ↦ P.join (l ++ (x ∷ [])) xs ]) n ≡ true
    go true e true k f q = join_keeps n l xs (ap (P.has l) (eqb-true n x e) ∙ k)
    go true e false k f q = join_keeps n (l ++ (x ∷ [])) xs (has_last n x l ∙ ap (λ (b : Bool). ifb b true (P.has l n)) e)
    go false e true k f q = f l q
    go false e false k f q = f (l ++ (x ∷ [])) q

join_known : (l ns : List ℕ) → ((n : ℕ) → P.has ns n ≡ true → P.has l n ≡ true) → P.join l ns ≡ l
join_known l [] h = refl
join_known l (x ∷ xs) h =
    ap (λ (b : Bool). elim b as (λ _. List ℕ) [ true ↦ P.join l xs | false ↦ P.join (l ++ (x ∷ [])) xs ]) (h x (ap (λ (b : Bool). elim b [ true ↦ true | false ↦ P.has xs x ]) (eq-eqb x x refl)))
    ∙ join_known l xs (λ n q. h n (has_cons n x xs q))

-- the names of codes, one after the other
spelled_last : (l : List ℕ) (cs : List ℕ) (c : ℕ) → spelled_on l (cs ++ (c ∷ [])) ≡ P.join (spelled_on l cs) (names_of c)
spelled_last l [] c = refl
spelled_last l (d ∷ cs) c = spelled_last (P.join l (names_of d)) cs c

spelled_keeps : (n : ℕ) (l cs : List ℕ) → P.has l n ≡ true → P.has (spelled_on l cs) n ≡ true
spelled_keeps n l [] h = h
spelled_keeps n l (c ∷ cs) h = spelled_keeps n (P.join l (names_of c)) cs (join_keeps n l (names_of c) h)

spelled_brings : (n c : ℕ) (l cs : List ℕ) → P.has cs c ≡ true → P.has (names_of c) n ≡ true → P.has (spelled_on l cs) n ≡ true
spelled_brings n c l [] h k = let z : ◌≡◌ {A = ℕ} 0 1 = cc in absurd (omega arith)
spelled_brings n c l (d ∷ cs) h k = go (eqb c d) refl (λ q. spelled_brings n c (P.join l (names_of d)) cs q k) h
  where
    go : (b : Bool) → eqb c d ≡ b → (P.has cs c ≡ true → P.has (spelled_on (P.join l (names_of d)) cs) n ≡ true) → elim b [ true ↦ true | false ↦ P.has cs c ] ≡ true → P.has (spelled_on (P.join l (names_of d)) cs) n ≡ true
    go true e f q = spelled_keeps n (P.join l (names_of d)) cs (join_brings n l (names_of d) (ap (λ (i : ℕ). P.has (names_of i) n) (sym (eqb-true c d e)) ∙ k))
    go false e f q = f q

pub spelled_known : (c : ℕ) (cs : List ℕ) → P.has cs c ≡ true → P.join (spelled cs) (names_of c) ≡ spelled cs
spelled_known c cs h = join_known (spelled cs) (names_of c) (λ n k. spelled_brings n c [] cs h k)

-- the word of the codes that are there
pub mask_tests : (mask c : ℕ) → c < 58 → eqb (bit_and (mask / 2 ^ c) 1) 1 ≡ bit_at (mask ∷ []) c
mask_tests mask c h =
    let low : c / 64 ≡ 0 = omega arith in
    let same : c % 64 ≡ c = omega arith in
    sym (ap₂ (λ (i j : ℕ). eqb (bit_and (get_or (mask ∷ []) i 0 / 2 ^ j) 1) 1) low same) ∙ tests_bit (mask ∷ []) c

mask_stores : (mask c i : ℕ) → c < 58 → bit_at (bit_or mask (power c) ∷ []) i ≡ ifb (eqb i c) true (bit_at (mask ∷ []) i)
mask_stores mask c i h =
    let low : c / 64 ≡ 0 = omega arith in
    let same : c % 64 ≡ c = omega arith in
    ap₂ (λ (a b : ℕ). bit_at (set (mask ∷ []) a (bit_or (get_or (mask ∷ []) a 0) (power b))) i) (sym low) (sym same) ∙ (stores_bit c (mask ∷ []) (omega arith)).bits i

-- one code
module _ (s : Whole) (c : ℕ) (w : Named s.count s.mask s.codes) (h : c < 58) where
  abbrev cs : List ℕ
  cs = take s.count s.codes

  pub enters_none : bit_at (s.mask ∷ []) c ≡ true → Enters (P.join (names_in s) (names_of c)) s s
  enters_none e = record { is = refl; names = sym (spelled_known c cs (sym (w.marked c h) ∙ e)); named = w }

  pub enters_one : bit_at (s.mask ∷ []) c ≡ false → Enters (P.join (names_in s) (names_of c)) s (with_codes (s.count + 1) (bit_or s.mask (power c)) (set s.codes s.count c) s)
  enters_one e = record { is = refl; names = ap spelled more ∙ spelled_last [] cs c; named = named }
    where
      new : P.has cs c ≡ false
      new = sym (w.marked c h) ∙ e

      long : length cs ≡ s.count
      long = length-take-le s.count s.codes (omega (arith, w.few, w.long))

      below : Below 58 (cs ++ (c ∷ []))
      below = below_more 58 c cs w.below h

      distinct : Distinct (cs ++ (c ∷ []))
      distinct = distinct_more c cs w.distinct new

      short : s.count + 1 ≤ 58
      short = omega (arith, few 58 (cs ++ (c ∷ [])) distinct below, length-append cs (c ∷ []), long)

      more : take (s.count + 1) (set s.codes s.count c) ≡ cs ++ (c ∷ [])
      more = rw add-one (take-suc-set s.codes s.count c (omega (arith, short, w.long)))

      named : Named (s.count + 1) (bit_or s.mask (power c)) (set s.codes s.count c)
      named =
          record {
            few = short;
            long = length-set s.codes s.count c ∙ w.long;
            below = rw more below;
            distinct = rw more distinct;
            marked = λ i k. mask_stores s.mask c i h ∙ ap (ifb (eqb i c) true) (w.marked i k) ∙ sym (has_last i c cs) ∙ ap (λ (l : List ℕ). P.has l i) (sym more);
          }

-- where no code is there yet
pub none_named : (codes : List ℕ) → length codes ≡ 58 → Named 0 0 codes
unfolding bit_at
none_named codes h = record { few = omega arith; long = h; below = tt; distinct = tt; marked = λ c k. clear c }
  where
    zeroes : (i : ℕ) → ◌≡◌ {A = ℕ} (get_or {A = ℕ} (0 ∷ []) i 0) 0
    zeroes zero = refl
    zeroes (suc i) = refl

    clear : (c : ℕ) → bit_at (0 ∷ []) c ≡ false
    clear c = ap (λ (x : ℕ). eqb (x / 2 ^ (c % 64) % 2) 1) (zeroes (c / 64)) ∙ ap (λ (x : ℕ). eqb (x % 2) 1) (zero-div (2 ^ (c % 64)))

-- a set's own number stands for the set's ids
pub set_names : (s : ℕ) → s < 55 → names_of s ≡ ids_of (set_of s)
unfolding names_of
set_names s h = ap (λ (b : Bool). ifb b (ids_of (set_of s)) ((s + 27) ∷ [])) (lt-ltb s 55 h)
