-- Numbers as text: reading digit after digit gives the number of a text; what is written reads back; how many digits a number has. Assumes nothing.
use Prim.Native.Nat.{ℕ, zero, suc, ◌+◌, ◌-◌, ◌*◌, ◌/◌, ◌%◌, ◌^◌, ◌≤◌, ◌<◌}
use mathlib.Core.Path.{◌≡◌, refl, sym, ap, ◌∙◌}
use mathlib.Core.Logic.{⊎_elim}
use mathlib.Core.List.{List, [], ◌∷◌, ◌++◌}
use mathlib.Core.Bool.{Bool, true, false, cond, ◌&&◌}
use Rattle.std.specs.Prelude.{Some, None}
use native.Mathlib.Nat.{pow-succ'}
use native.Mathlib.Numerals.{add-one}
use native.Mathlib.Omega.{arith}
use borrow.Author.Tests.{lt-ltb, le-ltb, le-leb, eqb-true, eqb-false}
use lib.Dec.{eqb, ltb}
use lib.ListN.{length, get_or, drop, length-append, drop_of_length-le}
use lib.Seq.{drop-cons}
use Rattle.listing.proofs.Either.{either}
use Rattle.listing.specs.Numbers.{is_digit, all_digits, onward, value, is_number, number, decimals, decimal}

-- the first i bytes are digits that spell n
pub record Reading (bs : List ℕ) (n i : ℕ) : Type 0 where
  pub within : i ≤ length bs
  pub small : n < 2 ^ 32
  pub digits : all_digits bs ≡ all_digits (drop i bs)
  pub spells : value bs ≡ onward n (drop i bs)

pub reading : (bs : List ℕ) → Reading bs 0 0
reading bs = record { within = omega arith; small = omega arith; digits = refl; spells = refl }

onward_least : (bs : List ℕ) (n : ℕ) → n ≤ onward n bs
onward_least [] n = omega arith
onward_least (b ∷ bs) n = omega (arith, onward_least bs (n * 10 + (b - 48)))

is_digit_lem : (b : ℕ) → 48 ≤ b → b ≤ 57 → is_digit b ≡ true
is_digit_lem b l h = rw (le-leb 48 b l, le-leb b 57 h)

no_number : (bs : List ℕ) → is_number bs ≡ false → number bs ≡ None
unfolding number
no_number bs e = ap (λ (t : Bool). cond t (Some (value bs)) None) e

pub empty : (bs : List ℕ) → eqb (length bs) 0 ≡ true → number bs ≡ None
empty [] e = no_number [] refl
empty (b ∷ bs) e = absurd (omega (arith, eqb-true (length (b ∷ bs)) 0 e))

and_false : (t : Bool) → (t && false) ≡ false
and_false true = refl
and_false false = refl

-- a test that fails on digits or size fails for the text, which has a byte
not_digits : (bs : List ℕ) → 0 < length bs → all_digits bs ≡ false → number bs ≡ None
not_digits [] h e = absurd (omega arith)
not_digits (b ∷ bs) h e = no_number (b ∷ bs) (ap (λ (t : Bool). t && ltb (value (b ∷ bs)) (2 ^ 32)) e)

too_large : (bs : List ℕ) → 0 < length bs → 2 ^ 32 ≤ value bs → number bs ≡ None
too_large [] h k = absurd (omega arith)
too_large (b ∷ bs) h k = no_number (b ∷ bs) (ap (λ (t : Bool). all_digits (b ∷ bs) && t) (le-ltb _ (2 ^ 32) k) ∙ and_false (all_digits (b ∷ bs)))

whole : (bs : List ℕ) → 0 < length bs → all_digits bs ≡ true → value bs < 2 ^ 32 → number bs ≡ Some (value bs)
unfolding number
whole [] h d k = absurd (omega arith)
whole (b ∷ bs) h d k =
    ap (λ (t : Bool). cond (t && ltb (value (b ∷ bs)) (2 ^ 32)) (Some (value (b ∷ bs))) None) d
    ∙ ap (λ (t : Bool). cond t (Some (value (b ∷ bs))) None) (lt-ltb _ (2 ^ 32) k)

module _ {bs : List ℕ} {n i : ℕ} (g : Reading bs n i) where
  next_digits : i < length bs → all_digits bs ≡ (is_digit (get_or bs i 0) && all_digits (drop (suc i) bs))
  next_digits h = g.digits ∙ ap all_digits (drop-cons bs i 0 h)

  next_spells : i < length bs → value bs ≡ onward (n * 10 + (get_or bs i 0 - 48)) (drop (suc i) bs)
  next_spells h = g.spells ∙ ap (onward n) (drop-cons bs i 0 h)

  pub stray : i < length bs → is_digit (get_or bs i 0) ≡ false → number bs ≡ None
  stray h e = not_digits bs (omega arith) (next_digits h ∙ ap (λ (t : Bool). t && all_digits (drop (suc i) bs)) e)

  pub over : i < length bs → 2 ^ 32 ≤ n * 10 + (get_or bs i 0 - 48) → number bs ≡ None
  over h k = too_large bs (omega arith) (omega (arith, next_spells h, onward_least (drop (suc i) bs) (n * 10 + (get_or bs i 0 - 48))))

  pub reading_on : i < length bs → 48 ≤ get_or bs i 0 → get_or bs i 0 ≤ 57 → n * 10 + (get_or bs i 0 - 48) < 2 ^ 32
      → Reading bs (n * 10 + (get_or bs i 0 - 48)) (i + 1)
  reading_on h lo hi k =
      record {
        within = omega arith;
        small = k;
        digits = rw add-one (next_digits h ∙ ap (λ (t : Bool). t && all_digits (drop (suc i) bs)) (is_digit_lem _ lo hi));
        spells = rw add-one (next_spells h);
      }

  pub read : eqb (length bs) 0 ≡ false → length bs ≤ i → number bs ≡ Some n
  read e h =
      let p : 0 < length bs = omega (arith, eqb-false (length bs) 0 e) in
      let v : value bs ≡ n = g.spells ∙ ap (onward n) (drop_of_length-le bs h) in
      whole bs p (g.digits ∙ ap all_digits (drop_of_length-le bs h)) (omega (arith, g.small)) ∙ ap Some v

-- WRITING

-- what holds of the numbers below ten, and of a number by its tenth, holds of each
module _ (P : ℕ → Type 0) (ones : (n : ℕ) → n < 10 → P n) (more : (n : ℕ) → 10 ≤ n → P (n / 10) → P n) where
  below_bound : (k n : ℕ) → n < k → P n
  below_bound zero n h = absurd (omega arith)
  below_bound (suc k) n h = ⊎_elim (ones n) (λ l. more n l (below_bound k (n / 10) (omega arith))) (either n 10)

  by_tenths : (n : ℕ) → P n
  by_tenths n = below_bound (suc n) n (omega arith)

-- any bound above n gives all its digits
Enough : ℕ → Type 0
Enough n = (k j : ℕ) → n < k → n < j → decimals k n ≡ decimals j n

enough : (n : ℕ) → Enough n
unfolding Enough
enough = by_tenths Enough ones more
  where
    ones : (n : ℕ) → n < 10 → (k j : ℕ) → n < k → n < j → decimals k n ≡ decimals j n
    ones n l zero j h i = absurd (omega arith)
    ones n l (suc k) zero h i = absurd (omega arith)
    ones n l (suc k) (suc j) h i = rw (lt-ltb n 10 l)

    more : (n : ℕ) → 10 ≤ n → ((k j : ℕ) → n / 10 < k → n / 10 < j → decimals k (n / 10) ≡ decimals j (n / 10))
        → (k j : ℕ) → n < k → n < j → decimals k n ≡ decimals j n
    more n l f zero j h i = absurd (omega arith)
    more n l f (suc k) zero h i = absurd (omega arith)
    more n l f (suc k) (suc j) h i =
        rw (le-ltb n 10 l) (ap (λ (l : List ℕ). l ++ ((48 + n % 10) ∷ [])) (f k j (omega arith) (omega arith)))

pub decimal_one : (n : ℕ) → n < 10 → (48 + n) ∷ [] ≡ decimal n
unfolding decimal
decimal_one n h = rw (lt-ltb n 10 h)

pub decimal_last : (n : ℕ) → n < 10 → (48 + n % 10) ∷ [] ≡ decimal n
decimal_last n h = ap (λ (d : ℕ). (48 + d) ∷ []) (omega arith) ∙ decimal_one n h

pub decimal_more : (n : ℕ) → 10 ≤ n → decimal (n / 10) ++ ((48 + n % 10) ∷ []) ≡ decimal n
unfolding decimal Enough
decimal_more n h =
    let rest = enough (n / 10) in
    rw (le-ltb n 10 h)
    (ap (λ (l : List ℕ). l ++ ((48 + n % 10) ∷ [])) (rest (suc (n / 10)) n (omega arith) (omega arith)))

pub length_one : (n : ℕ) → n < 10 → length (decimal n) ≡ 1
length_one n h = sym (ap length (decimal_one n h))

pub length_more : (n : ℕ) → 10 ≤ n → length (decimal n) ≡ length (decimal (n / 10)) + 1
length_more n h = sym (ap length (decimal_more n h)) ∙ length-append (decimal (n / 10)) ((48 + n % 10) ∷ [])

-- a number below 10^(k + 1) has at most k + 1 digits
pub short : (n k : ℕ) → n < 10 ^ suc k → length (decimal n) ≤ suc k
short = by_tenths (λ (n : ℕ). (k : ℕ) → n < 10 ^ suc k → length (decimal n) ≤ suc k) (λ n h k l. omega (arith, length_one n h)) more
  where
    more : (n : ℕ) → 10 ≤ n → ((k : ℕ) → n / 10 < 10 ^ suc k → length (decimal (n / 10)) ≤ suc k) → (k : ℕ) → n < 10 ^ suc k
        → length (decimal n) ≤ suc k
    more n h f zero l = absurd (omega arith)
    more n h f (suc k) l = omega (arith, length_more n h, f k (omega (arith, l, pow-succ' 10 (suc k))))

onward_more : (bs : List ℕ) (n b : ℕ) → onward n (bs ++ (b ∷ [])) ≡ onward n bs * 10 + (b - 48)
onward_more [] n b = refl
onward_more (c ∷ bs) n b = onward_more bs (n * 10 + (c - 48)) b

digits_more : (bs : List ℕ) (b : ℕ) → all_digits bs ≡ true → is_digit b ≡ true → all_digits (bs ++ (b ∷ [])) ≡ true
digits_more [] b d e = ap (λ (t : Bool). t && true) e
digits_more (c ∷ bs) b d e = go (is_digit c) d (λ f. digits_more bs b f e)
  where
    go : (t : Bool) → (t && all_digits bs) ≡ true → (all_digits bs ≡ true → all_digits (bs ++ (b ∷ [])) ≡ true) → (t && all_digits (bs ++ (b ∷ []))) ≡ true
    go true d f = f d
    go false d f = d

-- what is written reads back
pub record Reads (n : ℕ) : Type 0 where
  pub some_digit : 0 < length (decimal n)
  pub digits : all_digits (decimal n) ≡ true
  pub value_of : value (decimal n) ≡ n

pub reads : (n : ℕ) → Reads n
reads =
    by_tenths Reads
    (λ n h.
    record {
      some_digit = omega (arith, length_one n h);
      digits = ap all_digits (sym (decimal_one n h)) ∙ ap (λ (t : Bool). t && true) (is_digit_lem (48 + n) (omega arith) (omega arith));
      value_of = ap value (sym (decimal_one n h)) ∙ omega arith;
    })
    (λ n h r.
    record {
      some_digit = omega (arith, length_more n h);
      digits = ap all_digits (sym (decimal_more n h)) ∙ digits_more (decimal (n / 10)) (48 + n % 10) r.digits (is_digit_lem (48 + n % 10) (omega arith) (omega arith));
      value_of =
          ap value (sym (decimal_more n h))
          ∙ onward_more (decimal (n / 10)) 0 (48 + n % 10)
          ∙ ap (λ (m : ℕ). m * 10 + (48 + n % 10 - 48)) r.value_of
          ∙ omega arith;
    })

pub reads_back : (n : ℕ) → n < 2 ^ 32 → number (decimal n) ≡ Some n
reads_back n h = whole (decimal n) (reads n).some_digit (reads n).digits (omega (arith, (reads n).value_of)) ∙ ap Some (reads n).value_of
