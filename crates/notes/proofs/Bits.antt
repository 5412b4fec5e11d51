-- The bits of the scratch words: what a store does to each, and the words as the definition's cache. Assumes nothing.
use Prim.Native.Nat.{ℕ, zero, suc, ◌+◌, ◌-◌, ◌*◌, ◌/◌, ◌%◌, ◌^◌, ◌≤◌, ◌<◌, max}
use mathlib.Core.Path.{◌≡◌, refl, sym, ap, ap₂, ◌∙◌}
use mathlib.Core.List.{List, ◌∷◌}
use mathlib.Core.Bool.{Bool, true, false, ◌&&◌}
use native.Mathlib.Nat.{zero-div}
use native.Mathlib.Omega.{arith}
use native.Mathlib.Decide.{ℕ_discrete, dec_lt}
use borrow.Author.Tests.{ne_eqb, eq-eqb, eqb-true}
use lib.Bits.{bit_and, bit_or, and_mask, or_mod, or_shr}
use lib.Dec.{eqb}
use lib.ListN.{length, get_or, set}
use lib.Seq.{get_or-set_same, get_or-set_other}
use Rattle.kinds.specs.Kinds as k
use Rattle.kinds.proofs.Tables.{all, all_sound}
use Rattle.definition.specs.Run as P
use Rattle.notes.specs.Bits.{ifb, bit_at, Kept, Forgot, Cached}

-- a power of two as the code has it, at a word's width
abbrev pub power : ℕ → ℕ
power b = 1 * 2 ^ b % 18446744073709551616

abbrev right : ℕ → ℕ → Bool
right b j = eqb (power b / 2 ^ j % 2) (ifb (eqb j b) 1 0)

tested : all (λ b. all (right b) 64) 64 ≡ true
tested = refl

power_bit : (b j : ℕ) → b < 64 → j < 64 → power b / 2 ^ j % 2 ≡ ifb (eqb j b) 1 0
power_bit b j h k = eqb-true _ _ (all_sound (right b) 64 (all_sound (λ b. all (right b) 64) 64 tested b h) j k)

-- a digit of two digits' disjunction
or_digit : (u : ℕ) (c : Bool) → u < 2 → eqb (bit_or u (ifb c 1 0)) 1 ≡ ifb c true (eqb u 1)
or_digit zero true h = refl
or_digit zero false h = refl
or_digit (suc zero) true h = refl
or_digit (suc zero) false h = refl
or_digit (suc (suc u)) c h = absurd (omega arith)

word_bit : (w b j : ℕ) → b < 64 → j < 64 → eqb (bit_or w (power b) / 2 ^ j % 2) 1 ≡ ifb (eqb j b) true (eqb (w / 2 ^ j % 2) 1)
word_bit w b j h k =
    ap (λ (x : ℕ). eqb (x % 2) 1) (or_shr w (power b) j)
    ∙ ap (λ (x : ℕ). eqb x 1) (or_mod (w / 2 ^ j) (power b / 2 ^ j) 1 ∙ ap (bit_or (w / 2 ^ j % 2)) (power_bit b j h k))
    ∙ or_digit (w / 2 ^ j % 2) (eqb j b) (omega arith)

-- the code's test
pub tests_bit : (l : List ℕ) (i : ℕ) → eqb (bit_and (get_or l (i / 64) 0 / 2 ^ (i % 64)) 1) 1 ≡ bit_at l i
unfolding bit_at
tests_bit l i = ap (λ (x : ℕ). eqb x 1) (and_mask (get_or l (i / 64) 0 / 2 ^ (i % 64)) 1)

-- a store changes the bits of its word alone
other_word : (l : List ℕ) (at v i : ℕ) → (i / 64 ≡ at → ⊥) → bit_at (set l at v) i ≡ bit_at l i
unfolding bit_at
other_word l at v i e = ap (λ (w : ℕ). eqb (w / 2 ^ (i % 64) % 2) 1) (get_or-set_other l at (i / 64) v 0 e)

same_word : (l : List ℕ) (at v i : ℕ) → at < length l → i / 64 ≡ at → bit_at (set l at v) i ≡ eqb (v / 2 ^ (i % 64) % 2) 1
unfolding bit_at
same_word l at v i h e = ap (λ (w : ℕ). eqb (w / 2 ^ (i % 64) % 2) 1) (ap (λ (k : ℕ). get_or (set l at v) k 0) e ∙ get_or-set_same l at v 0 h)

module _ (bit : ℕ) (l : List ℕ) (h : bit / 64 < length l) where
  abbrev after : List ℕ
  after = set l (bit / 64) (bit_or (get_or l (bit / 64) 0) (power (bit % 64)))

  pub stores_bit : Kept bit l after
  unfolding bit_at
  stores_bit = record { bits = λ i. at i (ℕ_discrete (i / 64) (bit / 64)) (ℕ_discrete i bit) }
    where
      agree : (i : ℕ) → i / 64 ≡ bit / 64 → Dec (i ≡ bit) → eqb (i % 64) (bit % 64) ≡ eqb i bit
      agree i e (yes q) = eq-eqb (i % 64) (bit % 64) (omega arith) ∙ sym (eq-eqb i bit q)
      agree i e (no q) = ne_eqb (i % 64) (bit % 64) (λ f. q (omega arith)) ∙ sym (ne_eqb i bit q)

      at : (i : ℕ) → Dec (i / 64 ≡ bit / 64) → Dec (i ≡ bit) → bit_at after i ≡ ifb (eqb i bit) true (bit_at l i)
      at i (yes e) d =
          same_word l (bit / 64) _ i h e
          ∙ word_bit (get_or l (bit / 64) 0) (bit % 64) (i % 64) (omega arith) (omega arith)
          ∙ ap₂ (λ (c : Bool) (w : ℕ). ifb c true (eqb (get_or l w 0 / 2 ^ (i % 64) % 2) 1)) (agree i e d) (sym e)
      at i (no e) d = other_word l (bit / 64) _ i e ∙ ap (λ (c : Bool). ifb c true (bit_at l i)) (sym (ne_eqb i bit (λ q. e (ap (λ (k : ℕ). k / 64) q))))

-- no bit is set
abbrev pub Clear : List ℕ → Type 0
Clear l = (i : ℕ) → bit_at l i ≡ false

-- forgetting, a word at a time
pub forgot_start : {from to : ℕ} {l : List ℕ} → to ≤ from → Forgot from to l l
forgot_start h = record { inside = λ i a b. absurd (omega arith); outside = λ i e. e }

pub forgot_enough : {from to more : ℕ} {l l' : List ℕ} → Forgot from more l l' → to ≤ more → Forgot from to l l'
forgot_enough f h = record { inside = λ i a b. f.inside i a (omega arith); outside = f.outside }

pub forgot_word : {from at : ℕ} {l l' : List ℕ} → Forgot from (32 * at) l l' → at < length l' → Forgot from (32 * (at + 1)) l (set l' at 0)
forgot_word {from} {at} {l} {l'} f h = record { inside = λ i a b. here i a b (ℕ_discrete (i / 64) at); outside = λ i e. there i e (ℕ_discrete (i / 64) at) }
  where
    zero_word : (i : ℕ) → i / 64 ≡ at → bit_at (set l' at 0) i ≡ false
    zero_word i e = same_word l' at 0 i h e ∙ ap (λ (w : ℕ). eqb (w % 2) 1) (zero-div (2 ^ (i % 64)))

    here : (i : ℕ) → 2 * from ≤ i → i < 2 * (32 * (at + 1)) → Dec (i / 64 ≡ at) → bit_at (set l' at 0) i ≡ false
    here i a b (yes e) = zero_word i e
    here i a b (no e) = other_word l' at 0 i e ∙ f.inside i a (omega (arith, e))

    there : (i : ℕ) → bit_at l i ≡ false → Dec (i / 64 ≡ at) → bit_at (set l' at 0) i ≡ false
    there i q (yes e) = zero_word i e
    there i q (no e) = other_word l' at 0 i e ∙ f.outside i q

-- the kinds whose failures are remembered, and a row's bit for each
pub data Memo : Type 0 where
  expr term : Memo

abbrev pub kind_of : Memo → ℕ
kind_of expr = k.EXPR
kind_of term = k.TERM

abbrev pub bit_of : Memo → ℕ → ℕ
bit_of expr p = 2 * p
bit_of term p = 2 * p + 1

pub bit_row : (t : Memo) (p : ℕ) → bit_of t p / 2 ≡ p
bit_row expr p = omega arith
bit_row term p = omega arith

-- in one row the bits differ as the kinds do
bit_kind : (t u : Memo) (p : ℕ) → eqb (bit_of t p) (bit_of u p) ≡ eqb (kind_of t) (kind_of u)
bit_kind expr expr p = eq-eqb (2 * p) (2 * p) refl
bit_kind expr term p = ne_eqb (2 * p) (2 * p + 1) (λ e. omega arith)
bit_kind term expr p = ne_eqb (2 * p + 1) (2 * p) (λ e. omega arith)
bit_kind term term p = eq-eqb (2 * p + 1) (2 * p + 1) refl

pub cached_at : {n first far : ℕ} {l : List ℕ} {c : List (ℕ × ℕ)} → Cached n first far l c → (t : Memo) (p : ℕ) → p ≤ n → bit_at l (bit_of t p) ≡ P.known c (n - p) (kind_of t)
cached_at w expr = w.expr
cached_at w term = w.term

pub forgotten : {n first far : ℕ} {l l' : List ℕ} {c : List (ℕ × ℕ)} → Cached n first far l c → Forgot first far l l' → Clear l'
forgotten {n} {first} {far} {l} {l'} w f i = go (dec_lt i (2 * first)) (dec_lt i (2 * far))
  where
    go : Dec (i < 2 * first) → Dec (i < 2 * far) → bit_at l' i ≡ false
    go (yes a) d = f.outside i (w.below i a)
    go (no a) (yes b) = f.inside i (omega (arith, a)) b
    go (no a) (no b) = f.outside i (w.above i (omega (arith, b)))

-- one failure more
known_cons : (r a : ℕ) (e : ℕ × ℕ) (c : List (ℕ × ℕ)) → P.known (e ∷ c) r a ≡ ifb (eqb r e.0 && eqb a e.1) true (P.known c r a)
known_cons r a e c = go (eqb r e.0 && eqb a e.1)
  where
    go : (b : Bool) → elim b [ true ↦ true | false ↦ P.known c r a ] ≡ ifb b true (P.known c r a)
    go true = refl
    go false = refl

module _ {n first far p : ℕ} {l l' : List ℕ} {c : List (ℕ × ℕ)} (t : Memo) (w : Cached n first far l c) (since : first ≤ p) (h : p ≤ n) (kept : Kept (bit_of t p) l l') where
  same : (u : Memo) (q : ℕ) → q ≤ n → Dec (q ≡ p) → eqb (bit_of u q) (bit_of t p) ≡ (eqb (n - q) (n - p) && eqb (kind_of u) (kind_of t))
  same u q g (yes e) =
      ap (λ (i : ℕ). eqb (bit_of u i) (bit_of t p)) e
      ∙ bit_kind u t p
      ∙ ap (λ (b : Bool). b && eqb (kind_of u) (kind_of t)) (sym (eq-eqb (n - q) (n - p) (ap (λ (i : ℕ). n - i) e)))
  same u q g (no e) =
      ne_eqb (bit_of u q) (bit_of t p) (λ f. e (omega (arith, bit_row u q, bit_row t p)))
      ∙ ap (λ (b : Bool). b && eqb (kind_of u) (kind_of t)) (sym (ne_eqb (n - q) (n - p) (λ f. e (omega arith))))

  at : (u : Memo) (q : ℕ) → q ≤ n → bit_at l' (bit_of u q) ≡ P.known ((n - p, kind_of t) ∷ c) (n - q) (kind_of u)
  at u q g =
      kept.bits (bit_of u q)
      ∙ ap₂ (λ (b d : Bool). ifb b true d) (same u q g (ℕ_discrete q p)) (cached_at w u q g)
      ∙ sym (known_cons (n - q) (kind_of u) (n - p, kind_of t) c)

  elsewhere : (i : ℕ) → (i ≡ bit_of t p → ⊥) → bit_at l i ≡ false → bit_at l' i ≡ false
  elsewhere i e z = kept.bits i ∙ ap₂ (λ (b d : Bool). ifb b true d) (ne_eqb i (bit_of t p) e) z

  pub cached_more : Cached n first (max far (bit_of t p / 2 + 1)) l' ((n - p, kind_of t) ∷ c)
  cached_more =
      record {
        expr = at expr;
        term = at term;
        below = λ i a. elsewhere i (λ e. omega (arith, bit_row t p)) (w.below i a);
        above = λ i a. elsewhere i (λ e. omega (arith, bit_row t p)) (w.above i (omega arith));
      }
