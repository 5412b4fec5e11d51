-- The scratch words as bits: "two bits a row", one for EXPR and one for TERM.
use Rattle.std.specs.Prelude.{ℕ, ◌+◌, ◌-◌, ◌*◌, ◌/◌, ◌%◌, ◌^◌, ◌≤◌, ◌<◌, ◌≡◌, List, Bool, true, false, eqb, get_or}
use Rattle.kinds.specs.Kinds as k
use Rattle.definition.specs.Run as P

abbrev pub ifb : {A : Type 0} → Bool → A → A → A
ifb true a b = a
ifb false a b = b

unfoldable pub bit_at : List ℕ → ℕ → Bool
bit_at l i = eqb (get_or l (i / 64) 0 / 2 ^ (i % 64) % 2) 1

-- what one store does to each bit
pub record Kept (bit : ℕ) (l l' : List ℕ) : Type 0 where
  pub bits : (i : ℕ) → bit_at l' i ≡ ifb (eqb i bit) true (bit_at l i)

-- the rows from one up to before another are forgotten; no bit is set
pub record Forgot (from to : ℕ) (l l' : List ℕ) : Type 0 where
  pub inside : (i : ℕ) → 2 * from ≤ i → i < 2 * to → bit_at l' i ≡ false
  pub outside : (i : ℕ) → bit_at l i ≡ false → bit_at l' i ≡ false

-- the words are the definition's cache: n rows in all; none before `first` and none from `far` on is remembered
pub record Cached (n first far : ℕ) (l : List ℕ) (c : List (ℕ × ℕ)) : Type 0 where
  pub expr : (p : ℕ) → p ≤ n → bit_at l (2 * p) ≡ P.known c (n - p) k.EXPR
  pub term : (p : ℕ) → p ≤ n → bit_at l (2 * p + 1) ≡ P.known c (n - p) k.TERM
  pub below : (i : ℕ) → i < 2 * first → bit_at l i ≡ false
  pub above : (i : ℕ) → 2 * far ≤ i → bit_at l i ≡ false
