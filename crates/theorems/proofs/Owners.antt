-- REQUEST (x): the item numbers of the records begin at 1, never fall, and are those of the items as they are counted.
use Prim.Native.Nat.{ℕ, zero, suc, ◌+◌, ◌-◌, ◌≤◌, ◌<◌}
use mathlib.Core.Path.{◌≡◌, refl, ap, ◌∙◌}
use mathlib.Core.List.{List, [], ◌∷◌, ◌++◌}
use lib.ListN.{length, get_or, replicate}
use native.Mathlib.Omega.{arith}
use Rattle.definition.specs.Run.{State, Limits, Mode, ok, failed, stopped, turn, put, item, items, start}
use Rattle.definition.specs.Render.{bads, numbers, item_numbers}
use Rattle.definition.proofs.Suffix.{chain}
use Rattle.definition.proofs.Numbers.{brought, numbers_length, numbers_chain, numbers_enough}

-- numbers from a on that never fall
abbrev From : ℕ → List ℕ → Type 0
From a [] = Unit
From a (x ∷ l) = (a ≤ x) × From x l

from_less : (a b : ℕ) (l : List ℕ) → a ≤ b → From b l → From a l
from_less a b [] h f = tt
from_less a b (x ∷ l) h f = (omega (arith, h, f.0), f.1)

from_replicate : (n i : ℕ) (l : List ℕ) → From i l → From i (replicate n i ++ l)
from_replicate zero i l f = f
from_replicate (suc n) i l f = (omega arith, from_replicate n i l f)

from_at : (a : ℕ) (l : List ℕ) (k : ℕ) → From a l → k < length l → a ≤ get_or l k 0
from_at a [] k f h = absurd (omega arith)
from_at a (x ∷ l) zero f h = f.0
from_at a (x ∷ l) (suc k) f h = omega (arith, f.0, from_at x l k f.1 (omega arith))

from_rises : (a : ℕ) (l : List ℕ) (j k : ℕ) → From a l → j ≤ k → k < length l → get_or l j 0 ≤ get_or l k 0
from_rises a [] j k f h g = absurd (omega arith)
from_rises a (x ∷ l) zero zero f h g = omega arith
from_rises a (x ∷ l) zero (suc k) f h g = from_at x l k f.1 (omega arith)
from_rises a (x ∷ l) (suc j) zero f h g = absurd (omega arith)
from_rises a (x ∷ l) (suc j) (suc k) f h g = from_rises x l j k f.1 (omega arith) (omega arith)

rising : (L : Limits) (n i : ℕ) (s : State) → From i (numbers L n i s)
rising L zero i s = tt
rising L (suc n) i s = go s.rest s.mode s (rising L n (suc i))
  where
    go : (r : List ℕ) (m : Mode) (s : State) → ((u : State) → From (suc i) (numbers L n (suc i) u)) → From i (numbers L (suc n) i (turn m (put r s.out s)))
    go [] m s H = tt
    go (j ∷ js) failed s H = tt
    go (j ∷ js) (stopped w) s H = tt
    go (j ∷ js) ok s H =
        let t : State = turn ok (put (j ∷ js) s.out s) in
        from_replicate (brought L t) i (numbers L n (suc i) (item L t)) (from_less i (suc i) (numbers L n (suc i) (item L t)) (omega arith) (H (item L t)))

module _ (L : Limits) (n i : ℕ) (s : State) where
  pub numbers_from : (k : ℕ) → k < length (numbers L n i s) → i ≤ get_or (numbers L n i s) k 0
  numbers_from k = from_at i (numbers L n i s) k (rising L n i s)

  pub numbers_rise : (j k : ℕ) → j ≤ k → k < length (numbers L n i s) → get_or (numbers L n i s) j 0 ≤ get_or (numbers L n i s) k 0
  numbers_rise j k = from_rises i (numbers L n i s) j k (rising L n i s)

-- a place behind one list, in another
behind : (a b : List ℕ) (k : ℕ) → length a ≤ k → get_or (a ++ b) k 0 ≡ get_or b (k - length a) 0
behind [] b k h = let e : k ≡ k - 0 = omega arith in ap (λ (i : ℕ). get_or b i 0) e
behind (x ∷ a) b zero h = absurd (omega arith)
behind (x ∷ a) b (suc k) h = let e : k - length a ≡ suc k - suc (length a) = omega arith in behind a b k (omega arith) ∙ ap (λ (i : ℕ). get_or b i 0) e

in_front : (n i : ℕ) (b : List ℕ) (k : ℕ) → k < n → get_or (replicate n i ++ b) k 0 ≡ i
in_front zero i b k h = absurd (omega arith)
in_front (suc n) i b zero h = refl
in_front (suc n) i b (suc k) h = in_front n i b k (omega arith)

-- the records of the next item
next : (L : Limits) (n i : ℕ) (s : State) (k : ℕ) → k + bads s.out < bads (items L 1 s).out → get_or (numbers L (suc n) i s) k 0 ≡ i
next L n i s k = go s.rest s.mode s
  where
    go : (r : List ℕ) (m : Mode) (s : State) → let t : State = turn m (put r s.out s) in k + bads t.out < bads (items L 1 t).out → get_or (numbers L (suc n) i t) k 0 ≡ i
    go [] m s h = absurd (omega arith)
    go (j ∷ js) failed s h = absurd (omega arith)
    go (j ∷ js) (stopped w) s h = absurd (omega arith)
    go (j ∷ js) ok s h =
        let t : State = turn ok (put (j ∷ js) s.out s) in
        in_front (brought L t) i (numbers L n (suc i) (item L t)) k (omega arith)

pub numbers_counted : (L : Limits) (r : List ℕ) (f n k : ℕ) → bads (items L n (start r f)).out ≤ k → k < bads (items L (n + 1) (start r f)).out → get_or (item_numbers L r f) k 0 ≡ n + 1
numbers_counted L r f n k h g =
    let a : State = start r f in
    let s : State = items L n a in
    let before : length (numbers L n 1 a) ≡ bads s.out = omega (arith, numbers_length L n 1 a) in
    ap (λ (l : List ℕ). get_or l k 0) (numbers_enough L (length r) (n + suc (length r)) 1 a (omega arith) (omega arith) ∙ numbers_chain L n (suc (length r)) 1 a)
    ∙ behind (numbers L n 1 a) (numbers L (suc (length r)) (n + 1) s) k (omega (arith, before, h))
    ∙ next L (length r) (n + 1) s (k - length (numbers L n 1 a)) (omega (arith, before, h, g, ap (λ (u : State). bads u.out) (chain L n 1 a)))
