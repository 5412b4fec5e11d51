-- The public answer by its refusals: which number is returned, what the buffers hold then, and where an answer is the rendered reading.
use Prim.Native.Nat.{ℕ, zero, suc, ◌+◌}
use mathlib.Core.Path.{◌≡◌, refl, ap, sym, ◌∙◌, subst}
use mathlib.Core.List.{List, [], ◌∷◌}
use mathlib.Core.Bool.{Bool, true, false, ◌&&◌}
use lib.Dec.{T, ltb}
use lib.ListN.{length}
use native.Mathlib.Omega.{arith}
use Rattle.shapes.specs.Shapes.{Rec}
use Rattle.definition.specs.Run.{State, Limits, Event, opened, leaf, closed, bad, Mode, ok, failed, stopped, spent, deep, read}
use Rattle.definition.specs.Render.{Source, Reading, bads, records, record_of, mode_outcome, item_numbers, rendered, moments, exceeds, over}
use Rattle.definition.specs.Answer.{Desk, Answer, refused, given, grounds, first_of, refusal, exceeded, answer, answer_of, source_of, After, refusing, blank, as_lent, left_by, after}
use Rattle.definition.specs.Remaining.{Running}
use Rattle.definition.proofs.Every.{and_left, and_right, never}

-- the reading of a desk
abbrev pub reading : Limits → Desk → State
reading L d = read L d.ids d.fuel

-- the numbers of its records' items
abbrev pub items_of : Limits → Desk → List ℕ
items_of L d = item_numbers L d.ids d.fuel

pub records_count : (L : Limits) (x : Source) (o : List Event) (l : List Rec) → length (records L x o l) ≡ bads o + length l
records_count L x [] l = omega arith
records_count L x (opened n ∷ o) l = records_count L x o l
records_count L x (leaf a n ∷ o) l = records_count L x o l
records_count L x (closed a n m ∷ o) l = records_count L x o l
records_count L x (bad n c ∷ o) l = omega (arith, records_count L x o (record_of L x n c ∷ l))

pub done : (m : Mode) → mode_outcome m ≡ 0 → Running m
done ok e = tt
done failed e = tt
done (stopped spent) e = omega (arith, e)
done (stopped deep) e = omega (arith, e)

not_given : {A : Type 0} (n : ℕ) (R : Reading) → refused n ≡ given R → A
not_given n R e = never cc

-- no refusal met the desk, the rooms were never exceeded, and the answer is the rendered reading
pub record Given (L : Limits) (d : Desk) (R : Reading) : Type 0 where
  pub unrefused : refusal d ≡ 0
  pub roomy : exceeded L d (reading L d) ≡ 0
  pub whole : R ≡ rendered L (source_of d) (items_of L d) (reading L d)

pub given_is : (L : Limits) (d : Desk) (R : Reading) → answer L d ≡ given R → Given L d R
given_is L d R = go (refusal d) refl
  where
    at : refusal d ≡ 0 → (n : ℕ) → exceeded L d (reading L d) ≡ n → ◌≡◌ {A = Answer} (elim n as (λ _. Answer) [ zero ↦ given (rendered L (source_of d) (items_of L d) (reading L d)) | suc n ↦ refused (suc n) ]) (given R) → Given L d R
    at z zero w e = record { unrefused = z; roomy = w; whole = cc }
    at z (suc n) w e = not_given (suc n) R e

    go : (n : ℕ) → refusal d ≡ n → ◌≡◌ {A = Answer} (elim n as (λ _. Answer) [ zero ↦ answer_of L d (reading L d) | suc n ↦ refused (suc n) ]) (given R) → Given L d R
    go zero z e = at z (exceeded L d (reading L d)) refl e
    go (suc n) z e = not_given (suc n) R e

-- and so back
pub is_given : (L : Limits) (d : Desk) → refusal d ≡ 0 → exceeded L d (reading L d) ≡ 0 → answer L d ≡ given (rendered L (source_of d) (items_of L d) (reading L d))
is_given L d z w =
    ap (λ (n : ℕ). elim n as (λ _. Answer) [ zero ↦ answer_of L d (reading L d) | suc n ↦ refused (suc n) ]) z
    ∙ ap (λ (n : ℕ). elim n as (λ _. Answer) [ zero ↦ given (rendered L (source_of d) (items_of L d) (reading L d)) | suc n ↦ refused (suc n) ]) w

-- the number that is returned: the first row of the list that applies
abbrev pub number_of : Limits → Desk → ℕ
number_of L d = elim (refusal d) [ zero ↦ exceeded L d (reading L d) | suc n ↦ suc n ]

lent_or_blank : (d : Desk) (n : ℕ) → (left_by d (refused n)).number ≡ n
lent_or_blank d n = go (as_lent n)
  where
    go : (b : Bool) → (elim b as (λ _. After) [ true ↦ refusing n d.events d.errors d.scratch | false ↦ refusing n (blank d.events) (blank d.errors) (blank d.scratch) ]).number ≡ n
    go true = refl
    go false = refl

pub number_is : (L : Limits) (d : Desk) → (after L d).number ≡ number_of L d
number_is L d = go (refusal d)
  where
    at : (n : ℕ) → (left_by d (elim n as (λ _. Answer) [ zero ↦ given (rendered L (source_of d) (items_of L d) (reading L d)) | suc n ↦ refused (suc n) ])).number ≡ n
    at zero = refl
    at (suc n) = lent_or_blank d (suc n)

    go : (n : ℕ) → (left_by d (elim n as (λ _. Answer) [ zero ↦ answer_of L d (reading L d) | suc n ↦ refused (suc n) ])).number ≡ elim n as (λ _. ℕ) [ zero ↦ exceeded L d (reading L d) | suc n ↦ suc n ]
    go zero = at (exceeded L d (reading L d))
    go (suc n) = lent_or_blank d (suc n)

-- "5 is no longer given": none of the list's rows has it, and the rooms give 7 or 8
abbrev Without : List (Bool × ℕ) → Type 0
Without [] = Unit
Without (c ∷ cs) = (c.1 ≡ 5 → ⊥) × Without cs

first_not : (cs : List (Bool × ℕ)) → Without cs → first_of cs ≡ 5 → ⊥
first_not [] h z = omega (arith, z)
first_not (c ∷ cs) h z = go c.0 (first_not cs h.1) z
  where
    go : (b : Bool) → (first_of cs ≡ 5 → ⊥) → ◌≡◌ {A = ℕ} (elim b [ true ↦ c.1 | false ↦ first_of cs ]) 5 → ⊥
    go true H z = h.0 z
    go false H z = H z

over_not : (e r : ℕ) (ms : List (ℕ × ℕ)) → over e r ms ≡ 5 → ⊥
over_not e r [] z = omega (arith, z)
over_not e r (m ∷ ms) z = go (over e r ms) (ltb e m.0) (ltb r m.1) (over_not e r ms) z
  where
    go : (n : ℕ) (a b : Bool) → (n ≡ 5 → ⊥) → ◌≡◌ {A = ℕ} (elim n [ zero ↦ elim a [ true ↦ 7 | false ↦ elim b [ true ↦ 8 | false ↦ 0 ] ] | suc n ↦ suc n ]) 5 → ⊥
    go zero true b H z = omega (arith, z)
    go zero false true H z = omega (arith, z)
    go zero false false H z = omega (arith, z)
    go (suc n) a b H z = H z

pub five_not_given : (L : Limits) (d : Desk) → (after L d).number ≡ 5 → ⊥
five_not_given L d z = go (refusal d) (first_not (grounds d) (λ z. omega (arith, z), (λ z. omega (arith, z), (λ z. omega (arith, z), (λ z. omega (arith, z), (λ z. omega (arith, z), tt)))))) (sym (number_is L d) ∙ z)
  where
    go : (n : ℕ) → (n ≡ 5 → ⊥) → ◌≡◌ {A = ℕ} (elim n [ zero ↦ exceeded L d (reading L d) | suc n ↦ suc n ]) 5 → ⊥
    go zero H z = over_not (length d.events) (length d.errors) (moments L (source_of d) (reading L d)) z
    go (suc n) H z = H z

-- a number 0 is an answer
pub answered : (L : Limits) (d : Desk) → (after L d).number ≡ 0 → (R : Reading) × (answer L d ≡ given R)
answered L d e = go (refusal d) refl (sym (number_is L d) ∙ e)
  where
    go : (n : ℕ) → refusal d ≡ n → ◌≡◌ {A = ℕ} (elim n as (λ _. ℕ) [ zero ↦ exceeded L d (reading L d) | suc n ↦ suc n ]) 0 → (R : Reading) × (answer L d ≡ given R)
    go zero z w = (rendered L (source_of d) (items_of L d) (reading L d), is_given L d z w)
    go (suc n) z w = absurd (omega (arith, w))

-- 1 to 6 leave all as lent
abbrev small : List (Bool × ℕ) → Bool
small [] = true
small (c ∷ cs) = as_lent c.1 && small cs

first_small : (cs : List (Bool × ℕ)) → T (small cs) → T (as_lent (first_of cs))
first_small [] t = tt
first_small (c ∷ cs) t = go c.0 (and_left (as_lent c.1) (small cs) t) (first_small cs (and_right (as_lent c.1) (small cs) t))
  where
    go : (b : Bool) → T (as_lent c.1) → T (as_lent (first_of cs)) → T (as_lent (elim b as (λ _. ℕ) [ true ↦ c.1 | false ↦ first_of cs ]))
    go true x y = x
    go false x y = y

pub refused_lent : (L : Limits) (d : Desk) (n : ℕ) → refusal d ≡ suc n → after L d ≡ refusing (suc n) d.events d.errors d.scratch
refused_lent L d n z = ap (λ (m : ℕ). left_by d (elim m as (λ _. Answer) [ zero ↦ answer_of L d (reading L d) | suc n ↦ refused (suc n) ])) z ∙ go (as_lent (suc n)) (subst (λ (m : ℕ). T (as_lent m)) z (first_small (grounds d) tt))
  where
    go : (b : Bool) → T b → elim b as (λ _. After) [ true ↦ refusing (suc n) d.events d.errors d.scratch | false ↦ refusing (suc n) (blank d.events) (blank d.errors) (blank d.scratch) ] ≡ refusing (suc n) d.events d.errors d.scratch
    go true t = refl
    go false t = absurd t

-- 7 and 8 leave all zero
exceeds_late : (e r : ℕ) (m : ℕ × ℕ) (n : ℕ) → exceeds e r m ≡ suc n → as_lent (suc n) ≡ false
exceeds_late e r m n = go (ltb e m.0) (ltb r m.1)
  where
    go : (x y : Bool) → ◌≡◌ {A = ℕ} (elim x [ true ↦ 7 | false ↦ elim y [ true ↦ 8 | false ↦ 0 ] ]) (suc n) → as_lent (suc n) ≡ false
    go true y z = ap as_lent (sym z)
    go false true z = ap as_lent (sym z)
    go false false z = absurd (omega (arith, z))

over_late : (e r : ℕ) (ms : List (ℕ × ℕ)) (n : ℕ) → over e r ms ≡ suc n → as_lent (suc n) ≡ false
over_late e r [] n z = absurd (omega (arith, z))
over_late e r (m ∷ ms) n z = go (over e r ms) refl z (over_late e r ms n)
  where
    go : (i : ℕ) → over e r ms ≡ i → ◌≡◌ {A = ℕ} (elim i as (λ _. ℕ) [ zero ↦ exceeds e r m | suc i ↦ suc i ]) (suc n) → (over e r ms ≡ suc n → as_lent (suc n) ≡ false) → as_lent (suc n) ≡ false
    go zero w z H = exceeds_late e r m n z
    go (suc i) w z H = H (w ∙ z)

pub refused_blank : (L : Limits) (d : Desk) (n : ℕ) → refusal d ≡ 0 → exceeded L d (reading L d) ≡ suc n → after L d ≡ refusing (suc n) (blank d.events) (blank d.errors) (blank d.scratch)
refused_blank L d n z w =
    ap (λ (m : ℕ). left_by d (elim m as (λ _. Answer) [ zero ↦ answer_of L d (reading L d) | suc n ↦ refused (suc n) ])) z
    ∙ ap (λ (m : ℕ). left_by d (elim m as (λ _. Answer) [ zero ↦ given (rendered L (source_of d) (items_of L d) (reading L d)) | suc n ↦ refused (suc n) ])) w
    ∙ ap (λ (b : Bool). elim b as (λ _. After) [ true ↦ refusing (suc n) d.events d.errors d.scratch | false ↦ refusing (suc n) (blank d.events) (blank d.errors) (blank d.scratch) ]) (over_late (length d.events) (length d.errors) (moments L (source_of d) (reading L d)) n w)
