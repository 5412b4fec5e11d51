-- The tables' rules, each by one test that antt computes over all entries.
use Prim.Native.Nat.{ℕ, zero, suc, ◌+◌, ◌*◌, ◌/◌, ◌%◌, ◌<◌, ◌≤◌}
use mathlib.Core.Path.{◌≡◌, refl, subst, sym, ap, ap₂, ◌∙◌}
use mathlib.Core.List.{List, [], ◌∷◌}
use mathlib.Core.Bool.{Bool, true, false, cond}
use Rattle.std.specs.Prelude.{Option, None, Some}
use native.Mathlib.Omega.{arith}
use native.Mathlib.Decide.{ℕ_discrete}
use native.Mathlib.Nat.{add-zero, zero-add, add-suc, suc-add, le_of_suc-le-suc, not-suc-le-zero}
use lib.Dec.{T, eqb, ltb, leb, eqb→eq, ltb→lt, leb→le}
use borrow.Author.Tests.{eq-eqb}
use lib.ListN.{length, get_or}
use Rattle.tokens.specs.Classes.{class, class_in, bytes_of, normal, hex, jump}
use Rattle.tokens.specs.Expr.{Tokens, step, whole}
use Rattle.tokens.proofs.Equal.{both, left, right, alike, alike→}
use Rattle.tokens.specs.Table.{class_table, next_table, end_table, key_table, words}
use Rattle.tokens.specs.Tokens as t
use Rattle.tokens.specs.States.{labels, label, ended}
use Rattle.tokens.specs.Modes.{number}
use Rattle.tokens.specs.declared.mode.Mode.{Mode}
use Rattle.tokens.specs.declared.mode.Mode.TheVariants.{Normal, Hex, Jump}

-- the test f passes at each entry of the list and its place, counted from i
abbrev pub every : (ℕ → ℕ → Bool) → ℕ → List ℕ → Bool
every f i [] = true
every f i (x ∷ xs) = both (f i x) (every f (suc i) xs)

from : (f : ℕ → ℕ → Bool) (xs : List ℕ) (i : ℕ) → T (every f i xs) → (k : ℕ) → k < length xs → T (f (i + k) (get_or xs k 0))
from f [] i t k h = absurd (not-suc-le-zero h)
from f (x ∷ xs) i t zero h = subst (λ (m : ℕ). T (f m x)) (sym (add-zero i)) (left (f i x) (every f (suc i) xs) t)
from f (x ∷ xs) i t (suc k) h =
    subst (λ (m : ℕ). T (f m (get_or xs k 0))) (suc-add i k ∙ sym (add-suc i k))
    (from f xs (suc i) (right (f i x) (every f (suc i) xs) t) k (le_of_suc-le-suc h))

pub at : (f : ℕ → ℕ → Bool) (xs : List ℕ) → T (every f 0 xs) → (k : ℕ) → k < length xs → T (f k (get_or xs k 0))
at f xs t k h = subst (λ (m : ℕ). T (f m (get_or xs k 0))) (zero-add k) (from f xs 0 t k h)

-- the class of a byte in a mode stands at 256 times the mode and the byte
abbrev class_right : ℕ → ℕ → Bool
class_right i x = both (ltb x 46) (eqb x (class_in (bytes_of (i / 256)) (i % 256)))

classes_right : T (every class_right 0 class_table)
unfolding class_table normal hex jump
classes_right = tt

-- an entry of the next state
abbrev step_right : List Tokens → ℕ → ℕ → Bool
step_right ls i to = both (ltb to 88) (alike (step (i % 45) (get_or ls (i / 45) [])) (get_or ls to []))

steps_right : T (every (step_right labels) 0 next_table)
unfolding next_table labels words t.normal t.hex t.jump t.unknown
steps_right = tt

-- an entry of the id that a state ends
abbrev same_end : Option ℕ → Option ℕ → Bool
same_end None None = true
same_end None (Some y) = false
same_end (Some x) None = false
same_end (Some x) (Some y) = eqb x y

same_end→ : (x y : Option ℕ) → T (same_end x y) → x ≡ y
same_end→ None None t = refl
same_end→ None (Some y) t = absurd t
same_end→ (Some x) None t = absurd t
same_end→ (Some x) (Some y) t = ap Some (eqb→eq x y t)

abbrev end_right : List Tokens → ℕ → ℕ → Bool
end_right ls s x = same_end (ended x) (whole (get_or ls s []))

ends_right : T (every (end_right labels) 0 end_table)
unfolding end_table labels words t.normal t.hex t.jump t.unknown
ends_right = tt

pub class_count : length class_table ≡ 768
unfolding class_table
class_count = refl

pub next_count : length next_table ≡ 3960
unfolding next_table
next_count = refl

pub end_count : length end_table ≡ 88
unfolding end_table
end_count = refl

-- the states at which a match starts
pub starts_normal : label 1 ≡ t.normal
unfolding label labels words
starts_normal = refl

pub starts_hex : label 2 ≡ t.hex
unfolding label labels words
starts_hex = refl

pub starts_jump : label 3 ≡ t.jump
unfolding label labels words
starts_jump = refl

pub starts_unknown : label 4 ≡ t.unknown
unfolding label labels words
starts_unknown = refl

pub starts_none : label 0 ≡ []
unfolding label labels words
starts_none = refl

-- the three rules
pub class_at : (m b : ℕ) → m < 3 → b < 256
    → (get_or class_table (m * 256 + b) 0 ≡ class m b) × (get_or class_table (m * 256 + b) 0 < 46)
unfolding class
class_at m b hm hb =
    let i = m * 256 + b in
    let x = get_or class_table i 0 in
    let t = at class_right class_table classes_right i (omega (arith, class_count)) in
    let e : x ≡ class_in (bytes_of (i / 256)) (i % 256) = eqb→eq _ _ (right (ltb x 46) (eqb x (class_in (bytes_of (i / 256)) (i % 256))) t) in
    let p : i / 256 ≡ m = omega arith in
    let q : i % 256 ≡ b = omega arith in
    (e ∙ ap₂ (λ u v. class_in (bytes_of u) v) p q, ltb→lt _ _ (left (ltb x 46) (eqb x (class_in (bytes_of (i / 256)) (i % 256))) t))

pub next_at : (s c : ℕ) → s < 88 → c < 45
    → (get_or next_table (s * 45 + c) 0 < 88) × (step c (label s) ≡ label (get_or next_table (s * 45 + c) 0))
unfolding label
next_at s c hs hc =
    let i = s * 45 + c in
    let to = get_or next_table i 0 in
    let t = at (step_right labels) next_table steps_right i (omega (arith, next_count)) in
    let e : step (i % 45) (get_or labels (i / 45) []) ≡ get_or labels to [] = alike→ _ _ (right (ltb to 88) (alike (step (i % 45) (get_or labels (i / 45) [])) (get_or labels to [])) t) in
    let p : i / 45 ≡ s = omega arith in
    let q : i % 45 ≡ c = omega arith in (
      ltb→lt _ _ (left (ltb to 88) (alike (step (i % 45) (get_or labels (i / 45) [])) (get_or labels to [])) t),
      sym (ap₂ (λ u v. step u (get_or labels v [])) q p) ∙ e,
    )

pub end_at : (s : ℕ) → s < 88 → ended (get_or end_table s 0) ≡ whole (label s)
unfolding label
end_at s hs = same_end→ _ _ (at (end_right labels) end_table ends_right s (omega (arith, end_count)))

-- a byte of class LEAD lies between C2 and F4
abbrev lead_right : ℕ → ℕ → Bool
lead_right i x = cond (eqb x 45) (both (leb 0xC2 (i % 256)) (leb (i % 256) 0xF4)) true

leads_right : T (every lead_right 0 class_table)
unfolding class_table
leads_right = tt

pub lead_at : (m b : ℕ) → m < 3 → b < 256 → get_or class_table (m * 256 + b) 0 ≡ 45 → (0xC2 ≤ b) × (b ≤ 0xF4)
lead_at m b hm hb e =
    let i = m * 256 + b in
    let t : T (lead_right i (get_or class_table i 0)) = at lead_right class_table leads_right i (omega (arith, class_count)) in
    let q : i % 256 ≡ b = omega arith in
    let u : T (both (leb 0xC2 (i % 256)) (leb (i % 256) 0xF4)) = rw (eq-eqb (get_or class_table i 0) 45 e) at t in
    let l : 0xC2 ≤ i % 256 = leb→le 0xC2 (i % 256) (left (leb 0xC2 (i % 256)) (leb (i % 256) 0xF4) u) in
    let g : i % 256 ≤ 0xF4 = leb→le (i % 256) 0xF4 (right (leb 0xC2 (i % 256)) (leb (i % 256) 0xF4) u) in
    (omega arith, omega arith)

-- a test of every number below n
abbrev pub all : (ℕ → Bool) → ℕ → Bool
all p zero = true
all p (suc n) = both (p n) (all p n)

pub all_sound : (p : ℕ → Bool) (n : ℕ) → T (all p n) → (i : ℕ) → i < n → T (p i)
all_sound p zero t i h = absurd (omega arith)
all_sound p (suc n) t i h = go (ℕ_discrete i n) (all_sound p n (right (p n) (all p n) t) i)
  where
    go : Dec (i ≡ n) → (i < n → T (p i)) → T (p i)
    go (yes e) rest = rw e (left (p n) (all p n) t)
    go (no e) rest = rest (omega (arith, e))

-- a slot holds a keyword's number, and a keyword is shorter than its row
abbrev small_slot : ℕ → Bool
small_slot i = ltb (get_or key_table (480 + i) 0) 40

slots_small : T (all small_slot 128)
unfolding key_table
slots_small = tt

pub slot_small : (i : ℕ) → i < 128 → get_or key_table (480 + i) 0 < 40
slot_small i h = ltb→lt _ _ (all_sound small_slot 128 slots_small i h)

abbrev small_word : ℕ → Bool
small_word j = ltb (get_or key_table (j * 12) 0) 12

words_small : T (all small_word 40)
unfolding key_table
words_small = tt

pub word_small : (j : ℕ) → j < 40 → get_or key_table (j * 12) 0 < 12
word_small j h = ltb→lt _ _ (all_sound small_word 40 words_small j h)

pub mode_low : (m : Mode) → number m < 3
mode_low Normal = omega arith
mode_low Hex = omega arith
mode_low Jump = omega arith
