-- How much of a room is taken, and what is written for a line. Assumes nothing.
use Prim.Native.Nat.{ℕ, ◌+◌, ◌-◌, ◌≤◌, ◌<◌}
use mathlib.Core.Path.{◌≡◌, refl, sym, ap, ◌∙◌}
use mathlib.Core.List.{List, [], ◌∷◌, ◌++◌, append-nil}
use mathlib.Core.Bool.{Bool, true, false, cond}
use native.Mathlib.Omega.{arith}
use borrow.Author.Tests.{leb-true, leb-false, le-leb, lt-leb, eq-eqb, ne_eqb}
use lib.Dec.{eqb, leb}
use lib.ListN.{length, take, length-append}
use Rattle.std.specs.Prelude.{Option, Some, None, Err}
use Rattle.std.specs.Option.{ok_or}
use Rattle.listing.specs.Numbers.{decimal}
use Rattle.listing.specs.Written.{Wrote}
use Rattle.listing.specs.declared.write.Writer.{Writer}
use Rattle.listing.proofs.Written.{then, wrote_as}
use Rattle.editions.specs.Answer.{field_text, shown_text, out_text, taken_of, last_of}
use Rattle.editions.specs.declared.step.Out.{Out}
use Rattle.editions.specs.declared.convert.Unconverted.TheVariants as unconverted

-- TAKEN

pub too_many : (room n : ℕ) → room < n → None ≡ taken_of room n
too_many room n h = rw (lt-leb n room h)

pub bytes : (room n : ℕ) → n ≤ room → Some n ≡ taken_of room n
bytes room n h = rw (le-leb n room h)

module _ {t : Option ℕ} (room n more : ℕ) (e : t ≡ taken_of room n) where
  pub already : t ≡ None → None ≡ taken_of room (n + more)
  already f = go (leb n room) refl e
    where
      go : (b : Bool) → leb n room ≡ b → t ≡ cond b (Some n) None → None ≡ taken_of room (n + more)
      go true i e = absurd (let z : ◌≡◌ {A = ℕ} 0 1 = cc in omega arith)
      go false i e = too_many room (n + more) (omega (arith, leb-false n room i))

  module _ {k : ℕ} (f : t ≡ Some k) where
    held : (k ≡ n) × (n ≤ room)
    held = go (leb n room) refl e
      where
        go : (b : Bool) → leb n room ≡ b → t ≡ cond b (Some n) None → (k ≡ n) × (n ≤ room)
        go true i e = (cc, leb-true n room i)
        go false i e = absurd (let z : ◌≡◌ {A = ℕ} 0 1 = cc in omega arith)

    pub beyond : room < k → None ≡ taken_of room (n + more)
    beyond h = absurd (omega (arith, held))

    pub overfull : room - k < more → None ≡ taken_of room (n + more)
    overfull h = too_many room (n + more) (omega (arith, held))

    pub filled : k ≤ room → more ≤ room - k → Some (k + more) ≡ taken_of room (n + more)
    filled h i = ap (λ (k : ℕ). Some (k + more)) held.0 ∙ bytes room (n + more) (omega (arith, held))

-- NOTHING BEHIND THE LAST LINE

module _ (t : Option ℕ) (n left : ℕ) where
  pub more_behind : (left ≡ 0 → ⊥) → Err (unconverted.Stray n) ≡ cond (eqb left 0) (last_of t) (Err (unconverted.Stray n))
  more_behind h = rw (ne_eqb left 0 h)

  pub nothing_behind : left ≡ 0 → ok_or t unconverted.Full ≡ cond (eqb left 0) (last_of t) (Err (unconverted.Stray n))
  nothing_behind h = rw (eq-eqb left 0 h) (go t)
    where
      go : (t : Option ℕ) → ok_or t unconverted.Full ≡ last_of t
      go None = refl
      go (Some k) = refl

-- A LINE

module _ (o : Out) (l : List ℕ) where
  pub out_length : length (out_text o l) ≡ length (take o.keep l) + length (shown_text o)
  out_length = length-append (take o.keep l) (shown_text o)

  module _ (h : o.field ≡ None) where
    hidden : shown_text o ≡ []
    hidden = ap field_text h

    pub hidden_length : 1 ≡ length (shown_text o) + 1
    hidden_length = sym (ap (λ (t : List ℕ). length t + 1) hidden)

    pub hidden_line : {a b c : Writer} → Wrote (take o.keep l) a b → Wrote (10 ∷ []) b c → Wrote (out_text o l ++ (10 ∷ [])) a c
    hidden_line p q =
        wrote_as (sym (ap (λ (t : List ℕ). (take o.keep l ++ t) ++ (10 ∷ [])) hidden ∙ ap (λ (t : List ℕ). t ++ (10 ∷ [])) (append-nil (take o.keep l))))
        (then p q)

  module _ {n : ℕ} (h : o.field ≡ Some n) where
    shown : shown_text o ≡ 9 ∷ decimal n
    shown = ap field_text h

    pub shown_length : {k : ℕ} → k ≡ length (decimal n) → 2 + k ≡ length (shown_text o) + 1
    shown_length e = omega (arith, e, ap length shown)

    pub shown_line : {a b c d f : Writer} → Wrote (take o.keep l) a b → Wrote (9 ∷ []) b c → Wrote (decimal n) c d → Wrote (10 ∷ []) d f
        → Wrote (out_text o l ++ (10 ∷ [])) a f
    shown_line p q r s = wrote_as (ap (λ (t : List ℕ). (take o.keep l ++ t) ++ (10 ∷ [])) (sym shown)) (then (then p (then q r)) s)
