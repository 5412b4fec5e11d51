-- The events of a list of numbers, from a place on.
use Prim.Native.Nat.{ℕ, suc, ◌+◌, ◌-◌, ◌≤◌, ◌<◌}
use mathlib.Core.Path.{◌≡◌, refl, ap, sym, ◌∙◌}
use mathlib.Core.List.{List, [], ◌∷◌}
use lib.ListN.{length, get_or, drop, length-drop}
use lib.Seq.{drop-cons}
use native.Mathlib.Omega.{arith}
use Rattle.shapes.specs.Shapes.{EVENT, entries}
use Rattle.events.specs.Events.{entry_at}

drop_one : (l : List ℕ) (i j : ℕ) → i < length l → j ≡ suc i → drop i l ≡ get_or l i 0 ∷ drop j l
drop_one l i j h e = drop-cons l i 0 h ∙ ap (λ (n : ℕ). get_or l i 0 ∷ drop n l) (sym e)

pub entries_at : (l : List ℕ) (at : ℕ) → at + EVENT ≤ length l → entries (drop at l) ≡ entry_at l at ∷ entries (drop (at + EVENT) l)
entries_at l at h =
    ap entries
    (drop_one l at (at + 1) (omega arith) (omega arith)
    ∙ ap (λ (t : List ℕ). get_or l at 0 ∷ t)
    (drop_one l (at + 1) (at + 2) (omega arith) (omega arith)
    ∙ ap (λ (t : List ℕ). get_or l (at + 1) 0 ∷ t)
    (drop_one l (at + 2) (at + 3) (omega arith) (omega arith)
    ∙ ap (λ (t : List ℕ). get_or l (at + 2) 0 ∷ t)
    (drop_one l (at + 3) (at + 4) (omega arith) (omega arith)
    ∙ ap (λ (t : List ℕ). get_or l (at + 3) 0 ∷ t) (drop_one l (at + 4) (at + EVENT) (omega arith) (omega arith))))))

few : (l : List ℕ) → length l < EVENT → entries l ≡ []
few [] h = refl
few (a ∷ []) h = refl
few (a ∷ b ∷ []) h = refl
few (a ∷ b ∷ c ∷ []) h = refl
few (a ∷ b ∷ c ∷ d ∷ []) h = refl
few (a ∷ b ∷ c ∷ d ∷ e ∷ l) h = absurd (omega arith)

pub entries_end : (l : List ℕ) (at : ℕ) → length l - at < EVENT → entries (drop at l) ≡ []
entries_end l at h = few (drop at l) (rw length-drop h)
