-- Request (iii)'s sentences, of the definition: which byte may stand behind each of the four first bytes that it names, and how many followers behind that one.
use Prim.Native.Nat.{ℕ}
use mathlib.Core.Path.{◌≡◌, refl}
use mathlib.Core.List.{List, ◌∷◌}
use mathlib.Core.Bool.{Bool, true, false, cond, ◌&&◌}
use mathlib.Core.Option.{none, some}
use Rattle.utf8.specs.Utf8.{Range, within, followers, walk, utf8}

-- where a range is due, the byte has to lie in it, and the rest has to meet what is due behind it
pub met : (r : Range) (due : List Range) (b : ℕ) (bs : List ℕ) → walk (r ∷ due) (b ∷ bs) ≡ (within r b && walk due bs)
met r due b bs = go (within r b)
  where
    go : (x : Bool) → ◌≡◌ {A = Bool} (elim (cond x (some due) none) as (λ _. Bool) [ none ↦ false | some due' ↦ walk due' bs ]) (x && walk due bs)
    go true = refl
    go false = refl

pub after_E0 : (b : ℕ) (bs : List ℕ) → utf8 (0xE0 ∷ b ∷ bs) ≡ (within (0xA0, 0xBF) b && walk (followers 1) bs)
unfolding utf8
after_E0 b bs = met (0xA0, 0xBF) (followers 1) b bs

pub after_ED : (b : ℕ) (bs : List ℕ) → utf8 (0xED ∷ b ∷ bs) ≡ (within (0x80, 0x9F) b && walk (followers 1) bs)
unfolding utf8
after_ED b bs = met (0x80, 0x9F) (followers 1) b bs

pub after_F0 : (b : ℕ) (bs : List ℕ) → utf8 (0xF0 ∷ b ∷ bs) ≡ (within (0x90, 0xBF) b && walk (followers 2) bs)
unfolding utf8
after_F0 b bs = met (0x90, 0xBF) (followers 2) b bs

pub after_F4 : (b : ℕ) (bs : List ℕ) → utf8 (0xF4 ∷ b ∷ bs) ≡ (within (0x80, 0x8F) b && walk (followers 2) bs)
unfolding utf8
after_F4 b bs = met (0x80, 0x8F) (followers 2) b bs
