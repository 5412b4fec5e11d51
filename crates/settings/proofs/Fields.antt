-- What the fields of a line read to. Assumes nothing.
use Prim.Native.Nat.{ℕ}
use mathlib.Core.Path.{◌≡◌, refl, sym, ap, ◌∙◌}
use mathlib.Core.List.{List, [], ◌∷◌}
use mathlib.Core.Bool.{Bool, true, false, cond}
use Rattle.std.specs.Prelude.{Option, Some, None}
use Rattle.std.specs.Bool.{then_some}
use Rattle.listing.specs.Numbers.{number}
use Rattle.settings.specs.Settings.{in_range, ranged, edition_of, line_of}
use Rattle.settings.specs.declared.lines.Values.{Values}

-- the fourth value, where it is a number and where it is none
pub fourth_is : (e f d q p : List ℕ) {n : ℕ} → number p ≡ Some n → edition_of (number e) (number f) (number d) (number q) (Some n) ≡ line_of (e ∷ f ∷ d ∷ q ∷ p ∷ [])
fourth_is e f d q p h = sym (ap (edition_of (number e) (number f) (number d) (number q)) h)

none_read : (a b c d : Option ℕ) → None ≡ edition_of a b c d None
none_read None b c d = refl
none_read (Some w) None c d = refl
none_read (Some w) (Some x) None d = refl
none_read (Some w) (Some x) (Some y) None = refl
none_read (Some w) (Some x) (Some y) (Some z) = refl

pub fourth_none : (e f d q p : List ℕ) → number p ≡ None → None ≡ line_of (e ∷ f ∷ d ∷ q ∷ p ∷ [])
fourth_none e f d q p h =
    none_read (number e) (number f) (number d) (number q)
    ∙ sym (ap (edition_of (number e) (number f) (number d) (number q)) h)

pub in_ranges_only : (e : ℕ) (v : Values) {b : Bool} → b ≡ in_range v → then_some b (e, v) ≡ ranged e v
in_ranges_only e v h = rw h (of (in_range v))
  where
    of : (t : Bool) → then_some t (e, v) ≡ cond {A = Option (ℕ × Values)} t (Some (e, v)) None
    of true = refl
    of false = refl
