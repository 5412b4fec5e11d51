-- What the code's tests of answers and fates stand for. Assumes nothing.
use Prim.Native.Nat.{ℕ}
use mathlib.Core.Path.{◌≡◌, sym, ap, ◌∙◌}
use mathlib.Core.Bool.{Bool, true, not, ◌&&◌}
use borrow.Author.Tests.{eq-eqb, ne_eqb}
use lib.Dec.{eqb}
use Rattle.replay.specs.Tally.{sort_of, amount_of, differ, gives, marking}
use Rattle.replay.specs.declared.tally.Answer.{Answer}
use Rattle.replay.specs.declared.tally.Fate.{Fate}
use Rattle.replay.specs.declared.tally.Fate.TheVariants as fate

module _ (a b : Answer) {s t : ℕ} (e : s ≡ sort_of a) (f : t ≡ sort_of b) where
  pub other_sort : (s ≡ t → ⊥) → true ≡ differ a b
  other_sort h = sym (ap (λ (u : Bool). not (u && eqb (amount_of a) (amount_of b))) (ne_eqb (sort_of a) (sort_of b) (λ i. h (e ∙ i ∙ sym f))))

  pub same_sort : s ≡ t → {m n : ℕ} → m ≡ amount_of a → n ≡ amount_of b → not (eqb m n) ≡ differ a b
  same_sort h k l = rw (k, l, eq-eqb (sort_of a) (sort_of b) (sym e ∙ h ∙ f))

pub sort_given : {f : Fate} {a : Answer} {s : ℕ} (n : ℕ) → f ≡ fate.Read a → s ≡ sort_of a → eqb s n ≡ gives n f
sort_given n e k = rw (e, k)

pub mark_given : (r : Answer) {f : Fate} {a : Answer} {b : Bool} → f ≡ fate.Read a → b ≡ differ r a → b ≡ marking r f
mark_given r e k = k ∙ sym (ap (marking r) e)
