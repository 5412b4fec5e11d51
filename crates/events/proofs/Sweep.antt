-- Refusal 9, one event after the other.
use Prim.Native.Nat.{ℕ, zero, suc, ◌+◌, ◌-◌, ◌%◌}
use mathlib.Core.Path.{◌≡◌, refl, sym, ap, ◌∙◌}
use mathlib.Core.List.{List, [], ◌∷◌, ◌++◌}
use mathlib.Core.Bool.{Bool, false, ◌&&◌}
use mathlib.Core.Logic.{◌⊎◌, ⊎_elim}
use lib.Dec.{eqb, leb}
use lib.ListN.{length, get_or, length-append}
use borrow.Author.Tests.{eq-eqb, le-leb, lt-leb}
use native.Mathlib.Omega.{arith}
use Rattle.shapes.specs.Sort as Sort
use Rattle.shapes.specs.declared.sort.Sort.{Sort}
use Rattle.shapes.specs.declared.sort.Sort.TheVariants as sort
use Rattle.shapes.specs.Shapes.{EVENT, DEPTH, Entry, entries}
use Rattle.definition.specs.Merge.{open_behind, deep, sound}
use Rattle.events.specs.Events.{entry_at}

-- the event that is passed, before those that are left
stepped : (ev rest : List ℕ) → length ev ≡ EVENT → entries (ev ++ rest) ≡ entry_at ev 0 ∷ entries rest
stepped [] rest long = absurd (omega arith)
stepped (a ∷ []) rest long = absurd (omega arith)
stepped (a ∷ b ∷ []) rest long = absurd (omega arith)
stepped (a ∷ b ∷ c ∷ []) rest long = absurd (omega arith)
stepped (a ∷ b ∷ c ∷ d ∷ []) rest long = absurd (omega arith)
stepped (a ∷ b ∷ c ∷ d ∷ e ∷ []) rest long = refl
stepped (a ∷ b ∷ c ∷ d ∷ e ∷ f ∷ ev) rest long = absurd (omega arith)

-- h nodes are open before it
module _ (ev rest : List ℕ) (h : ℕ) (long : length ev ≡ EVENT) where
  abbrev s : ℕ
  s = get_or ev 0 0

  abbrev d : ℕ
  d = get_or ev DEPTH 0

  abbrev e : ℕ → Entry
  e i = (i, get_or ev 1 0, get_or ev 2 0, get_or ev 3 0, d)

  by : (i : ℕ) → i ≡ s → sound h (entries (ev ++ rest)) ≡ leb Sort.BEGIN i && leb i Sort.ERROR && deep h (e i) && sound (open_behind h (e i)) (entries rest)
  by i p =
      ap (sound h) (stepped ev rest long)
      ∙ ap (λ (i : ℕ). leb Sort.BEGIN i && leb i Sort.ERROR && deep h (e i) && sound (open_behind h (e i)) (entries rest)) (sym p)

  pub begin_fits : Sort.BEGIN ≡ s → d ≡ h → sound h (entries (ev ++ rest)) ≡ sound (h + 1) (entries rest)
  begin_fits p q = by Sort.BEGIN p ∙ ap (λ (b : Bool). b && sound (suc h) (entries rest)) (eq-eqb d h q) ∙ ap (λ (i : ℕ). sound i (entries rest)) (omega arith)

  pub end_fits : Sort.END ≡ s → d + 1 ≡ h → sound h (entries (ev ++ rest)) ≡ sound d (entries rest)
  end_fits p q =
      by Sort.END p
      ∙ ap (λ (b : Bool). b && sound (h - 1) (entries rest)) (eq-eqb (suc d) h (omega (arith, q)))
      ∙ ap (λ (i : ℕ). sound i (entries rest)) (omega (arith, q))

  pub leaf_fits : {k : Sort} → (k ≡ sort.Token) ⊎ (k ≡ sort.Error) → Sort.number k ≡ s → d ≡ h → sound h (entries (ev ++ rest)) ≡ sound h (entries rest)
  leaf_fits {k} o p q = ⊎_elim (λ e. leaf Sort.TOKEN (sym (ap Sort.number e) ∙ p) (by Sort.TOKEN)) (λ e. leaf Sort.ERROR (sym (ap Sort.number e) ∙ p) (by Sort.ERROR)) o
    where
      leaf : (i : ℕ) → i ≡ s → (i ≡ s → sound h (entries (ev ++ rest)) ≡ eqb d h && sound h (entries rest)) → sound h (entries (ev ++ rest)) ≡ sound h (entries rest)
      leaf i p on = on p ∙ ap (λ (b : Bool). b && sound h (entries rest)) (eq-eqb d h q)

  pub no_sort : ((k : Sort) → Sort.number k ≡ s → ⊥) → sound h (entries (ev ++ rest)) ≡ false
  no_sort n = by s refl ∙ ap (λ (b : Bool). b && deep h (e s) && sound (open_behind h (e s)) (entries rest)) (none s n)
    where
      none : (i : ℕ) → ((k : Sort) → Sort.number k ≡ i → ⊥) → (leb Sort.BEGIN i && leb i Sort.ERROR) ≡ false
      none zero n = refl
      none (suc zero) n = absurd (n sort.Begin refl)
      none (suc (suc zero)) n = absurd (n sort.Token refl)
      none (suc (suc (suc zero))) n = absurd (n sort.End refl)
      none (suc (suc (suc (suc zero)))) n = absurd (n sort.Error refl)
      none (suc (suc (suc (suc (suc i))))) n =
          let k = suc (suc (suc (suc (suc i)))) in
          ap (λ (b : Bool). b && leb k Sort.ERROR) (le-leb Sort.BEGIN k (omega arith)) ∙ lt-leb k Sort.ERROR (omega arith)

-- what is left when an event is passed
module _ (l ev rest : List ℕ) (is : l ≡ ev ++ rest) (long : length ev ≡ EVENT) where
  pub left_length : length l ≡ EVENT + length rest
  left_length = let n : length l ≡ length ev + length rest = simp length-append at (ap length is) in omega (arith, n, long)

  pub left_whole : length l % EVENT ≡ 0 → length rest % EVENT ≡ 0
  left_whole whole = omega (arith, left_length, whole)
