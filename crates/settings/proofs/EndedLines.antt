-- What std's `split_inclusive` and `strip_suffix` give of a text are its lines by the definition. Assumes nothing.
use Prim.Native.Nat.{ℕ, ◌+◌, ◌<◌, min}
use mathlib.Core.Path.{◌≡◌, sym, ap, ◌∙◌}
use mathlib.Core.List.{List, [], ◌∷◌, ◌++◌, append_assoc}
use mathlib.Core.Logic.{⊎_elim}
use native.Mathlib.Numerals.{add-one}
use native.Mathlib.Omega.{arith}
use borrow.Author.Tests.{eqb-true}
use denote.Param.Members.{Mut}
use denote.Ref.{Bor}
use lib.Dec.{eqb}
use lib.ListN.{length, get_or, take, length-append}
use lib.Seq.{take_at, take-suc}
use Rattle.std.specs.Prelude.{Bool, ◌≢◌}
use Rattle.std.specs.Fn.{ComputesKey}
use Rattle.std.specs.List.{IsFirstMatchOrLen}
use Rattle.std.proofs.lemmas.Grind.{common_steps}
use Rattle.listing.specs.Lines.{parted}
use Rattle.listing.proofs.Either.{either}
use Rattle.listing.proofs.Lent.{in_parts}
use Rattle.listing.proofs.Marks.{Free}
use Rattle.listing.proofs.Splits.{free}

-- the next line x with its mark, as `split_inclusive` tells it, and what is left
pub record NextLine (m : ℕ) (rest x last : List ℕ) : Type 0 where
  pub end : ℕ
  pub all : rest ≡ x ++ last
  pub size : length x ≡ min (end + 1) (length rest)
  pub first : IsFirstMatchOrLen (λ b. eqb b m) rest end
  pub some : 0 < length rest

pub next_line : {F : Type 0} {g : Mut F (Bor ℕ × Unit {0}) Bool} {f : F} (m : ℕ) (rest x last : List ℕ) (q : F) → ComputesKey g (λ b. eqb b m) f
    → (rest ≡ x ++ last) × ((i : ℕ) × (length x ≡ min (i + 1) (length rest)) × ((p : ℕ → Bool) → ComputesKey g p f → ComputesKey g p q × IsFirstMatchOrLen p rest i)) × (0 < length rest)
    → NextLine m rest x last
next_line m rest x last q t k = record { end = k.1.0; all = k.0; size = k.1.1; first = (k.1.2 (λ b. eqb b m) t).1; some = k.2 }

-- what `strip_suffix` leaves of it
module _ {m : ℕ} {rest x last : List ℕ} (k : NextLine m rest x last) where
  pub a_line : (line : List ℕ) → x ≡ line ++ (m ∷ []) → parted m rest ≡ line ∷ parted m last
  a_line line e =
      let whole : rest ≡ line ++ (m ∷ last) = k.all ∙ ap (λ (t : List ℕ). t ++ last) e ∙ append_assoc line (m ∷ []) last in
      let long : length x ≡ length line + 1 = ap length e ∙ length-append line (m ∷ []) in
      let front : Free m line = free m line (λ j l. let a = k.first.0 j 0 (omega arith) (omega (arith, long, k.size)) in let b = whole in grind (arith, common_steps)) in
      ap (parted m) whole ∙ in_parts m line last ∙ ap (λ (ps : List (List ℕ)). ps ++ parted m last) front

  pub no_line : ((line : List ℕ) → x ≢ line ++ (m ∷ [])) → parted m rest ≡ rest ∷ []
  no_line n = free m rest (λ j l. k.first.0 j 0 (omega arith) (⊎_elim (λ h. absurd (n (take k.end rest) (its_mark h))) (λ h. omega arith) (either k.end (length rest))))
    where
      its_mark : k.end < length rest → x ≡ take k.end rest ++ (m ∷ [])
      its_mark h =
          let e : take (k.end + 1) rest ≡ x = ap (take (k.end + 1)) k.all ∙ take_at x last (k.end + 1) (omega (arith, k.size)) in
          sym e ∙ ap (λ (n : ℕ). take n rest) (add-one k.end) ∙ take-suc rest k.end 0 h ∙ ap (λ (b : ℕ). take k.end rest ++ (b ∷ [])) (eqb-true (get_or rest k.end 0) m (k.first.1 h 0))
