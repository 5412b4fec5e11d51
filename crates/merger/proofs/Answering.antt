-- The public answer: each way out of the function is the definition's.
use Prim.Native.Nat.{ℕ, ◌-◌, ◌*◌, ◌/◌, ◌≤◌, ◌<◌}
use mathlib.Core.Path.{◌≡◌, refl, ap, ap₂, sym, ◌∙◌}
use mathlib.Core.List.{List, ◌++◌}
use mathlib.Core.Bool.{Bool, true, false}
use lib.Dec.{leb}
use lib.ListN.{length, take, replicate}
use borrow.Rule.Slice.PartMut.{mid_of, put_mid}
use borrow.Author.Tests.{le-leb, lt-leb}
use native.Mathlib.Omega.{arith}
use Rattle.shapes.specs.Refusal as Refusal
use Rattle.shapes.specs.Shapes.{EVENT, flat}
use Rattle.definition.specs.Merge.{well_formed, paired, finished, merged, refusing, returned, merging}
use Rattle.merger.specs.Count.{sized, counted}
use Rattle.merger.specs.Events.{marks_of}
use Rattle.merger.specs.Pen.{Writable}
use Rattle.merger.specs.Answer.{returning}
use Rattle.cells.proofs.Zeros.{cleared}
use Rattle.shapes.specs.declared.refusal.Refusal.TheVariants.{Malformed, Unpaired, Events}
use Rattle.std.specs.Prelude.{Some, None, Ok, Err}

not_sized : (t : Bool) (n : ℕ) → sized t n ≡ None → t ≡ false
not_sized true n h = let z : ◌≡◌ {A = ℕ} 0 1 = cc in absurd (omega arith)
not_sized false n h = refl

sizes : (t : Bool) (n m : ℕ) → sized t n ≡ Some m → (t ≡ true) × (n ≡ m)
sizes true n m h = (refl, cc)
sizes false n m h = let z : ◌≡◌ {A = ℕ} 0 1 = cc in absurd (omega arith)

module _ (l room : List ℕ) where
  by : (a b c : Bool) → well_formed l ≡ a → paired (marks_of l) 0 ≡ b → leb (EVENT * length (finished l)) (length room) ≡ c → returned room (refusing Refusal.MALFORMED a (refusing Refusal.UNPAIRED b (refusing Refusal.EVENTS c (merged (finished l))))) ≡ merging l room
  by a b c p q r =
      sym
      (ap (λ (t : Bool). returned room (refusing Refusal.MALFORMED t (refusing Refusal.UNPAIRED (paired (marks_of l) 0) (refusing Refusal.EVENTS (leb (EVENT * length (finished l)) (length room)) (merged (finished l)))))) p
      ∙ ap (λ (t : Bool). returned room (refusing Refusal.MALFORMED a (refusing Refusal.UNPAIRED t (refusing Refusal.EVENTS (leb (EVENT * length (finished l)) (length room)) (merged (finished l)))))) q
      ∙ ap (λ (t : Bool). returned room (refusing Refusal.MALFORMED a (refusing Refusal.UNPAIRED b (refusing Refusal.EVENTS t (merged (finished l)))))) r)

  pub malformed : well_formed l ≡ false → returning (Err Malformed) room ≡ merging l room
  malformed h = by false (paired (marks_of l) 0) (leb (EVENT * length (finished l)) (length room)) h refl refl

  pub unpaired : well_formed l ≡ true → counted (marks_of l) ≡ None → returning (Err Unpaired) room ≡ merging l room
  unpaired h k = by true false (leb (EVENT * length (finished l)) (length room)) h (not_sized (paired (marks_of l) 0) (length (finished l)) k) refl

  module _ (n : ℕ) (h : well_formed l ≡ true) (k : counted (marks_of l) ≡ Some n) where
    both : (paired (marks_of l) 0 ≡ true) × (length (finished l) ≡ n)
    both = sizes (paired (marks_of l) 0) (length (finished l)) n k

    pub full : length room / EVENT < n → returning (Err Events) room ≡ merging l room
    full s = by true true false h both.0 (lt-leb (EVENT * length (finished l)) (length room) (omega (arith, both.1)))

    module _ (fits : n ≤ length room / EVENT) where
      enough : EVENT * length (finished l) ≤ length room
      enough = omega (arith, both.1)

      pub writable : Writable l room
      writable = record { nested = both.0; fits = enough }

      -- w is the room with the finished list, and ys are the zeros past it
      pub answered : (w ys : List ℕ) → length w ≡ length room → take (EVENT * length (finished l)) w ≡ flat (finished l) → ys ≡ replicate (length (mid_of (n * EVENT) (length w - n * EVENT) w)) 0 → returning (Ok n) (put_mid (n * EVENT) (length w - n * EVENT) w ys) ≡ merging l room
      answered w ys e f z =
          let at : n * EVENT ≡ EVENT * length (finished l) = omega (arith, both.1) in
          let left : length w - n * EVENT ≡ length room - EVENT * length (finished l) = omega (arith, both.1) in
          let zeros : put_mid (n * EVENT) (length w - n * EVENT) w ys ≡ flat (finished l) ++ replicate (length room - EVENT * length (finished l)) 0 =
          cleared w ys (n * EVENT) (omega (arith, enough)) z
          ∙ ap₂ (λ (i j : ℕ). take i w ++ replicate j 0) at left
          ∙ ap (λ (t : List ℕ). t ++ replicate (length room - EVENT * length (finished l)) 0) f in
          ap₂ (λ (i : ℕ) (t : List ℕ). returning (Ok i) t) (sym both.1) zeros
          ∙ by true true true h both.0 (le-leb (EVENT * length (finished l)) (length room) enough)
