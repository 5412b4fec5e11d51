-- The public definition, case by case: a refusal as lent, a room too small for anything, a room exceeded, an answer. Assumes nothing.
use Prim.Native.Nat.{ℕ, zero, suc, ◌+◌, ◌-◌, ◌/◌, ◌≤◌, ◌<◌}
use mathlib.Core.Path.{◌≡◌, refl, sym, ap, ap₂, subst, ◌∙◌}
use mathlib.Core.List.{List, [], ◌∷◌, ◌++◌, map}
use mathlib.Core.Bool.{Bool, true, false}
use mathlib.Core.Logic.{◌⊎◌, inl, inr}
use native.Mathlib.Omega.{arith}
use borrow.Author.Tests.{lt-ltb, le-ltb}
use lib.Dec.{ltb}
use lib.ListN.{length, take, replicate}
use lib.Seq.{length-take-le}
use Rattle.shapes.specs.declared.refusal.Refusal.{Refusal}
use Rattle.shapes.specs.declared.refusal.Refusal.TheVariants as V
use Rattle.shapes.specs.Refusal as Number
use Rattle.shapes.specs.Shapes.{EVENT}
use Rattle.definition.specs.Run as P
use Rattle.definition.specs.Render.{Source, item_numbers, rendered, used, moments, exceeds, over}
use Rattle.definition.specs.Answer.{Desk, After, Answer, refused, given, first_of, grounds, refusal, exceeded, refusing, blank, left_by, after, source_of}
use Rattle.notes.proofs.Rooms.{exceeds_events}
use Rattle.notes.proofs.Rooms as rooms
use Rattle.notes.specs.Whole as spent
use Rattle.items.specs.declared.Desk as D
use Rattle.desk.specs.Framing.{answering, reading, Framed, Finished}

-- no refusal has the number 0
pub numbered : (r : Refusal) → Number.number r ≡ 0 → ⊥
numbered V.Long e = omega arith
numbered V.Unequal e = omega arith
numbered V.Id e = omega arith
numbered V.Tiles e = omega arith
numbered V.Scratch e = omega arith
numbered V.Events e = omega arith
numbered V.Errors e = omega arith
numbered V.Malformed e = omega arith
numbered V.Unpaired e = omega arith
numbered V.Record e = omega arith
numbered V.Text e = omega arith
numbered V.Rows e = omega arith
numbered V.Rules e = omega arith
numbered V.Nesting e = omega arith
numbered V.Listing e = omega arith
numbered V.Output e = omega arith
numbered V.Edition e = omega arith
numbered V.Settings e = omega arith
numbered V.Day e = omega arith

-- the first number that is not 0, or an answer
abbrev pick : ℕ → Answer → Answer
pick n A = elim n as (λ _. Answer) [ zero ↦ A | suc m ↦ refused (suc m) ]

picked : (n : ℕ) (A : Answer) → (n ≡ 0 → ⊥) → pick n A ≡ refused n
picked zero A h = absurd (h refl)
picked (suc n) A h = refl

module _ (L : P.Limits) (d : Desk) where
  abbrev number : ℕ
  number = exceeded L d (reading L (source_of d) d.fuel)

  abbrev found : Answer
  found = pick number (given (rendered L (source_of d) (item_numbers L d.ids d.fuel) (reading L (source_of d) d.fuel)))

  as_it_was : (n : ℕ) → n < 7 → left_by d (refused n) ≡ refusing n d.events d.errors d.scratch
  as_it_was n h = ap (λ (c : Bool). elim c as (λ _. After) [ true ↦ refusing n d.events d.errors d.scratch | false ↦ refusing n (blank d.events) (blank d.errors) (blank d.scratch) ]) (lt-ltb n 7 h)

  all_zero : (n : ℕ) → 7 ≤ n → left_by d (refused n) ≡ refusing n (blank d.events) (blank d.errors) (blank d.scratch)
  all_zero n h = ap (λ (c : Bool). elim c as (λ _. After) [ true ↦ refusing n d.events d.errors d.scratch | false ↦ refusing n (blank d.events) (blank d.errors) (blank d.scratch) ]) (le-ltb n 7 h)

  -- refusals 1 to 6
  abbrev AllBelow : List (Bool × ℕ) → Type 0
  AllBelow [] = Unit
  AllBelow (c ∷ cs) = (c.1 < 7) × AllBelow cs

  first_below : (cs : List (Bool × ℕ)) → AllBelow cs → first_of cs < 7
  first_below [] h = omega arith
  first_below (c ∷ cs) h = go c.0 (first_below cs h.1)
    where
      go : (b : Bool) → first_of cs < 7 → (elim b as (λ _. ℕ) [ true ↦ c.1 | false ↦ first_of cs ]) < 7
      go true rest = h.0
      go false rest = rest

  pub refused_so : (n : ℕ) → n ≡ refusal d → (n ≡ 0 → ⊥) → refusing n d.events d.errors d.scratch ≡ after L d
  refused_so n e h =
      sym (as_it_was n (subst (λ (m : ℕ). m < 7) (sym e) (first_below (grounds d) (omega arith, (omega arith, (omega arith, (omega arith, (omega arith, tt))))))))
      ∙ ap (left_by d) (sym (picked n _ h)) ∙ ap (λ (m : ℕ). left_by d (pick m found)) e

  -- none of them: the rooms decide
  read_so : 0 ≡ refusal d → left_by d found ≡ after L d
  read_so e = ap (λ (m : ℕ). left_by d (pick m found)) e

  abbrev zeros : ℕ → After
  zeros n = refusing n (replicate (length d.events) 0) (replicate (length d.errors) 0) (replicate (length d.scratch) 0)

  exceeded_so : 0 ≡ refusal d → (n : ℕ) → n ≡ number → 7 ≤ n → zeros n ≡ after L d
  exceeded_so e n i h =
      sym (all_zero n h) ∙ ap (left_by d) (sym (picked n _ (λ z. omega (arith, h, z)))) ∙ ap (λ (m : ℕ). left_by d (pick m (given (rendered L (source_of d) (item_numbers L d.ids d.fuel) (reading L (source_of d) d.fuel))))) i ∙ read_so e

  -- a room that has no place for the SOURCE_FILE begin event
  module _ (h : length d.events < EVENT) where
    abbrev E : ℕ
    E = length d.events

    abbrev R : ℕ
    R = length d.errors

    seven_first : (v : ℕ) (m : ℕ × ℕ) → (v ≡ 0) ⊎ (v ≡ 7) → EVENT ≤ m.0 → rooms.first_of v (exceeds E R m) ≡ 7
    seven_first v m (inl z) k = ap (λ (w : ℕ). rooms.first_of w (exceeds E R m)) z ∙ exceeds_events E R m (omega (arith, h, k))
    seven_first v m (inr z) k = ap (λ (w : ℕ). rooms.first_of w (exceeds E R m)) z

    seven : (x : Source) (ds : List P.Draft) → (over E R (map (used L x) ds) ≡ 0) ⊎ (over E R (map (used L x) ds) ≡ 7)
    seven x [] = inl refl
    seven x (c ∷ ds) = inr (seven_first (over E R (map (used L x) ds)) (used L x c) (seven x ds) (omega arith))

    pub too_small : 0 ≡ refusal d → zeros 7 ≡ after L d
    too_small e = exceeded_so e 7 (sym (seven_first (over E R (map (used L (source_of d)) (reading L (source_of d) d.fuel).drafts)) _ (seven (source_of d) (reading L (source_of d) d.fuel).drafts) (omega arith))) (omega arith)

  abbrev worst : Bool → Bool → ℕ
  worst b c = elim b [ true ↦ 7 | false ↦ elim c [ true ↦ 8 | false ↦ 0 ] ]

  big_exceeds : (e r : ℕ) (m : ℕ × ℕ) → (exceeds e r m ≡ 0) ⊎ (7 ≤ exceeds e r m)
  big_exceeds e r m = go (ltb e m.0) (ltb r m.1)
    where
      go : (b c : Bool) → (worst b c ≡ 0) ⊎ (7 ≤ worst b c)
      go true c = inr (omega arith)
      go false true = inr (omega arith)
      go false false = inl refl

  big : (e r : ℕ) (ms : List (ℕ × ℕ)) → (over e r ms ≡ 0) ⊎ (7 ≤ over e r ms)
  big e r [] = inl refl
  big e r (m ∷ ms) = go (over e r ms) (big e r ms)
    where
      go : (v : ℕ) → (v ≡ 0) ⊎ (7 ≤ v) → (rooms.first_of v (exceeds e r m) ≡ 0) ⊎ (7 ≤ rooms.first_of v (exceeds e r m))
      go zero h = big_exceeds e r m
      go (suc v) (inl z) = absurd (omega (arith, z))
      go (suc v) (inr z) = inr z

  -- a room that is exceeded is that of events or that of records
  either_exceeds : (e r : ℕ) (m : ℕ × ℕ) → (exceeds e r m ≡ 0 → ⊥) → (exceeds e r m ≡ 7) ⊎ (exceeds e r m ≡ 8)
  either_exceeds e r m = go (ltb e m.0) (ltb r m.1)
    where
      go : (b c : Bool) → (worst b c ≡ 0 → ⊥) → (worst b c ≡ 7) ⊎ (worst b c ≡ 8)
      go true c n = inl refl
      go false true n = inr refl
      go false false n = absurd (n refl)

  either_room : (e r : ℕ) (ms : List (ℕ × ℕ)) → (over e r ms ≡ 0 → ⊥) → (over e r ms ≡ 7) ⊎ (over e r ms ≡ 8)
  either_room e r [] n = absurd (n refl)
  either_room e r (m ∷ ms) n = go (over e r ms) (either_room e r ms) n
    where
      go : (v : ℕ) → ((v ≡ 0 → ⊥) → (v ≡ 7) ⊎ (v ≡ 8)) → (rooms.first_of v (exceeds e r m) ≡ 0 → ⊥) → (rooms.first_of v (exceeds e r m) ≡ 7) ⊎ (rooms.first_of v (exceeds e r m) ≡ 8)
      go zero h n = either_exceeds e r m n
      go (suc v) h n = h n

  -- r is what the reading left, with so many numbers of error records
  module _ (r : D.Desk) (written : ℕ) {ev er : List ℕ} (z : 0 ≡ refusal d) (f : Framed L (source_of d) d.fuel (length d.events) (length d.errors) r written ev er) where
    pub room_so : (spent.exceeded r.state.full ≡ 0 → ⊥) → zeros (spent.exceeded r.state.full) ≡ after L d
    room_so n = exceeded_so z (spent.exceeded r.state.full) f.full (go (big (length d.events) (length d.errors) (moments L (source_of d) (reading L (source_of d) d.fuel))))
      where
        go : (number ≡ 0) ⊎ (7 ≤ number) → 7 ≤ spent.exceeded r.state.full
        go (inl e) = absurd (n (f.full ∙ e))
        go (inr h) = omega (arith, h, f.full)

    pub room_is : (spent.exceeded r.state.full ≡ 0 → ⊥) → (spent.exceeded r.state.full ≡ 7) ⊎ (spent.exceeded r.state.full ≡ 8)
    room_is n = go (either_room (length d.events) (length d.errors) (moments L (source_of d) (reading L (source_of d) d.fuel)) (λ z. n (f.full ∙ z)))
      where
        go : (number ≡ 7) ⊎ (number ≡ 8) → (spent.exceeded r.state.full ≡ 7) ⊎ (spent.exceeded r.state.full ≡ 8)
        go (inl e) = inl (f.full ∙ e)
        go (inr e) = inr (f.full ∙ e)

    -- the finished list in the buffer, with zeros behind it
    laid : (w l : List ℕ) (n : ℕ) (lent : List ℕ) → take n l ≡ w → n ≤ length l → length l ≡ length lent → take n l ++ replicate (length l - n) 0 ≡ w ++ replicate (length lent - length w) 0
    laid w l n lent e h i = ap₂ (λ (a : List ℕ) (k : ℕ). a ++ replicate k 0) e (ap₂ ◌-◌ i (sym (length-take-le n l h) ∙ ap length e))

    pub answer_so : spent.exceeded r.state.full ≡ 0 → length ev ≡ length d.events → length er ≡ length d.errors → (sc : List ℕ) → length sc ≡ length d.scratch → answering r written ev er sc ≡ after L d
    answer_so h i j sc k = whole ∙ ap (λ (m : ℕ). left_by d (pick m (given (rendered L (source_of d) (item_numbers L d.ids d.fuel) (reading L (source_of d) d.fuel))))) (sym h ∙ f.full) ∙ read_so z
      where
        q : Finished L (source_of d) d.fuel r written ev er
        q = f.finished h

        count : (r.state.ev + EVENT) / EVENT ≡ length (rendered L (source_of d) (item_numbers L d.ids d.fuel) (reading L (source_of d) d.fuel)).events
        count = omega (arith, q.event_count)

        events : take (r.state.ev + EVENT) ev ++ replicate (length ev - (r.state.ev + EVENT)) 0 ≡ (left_by d (given (rendered L (source_of d) (item_numbers L d.ids d.fuel) (reading L (source_of d) d.fuel)))).events
        events = laid _ ev (r.state.ev + EVENT) d.events q.events q.event_fits i

        errors : take written er ++ replicate (length er - written) 0 ≡ (left_by d (given (rendered L (source_of d) (item_numbers L d.ids d.fuel) (reading L (source_of d) d.fuel)))).errors
        errors = laid _ er written d.errors q.errors q.error_fits j

        whole : answering r written ev er sc ≡ left_by d (given (rendered L (source_of d) (item_numbers L d.ids d.fuel) (reading L (source_of d) d.fuel)))
        whole = λ t. record { number = 0; outcome = q.outcome t; covered = q.covered t; event_count = count t; error_count = q.error_count t; left = q.left t; events = events t; errors = errors t; scratch = replicate (k t) 0 }
