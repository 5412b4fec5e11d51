-- Rooms: refusals 7 and 8 are given exactly where a moment exceeds its room; a room that is no multiple of 4 serves as the multiple below;
-- with room enough there is an answer; and the buffers stay as long as they were lent.
use Prim.Native.Nat.{ℕ, zero, suc, ◌+◌, ◌-◌, ◌*◌, ◌/◌, ◌≤◌, ◌<◌, max}
use mathlib.Core.Path.{◌≡◌, refl, ap, ap₂, ◌∙◌}
use mathlib.Core.List.{List, [], ◌∷◌, ◌++◌, map}
use mathlib.Core.Bool.{Bool, true, false}
use lib.Dec.{T, ltb, ltb→lt, lt→ltb}
use lib.ListN.{length, replicate, length-append, length-replicate}
use native.Mathlib.Omega.{arith}
use Rattle.kinds.specs.Kinds as k
use Rattle.shapes.specs.Sort as Sort
use Rattle.shapes.specs.Shapes.{EVENT, Entry, flat, Rec, owned, flat_records}
use Rattle.definition.specs.Run.{State, Limits, Draft, Event, opened, leaf, closed, bad}
use Rattle.definition.specs.Render.{Source, Reading, starts_at, ends_at, span_end, bads, render, records, record_of, said, inside, rendered, moments, exceeds, over, used}
use Rattle.definition.specs.Answer.{Desk, Answer, refused, given, refusal, exceeded, answer, answer_of, source_of, After, refusing, blank, as_lent, filled, left_by, after}
use Rattle.definition.proofs.Tidy.{read_tidy}
use Rattle.shapes.proofs.Laws.{flat_length, lengths, flat_lengths, bare_owned}
use Rattle.definition.specs.Open.{Nest}
use Rattle.theorems.proofs.Answered.{reading, items_of, is_given}

abbrev pub Fits : ℕ → ℕ → List (ℕ × ℕ) → Type 0
Fits e r [] = Unit
Fits e r (m ∷ ms) = (m.0 ≤ e) × (m.1 ≤ r) × Fits e r ms

-- no room is exceeded exactly where every moment fits
exceeds_none : (e r : ℕ) (m : ℕ × ℕ) → exceeds e r m ≡ 0 → (m.0 ≤ e) × (m.1 ≤ r)
exceeds_none e r m = go (ltb e m.0) (ltb r m.1) (lt→ltb e m.0) (lt→ltb r m.1)
  where
    le : (a b : ℕ) → (a < b → ⊥) → b ≤ a
    le a b h = omega (arith, h)

    go : (x y : Bool) → (e < m.0 → T x) → (r < m.1 → T y) → ◌≡◌ {A = ℕ} (elim x [ true ↦ 7 | false ↦ elim y [ true ↦ 8 | false ↦ 0 ] ]) 0 → (m.0 ≤ e) × (m.1 ≤ r)
    go true y p q z = absurd (omega (arith, z))
    go false true p q z = absurd (omega (arith, z))
    go false false p q z = (le e m.0 p, le r m.1 q)

none_exceeds : (e r : ℕ) (m : ℕ × ℕ) → m.0 ≤ e → m.1 ≤ r → exceeds e r m ≡ 0
none_exceeds e r m a b = go (ltb e m.0) (ltb r m.1) (ltb→lt e m.0) (ltb→lt r m.1)
  where
    go : (x y : Bool) → (T x → e < m.0) → (T y → r < m.1) → ◌≡◌ {A = ℕ} (elim x [ true ↦ 7 | false ↦ elim y [ true ↦ 8 | false ↦ 0 ] ]) 0
    go true y p q = absurd (omega (arith, a, p tt))
    go false true p q = absurd (omega (arith, b, q tt))
    go false false p q = refl

pub over_fits : (e r : ℕ) (ms : List (ℕ × ℕ)) → over e r ms ≡ 0 → Fits e r ms
over_fits e r [] z = tt
over_fits e r (m ∷ ms) z = go (over e r ms) refl z (over_fits e r ms)
  where
    go : (n : ℕ) → over e r ms ≡ n → ◌≡◌ {A = ℕ} (elim n as (λ _. ℕ) [ zero ↦ exceeds e r m | suc n ↦ suc n ]) 0 → (over e r ms ≡ 0 → Fits e r ms) → (m.0 ≤ e) × (m.1 ≤ r) × Fits e r ms
    go zero w z H = let x = exceeds_none e r m z in (x.0, x.1, H w)
    go (suc n) w z H = absurd (omega (arith, z))

pub fits_over : (e r : ℕ) (ms : List (ℕ × ℕ)) → Fits e r ms → over e r ms ≡ 0
fits_over e r [] f = refl
fits_over e r (m ∷ ms) f = ap (λ (n : ℕ). elim n as (λ _. ℕ) [ zero ↦ exceeds e r m | suc n ↦ suc n ]) (fits_over e r ms f.2) ∙ none_exceeds e r m f.0 f.1

pub fits_more : (e e' r r' : ℕ) (ms : List (ℕ × ℕ)) → e ≤ e' → r ≤ r' → Fits e r ms → Fits e' r' ms
fits_more e e' r r' [] a b f = tt
fits_more e e' r r' (m ∷ ms) a b f = (omega (arith, a, f.0), omega (arith, b, f.1), fits_more e e' r r' ms a b f.2)

-- some rooms are enough
enough : (ms : List (ℕ × ℕ)) → (e : ℕ) × (r : ℕ) × Fits e r ms
enough [] = (0, 0, tt)
enough (m ∷ ms) = let h = enough ms in (max m.0 h.0, max m.1 h.1, (left m.0 h.0, left m.1 h.1, fits_more h.0 (max m.0 h.0) h.1 (max m.1 h.1) ms (right m.0 h.0) (right m.1 h.1) h.2))
  where
    left : (a b : ℕ) → a ≤ max a b
    left a b = omega arith

    right : (a b : ℕ) → b ≤ max a b
    right a b = omega arith

-- the desk with other rooms
abbrev pub lent : Desk → List ℕ → List ℕ → Desk
lent d ev er = record { bytes = d.bytes; ids = d.ids; starts = d.starts; ends = d.ends; fuel = d.fuel; scratch = d.scratch; events = ev; errors = er }

-- THE THEOREM: a desk that no refusal of 1 to 6 meets has its answer wherever the rooms are large enough
pub room_enough : (L : Limits) (d : Desk) → refusal d ≡ 0 → (e : ℕ) × (r : ℕ) × ((ev er : List ℕ) → e ≤ length ev → r ≤ length er → answer L (lent d ev er) ≡ given (rendered L (source_of d) (items_of L d) (reading L d)))
room_enough L d z =
    let ms = moments L (source_of d) (reading L d) in
    let h = enough ms in
    (h.0, h.1, λ ev er a b. is_given L (lent d ev er) z (fits_over (length ev) (length er) ms (fits_more h.0 (length ev) h.1 (length er) ms a b h.2)))

-- a moment's events are a multiple of 4, so the room serves as the multiple below
same_test : (e n : ℕ) → ltb e (EVENT * n) ≡ ltb (EVENT * (e / EVENT)) (EVENT * n)
same_test e n = go (ltb e (EVENT * n)) (ltb (EVENT * (e / EVENT)) (EVENT * n)) (ltb→lt e (EVENT * n)) (lt→ltb e (EVENT * n)) (ltb→lt (EVENT * (e / EVENT)) (EVENT * n)) (lt→ltb (EVENT * (e / EVENT)) (EVENT * n))
  where
    go : (x y : Bool) → (T x → e < EVENT * n) → (e < EVENT * n → T x) → (T y → EVENT * (e / EVENT) < EVENT * n) → (EVENT * (e / EVENT) < EVENT * n → T y) → x ≡ y
    go true true a b c d = refl
    go false false a b c d = refl
    go true false a b c d = absurd (d (omega (arith, a tt)))
    go false true a b c d = absurd (b (omega (arith, c tt)))

same_exceeds : (e r n m : ℕ) → exceeds e r (EVENT * n, m) ≡ exceeds (EVENT * (e / EVENT)) r (EVENT * n, m)
same_exceeds e r n m = ap (λ (b : Bool). elim b as (λ _. ℕ) [ true ↦ 7 | false ↦ elim (ltb r m) as (λ _. ℕ) [ true ↦ 8 | false ↦ 0 ] ]) (same_test e n)

same_over : (L : Limits) (x : Source) (e r : ℕ) (ds : List Draft) → over e r (map (used L x) ds) ≡ over (EVENT * (e / EVENT)) r (map (used L x) ds)
same_over L x e r [] = refl
same_over L x e r (d ∷ ds) = ap₂ (λ (n i : ℕ). elim n as (λ _. ℕ) [ zero ↦ i | suc n ↦ suc n ]) (same_over L x e r ds) (same_exceeds e r _ _)

pub multiple_below : (L : Limits) (x : Source) (e r : ℕ) (s : State) → over e r (moments L x s) ≡ over (EVENT * (e / EVENT)) r (moments L x s)
multiple_below L x e r s = ap₂ (λ (n i : ℕ). elim n as (λ _. ℕ) [ zero ↦ i | suc n ↦ suc n ]) (same_over L x e r s.drafts) (same_exceeds e r _ _)

-- what a finished list takes
flat_append : (a b : List Entry) → length (flat (a ++ b)) ≡ length (flat a) + length (flat b)
flat_append [] b = omega arith
flat_append (q ∷ a) b = omega (arith, flat_append a b)

render_length : (x : Source) (st : List (ℕ × ℕ)) (o : List Event) (z : List Entry) → Nest (length st) o 0 → length (render x st o z) ≡ length o + length z
render_length x st [] z p = omega arith
render_length x [] (opened n ∷ o) z p = absurd p
render_length x (t ∷ st) (opened n ∷ o) z p = omega (arith, render_length x st o ((Sort.BEGIN, t.0, starts_at x n, t.1, suc (length st)) ∷ z) p)
render_length x st (leaf a n ∷ o) z p = omega (arith, render_length x st o ((Sort.TOKEN, a, starts_at x n, ends_at x n, suc (length st)) ∷ z) p)
render_length x st (closed a n m ∷ o) z p = omega (arith, render_length x ((a, span_end x n m) ∷ st) o ((Sort.END, a, starts_at x n, span_end x n m, suc (length st)) ∷ z) p)
render_length x st (bad n c ∷ o) z p = omega (arith, render_length x st o ((Sort.ERROR, bads o, starts_at x n, ends_at x n, suc (length st)) ∷ z) p)

events_size : (L : Limits) (d : Desk) → length (flat (rendered L (source_of d) (items_of L d) (reading L d)).events) ≡ EVENT * suc (suc (length (reading L d).out))
events_size L d =
    let x = source_of d in
    let o = (reading L d).out in
    let i = inside x o in
    let z = length d.bytes in
    omega (arith, flat_append i ((Sort.END, k.SOURCE_FILE, 0, z, 0) ∷ []), flat_length i, render_length x [] o [] (read_tidy L d.ids d.fuel).1)

records_size : (L : Limits) (x : Source) (o : List Event) (l : List Rec) → lengths (records L x o l) ≡ said L x o + lengths l
records_size L x [] l = omega arith
records_size L x (opened n ∷ o) l = records_size L x o l
records_size L x (leaf a n ∷ o) l = records_size L x o l
records_size L x (closed a n m ∷ o) l = records_size L x o l
records_size L x (bad n c ∷ o) l = let q : Rec = record_of L x n c in omega (arith, records_size L x o (q ∷ l))

blank_length : (l : List ℕ) → length (blank l) ≡ length l
blank_length l = length-replicate (length l) 0

filled_length : (w l : List ℕ) → length w ≤ length l → length (filled w l) ≡ length l
filled_length w l h = length-append w (replicate (length l - length w) 0) ∙ ap (λ (i : ℕ). length w + i) (length-replicate (length l - length w) 0) ∙ fill (length w) (length l) h
  where
    fill : (a b : ℕ) → a ≤ b → a + (b - a) ≡ b
    fill a b h = omega (arith, h)

-- THE THEOREM: each buffer is as long as it was lent, after an answer and after a refusal
pub as_long : (L : Limits) (d : Desk) → let a : After = after L d in (length a.events ≡ length d.events) × (length a.errors ≡ length d.errors) × (length a.scratch ≡ length d.scratch)
as_long L d = go (refusal d) refl
  where
    Long : After → Type 0
    Long a = (length a.events ≡ length d.events) × (length a.errors ≡ length d.errors) × (length a.scratch ≡ length d.scratch)

    refusals : (n : ℕ) → Long (left_by d (refused n))
    refusals n = by (as_lent n)
      where
        by : (b : Bool) → Long (elim b as (λ _. After) [ true ↦ refusing n d.events d.errors d.scratch | false ↦ refusing n (blank d.events) (blank d.errors) (blank d.scratch) ])
        by true = (refl, refl, refl)
        by false = (blank_length d.events, blank_length d.errors, blank_length d.scratch)

    answers : Fits (length d.events) (length d.errors) (moments L (source_of d) (reading L d)) → Long (left_by d (given (rendered L (source_of d) (items_of L d) (reading L d))))
    answers f =
        let R : Reading = rendered L (source_of d) (items_of L d) (reading L d) in
        (filled_length (flat R.events) d.events (omega (arith, events_size L d, f.0)), filled_length (flat_records (owned R.errors R.items)) d.errors (omega (arith, flat_lengths (owned R.errors R.items), ap lengths (bare_owned R.errors R.items), records_size L (source_of d) (reading L d).out [], f.1)), blank_length d.scratch)

    at : (n : ℕ) → exceeded L d (reading L d) ≡ n → Long (left_by d (elim n as (λ _. Answer) [ zero ↦ given (rendered L (source_of d) (items_of L d) (reading L d)) | suc n ↦ refused (suc n) ]))
    at zero w = answers (over_fits (length d.events) (length d.errors) (moments L (source_of d) (reading L d)) w)
    at (suc n) w = refusals (suc n)

    go : (n : ℕ) → refusal d ≡ n → Long (left_by d (elim n as (λ _. Answer) [ zero ↦ answer_of L d (reading L d) | suc n ↦ refused (suc n) ]))
    go zero z = at (exceeded L d (reading L d)) refl
    go (suc n) z = refusals (suc n)
