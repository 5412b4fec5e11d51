-- The first mark of a list: which mark its first event is, with the event after it where the two are joined.
use Prim.Native.Nat.{ℕ, ◌+◌, ◌-◌, ◌≤◌, ◌<◌}
use mathlib.Core.Path.{◌≡◌, refl, ap, sym, ◌∙◌}
use mathlib.Core.List.{List, [], ◌∷◌}
use mathlib.Core.Bool.{Bool, true, false, ◌&&◌}
use lib.Dec.{eqb}
use lib.ListN.{length, get_or, take, drop, length-drop}
use lib.Seq.{take_all, get_or-take}
use borrow.Author.Tests.{eq-eqb, ne_eqb}
use native.Mathlib.Omega.{arith}
use Rattle.kinds.specs.Kinds as k
use Rattle.shapes.specs.Sort as Sort
use Rattle.shapes.specs.Shapes.{EVENT, Entry, entries}
use Rattle.definition.specs.Merge.{Mark, opens, joins, closes, keeps, ended, marked, marks, error_of}
use Rattle.events.specs.Events.{entry_at}
use Rattle.merger.specs.Events.{marks_of}
use Rattle.merger.proofs.Bools.{sort_of}
use Rattle.events.proofs.Lists.{entries_at, entries_end}

-- OF EVENTS
opened : (e : Entry) (es : List Entry) → error_of Sort.BEGIN e ≡ true → marks (e ∷ es) ≡ opens e.4 (e.2, e.3) ∷ marks es
opened e es h = ap (λ (t : Bool). marked t (error_of Sort.END e) e (marks es)) h

kept : (e : Entry) (es : List Entry) → error_of Sort.BEGIN e ≡ false → error_of Sort.END e ≡ false → marks (e ∷ es) ≡ keeps e ∷ marks es
kept e es h g = ap (λ (t : Bool). marked t (error_of Sort.END e) e (marks es)) h ∙ ap (λ (t : Bool). marked false t e (marks es)) g

not_begin : (e : Entry) → error_of Sort.END e ≡ true → error_of Sort.BEGIN e ≡ false
not_begin e h = ap (λ (t : Bool). t && eqb e.1 k.ERROR) (ne_eqb e.0 1 (λ q. omega (arith, sort_of 3 e h)))

shut : (e : Entry) (es : List Entry) → error_of Sort.END e ≡ true → marks (e ∷ es) ≡ ended e.4 (marks es)
shut e es h = ap (λ (t : Bool). marked t (error_of Sort.END e) e (marks es)) (not_begin e h) ∙ ap (λ (t : Bool). marked false t e (marks es)) h

-- an end before what is no begin
closed : (d : ℕ) (e : Entry) (es : List Entry) → error_of Sort.BEGIN e ≡ false → ended d (marks (e ∷ es)) ≡ closes d ∷ marks (e ∷ es)
closed d e es h = ap (λ (t : Bool). ended d (marked t (error_of Sort.END e) e (marks es))) h ∙ go (error_of Sort.END e) (marks es) ∙ ap (λ (t : Bool). closes d ∷ marked t (error_of Sort.END e) e (marks es)) (sym h)
  where
    go : (t : Bool) (ms : List Mark) → ended d (marked false t e ms) ≡ closes d ∷ marked false t e ms
    go false ms = refl
    go true [] = refl
    go true (opens i z ∷ ms) = refl
    go true (joins z ∷ ms) = refl
    go true (closes i ∷ ms) = refl
    go true (keeps f ∷ ms) = refl

-- the code's test
pub of_sort : (e : Entry) (s : ℕ) → e.0 ≡ s → eqb e.1 k.ERROR ≡ error_of s e
of_sort e s h = sym (ap (λ (t : Bool). t && eqb e.1 k.ERROR) (eq-eqb e.0 s h))

pub of_other : (e : Entry) (s : ℕ) → (e.0 ≡ s → ⊥) → false ≡ error_of s e
of_other e s h = sym (ap (λ (t : Bool). t && eqb e.1 k.ERROR) (ne_eqb e.0 s h))

-- an event of another kind
other : (e : Entry) (s : ℕ) → (e.1 ≡ k.ERROR → ⊥) → error_of s e ≡ false
other e s h = ap (λ (t : Bool). eqb e.0 s && t) (ne_eqb e.1 k.ERROR h) ∙ go (eqb e.0 s)
  where
    go : (t : Bool) → t && false ≡ false
    go true = refl
    go false = refl

-- OF A LIST: e is its first event

-- the list behind its first event, as the code takes it
abbrev pub behind : List ℕ → List ℕ
behind l = take (length l - EVENT) (drop EVENT l)

behind_is : (l : List ℕ) → behind l ≡ drop EVENT l
behind_is l = take_all (length l - EVENT) (drop EVENT l) (rw length-drop (omega arith))

module _ (l : List ℕ) (more : EVENT ≤ length l) (e : Entry) (is : e ≡ entry_at l 0) where
  here : marks_of l ≡ marks (e ∷ entries (behind l))
  here =
      ap marks (entries_at l 0 more)
      ∙ ap (λ (f : Entry). marks (f ∷ entries (drop EVENT l))) (sym is)
      ∙ ap (λ (r : List ℕ). marks (e ∷ entries r)) (sym (behind_is l))

  pub opens_first : error_of Sort.BEGIN e ≡ true → marks_of l ≡ opens e.4 (e.2, e.3) ∷ marks_of (behind l)
  opens_first h = here ∙ opened e (entries (behind l)) h

  pub keeps_first : error_of Sort.BEGIN e ≡ false → error_of Sort.END e ≡ false → marks_of l ≡ keeps e ∷ marks_of (behind l)
  keeps_first h g = here ∙ kept e (entries (behind l)) h g

  pub other_first : (get_or l 1 0 ≡ k.ERROR → ⊥) → marks_of l ≡ keeps e ∷ marks_of (behind l)
  other_first h = let n : e.1 ≡ k.ERROR → ⊥ = λ p. h (sym (ap (λ (f : Entry). f.1) is) ∙ p) in keeps_first (other e 1 n) (other e 3 n)

  no_begin : (d : ℕ) → error_of Sort.BEGIN e ≡ false → ended d (marks_of l) ≡ closes d ∷ marks_of l
  no_begin d h = ap (ended d) here ∙ closed d e (entries (behind l)) h ∙ ap (λ (ms : List Mark). closes d ∷ ms) (sym here)

-- an event of another kind, and what is behind it, as the loops split a list
pub other_event : (l : List ℕ) {event after : List ℕ} → event ≡ take EVENT l → after ≡ drop EVENT l → length after + EVENT ≡ length l → (get_or event 1 0 ≡ k.ERROR → ⊥)
    → (e : Entry) → e ≡ entry_at l 0 → marks_of l ≡ keeps e ∷ marks_of after
other_event l p q n h e is =
    other_first l (omega arith) e is (λ z. h (ap (λ (t : List ℕ). get_or t 1 0) p ∙ get_or-take EVENT l 1 0 (omega arith) ∙ z))
    ∙ ap (λ (t : List ℕ). keeps e ∷ marks_of t) (behind_is l ∙ sym q)

pub none_left : (l : List ℕ) → length l < EVENT → marks_of l ≡ []
none_left l h = ap marks (entries_end l 0 (omega arith))

-- the first event is an end, and e the event after it
module _ (l : List ℕ) (more : EVENT ≤ length l) (end : error_of Sort.END (entry_at l 0) ≡ true) where
  abbrev d : ℕ
  d = (entry_at l 0).4

  abbrev next : List ℕ
  next = behind l

  ended_first : marks_of l ≡ ended d (marks_of next)
  ended_first = here l more (entry_at l 0) refl ∙ shut (entry_at l 0) (entries next) end

  pub closes_last : length next < EVENT → marks_of l ≡ closes d ∷ marks_of next
  closes_last h = ended_first ∙ ap (ended d) (none_left next h) ∙ ap (λ (ms : List Mark). closes d ∷ ms) (sym (none_left next h))

  module _ (many : EVENT ≤ length next) (e : Entry) (is : e ≡ entry_at next 0) where
    pub joins_first : error_of Sort.BEGIN e ≡ true → marks_of l ≡ joins (e.2, e.3) ∷ marks_of (behind next)
    joins_first h = ended_first ∙ ap (ended d) (opens_first next many e is h)

    pub closes_first : error_of Sort.BEGIN e ≡ false → marks_of l ≡ closes d ∷ marks_of next
    closes_first h = ended_first ∙ no_begin next many e is d h
