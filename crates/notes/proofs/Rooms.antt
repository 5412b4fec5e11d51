-- Rooms: which one was exceeded first, after each writing. Assumes nothing.
use Prim.Native.Nat.{ℕ, zero, suc, ◌+◌, ◌*◌, ◌≤◌, ◌<◌}
use mathlib.Core.Path.{◌≡◌, refl, sym, ap, ap₂, ◌∙◌}
use mathlib.Core.List.{List, [], ◌∷◌, ◌++◌}
use mathlib.Core.Bool.{Bool, true, false}
use native.Mathlib.Omega.{arith}
use borrow.Author.Tests.{le-ltb, lt-ltb, ltb-true, ltb-false}
use lib.Dec.{ltb}
use lib.ListN.{length, length-append}
use lib.Seq.{length-take-le}
use Rattle.shapes.specs.Shapes.{EVENT, Rec, Owned, flat_records, of_item, bare}
pub use Rattle.shapes.proofs.Laws.{flat_append, lengths, flat_lengths, bare_of}
use Rattle.definition.specs.Run as P
use Rattle.definition.specs.Run.{Event, opened, leaf, closed, bad, Choice, Limits}
use Rattle.definition.specs.Render.{Source, record_of, records, said, held, used, exceeds}
use Rattle.definition.proofs.Buffer.{buffer_length}
use Rattle.notes.specs.Whole.{Whole}
use Rattle.notes.specs.Means.{Bufs, Past, recorded, Means, Stands, over_of}
use Rattle.notes.specs.Did.{Wf}

-- records as numbers: those before, and those of the item at hand
pub flat_size : (l : List Owned) (n : ℕ) (q : List Rec) → length (flat_records (l ++ of_item n q)) ≡ lengths (bare l) + lengths q
flat_size l n q = ap length (flat_append l (of_item n q)) ∙ length-append (flat_records l) (flat_records (of_item n q)) ∙ ap₂ (λ (i j : ℕ). i + j) (flat_lengths l) (flat_lengths (of_item n q) ∙ ap lengths (bare_of n q))

pub said_is : (L : Limits) (x : Source) (o : List Event) (l : List Rec) → said L x o + lengths l ≡ lengths (records L x o l)
said_is L x [] l = omega arith
said_is L x (opened n ∷ o) l = said_is L x o l
said_is L x (leaf a n ∷ o) l = said_is L x o l
said_is L x (closed a n m ∷ o) l = said_is L x o l
said_is L x (bad n c ∷ o) l = omega (arith, said_is L x o (record_of L x n c ∷ l))

pub held_is : (L : Limits) (x : Source) (c : List (ℕ × Choice)) → held L x c ≡ lengths (recorded L x c)
unfolding recorded
held_is L x [] = refl
held_is L x (e ∷ c) = omega (arith, held_is L x c)

-- how much of each list is used
module _ {p : Past} {x : Source} {s : Whole} {b : Bufs} {a : P.State} (w : Wf x b s) (m : Means p x s b a) where
  pub ev_count : s.ev ≡ EVENT * length a.out
  ev_count = sym (length-take-le s.ev b.events (omega (arith, w.0.2.events, w.1.events))) ∙ ap length m.written.is ∙ buffer_length x a.out

  pub er_count : s.er ≡ said p.limits x a.out + held p.limits x a.chosen
  er_count =
      sym (length-take-le s.er b.errors (omega (arith, w.0.2.errors, w.1.errors)))
      ∙ ap length m.chosen.is
      ∙ flat_size p.records p.number (recorded p.limits x a.chosen)
      ∙ ap₂ (λ (i j : ℕ). i + j) (ap lengths (sym m.written.past) ∙ sym (said_is p.limits x a.out []) ∙ omega arith) (sym (held_is p.limits x a.chosen))

-- one moment more
abbrev pub first_of : ℕ → ℕ → ℕ
first_of v k = elim v [ zero ↦ k | suc n ↦ suc n ]

abbrev pub spill : Past → Source → List Event → List (ℕ × Choice) → ℕ
spill p x o c = exceeds p.event_room p.error_room (used p.limits x (o, c))

pub marked : (p : Past) (x : Source) (a : P.State) → over_of p x (P.mark a) ≡ first_of (over_of p x a) (spill p x a.out a.chosen)
unfolding over_of
marked p x a = refl

pub exceeds_none : (e r : ℕ) (m : ℕ × ℕ) → m.0 ≤ e → m.1 ≤ r → exceeds e r m ≡ 0
exceeds_none e r m h k = ap₂ (λ (c d : Bool). elim c [ true ↦ 7 | false ↦ elim d [ true ↦ 8 | false ↦ 0 ] ]) (le-ltb e m.0 h) (le-ltb r m.1 k)

pub exceeds_events : (e r : ℕ) (m : ℕ × ℕ) → e < m.0 → exceeds e r m ≡ 7
exceeds_events e r m h = ap (λ (c : Bool). elim c [ true ↦ 7 | false ↦ elim (ltb r m.1) [ true ↦ 8 | false ↦ 0 ] ]) (lt-ltb e m.0 h)

pub exceeds_errors : (e r : ℕ) (m : ℕ × ℕ) → m.0 ≤ e → r < m.1 → exceeds e r m ≡ 8
exceeds_errors e r m h k = ap₂ (λ (c d : Bool). elim c [ true ↦ 7 | false ↦ elim d [ true ↦ 8 | false ↦ 0 ] ]) (le-ltb e m.0 h) (lt-ltb r m.1 k)

-- what stands fits
pub fits : {p : Past} {x : Source} {s : Whole} {b : Bufs} {a : P.State} → Wf x b s → Means p x s b a → (EVENT * suc (length a.out) ≤ p.event_room) × (said p.limits x a.out + held p.limits x a.chosen ≤ p.error_room)
fits w m = (omega (arith, ev_count w m, m.written.room, w.0.2.events), omega (arith, er_count w m, m.chosen.room, w.0.2.errors))

pub full_first : (v k : ℕ) → (v ≡ 0 → ⊥) → first_of v k ≡ v
full_first zero k h = absurd (h refl)
full_first (suc v) k h = refl

-- a moment at which nothing new stands written
pub still : {p : Past} {x : Source} {s : Whole} {b : Bufs} {a : P.State} → Wf x b s → Stands p x s b a → over_of p x (P.mark a) ≡ over_of p x a
still {p} {x} {s} {b} {a} w t = marked p x a ∙ go (over_of p x a) refl
  where
    go : (v : ℕ) → over_of p x a ≡ v → first_of v (spill p x a.out a.chosen) ≡ v
    go zero e = let f = fits w (t.means (t.over ∙ e)) in exceeds_none p.event_room p.error_room (used p.limits x (a.out, a.chosen)) f.0 f.1
    go (suc n) e = refl

-- a moment between two others, with less written than at the later one, tells nothing
pub thin : (e r v : ℕ) (m n : ℕ × ℕ) → m.0 ≤ n.0 → (v ≡ 0 → m.1 ≤ r) → first_of (first_of v (exceeds e r m)) (exceeds e r n) ≡ first_of v (exceeds e r n)
thin e r (suc v) m n h k = refl
thin e r zero m n h k = go (ltb e m.0) refl
  where
    go : (c : Bool) → ltb e m.0 ≡ c → first_of (exceeds e r m) (exceeds e r n) ≡ exceeds e r n
    go true q = let l : e < m.0 = ltb-true e m.0 q in ap (λ (i : ℕ). first_of i (exceeds e r n)) (exceeds_events e r m l) ∙ sym (exceeds_events e r n (omega arith))
    go false q = let l : m.0 ≤ e = ltb-false e m.0 q in ap (λ (i : ℕ). first_of i (exceeds e r n)) (exceeds_none e r m l (k refl))
