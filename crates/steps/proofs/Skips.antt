-- Skipping: rows are taken up until one of the set stands past trivia. Assumes nothing.
use Prim.Native.Nat.{ℕ, suc, ◌+◌, ◌≤◌, ◌<◌}
use mathlib.Core.Path.{◌≡◌, refl, sym, ap, ◌∙◌}
use mathlib.Core.List.{List, [], ◌∷◌}
use mathlib.Core.Bool.{Bool, true, false}
use native.Mathlib.Nat.{le_refl}
use native.Mathlib.Omega.{arith}
use lib.ListN.{length, get_or, drop}
use lib.Seq.{drop-cons}
use Rattle.shapes.specs.Sort as Sort
use Rattle.definition.specs.Buffer.{placed}
use Rattle.definition.specs.Run as P
use Rattle.definition.specs.Run.{Event, leaf, Next, other}
use Rattle.definition.specs.Render.{Source, used}
use Rattle.notes.specs.Whole.{Whole}
use Rattle.notes.specs.Change.{with_pos}
use Rattle.notes.specs.Means.{Bufs, Past, Stands, over_of}
use Rattle.notes.specs.Did.{Wf, Events, Put}
use Rattle.notes.proofs.Rooms.{fits, still, thin}
use Rattle.notes.proofs.Core.{bare, Like, like_at}
use Rattle.notes.proofs.Sticky.{sticky_trans, sticky_take, sticky_skip}
use Rattle.steps.proofs.Taken.{Taking, takes, taken}

seek_on : (S : List ℕ) (i : ℕ) (is : List ℕ) → P.past (P.next S (i ∷ is)) ≡ false → P.seek S (i ∷ is) ≡ P.seek S is
seek_on S i is e = ap (λ (b : Bool). elim b [ true ↦ i ∷ is | false ↦ P.seek S is ]) e

seek_out_on : (S : List ℕ) (i : ℕ) (is : List ℕ) (o : List Event) → P.past (P.next S (i ∷ is)) ≡ false → P.seek_out S (i ∷ is) o ≡ P.seek_out S is (leaf i (suc (length is)) ∷ o)
seek_out_on S i is o e = ap (λ (b : Bool). elim b [ true ↦ o | false ↦ P.seek_out S is (leaf i (suc (length is)) ∷ o) ]) e

seek_end : (S : List ℕ) (r : List ℕ) → P.past (P.next S r) ≡ true → P.seek S r ≡ r
seek_end S [] e = refl
seek_end S (i ∷ is) e = ap (λ (b : Bool). elim b [ true ↦ i ∷ is | false ↦ P.seek S is ]) e

seek_out_end : (S : List ℕ) (r : List ℕ) (o : List Event) → P.past (P.next S r) ≡ true → P.seek_out S r o ≡ o
seek_out_end S [] o e = refl
seek_out_end S (i ∷ is) o e = ap (λ (b : Bool). elim b [ true ↦ o | false ↦ P.seek_out S is (leaf i (suc (length is)) ∷ o) ]) e

seek_more : (S r : List ℕ) (o : List Event) → length o ≤ length (P.seek_out S r o)
seek_more S [] o = le_refl _
seek_more S (i ∷ is) o = go (P.past (P.next S (i ∷ is))) (seek_more S is (leaf i (suc (length is)) ∷ o))
  where
    go : (b : Bool) → suc (length o) ≤ length (P.seek_out S is (leaf i (suc (length is)) ∷ o)) → length o ≤ length {A = Event} (elim b as (λ _. List Event) [ true ↦ o | false ↦ P.seek_out S is (leaf i (suc (length is)) ∷ o) ])
    go true h = le_refl _
    go false h = omega arith

skip_is : (S : List ℕ) (a : P.State) (r : List ℕ) → a.rest ≡ r → P.skip_to S a ≡ P.mark (P.put (P.seek S r) (P.seek_out S r a.out) a)
skip_is S a r e = λ i. P.mark (P.put (P.seek S (e i)) (P.seek_out S (e i) a.out) a)

-- the same with the first row taken up before
skip_step : (S : List ℕ) {p : Past} {x : Source} {s : Whole} {b : Bufs} {a : P.State} (i : ℕ) (is : List ℕ) → Wf x b s → Stands p x s b a → (s.full ≡ 0 → a.rest ≡ i ∷ is) → P.past (P.next S (i ∷ is)) ≡ false → Like p x (P.skip_to S (P.take i is a)) (P.skip_to S a)
unfolding over_of
skip_step S {p} {x} {s} {b} {a} i is w t h y = like_at t (sticky_trans p x a (P.take i is a) (P.skip_to S (P.take i is a)) (sticky_take p x i is a) (sticky_skip p x S (P.take i is a))) (sticky_skip p x S a) here
  where
    here : s.full ≡ 0 → Like p x (P.skip_to S (P.take i is a)) (P.skip_to S a)
    here z =
        let o : List Event = leaf i (suc (length is)) ∷ a.out in
        let e : P.skip_to S a ≡ P.mark (P.put (P.seek S is) (P.seek_out S is o) a) = skip_is S a (i ∷ is) (h z) ∙ (λ k. P.mark (P.put (seek_on S i is y k) (seek_out_on S i is a.out y k) a)) in
        record {
          all = λ q. sym (ap bare e);
          over = thin p.event_room p.error_room (over_of p x a) (used p.limits x (o, a.chosen)) (used p.limits x (P.seek_out S is o, a.chosen)) (omega (arith, seek_more S is o)) (λ q. (fits w (t.means z)).1) ∙ sym (ap (over_of p x) e);
        }

skip_none : (S : List ℕ) {p : Past} {x : Source} {s : Whole} {b : Bufs} {a : P.State} → Wf x b s → Stands p x s b a → (s.full ≡ 0 → P.past (P.next S a.rest) ≡ true) → Like p x a (P.skip_to S a)
skip_none S {p} {x} {s} {a = a} w t e =
    like_at t (λ n. refl) (sticky_skip p x S a)
    (λ z.
    let q : P.skip_to S a ≡ P.mark a = λ i. P.mark (P.put (seek_end S a.rest (e z) i) (seek_out_end S a.rest a.out (e z) i) a) in
    record { all = λ y. sym (ap bare q); over = sym (ap (over_of p x) q ∙ still w t) })

module _ (S : List ℕ) {x : Source} {s₀ s : Whole} {ev₀ ev : List ℕ} (k : Taking (P.skip_to S) x s₀ s ev₀ ev) where
  pub skip_on : (st : ℕ) {r : Whole} {ev' : List ℕ} → s.pos < length x.ids → P.next S (drop s.pos x.ids) ≡ other → st ≡ get_or (0 ∷ x.ends) s.pos 0 → Put (placed Sort.TOKEN (get_or x.ids s.pos 0) st (get_or x.ends s.pos 0) ev s.ev) s r ev ev' → Taking (P.skip_to S) x s₀ (with_pos (s.pos + 1) r) ev₀ ev'
  skip_on st h y q u =
      takes k (get_or x.ids s.pos 0) st h q u
      (λ er sc p a w t. skip_step S (get_or x.ids s.pos 0) (drop (suc s.pos) x.ids) w t (λ z. (t.means z).rest ∙ drop-cons x.ids s.pos 0 h) (ap P.past (ap (P.next S) (sym (drop-cons x.ids s.pos 0 h)) ∙ y)))

  pub skip_over : (z : Next) → P.past z ≡ true → P.next S (drop s.pos x.ids) ≡ z → Events (P.skip_to S) x s₀ s ev₀ ev
  skip_over z e y = taken k (λ er sc p a w t. skip_none S w t (λ i. ap (λ (l : List ℕ). P.past (P.next S l)) (t.means i).rest ∙ ap P.past y ∙ e))
