-- Rows taken, trivia skipped, nodes begun and closed: from what the code wrote to what it means. Assumes nothing.
use Prim.Native.Nat.{ℕ, zero, suc, ◌+◌, ◌-◌, ◌≤◌, ◌<◌}
use mathlib.Core.Path.{◌≡◌, refl, sym, ap, ap₂, subst, ◌∙◌}
use mathlib.Core.List.{List, [], ◌∷◌, ◌++◌}
use mathlib.Core.Bool.{Bool, true, false}
use native.Mathlib.Nat.{le_refl}
use native.Mathlib.Omega.{arith}
use native.Mathlib.Numerals.{add-one}
use borrow.Author.Tests.{lt-ltb, le-ltb, eq-eqb, ne_eqb}
use lib.Dec.{eqb}
use lib.ListN.{length, get_or, take, drop, length-drop, drop_of_length-le, replicate}
use lib.Seq.{take-take, drop-cons}
use Rattle.kinds.specs.Sets.{trivial}
use Rattle.shapes.specs.Sort as Sort
use Rattle.shapes.specs.Shapes.{EVENT, DEPTH, event}
use Rattle.definition.specs.Run as P
use Rattle.definition.specs.Run.{Event, leaf, ok}
use Rattle.definition.specs.Render.{Source, starts_at, ends_at, used}
use Rattle.definition.specs.Buffer.{height, cell, next_depth, placed, buffer}
use Rattle.definition.proofs.Buffer.{buffer_leaf}
use Rattle.definition.proofs.Gap.{gap, gap_out}
use Rattle.notes.specs.declared.names.Notes.{Notes}
use Rattle.notes.specs.Whole.{Whole, fresh}
use Rattle.notes.specs.Change.{with_pos}
use Rattle.notes.specs.Means.{Bufs, bufs, Past, source, Stands, Lines, mode_of, over_of}
use Rattle.notes.specs.Did.{Ok, Wf, Events, Put}
use Rattle.notes.proofs.Lists.{get_d_any}
use Rattle.notes.proofs.Peeks.{skip_yes, skip_no}
use Rattle.notes.proofs.Rooms.{fits, still, thin}
use Rattle.notes.proofs.Sticky.{sticky_trans, sticky_trivia, sticky_take}
use Rattle.notes.proofs.Core.{bare, Like, like_same, like_trans, like_at, alike, idle, depth_is, emitted, moved, ok_put, wf_put, caps_put}
use Rattle.notes.proofs.Naming.{none_named}
use Rattle.steps.specs.declared.state.State.{State}
use Rattle.steps.proofs.Modes.{same_mode}
use Rattle.steps.specs.Steps.{whole, on_to, Fits}

-- the index of a row that is named by how many rows are left from it on
pub row : (p : ℕ) (ids : List ℕ) → p ≤ length ids → length ids - length (drop p ids) ≡ p
row p ids h = simp length-drop (omega arith)

pub row_next : (p : ℕ) (ids : List ℕ) → p < length ids → length ids - suc (length (drop (suc p) ids)) ≡ p
row_next p ids h = simp length-drop (omega arith)

-- where the row at an index stands, whatever the source's bytes
pub start_is : (x : Source) (n i : ℕ) → length x.ids - n ≡ i → i ≤ length x.ends → starts_at x n ≡ get_or (0 ∷ x.ends) i 0
start_is x n i e h = ap (λ (k : ℕ). get_or (0 ∷ x.ends) k (length x.bytes)) e ∙ get_d_any (0 ∷ x.ends) i (length x.bytes) 0 (omega arith)

pub end_is : (x : Source) (n i : ℕ) → length x.ids - n ≡ i → i < length x.ends → ends_at x n ≡ get_or x.ends i 0
end_is x n i e h = ap (λ (k : ℕ). get_or x.ends k (length x.bytes)) e ∙ get_d_any x.ends i (length x.bytes) 0 h

-- the depth as `around` finds it
module _ (l : List ℕ) (at : ℕ) where
  pub around_first : at < EVENT → 1 ≡ next_depth l at
  around_first h = sym (ap (λ (c : Bool). elim c as (λ _. ℕ) [ true ↦ 1 | false ↦ elim (eqb (get_or l (at - EVENT) 0) Sort.BEGIN) as (λ _. ℕ) [ true ↦ cell (get_or l (at - EVENT + DEPTH) 0 + 1) | false ↦ get_or l (at - EVENT + DEPTH) 0 ] ]) (lt-ltb at EVENT h))

  behind : (c : Bool) → EVENT ≤ at → eqb (get_or l (at - EVENT) 0) Sort.BEGIN ≡ c → next_depth l at ≡ elim c as (λ _. ℕ) [ true ↦ cell (get_or l (at - EVENT + DEPTH) 0 + 1) | false ↦ get_or l (at - EVENT + DEPTH) 0 ]
  behind c h e = ap₂ (λ (b d : Bool). elim b as (λ _. ℕ) [ true ↦ 1 | false ↦ elim d as (λ _. ℕ) [ true ↦ cell (get_or l (at - EVENT + DEPTH) 0 + 1) | false ↦ get_or l (at - EVENT + DEPTH) 0 ] ]) (le-ltb at EVENT h) e

  pub around_begin : EVENT ≤ at → get_or l (at - EVENT) 0 ≡ Sort.BEGIN → cell (get_or l (at - EVENT + DEPTH) 0 + 1) ≡ next_depth l at
  around_begin h e = sym (behind true h (eq-eqb (get_or l (at - EVENT) 0) Sort.BEGIN e))

  pub around_other : EVENT ≤ at → (get_or l (at - EVENT) 0 ≡ Sort.BEGIN → ⊥) → get_or l (at - EVENT + DEPTH) 0 ≡ next_depth l at
  around_other h n = sym (behind false h (ne_eqb (get_or l (at - EVENT) 0) Sort.BEGIN n))

pub put_at : (d at : ℕ) {a b c e : ℕ} {s r : Whole} {ev ev' : List ℕ} → d ≡ next_depth ev at → Put (event a b c e d) s r ev ev' → Put (placed a b c e ev at) s r ev ev'
put_at d at {a} {b} {c} {e} {s} {r} {ev} {ev'} q u = subst (λ (i : ℕ). Put (event a b c e i) s r ev ev') q u

-- a row is written
pub leaf_buffer : (x : Source) (p i : ℕ) (o : List Event) → Lines x.ids x.ends → p < length x.ids → buffer x (leaf i (suc (length (drop (suc p) x.ids))) ∷ o) ≡ buffer x o ++ event Sort.TOKEN i (get_or (0 ∷ x.ends) p 0) (get_or x.ends p 0) (cell (height o))
leaf_buffer x p i o w h =
    let n : ℕ = suc (length (drop (suc p) x.ids)) in
    let e : length x.ids - n ≡ p = row_next p x.ids h in
    buffer_leaf x i n o
    ∙ ap₂ (λ (a z : ℕ). buffer x o ++ event Sort.TOKEN i a z (cell (height o))) (start_is x n p e (omega (arith, w.level))) (end_is x n p e (omega (arith, w.level)))

-- a row is taken up
pub took : (i at : ℕ) {p : Past} {x : Source} {s r : Whole} {ev ev' er sc : List ℕ} {a : P.State} → Lines x.ids x.ends → at < length x.ids → Wf x (bufs ev er sc) s → Put (placed Sort.TOKEN i (get_or (0 ∷ x.ends) at 0) (get_or x.ends at 0) ev s.ev) s r ev ev' → Stands p x s (bufs ev er sc) a → Stands p x (with_pos (at + 1) r) (bufs ev' er sc) (P.take i (drop (suc at) x.ids) a)
took i at {p} {x} {s} {r} {ev} {ev'} {er} {sc} {a} l h w u t =
    subst (λ (k : ℕ). Stands p x (with_pos (at + 1) r) (bufs ev' er sc) (P.take i (drop k x.ids) a)) (add-one at)
    (moved (at + 1) (emitted u w t (leaf i (suc (length (drop (at + 1) x.ids)))) tt (λ z. ap₂ (λ (b : List ℕ) (d : ℕ). b ++ event Sort.TOKEN i (get_or (0 ∷ x.ends) at 0) (get_or x.ends at 0) d) (t.means z).written.is (depth_is w (t.means z)) ∙ sym (ap (λ (k : ℕ). buffer x (leaf i (suc (length (drop k x.ids))) ∷ a.out)) (add-one at) ∙ leaf_buffer x at i a.out l h))))

pub ok_took : {q : List ℕ} {s r : Whole} {ev ev' : List ℕ} (n at : ℕ) → Put q s r ev ev' → s.first ≤ at → at < n → Ok n s → Ok n (with_pos (at + 1) r)
ok_took n at u h k w =
    let v = ok_put u w in
    let e = ap (λ (y : Whole). y.first) u.is in
    (record { here = omega arith; since = omega (arith, h, e); far_in = v.0.far_in; want_in = v.0.want_in; want_since = v.0.want_since; unwant_in = v.0.unwant_in; unwant_since = v.0.unwant_since }, v.1, v.2)

-- trivia: one row more
out_yes : (i : ℕ) (is : List ℕ) (o : List Event) → trivial i ≡ true → P.trivia_out (i ∷ is) o ≡ P.trivia_out is (leaf i (suc (length is)) ∷ o)
out_yes i is o t = ap (λ (b : Bool). elim b [ true ↦ P.trivia_out is (leaf i (suc (length is)) ∷ o) | false ↦ o ]) t

out_no : (i : ℕ) (is : List ℕ) (o : List Event) → trivial i ≡ false → P.trivia_out (i ∷ is) o ≡ o
out_no i is o t = ap (λ (b : Bool). elim b [ true ↦ P.trivia_out is (leaf i (suc (length is)) ∷ o) | false ↦ o ]) t

out_more : (r : List ℕ) (o : List Event) → length o ≤ length (P.trivia_out r o)
out_more [] o = le_refl _
out_more (i ∷ is) o = go (trivial i) (out_more is (leaf i (suc (length is)) ∷ o))
  where
    go : (b : Bool) → suc (length o) ≤ length (P.trivia_out is (leaf i (suc (length is)) ∷ o)) → length o ≤ length {A = Event} (elim b as (λ _. List Event) [ true ↦ P.trivia_out is (leaf i (suc (length is)) ∷ o) | false ↦ o ])
    go true h = omega arith
    go false h = le_refl _

-- what is written when trivia are skipped in good order
trivia_ok : (a : P.State) (r : List ℕ) → a.mode ≡ ok → a.rest ≡ r → P.trivia a ≡ P.mark (P.put (P.skip r) (P.trivia_out r a.out) a)
trivia_ok a r e f = λ i. P.mark (P.put (gap (e i) (f i)) (gap_out (e i) (f i) a.out) a)

-- the same with the first row taken up before
pub trivia_step : {p : Past} {x : Source} {s : Whole} {b : Bufs} {a : P.State} (i : ℕ) (is : List ℕ) → Wf x b s → Stands p x s b a → (s.full ≡ 0 → (a.mode ≡ ok) × (a.rest ≡ i ∷ is)) → trivial i ≡ true → Like p x (P.trivia (P.take i is a)) (P.trivia a)
unfolding over_of
trivia_step {p} {x} {s} {b} {a} i is w t h y = like_at t (sticky_trans p x a (P.take i is a) (P.trivia (P.take i is a)) (sticky_take p x i is a) (sticky_trivia p x (P.take i is a))) (sticky_trivia p x a) here
  where
    here : s.full ≡ 0 → Like p x (P.trivia (P.take i is a)) (P.trivia a)
    here z =
        let o : List Event = leaf i (suc (length is)) ∷ a.out in
        let e : P.trivia a ≡ P.mark (P.put (P.skip is) (P.trivia_out is o) a) = trivia_ok a (i ∷ is) (h z).0 (h z).1 ∙ (λ k. P.mark (P.put (skip_yes i is y k) (out_yes i is a.out y k) a)) in
        let v : P.State = P.take i is a in
        let d : P.trivia v ≡ P.mark (P.put (P.skip is) (P.trivia_out is o) v) = trivia_ok v is (h z).0 refl in
        record {
          all = λ q. ap bare d ∙ sym (ap bare e);
          over =
              ap (over_of p x) d
              ∙ thin p.event_room p.error_room (over_of p x a) (used p.limits x (o, a.chosen)) (used p.limits x (P.trivia_out is o, a.chosen)) (omega (arith, out_more is o)) (λ q. (fits w (t.means z)).1)
              ∙ sym (ap (over_of p x) e);
        }

-- no trivia at hand: only a moment more
pub trivia_none : {p : Past} {x : Source} {s : Whole} {b : Bufs} {a : P.State} → Wf x b s → Stands p x s b a → (s.full ≡ 0 → P.trivia a ≡ P.mark a) → Like p x a (P.trivia a)
trivia_none {p} {x} {s} {a = a} w t e = like_at t (λ n. refl) (sticky_trivia p x a) (λ z. record { all = λ q. sym (ap bare (e z)); over = sym (ap (over_of p x) (e z) ∙ still w t) })

pub trivia_stop : (i : ℕ) (is : List ℕ) (a : P.State) → a.mode ≡ ok → a.rest ≡ i ∷ is → trivial i ≡ false → P.trivia a ≡ P.mark a
trivia_stop i is a m r t = trivia_ok a (i ∷ is) m r ∙ (λ k. P.mark (P.put ((skip_no i is t ∙ sym r) k) (out_no i is a.out t k) a))

pub trivia_end : (a : P.State) → a.mode ≡ ok → a.rest ≡ [] → P.trivia a ≡ P.mark a
trivia_end a m r = trivia_ok a [] m r ∙ (λ k. P.mark (P.put (sym r k) a.out a))

pub trivia_not : (n : ℕ) (a : P.State) → (n ≡ 0 → ⊥) → a.mode ≡ mode_of n → P.trivia a ≡ P.mark a
trivia_not zero a h m = absurd (h refl)
trivia_not (suc zero) a h m = λ i. P.mark (P.put (gap (m i) a.rest) (gap_out (m i) a.rest a.out) a)
trivia_not (suc (suc zero)) a h m = λ i. P.mark (P.put (gap (m i) a.rest) (gap_out (m i) a.rest a.out) a)
trivia_not (suc (suc (suc n))) a h m = λ i. P.mark (P.put (gap (m i) a.rest) (gap_out (m i) a.rest a.out) a)

-- a loop that takes up rows, from s₀ to s; g is the whole of it in the definition, and from any place on the rest of it
pub record Taking (g : P.Reader) (x : Source) (s₀ s : Whole) (ev₀ ev : List ℕ) : Type 0 where
  pub does : (er sc : List ℕ) → Wf x (bufs ev₀ er sc) s₀ → (p : Past) (a : P.State) → Stands p x s₀ (bufs ev₀ er sc) a → (a' : P.State) × Stands p x s (bufs ev er sc) a' × Like p x (g a') (g a)
  pub wf : (er sc : List ℕ) → Wf x (bufs ev₀ er sc) s₀ → Wf x (bufs ev er sc) s
  pub lines : Lines x.ids x.ends
  pub ok : Ok (length x.ids) s
  pub fits : s.evcap ≤ length ev
  pub room : s.full ≡ 0 → s₀.full ≡ 0
  pub mode : s.mode ≡ s₀.mode
  pub first : s.first ≡ s₀.first
  pub ahead : s₀.pos ≤ s.pos
  pub grows : s₀.ev ≤ s.ev
  pub kept : take s₀.ev ev ≡ take s₀.ev ev₀
  pub long : length ev ≡ length ev₀

pub taking : (g : P.Reader) {x : Source} {s : Whole} {ev : List ℕ} → Lines x.ids x.ends → Ok (length x.ids) s → s.evcap ≤ length ev → Taking g x s s ev ev
taking g l w h =
    record {
      does = λ er sc y p a t. (a, t, like_same refl);
      wf = λ er sc y. y;
      lines = l;
      ok = w;
      fits = h;
      room = λ z. z;
      mode = refl;
      first = refl;
      ahead = le_refl _;
      grows = le_refl _;
      kept = refl;
      long = refl;
    }

module _ {g : P.Reader} {x : Source} {s₀ s : Whole} {ev₀ ev : List ℕ} (k : Taking g x s₀ s ev₀ ev) where
  -- a row is taken up as kind i, and g goes on behind it
  pub takes : (i st : ℕ) {r : Whole} {ev' : List ℕ} → s.pos < length x.ids → st ≡ get_or (0 ∷ x.ends) s.pos 0 → Put (placed Sort.TOKEN i st (get_or x.ends s.pos 0) ev s.ev) s r ev ev'
      → ((er sc : List ℕ) (p : Past) (a : P.State) → Wf x (bufs ev er sc) s → Stands p x s (bufs ev er sc) a → Like p x (g (P.take i (drop (suc s.pos) x.ids) a)) (g a))
      → Taking g x s₀ (with_pos (s.pos + 1) r) ev₀ ev'
  takes i st {r} {ev'} h q v step =
      let u = subst (λ (j : ℕ). Put (placed Sort.TOKEN i j (get_or x.ends s.pos 0) ev s.ev) s r ev ev') q v in
      let caps = caps_put u in
      record {
        does = λ er sc w p a t.
            let d = k.does er sc w p a t in
            let v = k.wf er sc w in
            (P.take i (drop (suc s.pos) x.ids) d.0, took i s.pos k.lines h v u d.1, like_trans (step er sc p d.0 v d.1) d.2);
        wf = λ er sc w. let v = wf_put u x er sc (k.wf er sc w) in (ok_took (length x.ids) s.pos u k.ok.0.since h k.ok, v.1);
        lines = k.lines;
        ok = ok_took (length x.ids) s.pos u k.ok.0.since h k.ok;
        fits = omega (arith, k.fits, caps.0, u.long);
        room = λ z. k.room (u.room z);
        mode = ap (λ (y : Whole). y.mode) u.is ∙ k.mode;
        first = ap (λ (y : Whole). y.first) u.is ∙ k.first;
        ahead = omega (arith, k.ahead);
        grows = omega (arith, k.grows, u.grows);
        kept = sym (take-take s₀.ev s.ev ev' k.grows) ∙ ap (take s₀.ev) u.kept ∙ take-take s₀.ev s.ev ev k.grows ∙ k.kept;
        long = u.long ∙ k.long;
      }

  -- nothing is left of g
  pub taken : ((er sc : List ℕ) (p : Past) (a : P.State) → Wf x (bufs ev er sc) s → Stands p x s (bufs ev er sc) a → Like p x a (g a)) → Events g x s₀ s ev₀ ev
  taken rest =
      record {
        did = λ er sc w.
            let v = k.wf er sc w in
            record {
              does = λ p a t. let d = k.does er sc w p a t in alike (like_trans (rest er sc p d.0 v d.1) d.2) d.1;
              wf = v;
              room = k.room;
              first = k.first;
              ahead = k.ahead;
              grows = k.grows;
              kept = k.kept;
            };
        ok = k.ok;
        fits = k.fits;
        first = k.first;
        grows = k.grows;
      }

-- trivia in a row: one is taken up, none is left, or none are skipped
module _ {x : Source} {s₀ s : Whole} {ev₀ ev : List ℕ} (k : Taking P.trivia x s₀ s ev₀ ev) (good : s₀.mode ≡ 0) where
  pub trivia_on : (st : ℕ) {r : Whole} {ev' : List ℕ} → s.pos < length x.ids → trivial (get_or x.ids s.pos 0) ≡ true → st ≡ get_or (0 ∷ x.ends) s.pos 0 → Put (placed Sort.TOKEN (get_or x.ids s.pos 0) st (get_or x.ends s.pos 0) ev s.ev) s r ev ev' → Taking P.trivia x s₀ (with_pos (s.pos + 1) r) ev₀ ev'
  trivia_on st h y q u =
      takes k (get_or x.ids s.pos 0) st h q u
      (λ er sc p a w t. trivia_step (get_or x.ids s.pos 0) (drop (suc s.pos) x.ids) w t (λ z. ((t.means z).mode ∙ ap mode_of (k.mode ∙ good), (t.means z).rest ∙ drop-cons x.ids s.pos 0 h)) y)

  pub trivia_over : s.pos < length x.ids → trivial (get_or x.ids s.pos 0) ≡ false → Events P.trivia x s₀ s ev₀ ev
  trivia_over h y = taken k (λ er sc p a w t. trivia_none w t (λ z. trivia_stop (get_or x.ids s.pos 0) (drop (suc s.pos) x.ids) a ((t.means z).mode ∙ ap mode_of (k.mode ∙ good)) ((t.means z).rest ∙ drop-cons x.ids s.pos 0 h) y))

  pub trivia_out : length x.ids ≤ s.pos → Events P.trivia x s₀ s ev₀ ev
  trivia_out h = taken k (λ er sc p a w t. trivia_none w t (λ z. trivia_end a ((t.means z).mode ∙ ap mode_of (k.mode ∙ good)) ((t.means z).rest ∙ drop_of_length-le x.ids h)))

pub trivia_idle : {x : Source} {s : Whole} {ev : List ℕ} → Ok (length x.ids) s → s.evcap ≤ length ev → (s.mode ≡ 0 → ⊥) → Events P.trivia x s s ev ev
trivia_idle {x} {s} {ev} w h n = record { did = λ er sc v. idle v (λ p a t. trivia_none v t (λ z. trivia_not s.mode a n (t.means z).mode)); ok = w; fits = h; first = refl; grows = le_refl _ }

-- rows are taken up from s₀ on, whatever is noted
pub record Skipping (g : P.Reader) (ids ends : List ℕ) (s₀ s : State) (ev₀ ev : List ℕ) : Type 0 where
  pub of : (bytes : List ℕ) (n : Notes) → Ok (length ids) (whole s₀ n) → Taking g (source bytes ids ends) (whole s₀ n) (whole s n) ev₀ ev
  pub lines : Lines ids ends
  pub fits : Fits s ev
  pub mode : s.mode ≡ s₀.mode
  pub long : length ev ≡ length ev₀

pub skipping : (g : P.Reader) {ids ends : List ℕ} (s : State) (ev : List ℕ) → Lines ids ends → Fits s ev → Skipping g ids ends s s ev ev
skipping g s ev w h = record { of = λ bytes n v. taking g w v h.1; lines = w; fits = h; mode = refl; long = refl }

pub fits_put : {q : List ℕ} (s r : State) {ev ev' : List ℕ} → Fits s ev → ((n : Notes) → Put q (whole s n) (whole r n) ev ev') → Fits r ev'
fits_put s r h u = (omega (arith, (u fresh).fits, (caps_put (u fresh)).0), omega (arith, h.1, (caps_put (u fresh)).0, (u fresh).long))

-- one row more
pub skips : {g : P.Reader} {ids ends q : List ℕ} {s₀ s : State} (r : State) (p : ℕ) {ev₀ ev ev' : List ℕ} → Skipping g ids ends s₀ s ev₀ ev → ((n : Notes) → Put q (whole s n) (whole r n) ev ev')
    → ((bytes : List ℕ) (n : Notes) → Taking g (source bytes ids ends) (whole s₀ n) (whole s n) ev₀ ev → Taking g (source bytes ids ends) (whole s₀ n) (whole (on_to p r) n) ev₀ ev') → Skipping g ids ends s₀ (on_to p r) ev₀ ev'
skips {s = s} r p k u f = record { of = λ bytes n w. f bytes n (k.of bytes n w); lines = k.lines; fits = fits_put s r k.fits u; mode = same_mode (ap (λ (y : Whole). y.mode) (u fresh).is) ∙ k.mode; long = (u fresh).long ∙ k.long }

pub ok_none : (n : ℕ) (s : State) → s.pos ≤ n → s.ev ≤ s.evcap → Ok n (whole s fresh)
ok_none n s h k = (
  record { here = h; since = omega arith; far_in = omega arith; want_in = omega arith; want_since = λ z. absurd (z refl); unwant_in = omega arith; unwant_since = λ z. absurd (z refl) },
  none_named (replicate 58 0) refl,
  record { events = k; since = le_refl _; errors = le_refl _; numbered = omega arith },
)
