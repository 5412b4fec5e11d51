-- Nodes: fuel taken, begun, closed. Assumes nothing.
use Prim.Native.Nat.{ℕ, zero, suc, ◌+◌, ◌-◌, ◌*◌, ◌≤◌, ◌<◌}
use mathlib.Core.Path.{◌≡◌, refl, sym, ap, ap₂, subst, ◌∙◌}
use mathlib.Core.List.{List, ◌∷◌, ◌++◌}
use mathlib.Core.Bool.{Bool, true, false}
use native.Mathlib.Nat.{le_refl}
use native.Mathlib.Omega.{arith}
use native.Mathlib.Numerals.{sub-one}
use native.Mathlib.Decide.{ℕ_discrete}
use borrow.Author.Tests.{ne_eqb, eq-eqb}
use lib.Dec.{eqb}
use lib.ListN.{length, get_or, take, set, length-set, length-drop}
use lib.Seq.{take-take, take-set-lt, take-set-le}
use Rattle.shapes.specs.Sort as Sort
use Rattle.shapes.specs.Shapes.{EVENT, KIND, END, DEPTH, event}
use Rattle.definition.specs.Run as P
use Rattle.definition.specs.Run.{opened, closed, Mode, ok, stopped, Stop, spent, deep}
use Rattle.definition.specs.Render.{Source, starts_at, ends_at, span_end}
use Rattle.definition.specs.Buffer.{height, cell, placed, patch, buffer}
use Rattle.definition.specs.Open.{Open}
use Rattle.definition.proofs.Buffer.{buffer_opened, buffer_shut, begin_depth}
use Rattle.notes.proofs.Rooms.{ev_count}
use Rattle.notes.specs.Whole.{Whole}
use Rattle.notes.specs.Change.{with_mode, with_fuel}
use Rattle.notes.specs.Means.{Bufs, bufs, Past, Means, Lines, mode_of, over_of}
use Rattle.notes.specs.Did.{Ok, Wf, Events, Plain, Put, Began, Shuts, shut_a}
use Rattle.notes.proofs.Lists.{get_d_any, get_d_cons}
use Rattle.notes.proofs.Core.{sticky_mark, bare, Like, does_like, then, depth_is, writes, emitted, over_drafts, ok_put, wf_put, caps_put}
use Rattle.steps.proofs.Taken.{row, start_is}

-- fuel
halted_now : (w : Stop) (m : ℕ) → m < 2 → P.halted w (mode_of m) ≡ stopped w
halted_now w zero h = refl
halted_now w (suc zero) h = refl
halted_now w (suc (suc m)) h = absurd (omega arith)

halted_before : (w : Stop) (m : ℕ) → 2 ≤ m → P.halted w (mode_of m) ≡ mode_of m
halted_before w zero h = absurd (omega arith)
halted_before w (suc zero) h = absurd (omega arith)
halted_before w (suc (suc zero)) h = refl
halted_before w (suc (suc (suc m))) h = refl

charge_none : (d : ℕ) (a : P.State) → a.fuel ≡ 0 → P.charge d a.fuel a ≡ P.halt spent a
charge_none d a z = ap (λ (f : ℕ). P.charge d f a) z

charge_deep : (d : ℕ) (a : P.State) (n : ℕ) → a.fuel ≡ n → (n ≡ 0 → ⊥) → d ≡ 0 → P.charge d a.fuel a ≡ P.halt deep (P.pay (n - 1) a)
charge_deep d a zero e h z = absurd (h refl)
charge_deep d a (suc n) e h z = ap₂ (λ (k f : ℕ). P.charge k f a) z e ∙ ap (λ (k : ℕ). P.halt deep (P.pay k a)) (sym (sub-one (suc n)))

charge_some : (d : ℕ) (a : P.State) (n : ℕ) → a.fuel ≡ n → (n ≡ 0 → ⊥) → (d ≡ 0 → ⊥) → P.charge d a.fuel a ≡ P.pay (n - 1) a
charge_some zero a n e h z = absurd (z refl)
charge_some (suc d) a zero e h z = absurd (h refl)
charge_some (suc d) a (suc n) e h z = ap (λ (f : ℕ). P.charge (suc d) f a) e ∙ ap (λ (k : ℕ). P.pay k a) (sym (sub-one (suc n)))

charge_rest : (d f : ℕ) (a : P.State) → (P.charge d f a).rest ≡ a.rest
charge_rest zero zero a = refl
charge_rest (suc d) zero a = refl
charge_rest zero (suc f) a = refl
charge_rest (suc d) (suc f) a = refl

charge_drafts : (d f : ℕ) (a : P.State) → (P.charge d f a).drafts ≡ a.drafts
charge_drafts zero zero a = refl
charge_drafts (suc d) zero a = refl
charge_drafts zero (suc f) a = refl
charge_drafts (suc d) (suc f) a = refl

-- fuel and mode change, and nothing else
paid : (f m : ℕ) (k : Mode) {p : Past} {x : Source} {s : Whole} {b : Bufs} {a : P.State} → k ≡ mode_of m → Means p x s b a → Means p x (with_fuel f (with_mode m s)) b (P.turn k (P.pay f a))
paid f m k h t = record { rest = t.rest; mode = h; fuel = refl; written = t.written; want = t.want; unwant = t.unwant; chosen = t.chosen; cache = t.cache }

module _ (d : ℕ) (x : Source) (s : Whole) (w : Ok (length x.ids) s) where
  abbrev Charged : Whole → Type 0
  Charged r = Plain (λ a. P.charge d a.fuel a) x s r

  charged : (f m : ℕ) (k : Mode → Mode) → k (mode_of s.mode) ≡ mode_of m → ((a : P.State) → a.fuel ≡ s.fuel → P.charge d a.fuel a ≡ P.turn (k a.mode) (P.pay f a)) → Charged (with_fuel f (with_mode m s))
  charged f m k q g =
      record {
        did = λ b v.
            record {
              does = λ p a t.
                  record {
                    over = t.over ∙ over_drafts p x a (P.charge d a.fuel a) (sym (charge_drafts d a.fuel a));
                    means = λ z. let u = t.means z in subst (λ (c : P.State). Means p x (with_fuel f (with_mode m s)) b c) (sym (g a u.fuel)) (paid f m (k a.mode) (ap k u.mode ∙ q) u);
                  };
              wf = v;
              room = λ z. z;
              first = refl;
              ahead = le_refl _;
              grows = le_refl _;
              kept = refl;
            };
        ok = w;
        evcap = refl;
        ercap = refl;
        first = refl;
        place = refl;
        still = refl;
      }

  pub charges_none : s.fuel ≡ 0 → s.mode < 2 → Charged (with_mode 2 s)
  charges_none z m = charged s.fuel 2 (P.halted spent) (halted_now spent s.mode m) (λ a e. charge_none d a (e ∙ z) ∙ ap (λ (f : ℕ). P.halt spent (P.pay f a)) e)

  pub charges_none_still : s.fuel ≡ 0 → 2 ≤ s.mode → Charged s
  charges_none_still z m = charged s.fuel s.mode (P.halted spent) (halted_before spent s.mode m) (λ a e. charge_none d a (e ∙ z) ∙ ap (λ (f : ℕ). P.halt spent (P.pay f a)) e)

  pub charges_deep : (s.fuel ≡ 0 → ⊥) → d ≡ 0 → s.mode < 2 → Charged (with_fuel (s.fuel - 1) (with_mode 3 s))
  charges_deep h z m = charged (s.fuel - 1) 3 (P.halted deep) (halted_now deep s.mode m) (λ a e. charge_deep d a s.fuel e h z)

  pub charges_deep_still : (s.fuel ≡ 0 → ⊥) → d ≡ 0 → 2 ≤ s.mode → Charged (with_fuel (s.fuel - 1) s)
  charges_deep_still h z m = charged (s.fuel - 1) s.mode (P.halted deep) (halted_before deep s.mode m) (λ a e. charge_deep d a s.fuel e h z)

  pub charges_some : (s.fuel ≡ 0 → ⊥) → (d ≡ 0 → ⊥) → Charged (with_fuel (s.fuel - 1) s)
  charges_some h z = charged (s.fuel - 1) s.mode (λ m. m) refl (λ a e. charge_some d a s.fuel e h z)

-- a node begins
opened_buffer : {p : Past} {x : Source} {s : Whole} {b : Bufs} (st : ℕ) (a : P.State) → Lines x.ids x.ends → st ≡ get_or (0 ∷ x.ends) s.pos 0 → s.pos ≤ length x.ids → Wf x b s → Means p x s b a → buffer x (opened (length a.rest) ∷ a.out) ≡ buffer x a.out ++ placed Sort.BEGIN 0 st st b.events s.ev
opened_buffer {p} {x} {s} st a l q h w m =
    let e : length x.ids - length a.rest ≡ s.pos = ap (λ (r : List ℕ). length x.ids - length r) m.rest ∙ row s.pos x.ids h in
    let z : starts_at x (length a.rest) ≡ st = start_is x (length a.rest) s.pos e (omega (arith, l.level)) ∙ sym q in
    buffer_opened x (length a.rest) a.out ∙ ap₂ (λ (i d : ℕ). buffer x a.out ++ event Sort.BEGIN 0 i i d) z (sym (depth_is w m))

begin_like : (d : ℕ) (p : Past) (x : Source) (a : P.State) → let c : P.State = P.charge d (P.trivia a).fuel (P.trivia a) in Like p x (P.emit (opened (length c.rest)) c) (P.begin d a)
unfolding over_of
begin_like d p x a =
    let t : P.State = P.trivia a in
    let c : P.State = P.charge d t.fuel t in
    let e = charge_rest d t.fuel t in
    record {
      all = λ z. ap (λ (l : List ℕ). bare (P.emit (opened (length l)) c)) e;
      over = ap (λ (l : List ℕ). over_of p x (P.emit (opened (length l)) c)) e;
    }

pub begins : (d st : ℕ) {x : Source} {s s₁ s₂ r : Whole} {ev ev₁ ev₂ : List ℕ} → Lines x.ids x.ends → Events P.trivia x s s₁ ev ev₁ → Plain (λ a. P.charge d a.fuel a) x s₁ s₂ → st ≡ get_or (0 ∷ x.ends) s₂.pos 0 → Put (placed Sort.BEGIN 0 st st ev₁ s₂.ev) s₂ r ev₁ ev₂ → Began d x s r ev ev₂
begins d st {x} {s} {s₁} {s₂} {r} {ev} {ev₁} {ev₂} l t c q u =
    let g : s.ev ≤ s₂.ev = omega (arith, t.grows, c.still) in
    record {
      events =
          record {
            did = λ er sc w.
                let T = t.did er sc w in
                let C = c.did (bufs ev₁ er sc) T.wf in
                does_like (P.begin d) (λ p a. begin_like d p x a)
                (then (then T C) (writes u (λ a. opened (length a.rest)) (λ a. tt) C.wf (λ p a m. opened_buffer st a l q c.ok.0.here C.wf m)));
            ok = ok_put u c.ok;
            fits = omega (arith, t.fits, c.evcap, (caps_put u).0, u.long);
            first = ap (λ (y : Whole). y.first) u.is ∙ c.first ∙ t.first;
            grows = omega (arith, u.grows);
          };
      opens = λ z. omega (arith, u.more z);
    }

-- where a node ends: where the row behind it begins
pub span : (x : Source) (from to : ℕ) → Lines x.ids x.ends → from ≤ to → to ≤ length x.ids → get_or (0 ∷ x.ends) to 0 ≡ span_end x (length x.ids - from) (length x.ids - to)
span x from to l h k = go (ℕ_discrete from to)
  where
    n : ℕ
    n = length x.ids

    pick : Bool → ℕ
    pick b = elim b as (λ _. ℕ) [ true ↦ starts_at x (n - from) | false ↦ ends_at x (suc (n - to)) ]

    go : Dec (from ≡ to) → get_or (0 ∷ x.ends) to 0 ≡ pick (eqb (n - from) (n - to))
    go (yes e) =
        let i : n - (n - from) ≡ to = omega arith in
        sym (start_is x (n - from) to i (omega (arith, l.level))) ∙ ap pick (sym (eq-eqb (n - from) (n - to) (ap (λ (j : ℕ). n - j) e)))
    go (no e) =
        let i : n - suc (n - to) ≡ to - 1 = omega (arith, e) in
        sym (get_d_cons 0 x.ends to (λ z. e (omega arith))) ∙ get_d_any x.ends (to - 1) 0 (length x.bytes) (omega (arith, l.level, e)) ∙ ap (λ (j : ℕ). get_or x.ends j (length x.bytes)) (sym i)
        ∙ ap pick (sym (ne_eqb (n - from) (n - to) (λ z. e (omega arith))))

take_patch : (k p a e : ℕ) (l : List ℕ) → EVENT ≤ p → p ≤ k → take k (patch p a e l) ≡ patch p a e (take k l)
take_patch k p a e l h g = take-set-lt k (set l (p - EVENT + KIND) a) (p - EVENT + END) e (omega arith) ∙ ap (λ (t : List ℕ). set t (p - EVENT + END) e) (take-set-lt k l (p - EVENT + KIND) a (omega arith))

keep_patch : (k p a e : ℕ) (l : List ℕ) → k + EVENT ≤ p → take k (patch p a e l) ≡ take k l
keep_patch k p a e l h = take-set-le k (set l (p - EVENT + KIND) a) (p - EVENT + END) e (omega arith) ∙ take-set-le k l (p - EVENT + KIND) a (omega arith)

-- a node is closed
module _ (kind from at st en d : ℕ) {x : Source} {s r : Whole} {ev ev' : List ℕ} (l : Lines x.ids x.ends) (q : st ≡ get_or (0 ∷ x.ends) from 0) (t : en ≡ get_or (0 ∷ x.ends) s.pos 0)
    (h : from ≤ s.pos) (z : s.full ≡ 0) (low : EVENT ≤ at) (high : at ≤ s.ev) (v : d ≡ get_or ev (at - EVENT + DEPTH) 0) (u : Put (event Sort.END kind st en d) s r (patch at kind en ev) ev') where
  shut_buffer : {p : Past} {er sc : List ℕ} (a : P.State) → Wf x (bufs ev er sc) s → Open at a.out → Means p x s (bufs ev er sc) a → take s.ev (patch at kind en ev) ++ event Sort.END kind st en d ≡ buffer x (closed kind (length x.ids - from) (length a.rest) ∷ a.out)
  shut_buffer a f w m =
      let k : s.pos ≤ length x.ids = f.0.0.here in
      let n : s.ev ≡ EVENT * length a.out = omega (arith, ev_count f m) in
      let e₃ : d ≡ cell (height a.out - 1) = v ∙ begin_depth x ev at a.out w (ap (λ (i : ℕ). take i ev) (sym n) ∙ m.written.is) in
      let rest : length a.rest ≡ length x.ids - s.pos = ap length m.rest ∙ length-drop s.pos x.ids in
      let back : length x.ids - (length x.ids - from) ≡ from = omega arith in
      let e₁ : en ≡ span_end x (length x.ids - from) (length a.rest) = t ∙ span x from s.pos l h k ∙ ap (span_end x (length x.ids - from)) (sym rest) in
      let e₂ : st ≡ starts_at x (length x.ids - from) = q ∙ sym (start_is x (length x.ids - from) from back (omega (arith, l.level))) in
      ap (λ (b : List ℕ). b ++ event Sort.END kind st en d) (take_patch s.ev at kind en ev low high)
      ∙ (λ i. patch at kind (e₁ i) (m.written.is i) ++ event Sort.END kind (e₂ i) (e₁ i) (e₃ i))
      ∙ sym (buffer_shut x kind (length x.ids - from) (length a.rest) at a.out w)

  pub shuts : (er sc : List ℕ) → Wf x (bufs ev er sc) s → Shuts (shut_a kind (length x.ids - from)) at x s r (bufs ev er sc) (bufs ev' er sc)
  shuts er sc w =
      record {
        does = λ p a o m. emitted u w m (closed kind (length x.ids - from) (length a.rest)) tt (λ y. shut_buffer a w (o z) (m.means z));
        wf = wf_put u x er sc (w.0, record { events = simp length-set w.1.events; errors = w.1.errors; scratch = w.1.scratch });
        room = u.room;
        first = ap (λ (y : Whole). y.first) u.is;
        ahead = omega (arith, ap (λ (y : Whole). y.pos) u.is);
        grows = u.grows;
        kept = λ k i g. sym (take-take k s.ev ev' i) ∙ ap (take k) u.kept ∙ take-take k s.ev (patch at kind en ev) i ∙ keep_patch k at kind en ev (g z);
      }

-- where there was no room before
pub shuts_not : (kind n at : ℕ) {x : Source} {s : Whole} {b : Bufs} → (s.full ≡ 0 → ⊥) → Wf x b s → Shuts (shut_a kind n) at x s s b b
unfolding over_of
shuts_not kind n at {x} {s} k w =
    record {
      does = λ p a o t.
          let v : over_of p x a ≡ 0 → ⊥ = λ z. k (t.over ∙ z) in
          record { over = t.over ∙ sym (sticky_mark p x (P.put a.rest (closed kind n (length a.rest) ∷ a.out) a) v); means = λ z. absurd (k z) };
      wf = w;
      room = λ z. z;
      first = refl;
      ahead = le_refl _;
      grows = le_refl _;
      kept = λ i h g. refl;
    }
