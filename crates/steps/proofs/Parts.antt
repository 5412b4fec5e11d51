-- Laws on any step: going back, optional parts, alternatives, repetitions, nodes. Assumes nothing.
use Prim.Native.Nat.{ℕ, zero, suc, ◌+◌, ◌-◌, ◌≤◌, ◌<◌}
use mathlib.Core.Path.{◌≡◌, refl, sym, ap, subst, ◌∙◌}
use mathlib.Core.Bool.{Bool}
use mathlib.Core.Logic.{◌⊎◌, inl, inr}
use native.Mathlib.Nat.{le_refl, le_trans, le_of_eq}
use native.Mathlib.Omega.{arith}
use native.Mathlib.Numerals.{add-one, sub-one}
use native.Mathlib.Decide.{ℕ_discrete}
use lib.ListN.{length, take, drop, length-drop}
use lib.Seq.{take-take}
use Rattle.shapes.specs.Shapes.{EVENT}
use Rattle.definition.specs.Run as P
use Rattle.definition.specs.Run.{Mode, ok, failed, stopped}
use Rattle.definition.specs.Open.{Adds, Open}
use Rattle.definition.specs.Render.{Source}
use Rattle.definition.proofs.Buffer.{begun_open}
use Rattle.notes.specs.Whole.{Whole}
use Rattle.notes.specs.Change.{with_mode, mark_of, gone}
use Rattle.notes.specs.Means.{Bufs, Past, Means, Stands, mode_of, over_of}
use Rattle.notes.specs.Did.{Ok, Wf, Did, Shuts}
use Rattle.notes.proofs.Rooms.{ev_count}
use Rattle.notes.proofs.Core.{Like, like_same, like_trans, like_at, Sticky, alike, idle, then}
use Rattle.notes.proofs.Sticky.{Sticks, sticky_trans, sticky, sticky_or_else, sticky_go_on, sticky_past, sticky_back, back_over, sticky_finish}
use Rattle.steps.proofs.Next.{if_ok_yes, if_ok_no}

-- a step in two parts is f: wherever the state between them is meant, and a room that was exceeded before stays the one
pub retold : {g h : P.Reader} (f : P.Reader) {x : Source} {s q r : Whole} {b b₁ b₂ : Bufs} → ((p : Past) → Sticks p x g) → ((p : Past) → Sticks p x h) → ((p : Past) → Sticks p x f)
    → ((p : Past) (a : P.State) → Means p x s b a → Sticky p x (g a) (f a)) → ((p : Past) (a : P.State) → Stands p x s b a → s.full ≡ 0 → q.full ≡ 0 → h (g a) ≡ f a)
    → Did g x s q b b₁ → Did h x q r b₁ b₂ → Did f x s r b b₂
retold {g} {h} f {x} {s} {q} {r} {b} {b₁} {b₂} G H F K e y z =
    let D = then y z in
    record { does = λ p a t. alike (like p a t (ℕ_discrete s.full 0) (ℕ_discrete q.full 0)) (D.does p a t); wf = D.wf; room = D.room; first = D.first; ahead = D.ahead; grows = D.grows; kept = D.kept }
  where
    like : (p : Past) (a : P.State) → Stands p x s b a → Dec (s.full ≡ 0) → Dec (q.full ≡ 0) → Like p x (h (g a)) (f a)
    like p a t (no n) d = like_at t (sticky_trans p x a (g a) (h (g a)) (G p a) (H p (g a))) (F p a) (λ i. absurd (n i))
    like p a t (yes i) (no n) = like_at (y.does p a t) (H p (g a)) (K p a (t.means i)) (λ j. absurd (n j))
    like p a t (yes i) (yes j) = like_same (e p a t i j)

-- nothing is done where the state is not in good order
pub not_ok : (f : P.Reader) {x : Source} {s : Whole} {b : Bufs} → ((p : Past) → Sticks p x (P.if_ok f)) → Wf x b s → (s.mode ≡ 0 → ⊥) → Did (P.if_ok f) x s s b b
not_ok f {x} {s} F w n = idle w (λ p a t. like_at t (λ i. refl) (F p a) (λ z. like_same (sym (if_ok_no (f a) s.mode a n (t.means z).mode))))

-- a mode is set
pub turned : (n : ℕ) (m : Mode) {f : P.Reader} {x : Source} {s r : Whole} {b b' : Bufs} → m ≡ mode_of n → Did f x s r b b' → Did (λ a. P.turn m (f a)) x s (with_mode n r) b b'
unfolding over_of
turned n m e y =
    record {
      does = λ p a t. let u = y.does p a t in record { over = u.over; means = λ z. let v = u.means z in record { rest = v.rest; mode = e; fuel = v.fuel; written = v.written; want = v.want; unwant = v.unwant; chosen = v.chosen; cache = v.cache } };
      wf = y.wf;
      room = y.room;
      first = y.first;
      ahead = y.ahead;
      grows = y.grows;
      kept = y.kept;
    }

pub gone_ok : {n : ℕ} (s r : Whole) → Ok n s → r.first ≡ s.first → s.ev ≤ r.ev → Ok n r → Ok n (gone (mark_of s) r)
gone_ok s r w first grows W = (
  record { here = w.0.here; since = omega (arith, first, w.0.since); far_in = W.0.far_in; want_in = W.0.want_in; want_since = W.0.want_since; unwant_in = W.0.unwant_in; unwant_since = W.0.unwant_since },
  W.1,
  record { events = le_trans grows W.2.events; since = W.2.since; errors = W.2.errors; numbered = W.2.numbered },
)

-- back to where s was, from r, which f reached; a mode may be set
module _ {f : P.Reader} {x : Source} {s r : Whole} {b b' : Bufs} (w : Wf x b s) (y : Did f x s r b b') where
  pub gone_wf : Wf x b' (gone (mark_of s) r)
  gone_wf = (gone_ok s r w.0 y.first y.grows y.wf.0, y.wf.1)

  pub returned : Did (λ a. P.back a (f a)) x s (gone (mark_of s) r) b b'
  unfolding over_of
  returned =
      record {
        does = λ p a t.
            let u = y.does p a t in
            record {
              over = u.over;
              means = λ z.
                  let v = u.means z in
                  let o = t.means (y.room z) in
                  record { rest = o.rest; mode = v.mode; fuel = v.fuel; written = record { is = y.kept ∙ o.written.is; past = o.written.past; room = v.written.room }; want = v.want; unwant = v.unwant; chosen = v.chosen; cache = v.cache };
            };
        wf = gone_wf;
        room = y.room;
        first = y.first;
        ahead = le_refl _;
        grows = le_refl _;
        kept = y.kept;
      }

  pub went : (n : ℕ) (m : Mode) → m ≡ mode_of n → Did (λ a. P.turn m (P.back a (f a))) x s (with_mode n (gone (mark_of s) r)) b b'
  went n m e = turned n m e returned

-- alternatives
or_else_ok : (g : P.Reader) (a t : P.State) (n : ℕ) → t.mode ≡ mode_of n → (n ≡ 1 → ⊥) → P.or_else g a t ≡ t
or_else_ok g a t zero e h = λ i. elim (e i) [ ok ↦ t | failed ↦ g (P.turn ok (P.back a t)) | stopped w ↦ t ]
or_else_ok g a t (suc zero) e h = absurd (h refl)
or_else_ok g a t (suc (suc zero)) e h = λ i. elim (e i) [ ok ↦ t | failed ↦ g (P.turn ok (P.back a t)) | stopped w ↦ t ]
or_else_ok g a t (suc (suc (suc n))) e h = λ i. elim (e i) [ ok ↦ t | failed ↦ g (P.turn ok (P.back a t)) | stopped w ↦ t ]

or_else_back : (g : P.Reader) (a t : P.State) → t.mode ≡ failed → P.or_else g a t ≡ g (P.turn ok (P.back a t))
or_else_back g a t e = λ i. elim (e i) [ ok ↦ t | failed ↦ g (P.turn ok (P.back a t)) | stopped w ↦ t ]

module _ (f g : P.Reader) {x : Source} {s r : Whole} {b b' : Bufs} (F : (p : Past) → Sticks p x f) (G : (p : Past) → Sticks p x g) (good : s.mode ≡ 0) (y : Did (λ a. f (P.trivia a)) x s r b b') where
  alts_is : (p : Past) (a : P.State) → Means p x s b a → P.alts f g a ≡ P.or_else g a (f (P.trivia a))
  alts_is p a m = if_ok_yes _ a (m.mode ∙ ap mode_of good)

  sticky_here : (p : Past) (a : P.State) → Means p x s b a → Sticky p x (f (P.trivia a)) (P.alts f g a)
  sticky_here p a m = subst (λ (c : P.State). Sticky p x (f (P.trivia a)) c) (sym (alts_is p a m)) (sticky_or_else p x g (G p) a (f (P.trivia a)))

  sticky_both : (p : Past) → Sticks p x (P.alts f g)
  sticky_both p = (sticky p x).at_alt f g (F p) (G p)

  -- the first part did not fail
  pub alt_on : (r.mode ≡ 1 → ⊥) → Did (P.alts f g) x s r b b'
  alt_on h =
      retold (P.alts f g) (λ p. sticky_past p x f (F p)) (λ p a n. refl) sticky_both sticky_here
      (λ p a t i j. sym (alts_is p a (t.means i) ∙ or_else_ok g a (f (P.trivia a)) r.mode ((y.does p a t).means j).mode h)) y (idle y.wf (λ p a t. like_same refl))

  -- it failed, and the second part is taken from the mark
  pub alt_next : Wf x b s → r.mode ≡ 1 → {q : Whole} {b₂ : Bufs} → Did g x (with_mode 0 (gone (mark_of s) r)) q b' b₂ → Did (P.alts f g) x s q b b₂
  unfolding over_of
  alt_next w h z =
      retold (P.alts f g) (λ p. sticky_back p x ok (λ a. f (P.trivia a)) (sticky_past p x f (F p))) G sticky_both sticky_here
      (λ p a t i j. sym (alts_is p a (t.means i) ∙ or_else_back g a (f (P.trivia a)) (((y.does p a t).means j).mode ∙ ap mode_of h))) (went w y 0 ok refl) z

-- an optional part
module _ (f : P.Reader) {x : Source} {s r : Whole} {b b' : Bufs} (F : (p : Past) → Sticks p x f) (good : s.mode ≡ 0) (y : Did (λ a. f (P.trivia a)) x s r b b') where
  pub opt_on : (r.mode ≡ 1 → ⊥) → Did (P.opts f) x s r b b'
  opt_on = alt_on f (λ t. t) F (λ p a n. refl) good y

  pub opt_back : Wf x b s → r.mode ≡ 1 → Did (P.opts f) x s (with_mode 0 (gone (mark_of s) r)) b b'
  opt_back w h = alt_next f (λ t. t) F (λ p a n. refl) good y w h (idle (gone_wf w y) (λ p a t. like_same refl))

-- a repetition: k more turns are due of k₀
go_on_ok : (g : P.Reader) (a t : P.State) → t.mode ≡ ok → P.go_on g a t ≡ g t
go_on_ok g a t e = λ i. elim (e i) [ ok ↦ g t | failed ↦ P.turn ok (P.back a t) | stopped w ↦ P.back a t ]

go_on_failed : (g : P.Reader) (a t : P.State) → t.mode ≡ failed → P.go_on g a t ≡ P.turn ok (P.back a t)
go_on_failed g a t e = λ i. elim (e i) [ ok ↦ g t | failed ↦ P.turn ok (P.back a t) | stopped w ↦ P.back a t ]

go_on_stopped : (g : P.Reader) (a t : P.State) (n : ℕ) → t.mode ≡ mode_of n → 2 ≤ n → P.go_on g a t ≡ P.turn (mode_of n) (P.back a t)
go_on_stopped g a t zero e h = absurd (omega arith)
go_on_stopped g a t (suc zero) e h = absurd (omega arith)
go_on_stopped g a t (suc (suc zero)) e h = (λ i. elim (e i) [ ok ↦ g t | failed ↦ P.turn ok (P.back a t) | stopped w ↦ P.back a t ]) ∙ (λ i. P.turn (e i) (P.back a t))
go_on_stopped g a t (suc (suc (suc n))) e h = (λ i. elim (e i) [ ok ↦ g t | failed ↦ P.turn ok (P.back a t) | stopped w ↦ P.back a t ]) ∙ (λ i. P.turn (e i) (P.back a t))

loop_next : (f : P.Reader) (k : ℕ) (a : P.State) → 0 < k → P.loop f k a ≡ P.go_on (λ t. P.loop f (k - 1) t) a (f (P.trivia a))
loop_next f zero a h = absurd (omega arith)
loop_next f (suc k) a h = ap (λ (n : ℕ). P.go_on (λ t. P.loop f n t) a (f (P.trivia a))) (sym (sub-one (suc k)))

pub record Turning (f : P.Reader) (x : Source) (s₀ s : Whole) (k₀ k : ℕ) (b₀ b : Bufs) : Type 0 where
  pub does : (p : Past) (a₀ : P.State) → Stands p x s₀ b₀ a₀ → (a : P.State) × Stands p x s b a × Like p x (P.loop f k a) (P.loop f k₀ a₀)
  pub wf : Wf x b s
  pub sticks : (p : Past) → Sticks p x f
  pub mode : s.mode ≡ 0
  pub room : s.full ≡ 0 → s₀.full ≡ 0
  pub first : s.first ≡ s₀.first
  pub ahead : s₀.pos ≤ s.pos
  pub grows : s₀.ev ≤ s.ev
  pub kept : take s₀.ev b.events ≡ take s₀.ev b₀.events

pub turning : (f : P.Reader) {x : Source} {s : Whole} (k : ℕ) {b : Bufs} → ((p : Past) → Sticks p x f) → Wf x b s → s.mode ≡ 0 → Turning f x s s k k b b
turning f k F w m = record { does = λ p a t. (a, t, like_same refl); wf = w; sticks = F; mode = m; room = λ z. z; first = refl; ahead = le_refl _; grows = le_refl _; kept = refl }

sticky_loop : (p : Past) (x : Source) (f : P.Reader) → Sticks p x f → (n : ℕ) → Sticks p x (P.loop f n)
sticky_loop p x f F zero a = λ n. refl
sticky_loop p x f F (suc n) a = sticky_trans p x a (f (P.trivia a)) (P.loop f (suc n) a) (sticky_past p x f F a) (sticky_go_on p x (λ t. P.loop f n t) (λ t. sticky_loop p x f F n t) a (f (P.trivia a)))

module _ {f : P.Reader} {x : Source} {s₀ s : Whole} {k₀ k : ℕ} {b₀ b : Bufs} (g : Turning f x s₀ s k₀ k b₀ b) where
  keeps : {r : Whole} {b' : Bufs} {h : P.Reader} → Did h x s r b b' → take s₀.ev b'.events ≡ take s₀.ev b₀.events
  keeps {r} {b'} y = sym (take-take s₀.ev s.ev b'.events g.grows) ∙ ap (take s₀.ev) y.kept ∙ take-take s₀.ev s.ev b.events g.grows ∙ g.kept

  module _ {r : Whole} {b' : Bufs} (h : 0 < k) (y : Did (λ a. f (P.trivia a)) x s r b b') where
    onward : (p : Past) (a : P.State) → Sticky p x (f (P.trivia a)) (P.loop f k a)
    onward p a = subst (λ (c : P.State). Sticky p x (f (P.trivia a)) c) (sym (loop_next f k a h)) (sticky_go_on p x (λ t. P.loop f (k - 1) t) (sticky_loop p x f (g.sticks p) (k - 1)) a (f (P.trivia a)))

    -- the turn went well
    pub turns_on : r.mode ≡ 0 → Turning f x s₀ r k₀ (k - 1) b₀ b'
    turns_on m =
        record {
          does = λ p a₀ t.
              let d = g.does p a₀ t in
              let u = y.does p d.0 d.1 in
              let c : P.State = f (P.trivia d.0) in
              (c, u, like_trans (like_at u (sticky_loop p x f (g.sticks p) (k - 1) c) (onward p d.0) (λ z. like_same (sym (loop_next f k d.0 h ∙ go_on_ok (λ t. P.loop f (k - 1) t) d.0 c ((u.means z).mode ∙ ap mode_of m))))) d.2);
          wf = y.wf;
          sticks = g.sticks;
          mode = m;
          room = λ z. g.room (y.room z);
          first = y.first ∙ g.first;
          ahead = le_trans g.ahead y.ahead;
          grows = le_trans g.grows y.grows;
          kept = keeps y;
        }

    -- it failed or stopped, and is undone
    pub turns_back : (m : ℕ) → ((r.mode ≡ 1) × (m ≡ 0)) ⊎ ((2 ≤ r.mode) × (m ≡ r.mode)) → Did (P.loop f k₀) x s₀ (with_mode m (gone (mark_of s) r)) b₀ b'
    turns_back m c =
        let B = went g.wf y m (mode_of m) refl in
        record {
          does = λ p a₀ t.
              let d = g.does p a₀ t in
              let u = y.does p d.0 d.1 in
              alike (like_trans (undone p d.0 d.1 u) d.2) (B.does p d.0 d.1);
          wf = B.wf;
          room = λ z. g.room (y.room z);
          first = y.first ∙ g.first;
          ahead = g.ahead;
          grows = g.grows;
          kept = keeps y;
        }
      where
        is : (a t : P.State) → t.mode ≡ mode_of r.mode → ((r.mode ≡ 1) × (m ≡ 0)) ⊎ ((2 ≤ r.mode) × (m ≡ r.mode)) → P.go_on (λ t. P.loop f (k - 1) t) a t ≡ P.turn (mode_of m) (P.back a t)
        is a t q (inl e) = go_on_failed (λ t. P.loop f (k - 1) t) a t (q ∙ ap mode_of e.0) ∙ ap (λ (n : ℕ). P.turn (mode_of n) (P.back a t)) (sym e.1)
        is a t q (inr e) = go_on_stopped (λ t. P.loop f (k - 1) t) a t r.mode q e.0 ∙ ap (λ (n : ℕ). P.turn (mode_of n) (P.back a t)) (sym e.1)

        still : (p : Past) (a : P.State) → Sticky p x (f (P.trivia a)) (P.turn (mode_of m) (P.back a (f (P.trivia a))))
        still p a n = back_over p x (mode_of m) a (f (P.trivia a))

        undone : (p : Past) (a : P.State) → Stands p x s b a → Stands p x r b' (f (P.trivia a)) → Like p x (P.turn (mode_of m) (P.back a (f (P.trivia a)))) (P.loop f k a)
        undone p a t u = like_at u (still p a) (onward p a) (λ z. like_same (sym (loop_next f k a h ∙ is a (f (P.trivia a)) (u.means z).mode c)))

  pub turns_end : k ≤ 0 → Did (P.loop f k₀) x s₀ s b₀ b
  turns_end h =
      record {
        does = λ p a₀ t. let d = g.does p a₀ t in alike (like_trans (like_same (sym (none k h d.0))) d.2) d.1;
        wf = g.wf;
        room = g.room;
        first = g.first;
        ahead = g.ahead;
        grows = g.grows;
        kept = g.kept;
      }
    where
      none : (n : ℕ) → n ≤ 0 → (a : P.State) → P.loop f n a ≡ a
      none zero h a = refl
      none (suc n) h a = absurd (omega arith)

-- the whole repetition: as many turns as rows are left, and one
pub repeats : (f : P.Reader) {x : Source} {s r : Whole} {b b' : Bufs} (k : ℕ) → ((p : Past) → Sticks p x f) → Wf x b s → k ≡ length x.ids - s.pos + 1 → s.mode ≡ 0 → Did (P.loop f k) x s r b b' → Did (P.loops f) x s r b b'
repeats f {x} {s} {r} {b} k F w q good y =
    retold (P.loops f) (λ p a n. refl) (λ p. sticky_loop p x f (F p) k) (λ p. (sticky p x).at_many f (F p)) (λ p a m. (sticky p x).at_many f (F p) a)
    (λ p a t i j.
    let m = t.means i in
    let l : k ≡ suc (length a.rest) = q ∙ add-one _ ∙ ap suc (sym (ap length m.rest ∙ length-drop s.pos x.ids)) in
    sym (if_ok_yes _ a (m.mode ∙ ap mode_of good) ∙ ap (λ (n : ℕ). P.loop f n a) (sym l)))
    (idle w (λ p a t. like_same refl)) y

-- a node: begun, its body, ended
pub node : (d kind : ℕ) (o : Bool) (f : P.Reader) → ((a : P.State) → Adds a.out (f a).out) → {x : Source} → ((p : Past) → Sticks p x f) → {s s₁ s₂ r : Whole} {b b₁ b₂ b₃ : Bufs} (from at : ℕ) → from ≡ s₁.pos → at ≡ s₁.ev
    → Did (P.begin d) x s s₁ b b₁ → (s₁.full ≡ 0 → s.ev + EVENT ≤ s₁.ev) → Did f x s₁ s₂ b₁ b₂ → Shuts (P.finish o kind (length x.ids - from)) at x s₂ r b₂ b₃ → Did (P.nodes d o kind f) x s r b b₃
node d kind o f A {x} F {s} {s₁} {s₂} {r} {b} {b₁} {b₂} {b₃} from at i j y opens z e =
    record {
      does = λ p a t.
          let T : P.State = P.begin d a in
          let B = y.does p a t in
          let M = z.does p T B in
          let here : s₂.full ≡ 0 → Open at (f T).out = λ v. begun_open d at a (f T).out (j ∙ ev_count y.wf (B.means (z.room v))) (A T) in
          alike (like_at B (over p T (length x.ids - from)) (over p T (length T.rest)) (λ v. like_same (ap (λ (n : ℕ). P.finish o kind n (f T)) (sym (rows T (B.means v).rest))))) (e.does p (f T) here M);
      wf = e.wf;
      room = λ v. y.room (z.room (e.room v));
      first = e.first ∙ z.first ∙ y.first;
      ahead = le_trans y.ahead (le_trans z.ahead e.ahead);
      grows = le_trans y.grows (le_trans z.grows e.grows);
      kept =
          e.kept s.ev (le_trans y.grows z.grows) (λ v. le_trans (opens (z.room v)) (le_of_eq (sym j)))
          ∙ sym (take-take s.ev s₁.ev b₂.events y.grows) ∙ ap (take s.ev) z.kept ∙ take-take s.ev s₁.ev b₁.events y.grows ∙ y.kept;
    }
  where
    over : (p : Past) (t : P.State) (n : ℕ) → Sticky p x t (P.finish o kind n (f t))
    over p t n = sticky_trans p x t (f t) (P.finish o kind n (f t)) (F p t) (sticky_finish p x o kind n (f t))

    rows : (t : P.State) → t.rest ≡ drop s₁.pos x.ids → length t.rest ≡ length x.ids - from
    rows t q = ap length q ∙ length-drop s₁.pos x.ids ∙ ap (λ (n : ℕ). length x.ids - n) (sym i)

-- what is left of a body does nothing where the state is not in good order
pub halts : {f : P.Reader} (g : P.Reader) {x : Source} {s r : Whole} {b b' : Bufs} → ((p : Past) → Sticks p x f) → ((p : Past) → Sticks p x g) → ((n : ℕ) (a : P.State) → (n ≡ 0 → ⊥) → a.mode ≡ mode_of n → g a ≡ a) → (r.mode ≡ 0 → ⊥) → Did f x s r b b' → Did (λ a. g (f a)) x s r b b'
halts {f} g {x} {s} {r} F G e n y = then y (idle y.wf (λ p a t. like_at t (λ i. refl) (G p a) (λ z. like_same (sym (e r.mode a n (t.means z).mode)))))
