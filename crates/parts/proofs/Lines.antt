-- Lines that touch all lists: steps one after another, alternatives, optional parts, repetitions, remembered failures. Assumes nothing.
use Prim.Native.Nat.{ℕ, ◌+◌, ◌-◌, ◌≤◌, ◌<◌}
use mathlib.Core.Path.{◌≡◌, refl, sym, ap, subst, ◌∙◌}
use mathlib.Core.List.{List}
use mathlib.Core.Bool.{Bool, true, false}
use native.Mathlib.Omega.{arith}
use native.Mathlib.Decide.{ℕ_discrete}
use borrow.Author.Tests.{eq-eqb, ne_eqb}
use lib.Dec.{eqb, T}
use lib.ListN.{length}
use Rattle.definition.specs.Prog.{Prog, ifnext, opt, then, ◌⨟◌, ◌⫽◌, last}
use Rattle.definition.specs.Run as P
use Rattle.definition.specs.Run.{Mode, ok, failed, stopped, spent, deep}
use Rattle.definition.specs.Render.{Source}
use Rattle.shapes.specs.Mode.{number}
use Rattle.notes.specs.declared.reading.RowList.{RowList}
use Rattle.notes.specs.declared.reading.Given.{Given}
use Rattle.notes.specs.declared.reading.Lent.{Lent}
use Rattle.notes.specs.Reading.{source_of, bufs_of, SameLists}
use Rattle.steps.specs.declared.state.State.{State}
use Rattle.steps.specs.Steps.{whole, Eats, Mends, Ends}
use Rattle.notes.specs.Whole.{Whole}
use Rattle.notes.specs.Bits.{ifb}
use Rattle.notes.specs.Change.{with_mode, mark_of, gone, undone_to}
use Rattle.notes.specs.Means.{Bufs, bufs, source, Past, Lines, mode_of}
use Rattle.notes.specs.Did.{Ok, Wf, Did, Events, Plain, Shuts, ahead}
use Rattle.notes.proofs.Core.{like_same, like_at, idle, does_as}
use Rattle.notes.proofs.Core as core
use Rattle.notes.proofs.Sticky.{Sticks, sticky, sticky_past, sticky_exec, sticky_turn}
use Rattle.steps.proofs.Next.{if_ok_yes}
use Rattle.steps.proofs.Parts.{Turning, turning, turns_on, turns_back, turns_end, repeats, gone_wf, alt_on, alt_next, opt_on, opt_back}
use Rattle.steps.proofs.Memo.{likened, turned_failed}
use Rattle.steps.proofs.Branch as branch
use Rattle.parts.specs.Reads.{reads, Asks}
use Rattle.parts.proofs.Exec.{guarded, guarded_idle, undone_mode}

-- where the last alternative, or an optional part, came to s
abbrev pub lost_to : ℕ × ℕ → Whole → Whole
lost_to m s = ifb (eqb s.mode 1) (gone m s) s

abbrev pub waived_to : ℕ × ℕ → Whole → Whole
waived_to m s = ifb (eqb s.mode 1) (with_mode 0 (gone m s)) s

pub lost_back : (m : ℕ × ℕ) (s : Whole) → s.mode ≡ 1 → gone m s ≡ lost_to m s
lost_back m s h = sym (ap (λ (c : Bool). ifb c (gone m s) s) (eq-eqb s.mode 1 h))

pub lost_on : (m : ℕ × ℕ) (s : Whole) → (s.mode ≡ 1 → ⊥) → s ≡ lost_to m s
lost_on m s h = sym (ap (λ (c : Bool). ifb c (gone m s) s) (ne_eqb s.mode 1 h))

pub waived_back : (m : ℕ × ℕ) (s : Whole) → s.mode ≡ 1 → with_mode 0 (gone m s) ≡ waived_to m s
waived_back m s h = sym (ap (λ (c : Bool). ifb c (with_mode 0 (gone m s)) s) (eq-eqb s.mode 1 h))

pub waived_on : (m : ℕ × ℕ) (s : Whole) → (s.mode ≡ 1 → ⊥) → s ≡ waived_to m s
waived_on m s h = sym (ap (λ (c : Bool). ifb c (with_mode 0 (gone m s)) s) (ne_eqb s.mode 1 h))

-- the state as it is
idles : (x : Source) (s : Whole) (ev er sc : List ℕ) → Wf x (bufs ev er sc) s → Did (λ a. a) x s s (bufs ev er sc) (bufs ev er sc)
idles x s ev er sc w = idle w (λ p a t. like_same refl)

-- for a line to begin with
pub from : (x : Given) (s : State) (l : Lent) → Asks x s l → Did (λ a. a) (source_of x) (whole s l.notes) (whole s l.notes) (bufs_of l) (bufs_of l)
from x s l w = idles (source_of x) (whole s l.notes) l.events.now l.errors.now l.scratch.now w

module _ {f : P.Reader} {x : Source} {s r : Whole} {b : Bufs} {ev er sc : List ℕ} (y : Did f x s r b (bufs ev er sc)) where
  -- a step more
  pub plus : {g : P.Reader} {q : Whole} {b₂ : Bufs} → Did g x r q (bufs ev er sc) b₂ → Did (λ a. g (f a)) x s q b b₂
  plus z = core.then y z

  pub plus_p : {g : P.Reader} {q : Whole} → Plain g x r q → Did (λ a. g (f a)) x s q b (bufs ev er sc)
  plus_p z = core.then y (z.did (bufs ev er sc) y.wf)

  -- what `expect` asks, and what `recover` asks
  pub asks_e : Lines x.ids x.ends → Lines x.ids x.ends × Ok (length x.ids) r × (r.evcap ≤ length ev)
  asks_e l = (l, y.wf.0, y.wf.1.events)

  pub asks_s : Ok (length x.ids) r × (r.evcap ≤ length ev) × (r.ercap ≤ length er)
  asks_s = (y.wf.0, y.wf.1.events, y.wf.1.errors)

  -- where the state is now
  pub here : Did (λ a. a) x r r (bufs ev er sc) (bufs ev er sc)
  here = idles x r ev er sc y.wf

  -- what is left of the line does nothing where the state is not in good order
  pub stops : (E : Bool) (d : ℕ) (o : Bool) (q : Prog) → T (guarded q) → (r.mode ≡ 0 → ⊥) → Did (λ a. reads E d o q (f a)) x s r b (bufs ev er sc)
  stops E d o q t n = core.then y (idle y.wf (λ p a u. like_at u (λ i. refl) (sticky_exec p x E d q o a) (λ z. like_same (sym (guarded_idle d (λ o b u. P.run E d o b u) q o t r.mode a n (u.means z).mode)))))

-- a step on events more
pub plus_t : {f g : P.Reader} {x : Source} {s r q : Whole} {b : Bufs} {ev er sc ev₂ : List ℕ} → Did f x s r b (bufs ev er sc) → (Ok (length x.ids) r → Events g x r q ev ev₂) → Did (λ a. g (f a)) x s q b (bufs ev₂ er sc)
plus_t {er = er} {sc} y z = core.then y ((z y.wf.0).did er sc y.wf)

-- a step that leaves records and scratch as they were
pub plus_e : {f g : P.Reader} {bytes : List ℕ} {rows : RowList} {s r : State} {l m : Lent} {s₀ : Whole} {b : Bufs} → Did f (source bytes rows.ids.now rows.ends.now) s₀ (whole s l.notes) b (bufs_of l) → Eats g rows s l r m → Did (λ a. g (f a)) (source bytes rows.ids.now rows.ends.now) s₀ (whole r m.notes) b (bufs_of m)
plus_e {f} {g} {bytes} {rows} {s} {r} {l} {m} {s₀} {b} y z =
    let x = source bytes rows.ids.now rows.ends.now in
    subst (λ (er : List ℕ). Did (λ a. g (f a)) x s₀ (whole r m.notes) b (bufs m.events.now er m.scratch.now)) (λ i. (sym z.errors i).now)
    (subst (λ (sc : List ℕ). Did (λ a. g (f a)) x s₀ (whole r m.notes) b (bufs m.events.now l.errors.now sc)) (λ i. (sym z.scratch i).now) (core.then y ((z.events bytes).did l.errors.now l.scratch.now y.wf)))

-- a step that leaves scratch as it was
pub plus_b : {f g : P.Reader} {x : Given} {s r : State} {l m : Lent} {s₀ : Whole} {b : Bufs} → Did f (source_of x) s₀ (whole s l.notes) b (bufs_of l) → Mends g x s l r m → Did (λ a. g (f a)) (source_of x) s₀ (whole r m.notes) b (bufs_of m)
plus_b {f} {g} {x} {s} {r} {l} {m} {s₀} {b} y z = subst (λ (sc : List ℕ). Did (λ a. g (f a)) (source_of x) s₀ (whole r m.notes) b (bufs m.events.now m.errors.now sc)) (λ i. (sym z.scratch i).now) (core.then y (z.both.did l.scratch.now y.wf))

-- the end of a node, over all lists
pub ended : {f : P.Reader} {at : ℕ} {x : Given} {s r : State} {l m : Lent} → Ends f at x s l r m → Wf (source_of x) (bufs_of l) (whole s l.notes) → Shuts f at (source_of x) (whole s l.notes) (whole r m.notes) (bufs_of l) (bufs_of m)
ended {f} {at} {x} {s} {r} {l} {m} z w = subst (λ (sc : List ℕ). Shuts f at (source_of x) (whole s l.notes) (whole r m.notes) (bufs_of l) (bufs m.events.now m.errors.now sc)) (λ i. (sym z.scratch i).now) (z.shuts l.scratch.now w)

-- the same step by another name, in good order
pub in_order : (f g : P.Reader) {x : Source} {s r : Whole} {b b' : Bufs} → ((p : Past) → Sticks p x f) → ((p : Past) → Sticks p x g) → ((a : P.State) → a.mode ≡ ok → f a ≡ g a) → s.mode ≡ 0 → Did f x s r b b' → Did g x s r b b'
in_order f g F G e good y = likened y (λ p a t. like_at t (F p a) (G p a) (λ z. like_same (e a ((t.means z).mode ∙ ap mode_of good))))

module _ (E : Bool) (d : ℕ) (o : Bool) {x : Source} {s r : Whole} {b b' : Bufs} (p : Prog) where
  -- in good order `then` is what follows trivia
  pub past_then : s.mode ≡ 0 → Did (reads E d o (then p)) x s r b b' → Did (λ a. reads E d o p (P.trivia a)) x s r b b'
  past_then = in_order (reads E d o (then p)) (λ a. reads E d o p (P.trivia a)) (λ c. sticky_exec c x E d (then p) o) (λ c. sticky_past c x (reads E d o p) (sticky_exec c x E d p o)) (λ a m. if_ok_yes _ a m)

  pub then_past : s.mode ≡ 0 → Did (λ a. reads E d o p (P.trivia a)) x s r b b' → Did (reads E d o (then p)) x s r b b'
  then_past = in_order (λ a. reads E d o p (P.trivia a)) (reads E d o (then p)) (λ c. sticky_past c x (reads E d o p) (sticky_exec c x E d p o)) (λ c. sticky_exec c x E d (then p) o) (λ a m. sym (if_ok_yes _ a m))

  -- what stands behind `then` may stand inside it, in good order
  pub regroups : (q : Prog) → s.mode ≡ 0 → Did (reads E d o (then p ⨟ q)) x s r b b' → Did (reads E d o (then (p ⨟ q))) x s r b b'
  regroups q = in_order (reads E d o (then p ⨟ q)) (reads E d o (then (p ⨟ q))) (λ c. sticky_exec c x E d (then p ⨟ q) o) (λ c. sticky_exec c x E d (then (p ⨟ q)) o) (λ a m. ap (reads E d o q) (if_ok_yes _ a m) ∙ sym (if_ok_yes _ a m))

  -- and in any order where it does nothing but in good order
  pub regrouped : (q : Prog) → T (guarded q) → (f : P.Reader) → Did (λ a. reads E d o (then p ⨟ q) (f a)) x s r b b' → Did (λ a. reads E d o (then (p ⨟ q)) (f a)) x s r b b'
  regrouped q t f y = does_as (λ a. reads E d o (then (p ⨟ q)) (f a)) (λ c a u. same (f a).mode (f a)) y
    where
      same : (m : Mode) (a : P.State) → reads E d o (then p ⨟ q) (P.turn m a) ≡ reads E d o (then (p ⨟ q)) (P.turn m a)
      same ok a = refl
      same failed a = guarded_idle d (λ o b u. P.run E d o b u) q o t 1 (P.turn failed a) (λ z. omega (arith, z)) refl
      same (stopped spent) a = guarded_idle d (λ o b u. P.run E d o b u) q o t 2 (P.turn (stopped spent) a) (λ z. omega (arith, z)) refl
      same (stopped deep) a = guarded_idle d (λ o b u. P.run E d o b u) q o t 3 (P.turn (stopped deep) a) (λ z. omega (arith, z)) refl

-- in good order nothing more is tried
fails_now : (x : Source) (s : Whole) (b : Bufs) → Wf x b (with_mode 0 s) → Did P.fails x (with_mode 0 s) (with_mode 1 s) b b
fails_now x s b w = likened (turned_failed w) (λ p a u. like_at u (sticky_turn p x failed a) ((sticky p x).at_fail a) (λ z. like_same (sym (if_ok_yes _ a (u.means z).mode))))

-- alternatives: what f did came to s, in good order, the mark's place, and q is tried there; with it F is done
pub record Tries (F : P.Reader) (E : Bool) (d : ℕ) (o : Bool) (q : Prog) (x : Source) (s₀ s : Whole) (m : ℕ × ℕ) (b₀ b : Bufs) : Type 0 where
  pub go : {z : Whole} {b₂ : Bufs} → Did (reads E d o q) x s z b b₂ → Did F x s₀ z b₀ b₂
  pub here : Did (λ a. a) x s s b b
  pub good : s.mode ≡ 0
  pub mark : m ≡ mark_of s

pub tries : (E : Bool) (d : ℕ) (o : Bool) (q : Prog) {f : P.Reader} {x : Source} {s₀ s : Whole} {m : ℕ × ℕ} {b₀ b : Bufs} → Did f x s₀ s b₀ b → s.mode ≡ 0 → m ≡ mark_of s → Tries (λ a. reads E d o q (f a)) E d o q x s₀ s m b₀ b
tries E d o q y h e = record { go = λ z. core.then y z; here = idle y.wf (λ p a t. like_same refl); good = h; mark = e }

-- what an alternative did from where the others left off
abbrev pub Try : Bool → ℕ → Source → Whole → Whole → Bufs → Bufs → Prog → Type 0
Try E d x s r b b' p = s.mode ≡ 0 → Did (λ a. a) x s s b b → Did (λ a. reads E d true p (P.trivia a)) x s r b b'

module _ {F : P.Reader} {E : Bool} {d : ℕ} {o : Bool} {x : Source} {s₀ s : Whole} {m : ℕ × ℕ} {b₀ b : Bufs} where
  module _ {p q : Prog} (t : Tries F E d o (p ⫽ q) x s₀ s m b₀ b) {r : Whole} {b' : Bufs} (y : Try E d x s r b b' p) where
    -- it did not fail
    pub goes : (r.mode ≡ 1 → ⊥) → Did F x s₀ r b₀ b'
    goes n = t.go (alt_on (reads E d true p) (reads E d o q) (λ c. sticky_exec c x E d p true) (λ c. sticky_exec c x E d q o) t.good (y t.good t.here) n)

    -- it failed: the next is tried from the mark
    pub else : {z : Whole} → r.mode ≡ 1 → z ≡ with_mode 0 (gone m r) → Tries F E d o q x s₀ z m b₀ b'
    else {z} h e =
        subst (λ (u : Whole). Tries F E d o q x s₀ u m b₀ b') (sym (e ∙ ap (λ (c : ℕ × ℕ). with_mode 0 (gone c r)) t.mark))
        (record {
          go = λ v. t.go (alt_next (reads E d true p) (reads E d o q) (λ c. sticky_exec c x E d p true) (λ c. sticky_exec c x E d q o) t.good (y t.good t.here) t.here.wf h v);
          here = idle (gone_wf t.here.wf (y t.good t.here)) (λ p a t. like_same refl);
          good = refl;
          mark = t.mark;
        })

  -- the last one
  pub at_last : {p : Prog} (t : Tries F E d o (last p) x s₀ s m b₀ b) {r : Whole} {b' : Bufs} → Try E d x s r b b' p → {z : Whole} → z ≡ lost_to m r → Did F x s₀ z b₀ b'
  at_last {p} t {r} {b'} y {z} e = t.go (go (ℕ_discrete r.mode 1))
    where
      sticks : (c : Past) → Sticks c x (reads E d true p)
      sticks c = sticky_exec c x E d p true

      go : Dec (r.mode ≡ 1) → Did (reads E d o (last p)) x s z b b'
      go (no n) = subst (λ (u : Whole). Did (reads E d o (last p)) x s u b b') (lost_on m r n ∙ sym e) (alt_on (reads E d true p) P.fails sticks (λ c. (sticky c x).at_fail) t.good (y t.good t.here) n)
      go (yes h) =
          subst (λ (u : Whole). Did (reads E d o (last p)) x s u b b') ((λ i. with_mode (sym h i) (gone (sym t.mark i) r)) ∙ lost_back m r h ∙ sym e)
          (alt_next (reads E d true p) P.fails sticks (λ c. (sticky c x).at_fail) t.good (y t.good t.here) t.here.wf h (fails_now x (gone (mark_of s) r) b' (gone_wf t.here.wf (y t.good t.here))))

-- an optional part
pub waives : (E : Bool) (d : ℕ) (o : Bool) (p : Prog) {f : P.Reader} {x : Source} {s₀ s r : Whole} {m : ℕ × ℕ} {b₀ b b' : Bufs} → Did f x s₀ s b₀ b → s.mode ≡ 0 → m ≡ mark_of s → Did (λ a. reads E d true p (P.trivia a)) x s r b b' → {z : Whole} → z ≡ waived_to m r → Did (λ a. reads E d o (opt p) (f a)) x s₀ z b₀ b'
waives E d o p {f} {x} {s₀} {s} {r} {m} {b₀} {b} {b'} w good mark y {z} e = core.then w (go (ℕ_discrete r.mode 1))
  where
    sticks : (c : Past) → Sticks c x (reads E d true p)
    sticks c = sticky_exec c x E d p true

    go : Dec (r.mode ≡ 1) → Did (reads E d o (opt p)) x s z b b'
    go (no n) = subst (λ (u : Whole). Did (reads E d o (opt p)) x s u b b') (waived_on m r n ∙ sym e) (opt_on (reads E d true p) sticks good y n)
    go (yes h) = subst (λ (u : Whole). Did (reads E d o (opt p)) x s u b b') ((λ i. with_mode 0 (gone (sym mark i) r)) ∙ waived_back m r h ∙ sym e) (opt_back (reads E d true p) sticks good y w.wf h)

-- a part that begins with a row of a set
module _ {f : P.Reader} {x : Source} {s r : Whole} {b : Bufs} {ev er sc : List ℕ} (y : Did f x s r b (bufs ev er sc)) (E : Bool) (d : ℕ) (o : Bool) (S : List ℕ) (p : Prog) {v : Bool} (sees : v ≡ ahead S x.ids r) where
  pub enters : v ≡ true → {q : Whole} {b₂ : Bufs} → Did (λ a. reads E d o p (P.trivia a)) x r q (bufs ev er sc) b₂ → Did (λ a. reads E d o (ifnext S p) (f a)) x s q b b₂
  enters h z = core.then y (branch.branch_in S (reads E d o p) (λ c. sticky_exec c x E d p o) y.wf (sym sees ∙ h) z)

  pub passes : v ≡ false → {q : Whole} {b' : Bufs} → Did (P.branches S (λ a. a)) x r q (bufs ev er sc) b' → Did (λ a. reads E d o (ifnext S p) (f a)) x s q b b'
  passes h z = core.then y (branch.branch_out S (reads E d o p) (λ c. sticky_exec c x E d p o) y.wf (sym sees ∙ h) z)

-- a repetition, with k of its n turns taken
pub record Turns (f : P.Reader) (x : Given) (s₀ s : State) (l₀ l : Lent) (n k : ℕ) : Type 0 where
  pub each : Turning f (source_of x) (whole s₀ l₀.notes) (whole s l.notes) n (n - k) (bufs_of l₀) (bufs_of l)
  pub here : Did (λ a. a) (source_of x) (whole s l.notes) (whole s l.notes) (bufs_of l) (bufs_of l)
  pub wf : Wf (source_of x) (bufs_of l₀) (whole s₀ l₀.notes)
  pub start : number s₀.mode ≡ 0
  pub many : n ≡ length x.rows.ids.now - s₀.pos + 1
  pub sticks : (p : Past) → Sticks p (source_of x) f
  pub lists : SameLists l₀ l

pub turns : (f : P.Reader) (x : Given) (s : State) (l : Lent) (n : ℕ) → ((p : Past) → Sticks p (source_of x) f) → Asks x s l → number s.mode ≡ 0 → n ≡ length x.rows.ids.now - s.pos + 1 → Turns f x s s l l n 0
turns f x s l n F w m q = record { each = subst (λ (k : ℕ). Turning f (source_of x) (whole s l.notes) (whole s l.notes) n k (bufs_of l) (bufs_of l)) (omega arith) (turning f n F w m); here = from x s l w; wf = w; start = m; many = q; sticks = F; lists = (refl, refl, refl) }

-- the same lists behind one step more
pub chain : {X Y Z : Type 0} {a b c : X} {i j k : Y} {u v w : Z} → (b ≡ a) × (j ≡ i) × (v ≡ u) → (c ≡ b) × (k ≡ j) × (w ≡ v) → (c ≡ a) × (k ≡ i) × (w ≡ u)
chain p q = (q.0 ∙ p.0, q.1 ∙ p.1, q.2 ∙ p.2)

module _ {f : P.Reader} {x : Given} {s₀ s : State} {l₀ l : Lent} {n k : ℕ} (g : Turns f x s₀ s l₀ l n k) where
  pub turns_more : {r : State} {m : Lent} → k < n → Did (λ a. f (P.trivia a)) (source_of x) (whole s l.notes) (whole r m.notes) (bufs_of l) (bufs_of m) → number r.mode ≡ 0 → SameLists l m → Turns f x s₀ r l₀ m n (k + 1)
  turns_more {r} {m} h y i j =
      record {
        each = subst (λ (k' : ℕ). Turning f (source_of x) (whole s₀ l₀.notes) (whole r m.notes) n k' (bufs_of l₀) (bufs_of m)) (omega arith) (turns_on g.each (omega arith) y i);
        here = from x r m y.wf;
        wf = g.wf;
        start = g.start;
        many = g.many;
        sticks = g.sticks;
        lists = chain g.lists j;
      }

  pub turns_undone : {r : Whole} {b' : Bufs} → k < n → Did (λ a. f (P.trivia a)) (source_of x) (whole s l.notes) r (bufs_of l) b' → {v : ℕ × ℕ} {q : Whole} → (r.mode ≡ 0 → ⊥) → v ≡ mark_of (whole s l.notes) → q ≡ undone_to v r → Did (P.loops f) (source_of x) (whole s₀ l₀.notes) q (bufs_of l₀) b'
  turns_undone {r} {b'} h y {v} {q} e i j =
      subst (λ (u : Whole). Did (P.loops f) (source_of x) (whole s₀ l₀.notes) u (bufs_of l₀) b') (sym (j ∙ ap (λ (c : ℕ × ℕ). undone_to c r) i))
      (repeats f n g.sticks g.wf g.many g.start (turns_back g.each (omega arith) y (ifb (eqb r.mode 1) 0 r.mode) (undone_mode r.mode e)))

  pub turns_over : n ≤ k → Did (P.loops f) (source_of x) (whole s₀ l₀.notes) (whole s l.notes) (bufs_of l₀) (bufs_of l)
  turns_over h = repeats f n g.sticks g.wf g.many g.start (turns_end g.each (omega arith))
