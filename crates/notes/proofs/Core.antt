-- The relation's first laws: nothing done, one step after another, an event written, a place moved. Assumes nothing.
use Prim.Native.Nat.{ℕ, ◌+◌, ◌*◌, ◌≤◌, ◌<◌}
use mathlib.Core.Path.{◌≡◌, refl, sym, ap, subst, ◌∙◌}
use mathlib.Core.List.{List, [], ◌∷◌, ◌++◌, map}
use mathlib.Core.Bool.{Bool, true, false, not}
use native.Mathlib.Nat.{le_refl, le_trans}
use native.Mathlib.Omega.{arith}
use native.Mathlib.Decide.{ℕ_discrete}
use borrow.Author.Tests.{le-ltb, lt-ltb, ltb-true, ltb-false, eqb-true, eqb-false}
use lib.Dec.{T, ltb, eqb}
use lib.ListN.{length, take, drop, replicate}
use lib.Seq.{take-take}
use Rattle.shapes.specs.declared.full.Full.{Full}
use Rattle.shapes.specs.Shapes.{EVENT, event, Rec}
use Rattle.definition.specs.Run as P
use Rattle.definition.specs.Run.{Event, opened, leaf, closed, bad, Limits}
use Rattle.definition.specs.Buffer.{height, cell, next_depth, buffer}
use Rattle.definition.proofs.Buffer.{next_is}
use Rattle.definition.specs.Render.{Source, records, said, used, over}
use Rattle.notes.specs.declared.names.Notes.{Notes}
use Rattle.notes.specs.Whole.{Whole, beside, exceeded}
use Rattle.notes.specs.Bits.{ifb}
use Rattle.notes.specs.Change.{with_pos, with_ev, with_full}
use Rattle.notes.specs.Means.{Bufs, bufs, Past, Means, Stands, over_of}
use Rattle.notes.specs.Did.{Ok, Sound, Wf, Did, Penned, Put}
use Rattle.notes.proofs.Lists.{stored, take_event, keep_event, length_event}
use Rattle.notes.proofs.Rooms.{ev_count, fits, first_of, spill, marked, full_first, exceeds_none, exceeds_events}

-- the definition's state but for what nothing reads
abbrev pub bare : P.State → P.State
bare a = record { rest = a.rest; mode = a.mode; fuel = a.fuel; out = a.out; want = a.want; unwant = a.unwant; chosen = a.chosen; cache = a.cache; begun = []; drafts = [] }

-- two states that exceed the same room, and that a reader cannot tell apart as long as they exceed none
pub record Like (p : Past) (x : Source) (a c : P.State) : Type 0 where
  pub all : over_of p x a ≡ 0 → bare a ≡ bare c
  pub over : over_of p x a ≡ over_of p x c

pub like_same : {p : Past} {x : Source} {a c : P.State} → a ≡ c → Like p x a c
like_same {p} {x} e = record { all = λ z. ap bare e; over = ap (over_of p x) e }

pub like_trans : {p : Past} {x : Source} {a b c : P.State} → Like p x a b → Like p x b c → Like p x a c
like_trans k l = record { all = λ z. k.all z ∙ l.all (sym k.over ∙ z); over = k.over ∙ l.over }

-- once a room is exceeded, it stays the one
abbrev pub Sticky : Past → Source → P.State → P.State → Type 0
Sticky p x a c = (over_of p x a ≡ 0 → ⊥) → over_of p x c ≡ over_of p x a

pub sticky_mark : (p : Past) (x : Source) (a : P.State) → Sticky p x a (P.mark a)
sticky_mark p x a n = marked p x a ∙ full_first (over_of p x a) (spill p x a.out a.chosen) n

-- so what is to be shown of two states that came from a is to be shown only where a is meant
pub like_at : {p : Past} {x : Source} {s : Whole} {b : Bufs} {a c d : P.State} → Stands p x s b a → Sticky p x a c → Sticky p x a d → (s.full ≡ 0 → Like p x c d) → Like p x c d
like_at {p} {x} {s} {b} {a} {c} {d} t k l f = go (ℕ_discrete s.full 0)
  where
    go : Dec (s.full ≡ 0) → Like p x c d
    go (yes z) = f z
    go (no n) = let v : over_of p x a ≡ 0 → ⊥ = λ z. n (t.over ∙ z) in record { all = λ z. absurd (v (sym (k v) ∙ z)); over = k v ∙ sym (l v) }

pub alike : {p : Past} {x : Source} {s : Whole} {b : Bufs} {a c : P.State} → Like p x a c → Stands p x s b a → Stands p x s b c
alike {p} {x} {s} {b} {a} {c} l t = record { over = t.over ∙ l.over; means = λ z. clad c (subst (λ (u : P.State). Means p x s b u) (l.all (sym t.over ∙ z)) (bared a (t.means z))) }
  where
    bared : (u : P.State) → Means p x s b u → Means p x s b (bare u)
    bared u m = record { rest = m.rest; mode = m.mode; fuel = m.fuel; written = m.written; want = m.want; unwant = m.unwant; chosen = m.chosen; cache = m.cache }

    clad : (u : P.State) → Means p x s b (bare u) → Means p x s b u
    clad u m = record { rest = m.rest; mode = m.mode; fuel = m.fuel; written = m.written; want = m.want; unwant = m.unwant; chosen = m.chosen; cache = m.cache }

-- nothing was done
pub idle : {f : P.Reader} {x : Source} {s : Whole} {b : Bufs} → Wf x b s → ((p : Past) (a : P.State) → Stands p x s b a → Like p x a (f a)) → Did f x s s b b
idle w g = record { does = λ p a t. alike (g p a t) t; wf = w; room = λ z. z; first = refl; ahead = le_refl _; grows = le_refl _; kept = refl }

-- f, then g
pub then : {f g : P.Reader} {x : Source} {s r q : Whole} {b b₁ b₂ : Bufs} → Did f x s r b b₁ → Did g x r q b₁ b₂ → Did (λ a. g (f a)) x s q b b₂
then {f} {g} {x} {s} {r} {q} {b} {b₁} {b₂} y z =
    record {
      does = λ p a t. z.does p (f a) (y.does p a t);
      wf = z.wf;
      room = λ e. y.room (z.room e);
      first = z.first ∙ y.first;
      ahead = le_trans y.ahead z.ahead;
      grows = le_trans y.grows z.grows;
      kept = sym (take-take s.ev r.ev b₂.events y.grows) ∙ ap (take s.ev) z.kept ∙ take-take s.ev r.ev b₁.events y.grows ∙ y.kept;
    }

-- the same step by another name
pub does_as : {f : P.Reader} (g : P.Reader) {x : Source} {s r : Whole} {b b' : Bufs} → ((p : Past) (a : P.State) → Stands p x s b a → f a ≡ g a) → Did f x s r b b' → Did g x s r b b'
does_as {f} g {x} {s} {r} {b} {b'} h y = record { does = λ p a t. subst (λ (u : P.State). Stands p x r b' u) (h p a t) (y.does p a t); wf = y.wf; room = y.room; first = y.first; ahead = y.ahead; grows = y.grows; kept = y.kept }

pub does_like : {f : P.Reader} (g : P.Reader) {x : Source} {s r : Whole} {b b' : Bufs} → ((p : Past) (a : P.State) → Like p x (f a) (g a)) → Did f x s r b b' → Did g x s r b b'
does_like {f} g {x} {s} {r} {b} {b'} h y = record { does = λ p a t. alike (h p a) (y.does p a t); wf = y.wf; room = y.room; first = y.first; ahead = y.ahead; grows = y.grows; kept = y.kept }

pub over_drafts : (p : Past) (x : Source) (a c : P.State) → a.drafts ≡ c.drafts → over_of p x a ≡ over_of p x c
unfolding over_of
over_drafts p x a c e = ap (λ (l : List P.Draft). over p.event_room p.error_room (map (used p.limits x) l)) e

-- an event that brings no record
abbrev pub Quiet : Event → Type 0
Quiet (opened n) = Unit
Quiet (leaf a n) = Unit
Quiet (closed a n m) = Unit
Quiet (bad n c) = ⊥

quiet_records : (L : Limits) (x : Source) (v : Event) (o : List Event) (l : List Rec) → Quiet v → records L x (v ∷ o) l ≡ records L x o l
quiet_records L x (opened n) o l q = refl
quiet_records L x (leaf a n) o l q = refl
quiet_records L x (closed a n m) o l q = refl
quiet_records L x (bad n c) o l q = absurd q

quiet_said : (L : Limits) (x : Source) (v : Event) (o : List Event) → Quiet v → said L x (v ∷ o) ≡ said L x o
quiet_said L x (opened n) o q = refl
quiet_said L x (leaf a n) o q = refl
quiet_said L x (closed a n m) o q = refl
quiet_said L x (bad n c) o q = absurd q

-- an event more: what `write` returns
module _ (at cap full : ℕ) (ev : List ℕ) where
  pub pen_not : (q : List ℕ) → at ≤ cap → (full ≡ 0 → ⊥) → Penned q at cap full at full ev ev
  pen_not q h f = record { stuck = λ n. refl; filled = λ z. absurd (f z); room = λ z. z; wrote = λ z. absurd (f z); more = λ z. absurd (f z); fits = h; grows = le_refl _; long = refl; kept = refl }

  pub pen_full : (q : List ℕ) → full ≡ 0 → at ≤ cap → cap < at + EVENT → Penned q at cap full at 7 ev ev
  pen_full q z h l = record { stuck = λ n. absurd (n z); filled = λ y. ap (λ (c : Bool). ifb c 7 0) (sym (lt-ltb cap (at + EVENT) l)); room = λ y. absurd (omega arith); wrote = λ y. absurd (omega arith); more = λ y. absurd (omega arith); fits = h; grows = le_refl _; long = refl; kept = refl }

  pub pen_event : (a b c d e : ℕ) → full ≡ 0 → at + EVENT ≤ cap → cap ≤ length ev → Penned (event a b c d e) at cap full (at + EVENT) full ev (stored ev at a b c d e)
  pen_event a b c d e z f l =
      record {
        stuck = λ n. refl;
        filled = λ y. z ∙ ap (λ (t : Bool). ifb t 7 0) (sym (le-ltb cap (at + EVENT) f));
        room = λ y. z;
        wrote = λ y. take_event ev at a b c d e (le_trans f l);
        more = λ y. refl;
        fits = f;
        grows = omega arith;
        long = length_event ev at a b c d e;
        kept = keep_event ev at a b c d e;
      }

-- and what that is in a state
pub put_of : (s : Whole) {q : List ℕ} {e f : ℕ} {ev ev' : List ℕ} → Penned q s.ev s.evcap s.full e f ev ev' → Put q s (with_ev e (with_full f s)) ev ev'
put_of s u = record { is = refl; stuck = u.stuck; filled = u.filled; room = u.room; wrote = u.wrote; more = u.more; fits = u.fits; grows = u.grows; long = u.long; kept = u.kept }

-- a state for any place: what holds of all that stand there is known of this one, where the code has none at hand
abbrev pub blank : Whole
blank = record { pos = 0; fuel = 0; mode = 0; ev = 0; evcap = 0; er = 0; ercap = 0; item = 0; first = 0; far = 0; quote = 0; number = 0; want = 0; unwant = 0; full = 0; count = 0; mask = 0; codes = replicate 58 0 }

-- what is noted beside a well formed state is well formed
pub sound : {n : ℕ} (l : Notes) (s : Whole) → Ok n (beside l s) → Sound n l
sound l s w = (
  record { here = le_trans w.0.since w.0.here; since = le_refl _; far_in = w.0.far_in; want_in = w.0.want_in; want_since = w.0.want_since; unwant_in = w.0.unwant_in; unwant_since = w.0.unwant_since },
  w.1,
  record { events = le_refl _; since = w.2.since; errors = w.2.errors; numbered = w.2.numbered },
)

-- the depth at which the next event stands
pub depth_is : {p : Past} {x : Source} {s : Whole} {b : Bufs} {a : P.State} → Wf x b s → Means p x s b a → next_depth b.events s.ev ≡ cell (height a.out)
depth_is {p} {x} {s} {b} {a} w m =
    let e : s.ev ≡ EVENT * length a.out = omega (arith, ev_count w m) in
    ap (next_depth b.events) e ∙ next_is x b.events a.out (ap (λ (i : ℕ). take i b.events) (sym e) ∙ m.written.is)

module _ {q : List ℕ} {s r : Whole} {ev ev' : List ℕ} (u : Put q s r ev ev') where
  pub ok_put : {n : ℕ} → Ok n s → Ok n r
  ok_put {n} w = subst (λ (t : Whole). Ok n t) (sym u.is) (w.0, w.1, record { events = u.fits; since = w.2.since; errors = w.2.errors; numbered = w.2.numbered })

  pub caps_put : (r.evcap ≡ s.evcap) × (r.ercap ≡ s.ercap)
  caps_put = (ap (λ (t : Whole). t.evcap) u.is, ap (λ (t : Whole). t.ercap) u.is)

  pub wf_put : (x : Source) (er sc : List ℕ) → Wf x (bufs ev er sc) s → Wf x (bufs ev' er sc) r
  wf_put x er sc w = (ok_put w.0, record { events = omega (arith, w.1.events, caps_put.0, u.long); errors = omega (arith, w.1.errors, caps_put.1); scratch = w.1.scratch })

  -- the room that an event exceeds is found where its numbers are written
  module _ {p : Past} {x : Source} {ev₀ er sc : List ℕ} {a : P.State} (w : Wf x (bufs ev₀ er sc) s) (t : Stands p x s (bufs ev₀ er sc) a) (v : Event) (k : Quiet v) where
    put_over : r.full ≡ over_of p x (P.emit v a)
    unfolding over_of
    put_over = go (ℕ_discrete s.full 0) ∙ sym (marked p x (P.put a.rest (v ∷ a.out) a))
      where
        here : s.full ≡ 0 → (c : Bool) → ltb s.evcap (s.ev + EVENT) ≡ c → ifb c 7 0 ≡ spill p x (v ∷ a.out) a.chosen
        here z true e =
            let m = t.means z in
            let l : s.evcap < s.ev + EVENT = ltb-true s.evcap (s.ev + EVENT) e in
            sym (exceeds_events p.event_room p.error_room (used p.limits x (v ∷ a.out, a.chosen)) (omega (arith, ev_count w m, m.written.room)))
        here z false e =
            let m = t.means z in
            let f = fits w m in
            let l : s.ev + EVENT ≤ s.evcap = ltb-false s.evcap (s.ev + EVENT) e in
            sym (exceeds_none p.event_room p.error_room (used p.limits x (v ∷ a.out, a.chosen)) (omega (arith, ev_count w m, m.written.room)) (omega (arith, f.1, quiet_said p.limits x v a.out k)))

        go : Dec (s.full ≡ 0) → r.full ≡ first_of (over_of p x a) (spill p x (v ∷ a.out) a.chosen)
        go (yes z) = u.filled z ∙ here z (ltb s.evcap (s.ev + EVENT)) refl ∙ ap (λ (i : ℕ). first_of i (spill p x (v ∷ a.out) a.chosen)) (sym z ∙ t.over)
        go (no n) = u.stuck n ∙ t.over ∙ sym (full_first (over_of p x a) (spill p x (v ∷ a.out) a.chosen) (λ z. n (t.over ∙ z)))

    pub emitted : (s.full ≡ 0 → take s.ev ev ++ q ≡ buffer x (v ∷ a.out)) → Stands p x r (bufs ev' er sc) (P.emit v a)
    emitted g =
        record {
          over = put_over;
          means = λ z.
              let m = t.means (u.room z) in
              subst (λ (y : Whole). Means p x y (bufs ev' er sc) (P.emit v a)) (sym u.is)
              (record {
                rest = m.rest;
                mode = m.mode;
                fuel = m.fuel;
                written = record { is = u.wrote z ∙ g (u.room z); past = quiet_records p.limits x v a.out [] k ∙ m.written.past; room = m.written.room };
                want = m.want;
                unwant = m.unwant;
                chosen = m.chosen;
                cache = m.cache;
              });
        }

  -- an event is written
  pub writes : (v : P.State → Event) → ((a : P.State) → Quiet (v a)) → {x : Source} {er sc : List ℕ} → Wf x (bufs ev er sc) s → ((p : Past) (a : P.State) → Means p x s (bufs ev er sc) a → buffer x (v a ∷ a.out) ≡ buffer x a.out ++ q) → Did (λ a. P.emit (v a) a) x s r (bufs ev er sc) (bufs ev' er sc)
  writes v k {x} {er} {sc} w g =
      record {
        does = λ p a t. emitted w t (v a) (k a) (λ z. ap (λ (l : List ℕ). l ++ q) (t.means z).written.is ∙ sym (g p a (t.means z)));
        wf = wf_put x er sc w;
        room = u.room;
        first = ap (λ (y : Whole). y.first) u.is;
        ahead = omega (arith, ap (λ (y : Whole). y.pos) u.is);
        grows = u.grows;
        kept = u.kept;
      }

-- the place moves
pub moved : (i : ℕ) {p : Past} {x : Source} {s : Whole} {b : Bufs} {a : P.State} → Stands p x s b a → Stands p x (with_pos i s) b (P.put (drop i x.ids) a.out a)
unfolding over_of
moved i t = record { over = t.over; means = λ z. let m = t.means z in record { rest = refl; mode = m.mode; fuel = m.fuel; written = m.written; want = m.want; unwant = m.unwant; chosen = m.chosen; cache = m.cache } }

-- what a test that is turned round tells
pub off : (b : Bool) → true ≡ not b → b ≡ false
off true e = absurd (subst T e tt)
off false e = refl

pub on : (b : Bool) → false ≡ not b → b ≡ true
on true e = refl
on false e = absurd (subst T (sym e) tt)

-- `!= Full::NONE`: which room was exceeded, if one was
pub exceeded_none : (f : Full) → false ≡ not (eqb f.number 0) → exceeded f ≡ 0
exceeded_none f e = eqb-true f.number 0 (on (eqb f.number 0) e)

pub exceeded_some : (f : Full) → true ≡ not (eqb f.number 0) → exceeded f ≡ 0 → ⊥
exceeded_some f e = eqb-false f.number 0 (off (eqb f.number 0) e)
