-- A production that remembers its failures: the four ways through it. Assumes nothing.
use Prim.Native.Nat.{ℕ, zero, suc, ◌+◌, ◌-◌, ◌/◌, ◌≤◌, max}
use mathlib.Core.Path.{◌≡◌, refl, sym, ap, subst, ◌∙◌}
use mathlib.Core.List.{List, ◌∷◌}
use mathlib.Core.Bool.{Bool, true, false}
use native.Mathlib.Nat.{le_refl}
use native.Mathlib.Omega.{arith}
use lib.ListN.{length, length-drop}
use Rattle.definition.specs.Run as P
use Rattle.definition.specs.Run.{Mode, ok, failed, stopped}
use Rattle.definition.specs.Render.{Source}
use Rattle.notes.specs.Whole.{Whole}
use Rattle.notes.specs.Bits.{bit_at, Kept}
use Rattle.notes.specs.Change.{with_mode, with_far}
use Rattle.notes.specs.Means.{Bufs, bufs, Past, Means, Stands, mode_of, over_of}
use Rattle.notes.specs.Did.{Placed, Wf, Did}
use Rattle.notes.proofs.Core.{bare, Like, like_same, like_trans, like_at, Sticky, alike, idle}
use Rattle.notes.proofs.Sticky.{sticky}
use Rattle.steps.proofs.Next.{if_ok_yes, if_ok_no}
use Rattle.notes.proofs.Bits.{Memo, kind_of, bit_of, bit_row, cached_at, cached_more}

-- the definition's choices, by the code's mode
module _ (r k : ℕ) (a : P.State) where
  abbrev remembering : Mode → P.State
  remembering m = elim m [ ok ↦ a | failed ↦ P.keep ((r, k) ∷ a.cache) a | stopped w ↦ a ]

  remember_yes : a.mode ≡ failed → P.remember r k a ≡ P.keep ((r, k) ∷ a.cache) a
  remember_yes e = ap remembering e

  remember_no : (n : ℕ) → (n ≡ 1 → ⊥) → a.mode ≡ mode_of n → P.remember r k a ≡ a
  remember_no zero h e = ap remembering e
  remember_no (suc zero) h e = absurd (h refl)
  remember_no (suc (suc zero)) h e = ap remembering e
  remember_no (suc (suc (suc n))) h e = ap remembering e

  remember_over : (p : Past) (x : Source) → over_of p x (P.remember r k a) ≡ over_of p x a
  unfolding over_of
  remember_over p x = go a.mode
    where
      go : (m : Mode) → over_of p x (remembering m) ≡ over_of p x a
      go ok = refl
      go failed = refl
      go (stopped w) = refl

-- the same step by another name
pub likened : {g f : P.Reader} {x : Source} {s r : Whole} {b b' : Bufs} → Did g x s r b b' → ((p : Past) (a : P.State) → Stands p x s b a → Like p x (g a) (f a)) → Did f x s r b b'
likened d l = record { does = λ p a u. alike (l p a u) (d.does p a u); wf = d.wf; room = d.room; first = d.first; ahead = d.ahead; grows = d.grows; kept = d.kept }

pub turned_failed : {x : Source} {s : Whole} {b : Bufs} → Wf x b s → Did (P.turn failed) x s (with_mode 1 s) b b
unfolding over_of
turned_failed w =
    record {
      does = λ p a u. record { over = u.over; means = λ z. let m = u.means z in record { rest = m.rest; mode = refl; fuel = m.fuel; written = m.written; want = m.want; unwant = m.unwant; chosen = m.chosen; cache = m.cache } };
      wf = w;
      room = λ z. z;
      first = refl;
      ahead = le_refl _;
      grows = le_refl _;
      kept = refl;
    }

-- f came from s to r, and its failure was remembered
keeps : (t : Memo) {f : P.Reader} {x : Source} {s r q : Whole} {b b' : Bufs} {sc : List ℕ} → Wf x b s → Did f x s r b b' → (q ≡ with_far (max r.far (bit_of t s.pos / 2 + 1)) r) × Kept (bit_of t s.pos) b'.scratch sc → length sc ≡ length b'.scratch → Did (λ a. P.keep ((length x.ids - s.pos, kind_of t) ∷ (f a).cache) (f a)) x s q b (bufs b'.events b'.errors sc)
unfolding over_of
keeps t {f} {x} {s} {r} {q} {b} {b'} {sc} w d k long =
    subst (λ (o : Whole). Did (λ a. P.keep ((length x.ids - s.pos, kind_of t) ∷ (f a).cache) (f a)) x s o b (bufs b'.events b'.errors sc)) (sym k.0)
    (record {
      does = λ p a u.
          let e = d.does p a u in
          record {
            over = e.over;
            means = λ z.
                let m = e.means z in
                record { rest = m.rest; mode = m.mode; fuel = m.fuel; written = m.written; want = m.want; unwant = m.unwant; chosen = m.chosen; cache = cached_more t m.cache (omega (arith, d.first, w.0.0.since)) w.0.0.here k.1 };
          };
      wf = ((further d.wf.0.0 (omega (arith, d.wf.0.0.far_in, bit_row t s.pos, w.0.0.here)), d.wf.0.1, d.wf.0.2), record { events = d.wf.1.events; errors = d.wf.1.errors; scratch = omega (arith, d.wf.1.scratch, long) });
      room = d.room;
      first = d.first;
      ahead = d.ahead;
      grows = d.grows;
      kept = d.kept;
    })
  where
    further : {n pos first far far' want unwant : ℕ} → Placed n pos first far want unwant → far' ≤ n + 1 → Placed n pos first far' want unwant
    further o h = record { here = o.here; since = o.since; far_in = h; want_in = o.want_in; want_since = o.want_since; unwant_in = o.unwant_in; unwant_since = o.unwant_since }

module _ (t : Memo) (f : P.Reader) (sticks : (p : Past) (x : Source) (a : P.State) → Sticky p x a (f a)) where
  sticky_memos : (p : Past) (x : Source) (a : P.State) → Sticky p x a (P.memos (kind_of t) f a)
  sticky_memos p x = (sticky p x).at_memo (kind_of t) f (sticks p x)

  module _ {x : Source} {s : Whole} {b : Bufs} (w : Wf x b s) where
    pub memo_idle : (s.mode ≡ 0 → ⊥) → Did (P.memos (kind_of t) f) x s s b b
    memo_idle h = idle w (λ p a u. like_at u (λ n. refl) (sticky_memos p x a) (λ z. like_same (sym (if_ok_no _ s.mode a h (u.means z).mode))))

    -- in good order, the row's bit is v
    module _ (good : s.mode ≡ 0) {v : Bool} (seen : v ≡ bit_at b.scratch (bit_of t s.pos)) where
      left : {p : Past} {a : P.State} → Means p x s b a → length a.rest ≡ length x.ids - s.pos
      left m = ap length m.rest ∙ length-drop s.pos x.ids

      at_row : {p : Past} {a : P.State} → Means p x s b a → P.memo_row (kind_of t) f v a ≡ P.memos (kind_of t) f a
      at_row {p} {a} m =
          sym
          (if_ok_yes _ a (m.mode ∙ ap mode_of good)
          ∙ ap (λ (c : Bool). P.memo_row (kind_of t) f c a) (ap (λ (i : ℕ). P.known a.cache i (kind_of t)) (left m) ∙ sym (cached_at m.cache t s.pos w.0.0.here) ∙ sym seen))

      by_row : {g : P.Reader} {q : Whole} {b' : Bufs} (c : Bool) → v ≡ c → Did g x s q b b' → ((p : Past) (a : P.State) → Sticky p x a (g a)) → ((p : Past) (a : P.State) → Stands p x s b a → Means p x s b a → Like p x (g a) (P.memo_row (kind_of t) f c a)) → Did (P.memos (kind_of t) f) x s q b b'
      by_row c y d k l =
          likened d
          (λ p a u. like_at u (k p a) (sticky_memos p x a) (λ z. like_trans (l p a u (u.means z)) (like_same (ap (λ (c : Bool). P.memo_row (kind_of t) f c a) (sym y) ∙ at_row (u.means z)))))

      pub memo_hit : v ≡ true → Did (P.memos (kind_of t) f) x s (with_mode 1 s) b b
      unfolding over_of
      memo_hit y = by_row true y (turned_failed w) (λ p a n. refl) (λ p a u m. like_same refl)

      module _ (y : v ≡ false) {r : Whole} {b' : Bufs} (d : Did f x s r b b') where
        pub memo_through : (r.mode ≡ 1 → ⊥) → Did (P.memos (kind_of t) f) x s r b b'
        memo_through h =
            by_row false y d (λ p a. sticks p x a)
            (λ p a u m.
            let e = d.does p a u in
            let i = length a.rest in
            record { all = λ z. ap bare (sym (remember_no i (kind_of t) (f a) r.mode h (e.means (e.over ∙ z)).mode)); over = sym (remember_over i (kind_of t) (f a) p x) })

        -- `remembers` returned q and left the words sc
        pub memo_failed : r.mode ≡ 1 → {q : Whole} {sc : List ℕ} → (q ≡ with_far (max r.far (bit_of t s.pos / 2 + 1)) r) × Kept (bit_of t s.pos) b'.scratch sc → length sc ≡ length b'.scratch → Did (P.memos (kind_of t) f) x s q b (bufs b'.events b'.errors sc)
        unfolding over_of
        memo_failed h k long =
            by_row false y (keeps t w d k long) (λ p a. sticks p x a)
            (λ p a u m.
            let e = d.does p a u in
            let i = length a.rest in
            record { all = λ z. ap bare (ap (λ (n : ℕ). P.keep ((n, kind_of t) ∷ (f a).cache) (f a)) (sym (left m)) ∙ sym (remember_yes i (kind_of t) (f a) ((e.means (e.over ∙ z)).mode ∙ ap mode_of h))); over = sym (remember_over i (kind_of t) (f a) p x) })
