-- Nodes ended, errors chosen, recovery. Assumes nothing.
use Prim.Native.Nat.{ℕ, zero, suc, ◌+◌, ◌-◌, ◌≤◌, ◌<◌}
use mathlib.Core.Path.{◌≡◌, refl, sym, ap, ap₂, subst, ◌∙◌}
use mathlib.Core.List.{List, [], ◌∷◌}
use mathlib.Core.Bool.{Bool, true, false}
use native.Mathlib.Nat.{le_trans}
use native.Mathlib.Omega.{arith}
use native.Mathlib.Decide.{ℕ_discrete}
use borrow.Author.Tests.{eq-eqb, ne_eqb}
use lib.Dec.{eqb}
use lib.ListN.{length, drop, replicate, length-replicate}
use Rattle.kinds.specs.Kinds as k
use Rattle.kinds.specs.Sets.{ids_of}
use Rattle.shapes.specs.Shapes.{EVENT}
use Rattle.definition.specs.Run as P
use Rattle.definition.specs.Run.{Mode, ok, failed, stopped, Next, end, other, hit, Choice}
use Rattle.definition.specs.Open.{Open}
use Rattle.definition.specs.Render.{Source, held}
use Rattle.definition.proofs.Buffer.{adding}
use Rattle.notes.specs.Whole.{Whole}
use Rattle.notes.specs.Bits.{ifb}
use Rattle.notes.specs.Change.{with_mode}
use Rattle.notes.specs.Means.{Bufs, bufs, Past, Means, mode_of}
use Rattle.notes.specs.Did.{Ok, Wf, Did, Events, Errors, Plain, Began, Both, Shuts, shut_a}
use Rattle.notes.proofs.Rooms.{er_count, said_is, lengths, flat_lengths}
use Rattle.notes.proofs.Core.{like_same, like_at, Sticky, alike, idle, then}
use Rattle.notes.proofs.Sticky.{Sticks, sticky, sticky_trans, sticky_shut, sticky_finish, sticky_choose, sticky_skip, sticky_expected, sticky_names, sticky_turn, sticky_since, sticky_swallowed}
use Rattle.steps.specs.Steps.{tells}
use Rattle.steps.proofs.Parts.{retold, turned, node}

-- how a node is ended
finish_ok : (o : Bool) (a n : ℕ) (t : P.State) → t.mode ≡ ok → P.finish o a n t ≡ shut_a a n t
finish_ok o a n t e = λ i. elim (e i) [ ok ↦ shut_a a n t | failed ↦ P.emit (P.closed k.ERROR n (length t.rest)) (P.unless_optional o t) | stopped w ↦ P.emit (P.closed k.ERROR n (length t.rest)) (P.unless_optional o t) ]

finish_not : (o : Bool) (a n m : ℕ) (t : P.State) → (m ≡ 0 → ⊥) → t.mode ≡ mode_of m → P.finish o a n t ≡ P.emit (P.closed k.ERROR n (length t.rest)) (P.unless_optional o t)
finish_not o a n zero t h e = absurd (h refl)
finish_not o a n (suc zero) t h e = λ i. elim (e i) [ ok ↦ shut_a a n t | failed ↦ P.emit (P.closed k.ERROR n (length t.rest)) (P.unless_optional o t) | stopped w ↦ P.emit (P.closed k.ERROR n (length t.rest)) (P.unless_optional o t) ]
finish_not o a n (suc (suc zero)) t h e = λ i. elim (e i) [ ok ↦ shut_a a n t | failed ↦ P.emit (P.closed k.ERROR n (length t.rest)) (P.unless_optional o t) | stopped w ↦ P.emit (P.closed k.ERROR n (length t.rest)) (P.unless_optional o t) ]
finish_not o a n (suc (suc (suc m))) t h e = λ i. elim (e i) [ ok ↦ shut_a a n t | failed ↦ P.emit (P.closed k.ERROR n (length t.rest)) (P.unless_optional o t) | stopped w ↦ P.emit (P.closed k.ERROR n (length t.rest)) (P.unless_optional o t) ]

module _ (o : Bool) (kind n at : ℕ) {x : Source} {s r : Whole} {b b' : Bufs} where
  -- as f closes it, where f is what `finish` does here
  ended : (f : P.Reader) → ((p : Past) → Sticks p x f) → ((p : Past) (a : P.State) → Means p x s b a → f a ≡ P.finish o kind n a) → Shuts f at x s r b b' → Shuts (P.finish o kind n) at x s r b b'
  ended f F e y = record { does = λ p a w t. alike (like_at t (F p a) (sticky_finish p x o kind n a) (λ z. like_same (e p a (t.means z)))) (y.does p a w t); wf = y.wf; room = y.room; first = y.first; ahead = y.ahead; grows = y.grows; kept = y.kept }

-- what a node's end chooses
tells_ok : (o : Bool) (a : P.State) → a.mode ≡ ok → tells o a ≡ a
tells_ok o a e = λ i. elim (e i) [ ok ↦ a | failed ↦ P.unless_optional o a | stopped w ↦ P.unless_optional o a ]

tells_not : (o : Bool) (m : ℕ) (a : P.State) → (m ≡ 0 → ⊥) → a.mode ≡ mode_of m → tells o a ≡ P.unless_optional o a
tells_not o zero a h e = absurd (h refl)
tells_not o (suc zero) a h e = λ i. elim (e i) [ ok ↦ a | failed ↦ P.unless_optional o a | stopped w ↦ P.unless_optional o a ]
tells_not o (suc (suc zero)) a h e = λ i. elim (e i) [ ok ↦ a | failed ↦ P.unless_optional o a | stopped w ↦ P.unless_optional o a ]
tells_not o (suc (suc (suc m))) a h e = λ i. elim (e i) [ ok ↦ a | failed ↦ P.unless_optional o a | stopped w ↦ P.unless_optional o a ]

sticky_tells : (p : Past) (x : Source) (o : Bool) → Sticks p x (tells o)
sticky_tells p x o a = go o a.mode
  where
    chosen : (o : Bool) → Sticky p x a (P.unless_optional o a)
    chosen true = λ n. refl
    chosen false = sticky_choose p x a

    go : (o : Bool) (m : Mode) → Sticky p x a (elim m as (λ _. P.State) [ ok ↦ a | failed ↦ P.unless_optional o a | stopped w ↦ P.unless_optional o a ])
    go o ok = λ n. refl
    go o failed = chosen o
    go o (stopped w) = chosen o

tells_out : (o : Bool) (a : P.State) → a.out ≡ (tells o a).out
tells_out o a = go o a.mode
  where
    chosen : (o : Bool) → a.out ≡ (P.unless_optional o a).out
    chosen true = refl
    chosen false = refl

    go : (o : Bool) (m : Mode) → a.out ≡ (elim m as (λ _. P.State) [ ok ↦ a | failed ↦ P.unless_optional o a | stopped w ↦ P.unless_optional o a ]).out
    go o ok = refl
    go o failed = chosen o
    go o (stopped w) = chosen o

module _ (o : Bool) {x : Source} {s : Whole} where
  told_none : {er : List ℕ} → Ok (length x.ids) s → s.ercap ≤ length er → ((a : P.State) → a.mode ≡ mode_of s.mode → tells o a ≡ a) → Errors (tells o) x s s er er
  told_none w h e =
      record {
        did = λ ev sc v. idle v (λ p a t. like_at t (λ n. refl) (sticky_tells p x o a) (λ z. like_same (sym (e a (t.means z).mode))));
        ok = w;
        fits = h;
        evcap = refl;
        place = refl;
        still = refl;
        room = λ z. z;
      }

  pub told_ok : {er : List ℕ} → Ok (length x.ids) s → s.ercap ≤ length er → s.mode ≡ 0 → Errors (tells o) x s s er er
  told_ok w h m = told_none w h (λ a e. tells_ok o a (e ∙ ap mode_of m))

  pub told_optional : {er : List ℕ} → Ok (length x.ids) s → s.ercap ≤ length er → (s.mode ≡ 0 → ⊥) → o ≡ true → Errors (tells o) x s s er er
  told_optional w h m q = told_none w h (λ a e. tells_not o s.mode a m e ∙ ap (λ (c : Bool). P.unless_optional c a) q)

  pub told_chosen : {r : Whole} {er er' : List ℕ} → (s.mode ≡ 0 → ⊥) → o ≡ false → Errors P.choose x s r er er' → Errors (tells o) x s r er er'
  told_chosen m q y =
      record {
        did = λ ev sc w.
            let c = y.did ev sc w in
            record {
              does = λ p a t. alike (like_at t (sticky_choose p x a) (sticky_tells p x o a) (λ z. like_same (sym (tells_not o s.mode a m (t.means z).mode ∙ ap (λ (c : Bool). P.unless_optional c a) q)))) (c.does p a t);
              wf = c.wf;
              room = c.room;
              first = c.first;
              ahead = c.ahead;
              grows = c.grows;
              kept = c.kept;
            };
        ok = y.ok;
        fits = y.fits;
        evcap = y.evcap;
        place = y.place;
        still = y.still;
        room = y.room;
      }

-- the node is closed as its kind, or as ERROR
pub ends_told : (o : Bool) (kind n at : ℕ) {shown : ℕ} {x : Source} {s s₁ r : Whole} {ev ev' er er' : List ℕ} → shown ≡ ifb (eqb s.mode 0) kind k.ERROR → Errors (tells o) x s s₁ er er'
    → ((er sc : List ℕ) → Wf x (bufs ev er sc) s₁ → Shuts (shut_a shown n) at x s₁ r (bufs ev er sc) (bufs ev' er sc)) → (sc : List ℕ) → Wf x (bufs ev er sc) s → Shuts (P.finish o kind n) at x s r (bufs ev er sc) (bufs ev' er' sc)
ends_told o kind n at {shown} {x} {s} {s₁} {r} {ev} {ev'} {er} {er'} q e shut sc w =
    let c = e.did ev sc w in
    let y = shut er' sc c.wf in
    ended o kind n at (λ a. shut_a shown n (tells o a)) (λ p a. sticky_trans p x a (tells o a) (shut_a shown n (tells o a)) (sticky_tells p x o a) (sticky_shut p x shown n (tells o a)))
    (λ p a m. go a m.mode (ℕ_discrete s.mode 0))
    (record {
      does = λ p a w t. y.does p (tells o a) (λ z. subst (Open at) (tells_out o a) (w (c.room z))) (c.does p a t);
      wf = y.wf;
      room = λ z. c.room (y.room z);
      first = y.first ∙ c.first;
      ahead = le_trans c.ahead y.ahead;
      grows = le_trans c.grows y.grows;
      kept = λ i l g. y.kept i (le_trans l c.grows) (λ z. g (c.room z));
    })
  where
    go : (a : P.State) → a.mode ≡ mode_of s.mode → Dec (s.mode ≡ 0) → shut_a shown n (tells o a) ≡ P.finish o kind n a
    go a m (yes z) =
        ap₂ (λ (i : ℕ) (t : P.State). shut_a i n t) (q ∙ ap (λ (b : Bool). ifb b kind k.ERROR) (eq-eqb s.mode 0 z)) (tells_ok o a (m ∙ ap mode_of z))
        ∙ sym (finish_ok o kind n a (m ∙ ap mode_of z))
    go a m (no z) =
        ap₂ (λ (i : ℕ) (t : P.State). shut_a i n t) (q ∙ ap (λ (b : Bool). ifb b kind k.ERROR) (ne_eqb s.mode 0 z)) (tells_not o s.mode a z m)
        ∙ chosen o
        ∙ sym (finish_not o kind n s.mode a z m)
      where
        chosen : (o : Bool) → shut_a k.ERROR n (P.unless_optional o a) ≡ P.emit (P.closed k.ERROR n (length a.rest)) (P.unless_optional o a)
        chosen true = refl
        chosen false = refl

-- an ERROR node around what is skipped
pub swallows : (d : ℕ) (o : Bool) (S : List ℕ) {x : Source} {s s₁ s₂ r : Whole} {ev ev₁ ev₂ ev₃ er er' : List ℕ} (sc : List ℕ) → Wf x (bufs ev er sc) s → Began d x s s₁ ev ev₁ → Events (P.skip_to S) x s₁ s₂ ev₁ ev₂
    → (Wf x (bufs ev₂ er sc) s₂ → Shuts (P.finish o k.ERROR (length x.ids - s₁.pos)) s₁.ev x s₂ r (bufs ev₂ er sc) (bufs ev₃ er' sc)) → Did (P.swallow d o S) x s r (bufs ev er sc) (bufs ev₃ er' sc)
swallows d o S {x} {s} {s₁} {er = er} sc w y z e =
    let B = y.events.did er sc w in
    let D = z.did er sc B.wf in
    node d k.ERROR o (P.skip_to S) (λ a. adding.at_skip S a) (λ p. sticky_skip p x S) s₁.pos s₁.ev refl refl B y.opens D (e D.wf)

-- no error of the item is pending where no number of one stands written
pub none_pending : {p : Past} {x : Source} {s : Whole} {b : Bufs} {a : P.State} → Wf x b s → Means p x s b a → s.er ≡ s.item → a.chosen ≡ []
none_pending {p} {x} {s} {b} {a} w m e = none a.chosen (omega (arith, er_count w m, e, m.chosen.since, said_is p.limits x a.out [], ap lengths m.written.past, flat_lengths p.records))
  where
    none : (c : List (ℕ × Choice)) → held p.limits x c ≡ 0 → c ≡ []
    none [] h = refl
    none (e ∷ c) h = absurd (omega arith)

pub some_pending : {p : Past} {x : Source} {s : Whole} {b : Bufs} {a : P.State} → Wf x b s → Means p x s b a → (s.er ≡ s.item → ⊥) → (S : List ℕ) → P.first_names a.chosen S a ≡ a
some_pending {p} {x} {s} {b} {a} w m n S = go a.chosen refl
  where
    none : a.chosen ≡ [] → s.er ≡ s.item
    none q = omega (arith, er_count w m, m.chosen.since, said_is p.limits x a.out [], ap lengths m.written.past, flat_lengths p.records, ap (held p.limits x) q)

    go : (c : List (ℕ × Choice)) → a.chosen ≡ c → P.first_names c S a ≡ a
    go [] q = absurd (n (none q))
    go (e ∷ c) q = refl

-- the set's names are entered where no error is pending
module _ (S : List ℕ) {x : Source} {s : Whole} where
  pub names_first : {r : Whole} → s.er ≡ s.item → Plain (P.expected (ids_of S)) x s r → Plain (λ a. P.first_names a.chosen S a) x s r
  names_first e y =
      record {
        did = λ b w.
            retold (λ a. P.first_names a.chosen S a) (λ p a n. refl) (λ p. sticky_expected p x (ids_of S)) (λ p. sticky_names p x S) (λ p a m. sticky_names p x S a)
            (λ p a t i j. sym (ap (λ (c : List (ℕ × Choice)). P.first_names c S a) (none_pending w (t.means i) e))) (idle w (λ p a t. like_same refl)) (y.did b w);
        ok = y.ok;
        evcap = y.evcap;
        ercap = y.ercap;
        first = y.first;
        place = y.place;
        still = y.still;
      }

  pub names_pending : (s.er ≡ s.item → ⊥) → Ok (length x.ids) s → Plain (λ a. P.first_names a.chosen S a) x s s
  names_pending n w =
      record {
        did = λ b v. idle v (λ p a t. like_at t (λ i. refl) (sticky_names p x S a) (λ z. like_same (sym (some_pending v (t.means z) n S))));
        ok = w;
        evcap = refl;
        ercap = refl;
        first = refl;
        place = refl;
        still = refl;
      }

-- recovery, by what stands next
recovery_is : (d : ℕ) (o : Bool) (S : List ℕ) (n : ℕ) (a : P.State) → n < 2 → a.mode ≡ mode_of n → P.recovery d o S a ≡ P.recovered d o S (P.next S a.rest) (mode_of n) (P.turn ok a)
recovery_is d o S n a h e = ap (λ (m : Mode). P.recovery d o S (P.turn m a)) e ∙ go n h
  where
    go : (n : ℕ) → n < 2 → P.recovery d o S (P.turn (mode_of n) a) ≡ P.recovered d o S (P.next S a.rest) (mode_of n) (P.turn ok a)
    go zero h = refl
    go (suc zero) h = refl
    go (suc (suc n)) h = absurd (omega arith)

recovery_not : (d : ℕ) (o : Bool) (S : List ℕ) (n : ℕ) (a : P.State) → 2 ≤ n → a.mode ≡ mode_of n → P.recovery d o S a ≡ a
recovery_not d o S n a h e = ap (λ (m : Mode). P.recovery d o S (P.turn m a)) e ∙ go n h ∙ sym (ap (λ (m : Mode). P.turn m a) e)
  where
    go : (n : ℕ) → 2 ≤ n → P.recovery d o S (P.turn (mode_of n) a) ≡ P.turn (mode_of n) a
    go zero h = absurd (omega arith)
    go (suc zero) h = absurd (omega arith)
    go (suc (suc zero)) h = refl
    go (suc (suc (suc n))) h = refl

module _ (d : ℕ) (o : Bool) (S : List ℕ) {x : Source} {s : Whole} {b : Bufs} (w : Wf x b s) where
  pub recovers_not : 2 ≤ s.mode → Did (P.recovery d o S) x s s b b
  recovers_not h = idle w (λ p a t. like_at t (λ n. refl) ((sticky p x).at_recover d o S a) (λ z. like_same (sym (recovery_not d o S s.mode a h (t.means z).mode))))

  module _ (z : Next) (q : P.next S (drop s.pos x.ids) ≡ z) (h : s.mode < 2) where
    -- in good order, g is done
    recovers : (g : P.Reader) {r : Whole} {b' : Bufs} → ((p : Past) → Sticks p x g) → ((a : P.State) → P.recovered d o S z (mode_of s.mode) a ≡ g a) → Did g x (with_mode 0 s) r b b' → Did (P.recovery d o S) x s r b b'
    recovers g G e y =
        retold (P.recovery d o S) (λ p. sticky_turn p x ok) G (λ p. (sticky p x).at_recover d o S) (λ p a m. sticky_since p x ok a (P.recovery d o S a) ((sticky p x).at_recover d o S a))
        (λ p a t i j.
        let m = t.means i in
        sym (recovery_is d o S s.mode a h m.mode ∙ ap (λ (l : List ℕ). P.recovered d o S (P.next S l) (mode_of s.mode) (P.turn ok a)) m.rest ∙ ap (λ (c : Next). P.recovered d o S c (mode_of s.mode) (P.turn ok a)) q ∙ e (P.turn ok a)))
        (turned 0 ok refl (idle w (λ p a t. like_same refl))) y

-- scratch that is long enough, where none is at hand
abbrev pub enough : Source → List ℕ
enough x = replicate (length x.ids + 1) 0

pub lent : (x : Source) (s : Whole) (ev er : List ℕ) → Ok (length x.ids) s → s.evcap ≤ length ev → s.ercap ≤ length er → Wf x (bufs ev er (enough x)) s
lent x s ev er w h i = (w, record { events = h; errors = i; scratch = omega (arith, length-replicate {A = ℕ} (length x.ids + 1) 0) })

pub both_of : {f : P.Reader} {x : Source} {s r : Whole} {ev ev' er er' : List ℕ} → Ok (length x.ids) s → s.evcap ≤ length ev → s.ercap ≤ length er → ((sc : List ℕ) → Wf x (bufs ev er sc) s → Did f x s r (bufs ev er sc) (bufs ev' er' sc)) → Both f x s r ev ev' er er'
both_of {f} {x} {s} {r} {ev} {ev'} {er} {er'} w h i g =
    let D = g (enough x) (lent x s ev er w h i) in
    record { did = g; ok = D.wf.0; event_fits = D.wf.1.events; error_fits = D.wf.1.errors }

-- what a node's end asks of a body on events behind its begin
pub ready : {d : ℕ} {f : P.Reader} {x : Source} {s s₁ s₂ : Whole} {ev ev₁ ev₂ : List ℕ} (er : List ℕ) → Ok (length x.ids) s → s.evcap ≤ length ev → s.ercap ≤ length er → Began d x s s₁ ev ev₁ → Events f x s₁ s₂ ev₁ ev₂
    → (s₂.ercap ≤ length er) × (s₁.pos ≤ s₂.pos) × (s₂.full ≡ 0 → (EVENT ≤ s₁.ev) × (s₁.ev ≤ s₂.ev))
ready {x = x} {s} {ev = ev} er w h i y z =
    let T = y.events.did er (enough x) (lent x s ev er w h i) in
    let D = z.did er (enough x) T.wf in
    (D.wf.1.errors, D.ahead, λ j. let o = y.opens (D.room j) in (omega arith, D.grows))

-- the four ways through `recover`
module _ (d : ℕ) (o : Bool) (S : List ℕ) {x : Source} {s : Whole} {ev er : List ℕ} (w : Ok (length x.ids) s) (h : s.evcap ≤ length ev) (i : s.ercap ≤ length er) where
  pub recover_stopped : 2 ≤ s.mode → Both (P.recovery d o S) x s s ev ev er er
  recover_stopped k = both_of w h i (λ sc v. recovers_not d o S v k)

  pub recover_end : s.mode < 2 → P.next S (drop s.pos x.ids) ≡ end → Both (P.recovery d o S) x s (with_mode 0 s) ev ev er er
  recover_end k q = both_of w h i (λ sc v. recovers d o S v end q k (λ a. a) (λ p a n. refl) (λ a. refl) (idle v (λ p a t. like_same refl)))

  pub recover_found : {b : ℕ} {is : List ℕ} → s.mode ≡ 0 → P.next S (drop s.pos x.ids) ≡ hit b is → Both (P.recovery d o S) x s (with_mode 0 s) ev ev er er
  recover_found {b} {is} e q =
      both_of w h i (λ sc v. recovers d o S v (hit b is) q (omega (arith, e)) (λ a. a) (λ p a n. refl) (λ a. ap (λ (n : ℕ). P.recovered d o S (hit b is) (mode_of n) a) e) (idle v (λ p a t. like_same refl)))

  pub recover_failed : {b : ℕ} {is er' : List ℕ} {r : Whole} → s.mode < 2 → (s.mode ≡ 0 → ⊥) → P.next S (drop s.pos x.ids) ≡ hit b is → Errors P.choose x (with_mode 0 s) r er er' → Both (P.recovery d o S) x s r ev ev er er'
  recover_failed {b} {is} k n q y = both_of w h i (λ sc v. recovers d o S v (hit b is) q k P.choose (λ p. sticky_choose p x) (λ a. found s.mode k n a) (y.did ev sc v))
    where
      found : (m : ℕ) → m < 2 → (m ≡ 0 → ⊥) → (a : P.State) → P.recovered d o S (hit b is) (mode_of m) a ≡ P.choose a
      found zero k n a = absurd (n refl)
      found (suc zero) k n a = refl
      found (suc (suc m)) k n a = absurd (omega arith)

  pub recover_skips : {s₁ s₂ r : Whole} {ev' er₁ er₂ : List ℕ} → s.mode < 2 → P.next S (drop s.pos x.ids) ≡ other → Plain (λ a. P.first_names a.chosen S a) x (with_mode 0 s) s₁ → Errors P.choose x s₁ s₂ er er₁ → Both (P.swallow d o S) x s₂ r ev ev' er₁ er₂ → Both (P.recovery d o S) x s r ev ev' er er₂
  recover_skips k q y z u =
      both_of w h i
      (λ sc v.
      let N = y.did (bufs ev er sc) v in
      let C = z.did ev sc N.wf in
      let D = then N C in
      recovers d o S v other q k (λ a. P.swallow d o S (P.choose (P.first_names a.chosen S a))) (λ p. sticky_swallowed p x d o S) (λ a. refl) (then D (u.did sc D.wf)))
