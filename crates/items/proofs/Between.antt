-- From between two items to between two items. Assumes nothing.
use Prim.Native.Nat.{ℕ, zero, suc, ◌+◌, ◌-◌, ◌*◌, ◌≤◌, ◌<◌}
use mathlib.Core.Path.{◌≡◌, refl, sym, ap, ap₂, subst, ◌∙◌}
use mathlib.Core.List.{List, [], ◌∷◌, ◌++◌, append-nil, append_assoc}
use mathlib.Core.Bool.{Bool, true, false}
use native.Mathlib.Nat.{le_refl, zero-add, suc-add, add-zero}
use native.Mathlib.Omega.{arith}
use native.Mathlib.Decide.{dec_lt, ℕ_discrete}
use borrow.Author.Tests.{eq-eqb, ne_eqb, eqb-true, leb-true, leb-false}
use lib.Dec.{T, eqb, leb}
use lib.ListN.{length, get_or, drop, replicate, drop_of_length-le, length-append, length-drop, length-replicate}
use lib.Seq.{drop-cons}
use Rattle.definition.specs.Run as P
use Rattle.definition.specs.Run.{Limits, Mode, ok, failed, stopped}
use Rattle.definition.specs.Render.{Source, bads, numbers}
use Rattle.shapes.specs.Shapes.{Owned, flat_records, of_item, items_in}
use Rattle.shapes.proofs.Laws.{items_append, items_of, items_length, bare_of, bare_length}
use Rattle.definition.proofs.Order.{Running}
use Rattle.definition.proofs.File.{items_end, items_step}
use Rattle.definition.proofs.Takes.{item_takes}
use Rattle.definition.proofs.Suffix.{chain}
use Rattle.definition.proofs.Numbers.{brought, numbers_end, numbers_step, numbers_chain}
use Rattle.notes.specs.declared.names.Notes.{Notes}
use Rattle.notes.specs.Whole.{Whole}
use Rattle.notes.specs.Bits.{ifb, bit_at, Forgot, Cached}
use Rattle.notes.specs.Means.{Bufs, bufs, Past, Means, Stands, Rows, mode_of, recorded, over_of}
use Rattle.notes.specs.Did.{Wf, Events}
use Rattle.notes.proofs.Core.{Sticky, sticky_mark}
use Rattle.notes.proofs.Sticky.{sticky_trans, sticky_trivia}
use Rattle.steps.proofs.Ends.{none_pending}
use Rattle.items.specs.Items.{Tally, with_number, tell, since, told, Tells, Numbered, Free, at_hand, past_of, Handed, Hands, settled, Settled, over, Between, Goes}
use Rattle.items.proofs.Telling.{bads_records, recorded_length}
use Rattle.items.proofs.Hand.{sticky_hand}
use Rattle.grammar.specs.Parts.{reach}

-- AN ITEM ENDS
abbrev calm : Mode → Mode
calm ok = ok
calm failed = ok
calm (stopped w) = stopped w

again_is : (a : P.State) → P.again a ≡ P.turn (calm a.mode) a
again_is a = go a.mode a
  where
    go : (m : Mode) (a : P.State) → P.again (P.turn m a) ≡ P.turn (calm m) (P.turn m a)
    go ok a = refl
    go failed a = refl
    go (stopped w) a = refl

calm_of : (n : ℕ) → calm (mode_of n) ≡ mode_of (ifb (eqb n 1) 0 n)
calm_of zero = refl
calm_of (suc zero) = refl
calm_of (suc (suc zero)) = refl
calm_of (suc (suc (suc n))) = ap (λ (c : Bool). mode_of (ifb c 0 (suc (suc (suc n))))) (sym (ne_eqb (suc (suc (suc n))) 1 (λ e. absurd (omega (arith, e)))))

-- nothing is remembered
module _ {n first far : ℕ} {l l' : List ℕ} {c : List (ℕ × ℕ)} (k : Cached n first far l c) (f : Forgot first far l l') where
  blank : (i : ℕ) → bit_at l' i ≡ false
  blank i = go (dec_lt i (2 * first)) (dec_lt i (2 * far))
    where
      go : Dec (i < 2 * first) → Dec (i < 2 * far) → bit_at l' i ≡ false
      go (yes h) d = f.outside i (k.below i h)
      go (no h) (yes g) = f.inside i (omega arith) g
      go (no h) (no g) = f.outside i (k.above i (omega arith))

  forgets : (at : ℕ) → Cached n at at l' []
  forgets at = record { expr = λ p h. blank (2 * p); term = λ p h. blank (2 * p + 1); below = λ i h. blank i; above = λ i h. blank i }

module _ (x : Source) (s : Whole) (ev er sc sc' : List ℕ) (f : Forgot s.first s.far sc sc') where
  settle_stands : (p : Past) (c : P.State) → Stands p x s (bufs ev er sc) (tell c) → Stands p x (settled s) (bufs ev er sc') (P.again (P.flush c))
  unfolding over_of
  settle_stands p c t = subst (λ (a : P.State). Stands p x (settled s) (bufs ev er sc') a) (sym (again_is (P.flush c))) (record { over = t.over; means = λ z. means (t.means z) })
    where
      means : Means p x s (bufs ev er sc) (tell c) → Means p x (settled s) (bufs ev er sc') (P.turn (calm c.mode) (P.flush c))
      means m =
          record {
            rest = m.rest;
            mode = ap calm m.mode ∙ calm_of s.mode;
            fuel = m.fuel;
            written = m.written;
            want = refl;
            unwant = refl;
            chosen = record { is = m.chosen.is; since = m.chosen.since; room = m.chosen.room; quoted = m.chosen.quoted; numbered = m.chosen.numbered; apart = tt };
            cache = forgets m.cache f s.pos;
          }

  settle_wf : length sc' ≡ length sc → Wf x (bufs ev er sc) s → Wf x (bufs ev er sc') (settled s)
  settle_wf e w =
      let v = w.0.0 in
      ((record { here = v.here; since = le_refl _; far_in = omega (arith, v.here); want_in = omega arith; want_since = λ n. absurd (n refl); unwant_in = omega arith; unwant_since = λ n. absurd (n refl) }, w.0.1, w.0.2), record { events = w.1.events; errors = w.1.errors; scratch = omega (arith, w.1.scratch, e) })

-- ROOMS
sticky_item : (L : Limits) (p : Past) (x : Source) (a : P.State) → Sticky p x a (P.item L a)
unfolding over_of
sticky_item L p x a =
    let t : P.State = P.trivia a in
    let c : P.State = at_hand L t in
    let e = ap (over_of p x) (again_is (P.flush c)) in
    sticky_trans p x a t (P.item L a) (sticky_trivia p x a)
    (sticky_trans p x t c (P.item L a) (sticky_hand L p x t)
    (λ n. e ∙ sticky_mark p x (record { rest = c.rest; mode = c.mode; fuel = c.fuel; out = P.errors c.chosen c.out; want = c.want; unwant = c.unwant; chosen = []; cache = []; begun = c.begun; drafts = c.drafts }) n))

sticky_some : (L : Limits) (p : Past) (x : Source) (n : ℕ) (a : P.State) → Sticky p x a (P.items L n a)
sticky_some L p x zero a = λ z. refl
sticky_some L p x (suc n) a = go (λ c. sticky_some L p x n c) a.rest a.mode a
  where
    go : ((c : P.State) → Sticky p x c (P.items L n c)) → (r : List ℕ) (m : Mode) (a : P.State) → let u : P.State = P.turn m (P.put r a.out a) in Sticky p x u (P.items L (suc n) u)
    go f [] m a = λ z. refl
    go f (i ∷ is) ok a = let u : P.State = P.turn ok (P.put (i ∷ is) a.out a) in sticky_trans p x u (P.item L u) (P.items L n (P.item L u)) (sticky_item L p x u) (f (P.item L u))
    go f (i ∷ is) failed a = λ z. refl
    go f (i ∷ is) (stopped w) a = λ z. refl

items_not : (L : Limits) (k n : ℕ) (a : P.State) → (n ≡ 0 → ⊥) → a.mode ≡ mode_of n → P.items L k a ≡ a
items_not L zero n a h e = refl
items_not L (suc k) n a h e = ap (λ (m : Mode). P.items L (suc k) (P.turn m a)) e ∙ go a.rest n a h ∙ ap (λ (m : Mode). P.turn m a) (sym e)
  where
    go : (r : List ℕ) (n : ℕ) (a : P.State) → (n ≡ 0 → ⊥) → P.items L (suc k) (P.turn (mode_of n) (P.put r a.out a)) ≡ P.turn (mode_of n) (P.put r a.out a)
    go [] n a h = refl
    go (i ∷ is) zero a h = absurd (h refl)
    go (i ∷ is) (suc zero) a h = refl
    go (i ∷ is) (suc (suc zero)) a h = refl
    go (i ∷ is) (suc (suc (suc n))) a h = refl

items_out : (L : Limits) (k : ℕ) (a : P.State) → a.rest ≡ [] → P.items L k a ≡ a
items_out L zero a e = refl
items_out L (suc k) a e = items_end L k a e

numbers_not : (L : Limits) (k i n : ℕ) (a : P.State) → (n ≡ 0 → ⊥) → a.mode ≡ mode_of n → numbers L k i a ≡ []
numbers_not L zero i n a h e = refl
numbers_not L (suc k) i n a h e = ap (λ (m : Mode). numbers L (suc k) i (P.turn m a)) e ∙ go a.rest n a h
  where
    go : (r : List ℕ) (n : ℕ) (a : P.State) → (n ≡ 0 → ⊥) → numbers L (suc k) i (P.turn (mode_of n) (P.put r a.out a)) ≡ []
    go [] n a h = refl
    go (j ∷ js) zero a h = absurd (h refl)
    go (j ∷ js) (suc zero) a h = refl
    go (j ∷ js) (suc (suc zero)) a h = refl
    go (j ∷ js) (suc (suc (suc n))) a h = refl

-- NO ITEM
module _ (n : ℕ) (s : Whole) where
  abbrev left : Bool → Bool → Bool
  left c d = ifb c (ifb d (leb n s.pos) true) true

  pub over_rows : s.full ≡ 0 → s.mode ≡ 0 → leb n s.pos ≡ over n s
  over_rows z h = ap₂ left (sym (eq-eqb s.full 0 z)) (sym (eq-eqb s.mode 0 h))

  pub more : over n s ≡ false → (s.full ≡ 0) × (s.mode ≡ 0) × (s.pos < n)
  more e = go (eqb s.full 0) (eqb s.mode 0) refl refl e
    where
      go : (c d : Bool) → eqb s.full 0 ≡ c → eqb s.mode 0 ≡ d → left c d ≡ false → (s.full ≡ 0) × (s.mode ≡ 0) × (s.pos < n)
      go true true i j e = (eqb-true s.full 0 i, eqb-true s.mode 0 j, leb-false n s.pos e)
      go true false i j e = absurd (subst T e tt)
      go false d i j e = absurd (subst T e tt)

module _ {bounds : ℕ × Bool} {x : Source} {d : Tally} {b : Bufs} (w : Wf x b d.state) (st : Settled d.state) (o k : ℕ) where
  stuck : (d.state.full ≡ 0 → ⊥) → Goes bounds o k x d d b b
  unfolding over_of
  stuck n =
      record {
        does = λ L E R ns a i B.
            record {
              records = B.records;
              last = B.last;
              own = λ z. absurd (n z);
              stands = record { over = B.stands.over ∙ sym (sticky_some L (past_of L E R B.records B.last) x k a (λ z. n (B.stands.over ∙ z))); means = λ z. absurd (n z) };
              count = λ z. absurd (n z);
              few = λ z. absurd (n z);
            };
        wf = w;
        settles = st;
      }

  same : ((L : Limits) (E R : ℕ) (ns : List ℕ) (a : P.State) → Between L E R ns x d b a → (P.items L k a ≡ a) × (numbers L k o a ≡ [])) → Goes bounds o k x d d b b
  same g =
      record {
        does = λ L E R ns a i B.
            let e = g L E R ns a B in
            subst (λ (c : P.State). Between L E R (ns ++ numbers L k o a) x d b c) (sym e.0) (subst (λ (l : List ℕ). Between L E R l x d b a) (sym (ap (λ (l : List ℕ). ns ++ l) e.1 ∙ append-nil ns)) B);
        wf = w;
        settles = st;
      }

  pub idles : over (length x.ids) d.state ≡ true → Goes bounds o k x d d b b
  idles e = go (ℕ_discrete d.state.full 0) (ℕ_discrete d.state.mode 0) (dec_lt d.state.pos (length x.ids))
    where
      go : Dec (d.state.full ≡ 0) → Dec (d.state.mode ≡ 0) → Dec (d.state.pos < length x.ids) → Goes bounds o k x d d b b
      go (no n) m l = stuck n
      go (yes z) (no n) l = same (λ L E R ns a B. let m = (B.stands.means z).mode in (items_not L k d.state.mode a n m, numbers_not L k o d.state.mode a n m))
      go (yes z) (yes y) (no h) =
          let g : length x.ids ≤ d.state.pos = omega arith in
          same (λ L E R ns a B. let r = (B.stands.means z).rest ∙ drop_of_length-le x.ids g in (items_out L k a r, numbers_end L k o a r))
      go (yes z) (yes y) (yes h) = let g = leb-true (length x.ids) d.state.pos (over_rows (length x.ids) d.state z y ∙ e) in absurd (omega arith)

pub items_none : {bounds : ℕ × Bool} {x : Source} {d : Tally} {b : Bufs} (o : ℕ) → Wf x b d.state → Settled d.state → Goes bounds o 0 x d d b b
items_none o w st = same w st o 0 (λ L E R ns a B. (refl, refl))

-- some number of items by another name of it
pub goes_as : {bounds : ℕ × Bool} {o : ℕ} {x : Source} {d r : Tally} {b b' : Bufs} (n k : ℕ) → n ≡ k → Goes bounds o n x d r b b' → Goes bounds o k x d r b b'
goes_as {bounds} {o} {x} {d} {r} {b} {b'} n k e y = subst (λ (i : ℕ). Goes bounds o i x d r b b') e y

-- some items more
pub goes_then : {bounds : ℕ × Bool} {x : Source} {d r q : Tally} {b b₁ b₂ : Bufs} (o n k : ℕ) → Goes bounds o n x d r b b₁ → Goes bounds (n + o) k x r q b₁ b₂ → Goes bounds o (n + k) x d q b b₂
goes_then {bounds} {x} {d} {r} {q} {b} {b₁} {b₂} o n k y z =
    record {
      does = λ L E R ns a i B.
          let c : P.State = P.items L n a in
          let l : ns ++ numbers L (n + k) o a ≡ (ns ++ numbers L n o a) ++ numbers L k (n + o) c = ap (λ (m : List ℕ). ns ++ m) (numbers_chain L n k o a) ∙ sym (append_assoc ns (numbers L n o a) (numbers L k (n + o) c)) in
          subst (λ (m : List ℕ). Between L E R m x q b₂ (P.items L (n + k) a)) (sym l)
          (subst (λ (e : P.State). Between L E R ((ns ++ numbers L n o a) ++ numbers L k (n + o) c) x q b₂ e) (sym (chain L n k a)) (z.does L E R (ns ++ numbers L n o a) c i (y.does L E R ns a i B)));
      wf = z.wf;
      settles = z.settles;
    }

-- AN ITEM

-- what is to be forgotten has its place in the scratch words
pub settle_asks : (x : Source) {bounds : ℕ × Bool} {s : Whole} {before : ℕ} {h u : Tally} {b b' : Bufs} {ev' : List ℕ} → Hands bounds x s before h b b' → ((sc : List ℕ) → Wf x (bufs b'.events b'.errors sc) h.state → Tells x h.state h.before u (bufs b'.events b'.errors sc) (bufs ev' b'.errors sc)) → 2 * u.state.far ≤ 64 * length b'.scratch
settle_asks x {b' = b'} H T = let v = (T b'.scratch H.wf).wf in omega (arith, v.0.0.far_in, v.1.scratch)

replicate_add : (n m i : ℕ) → replicate n i ++ replicate m i ≡ replicate (n + m) i
replicate_add zero m i = ap (λ (k : ℕ). replicate k i) (sym (zero-add m))
replicate_add (suc n) m i = ap (λ (l : List ℕ). i ∷ l) (replicate_add n m i) ∙ ap (λ (k : ℕ). replicate k i) (sym (suc-add n m))

-- the item's number is noted
abbrev pub noting : ℕ → Notes → Notes
noting o n = record { want = n.want; unwant = n.unwant; count = n.count; mask = n.mask; er = n.er; ercap = n.ercap; item = n.item; first = n.first; far = n.far; quote = n.quote; number = o; codes = n.codes }

pub item_wf : (o : ℕ) (x : Source) (b : Bufs) (s : Whole) → Rows x → o ≤ length x.ids → Wf x b s → Wf x b (with_number o s)
item_wf o x b s rows low w = ((w.0.0, w.0.1, record { events = w.0.2.events; since = w.0.2.since; errors = w.0.2.errors; numbered = omega (arith, low, rows.lines.few) }), w.1)

module _ {bounds : ℕ × Bool} (o : ℕ) (x : Source) (d h u r : Tally) (s : Whole) (ev ev₁ ev₂ ev₃ er er₂ sc sc₂ sc₃ : List ℕ) (rows : Rows x) (low : o ≤ length x.ids) (w : Wf x (bufs ev er sc) d.state) (st : Settled d.state) (ready : (d.state.full ≡ 0) × (d.state.mode ≡ 0) × (d.state.pos < length x.ids))
    (passed : Events P.trivia x (with_number o d.state) s ev ev₁) (H : Hands bounds x s d.before h (bufs ev₁ er sc) (bufs ev₂ er₂ sc₂)) (U : Tells x h.state h.before u (bufs ev₂ er₂ sc₂) (bufs ev₃ er₂ sc₂))
    (is : r.state ≡ settled u.state) (same : r.before ≡ u.before) (F : Forgot u.state.first u.state.far sc₂ sc₃) (long : length sc₃ ≡ length sc₂) where
  z : d.state.full ≡ 0
  z = ready.0

  good : d.state.mode ≡ 0
  good = ready.1

  l : d.state.pos < length x.ids
  l = ready.2

  w₁ : Wf x (bufs ev er sc) (with_number o d.state)
  w₁ = item_wf o x (bufs ev er sc) d.state rows low w

  module _ (L : Limits) (E R : ℕ) (ns : List ℕ) (a : P.State) (i : reach L ≡ bounds) (B : Between L E R ns x d (bufs ev er sc) a) where
    abbrev p : Past
    p = past_of L E R B.records o

    m : Means (past_of L E R B.records B.last) x d.state (bufs ev er sc) a
    m = B.stands.means z

    none : a.chosen ≡ []
    none = none_pending w m (sym st.0)

    -- no error is pending, so the number may change
    unnumbered : (k : ℕ) → flat_records (B.records ++ of_item k (recorded L x a.chosen)) ≡ flat_records (B.records ++ [])
    unfolding recorded
    unnumbered k = ap (λ (c : List (ℕ × P.Choice)). flat_records (B.records ++ of_item k (recorded L x c))) none

    noted : Stands p x (with_number o d.state) (bufs ev er sc) a
    unfolding over_of
    noted =
        record {
          over = B.stands.over;
          means = λ y.
              record {
                rest = m.rest;
                mode = m.mode;
                fuel = m.fuel;
                written = record { is = m.written.is; past = m.written.past; room = m.written.room };
                want = m.want;
                unwant = m.unwant;
                chosen = record { is = m.chosen.is ∙ unnumbered B.last ∙ sym (unnumbered o); since = m.chosen.since; room = m.chosen.room; quoted = m.chosen.quoted; numbered = refl; apart = m.chosen.apart };
                cache = m.cache;
              };
        }

    abbrev a₁ : P.State
    a₁ = P.trivia a

    abbrev c : P.State
    c = at_hand L a₁

    t₁ : Stands p x s (bufs ev₁ er sc) a₁
    t₁ = (passed.did er sc w₁).does p a noted

    free : Free p s d.before a₁
    free y = (none, B.count z, omega (arith, (B.few z good).1, rows.lines.few))

    K : Handed x s d.before h (bufs ev₂ er₂ sc₂) p c
    K = H.does p a₁ i t₁ free

    abbrev q : Past
    q = since p K.records

    bound : h.state.full ≡ 0 → h.before + length c.chosen ≤ d.before + (length x.ids - d.state.pos) + 1
    bound y = omega (arith, K.few y, passed.first, st.1)

    numbered : Numbered q h.state h.before c
    numbered y = (K.count y, omega (arith, bound y, (B.few z good).1, rows.lines.few))

    t₃ : Stands (told q x c) x u.state (bufs ev₃ er₂ sc₂) (tell c)
    t₃ = U.does q c K.stands numbered

    t₄ : Stands (told q x c) x r.state (bufs ev₃ er₂ sc₃) (P.item L a)
    t₄ = subst (λ (y : Whole). Stands (told q x c) x y (bufs ev₃ er₂ sc₃) (P.item L a)) (sym is) (settle_stands x u.state ev₃ er₂ sc₂ sc₃ F (told q x c) c t₃)

    was : r.state.full ≡ 0 → u.state.full ≡ 0
    was y = sym (ap (λ (q : Whole). q.full) is) ∙ y

    abbrev new : List Owned
    new = of_item o (recorded L x c.chosen)

    new_length : length new ≡ length c.chosen
    new_length = sym (bare_length new) ∙ ap length (bare_of o (recorded L x c.chosen)) ∙ recorded_length L x c.chosen

    counted : r.state.full ≡ 0 → r.before ≡ h.before + length c.chosen
    counted y = let v = U.room (was y) in omega (arith, same, U.count q c K.stands numbered (was y), K.count v, length-append K.records new, new_length)

    further : r.state.full ≡ 0 → r.state.mode ≡ 0 → d.state.pos < r.state.pos
    further y g =
        let M = t₄.means y in
        let row = drop-cons x.ids d.state.pos 0 l in
        let k = item_takes L a (get_or x.ids d.state.pos 0) (drop (suc d.state.pos) x.ids) (m.mode ∙ ap mode_of good) (m.rest ∙ row) (subst Running (sym (M.mode ∙ ap mode_of g)) tt) in
        omega (arith, k, ap length M.rest, length-drop r.state.pos x.ids, ap length m.rest, length-drop d.state.pos x.ids)

    abbrev row : ℕ
    row = get_or x.ids d.state.pos 0

    abbrev behind : List ℕ
    behind = drop (suc d.state.pos) x.ids

    rest_is : a.rest ≡ row ∷ behind
    rest_is = m.rest ∙ drop-cons x.ids d.state.pos 0 l

    steps : P.item L a ≡ P.items L 1 a
    steps = sym (items_step L 0 a row behind rest_is (m.mode ∙ ap mode_of good))

    -- what the item recorded has its number
    owned_by : items_in (K.records ++ new) ≡ items_in B.records ++ replicate (K.many + length c.chosen) o
    owned_by =
        items_append K.records new
        ∙ ap₂ (λ (i j : List ℕ). i ++ j) K.own (items_of o (recorded L x c.chosen) ∙ ap (λ (k : ℕ). replicate k o) (recorded_length L x c.chosen))
        ∙ append_assoc (items_in B.records) (replicate K.many o) (replicate (length c.chosen) o)
        ∙ ap (λ (l : List ℕ). items_in B.records ++ l) (replicate_add K.many (length c.chosen) o)

    -- and it is as much as the definition's item brings
    as_many : r.state.full ≡ 0 → K.many + length c.chosen ≡ brought L a
    as_many y =
        let b : length (items_in (K.records ++ new)) ≡ bads (P.item L a).out = items_length (K.records ++ new) ∙ sym (ap length (t₄.means y).written.past) ∙ bads_records L x (P.item L a).out [] ∙ add-zero (bads (P.item L a).out) in
        let e : length (items_in B.records) ≡ bads a.out = items_length B.records ∙ sym (ap length m.written.past) ∙ bads_records L x a.out [] ∙ add-zero (bads a.out) in
        omega (arith, b, e, ap length owned_by, length-append (items_in B.records) (replicate (K.many + length c.chosen) o), length-replicate {A = ℕ} (K.many + length c.chosen) o)

    own : r.state.full ≡ 0 → items_in (K.records ++ new) ≡ ns ++ numbers L 1 o a
    own y =
        owned_by
        ∙ ap₂ (λ (j : List ℕ) (k : ℕ). j ++ replicate k o) (B.own z) (as_many y)
        ∙ ap (λ (j : List ℕ). ns ++ j) (sym (numbers_step L 0 o a row behind rest_is (m.mode ∙ ap mode_of good) ∙ append-nil (replicate (brought L a) o)))

    between : Between L E R (ns ++ numbers L 1 o a) x r (bufs ev₃ er₂ sc₃) (P.item L a)
    between =
        record {
          records = K.records ++ new;
          last = o;
          own = own;
          stands = t₄;
          count = λ y. same ∙ U.count q c K.stands numbered (was y);
          few = λ y g.
              let f = further y g in
              let n = counted y in
              let k = bound (U.room (was y)) in
              let j = B.few z good in
              ((λ o. absurd (omega arith)), few d.state.pos f j.0 j.1 (omega arith));
        }
      where
        few : (i : ℕ) → i < r.state.pos → (i ≡ 0 → d.before ≡ 0) → d.before ≤ i * 65536 + 1 → r.before ≤ d.before + (length x.ids - i) + 1 → r.before ≤ r.state.pos * 65536 + 1
        few zero f o b k = omega (arith, o refl, rows.lines.few)
        few (suc i) f o b k = omega (arith, rows.lines.few)

  pub item_goes : Goes bounds o 1 x d r (bufs ev er sc) (bufs ev₃ er₂ sc₃)
  item_goes =
      record {
        does = λ L E R ns a i B. subst (λ (c : P.State). Between L E R (ns ++ numbers L 1 o a) x r (bufs ev₃ er₂ sc₃) c) (steps L E R ns a i B) (between L E R ns a i B);
        wf = subst (λ (y : Whole). Wf x (bufs ev₃ er₂ sc₃) y) (sym is) (settle_wf x u.state ev₃ er₂ sc₂ sc₃ F long U.wf);
        settles = subst (λ (y : Whole). Settled y) (sym is) (ap (λ (y : Whole). y.item) U.is ∙ sym (ap (λ (y : Whole). y.er) U.is), refl);
      }
