-- Pending errors are written as events: what the numbers of the records become is what the definition's events are. Assumes nothing.
use Prim.Native.Nat.{ℕ, suc, ◌+◌, ◌-◌, ◌*◌, ◌≤◌, ◌<◌}
use mathlib.Core.Path.{◌≡◌, refl, sym, ap, ap₂, subst, ◌∙◌}
use mathlib.Core.List.{List, [], ◌∷◌, ◌++◌, append-nil, append_assoc}
use mathlib.Core.Bool.{Bool, true, false}
use native.Mathlib.Nat.{le_refl}
use native.Mathlib.Omega.{arith}
use native.Mathlib.Decide.{ℕ_discrete}
use borrow.Author.Tests.{ltb-true, ltb-false}
use lib.Dec.{ltb}
use lib.ListN.{length, take, drop, length-append}
use lib.Seq.{length-take-le, take-add, drop_at}
use Rattle.shapes.specs.Sort as Sort
use Rattle.shapes.specs.Shapes.{EVENT, event, Rec, flat_records, of_item, bare}
use Rattle.shapes.proofs.Laws.{bare_append, bare_of, bare_length}
use Rattle.definition.specs.Run as P
use Rattle.definition.specs.Run.{Event, opened, leaf, closed, bad, Choice, Limits}
use Rattle.definition.specs.Buffer.{height, cell, next_depth, buffer}
use Rattle.definition.specs.Render.{Source, record_of, records, bads, said, used, starts_at, ends_at}
use Rattle.definition.proofs.Text.{behind_is}
use Rattle.definition.proofs.Buffer.{buffer_bad, buffer_length}
use Rattle.notes.specs.Whole.{Whole}
use Rattle.notes.specs.Bits.{ifb}
use Rattle.notes.specs.Means.{bufs, Past, recorded, Chosen, Means, Stands, over_of}
use Rattle.notes.specs.Did.{Wf}
use Rattle.notes.proofs.Core.{depth_is}
use Rattle.notes.proofs.Rooms.{flat_append, flat_size, lengths, said_is, ev_count, first_of, spill, full_first, exceeds_none, exceeds_events}
use Rattle.items.specs.Items.{Tally, most, notes, Flushed, with_item, tell, told, Numbered, Tells}
use Rattle.items.proofs.Writing.{notes_one, notes_none}

module _ (L : Limits) (x : Source) where
  -- a record more is written behind those of the events before
  records_on : (o : List Event) (l : List Rec) → records L x o l ≡ records L x o [] ++ l
  records_on [] l = refl
  records_on (opened n ∷ o) l = records_on o l
  records_on (leaf a n ∷ o) l = records_on o l
  records_on (closed a n m ∷ o) l = records_on o l
  records_on (bad n c ∷ o) l =
      let r : Rec = record_of L x n c in
      records_on o (r ∷ l) ∙ sym (append_assoc (records L x o []) (r ∷ []) l) ∙ ap (λ (k : List Rec). k ++ l) (sym (records_on o (r ∷ [])))

  pub errors_records : (es : List (ℕ × Choice)) (o : List Event) → records L x (P.errors es o) [] ≡ records L x o [] ++ recorded L x es
  unfolding recorded
  errors_records [] o = sym (append-nil (records L x o []))
  errors_records (e ∷ es) o =
      let r : Rec = record_of L x e.0 e.1 in
      errors_records es (bad e.0 e.1 ∷ o) ∙ ap (λ (k : List Rec). k ++ recorded L x es) (records_on o (r ∷ [])) ∙ append_assoc (records L x o []) (r ∷ []) (recorded L x es)

  pub bads_records : (o : List Event) (l : List Rec) → length (records L x o l) ≡ bads o + length l
  bads_records [] l = omega arith
  bads_records (opened n ∷ o) l = bads_records o l
  bads_records (leaf a n ∷ o) l = bads_records o l
  bads_records (closed a n m ∷ o) l = bads_records o l
  bads_records (bad n c ∷ o) l = omega (arith, bads_records o (record_of L x n c ∷ l))

  pub recorded_length : (es : List (ℕ × Choice)) → length (recorded L x es) ≡ length es
  unfolding recorded
  recorded_length [] = refl
  recorded_length (e ∷ es) = ap suc (recorded_length es)

  recorded_none : recorded L x [] ≡ []
  unfolding recorded
  recorded_none = refl

  lengths_append : (a b : List Rec) → lengths (a ++ b) ≡ lengths a + lengths b
  lengths_append [] b = omega arith
  lengths_append (q ∷ a) b = omega (arith, lengths_append a b)

  errors_buffer : (i : ℕ) (es : List (ℕ × Choice)) (o : List Event) → bads o + length es ≤ most → buffer x (P.errors es o) ≡ buffer x o ++ notes (cell (height o)) (bads o) 0 (flat_records (of_item i (recorded L x es)))
  unfolding recorded
  errors_buffer i [] o h = sym (ap (λ (l : List ℕ). buffer x o ++ l) (notes_none (cell (height o)) (bads o)) ∙ append-nil (buffer x o))
  errors_buffer i (e ∷ es) o few =
      let r : Rec = record_of L x e.0 e.1 in
      let h = cell (height o) in
      let q = event Sort.ERROR (bads o) (starts_at x e.0) (ends_at x e.0) h in
      let l = notes h (suc (bads o)) 0 (flat_records (of_item i (recorded L x es))) in
      errors_buffer i es (bad e.0 e.1 ∷ o) (omega arith)
      ∙ ap (λ (k : List ℕ). k ++ l) (buffer_bad x e.0 e.1 o)
      ∙ append_assoc (buffer x o) q l
      ∙ ap (λ (k : List ℕ). buffer x o ++ k)
      (sym (notes_one h (bads o) (starts_at x e.0) (ends_at x e.0) r.2 i (length r.3) (r.3 ++ r.4) (flat_records (of_item i (recorded L x es))) (behind_is L x e.0 e.1) (omega arith))
      ∙ ap (λ (t : List ℕ). notes h (bads o) 0 (r.0 ∷ r.1 ∷ r.2 ∷ i ∷ length r.3 ∷ t)) (append_assoc r.3 r.4 (flat_records (of_item i (recorded L x es)))))

  errors_length : (es : List (ℕ × Choice)) (o : List Event) → length (P.errors es o) ≡ length es + length o
  errors_length [] o = omega arith
  errors_length (e ∷ es) o = omega (arith, errors_length es (bad e.0 e.1 ∷ o))

-- the records of the item at hand
item_part : {x : Source} {p : Past} {first er ercap item quote number : ℕ} {errors : List ℕ} {es : List (ℕ × Choice)} → Chosen x p first er ercap item quote number errors es → item ≤ er → er ≤ length errors → take (er - item) (drop item errors) ≡ flat_records (of_item p.number (recorded p.limits x es))
item_part {x} {p} {er = er} {item = item} {errors = errors} {es = es} k i l =
    let e : item + (er - item) ≡ er = omega arith in
    sym (drop_at (take item errors) (take (er - item) (drop item errors)) item (length-take-le item errors (omega arith)))
    ∙ ap (drop item) (sym (take-add item (er - item) errors) ∙ ap (λ (j : ℕ). take j errors) e ∙ k.is ∙ flat_append p.records (of_item p.number (recorded p.limits x es)))
    ∙ drop_at (flat_records p.records) (flat_records (of_item p.number (recorded p.limits x es))) item (sym k.since)

module _ (x : Source) (s : Whole) (before : ℕ) (d : Tally) (ev ev' er sc : List ℕ) (w : Wf x (bufs ev er sc) s) (u : Flushed (take (s.er - s.item) (drop s.item er)) before s d ev ev') where
  abbrev q : List ℕ
  q = notes (next_depth ev s.ev) before 0 (take (s.er - s.item) (drop s.item er))

  abbrev after : Tally
  after = record { state = with_item s.er d.state; before = d.before }

  module _ (p : Past) (a : P.State) (t : Stands p x s (bufs ev er sc) a) (n : Numbered p s before a) where
    abbrev out' : List Event
    out' = P.errors a.chosen a.out

    wrote : s.full ≡ 0 → buffer x out' ≡ buffer x a.out ++ q
    wrote z =
        let m = t.means z in
        let c : bads a.out ≡ before = omega (arith, bads_records p.limits x a.out [], ap length m.written.past, bare_length p.records, (n z).0) in
        errors_buffer p.limits x p.number a.chosen a.out (omega (arith, (n z).1))
        ∙ ap₂ (λ (i : ℕ) (l : List ℕ). buffer x a.out ++ notes (cell (height a.out)) i 0 l) c (sym (item_part m.chosen w.0.2.since (omega (arith, w.0.2.errors, w.1.errors))))
        ∙ ap (λ (d : ℕ). buffer x a.out ++ notes d before 0 (take (s.er - s.item) (drop s.item er))) (sym (depth_is w m))

    size : s.full ≡ 0 → length q ≡ EVENT * length a.chosen
    size z = omega (arith, ap length (wrote z), length-append (buffer x a.out) q, buffer_length x out', buffer_length x a.out, errors_length p.limits x a.chosen a.out)

    now_recorded : s.full ≡ 0 → records p.limits x out' [] ≡ bare p.records ++ recorded p.limits x a.chosen
    now_recorded z = errors_records p.limits x a.chosen a.out ∙ ap (λ (l : List Rec). l ++ recorded p.limits x a.chosen) (t.means z).written.past

    now_bare : bare (told p x a).records ≡ bare p.records ++ recorded p.limits x a.chosen
    now_bare = bare_append p.records (of_item p.number (recorded p.limits x a.chosen)) ∙ ap (λ (l : List Rec). bare p.records ++ l) (bare_of p.number (recorded p.limits x a.chosen))

    spills : s.full ≡ 0 → d.state.full ≡ spill p x out' []
    spills z = u.puts.filled z ∙ go (ltb s.evcap (s.ev + length q)) refl
      where
        m : Means p x s (bufs ev er sc) a
        m = t.means z

        big : EVENT * length out' ≡ s.ev + length q
        big = omega (arith, size z, errors_length p.limits x a.chosen a.out, ev_count w m)

        same : said p.limits x out' ≡ s.er
        same = omega (arith, said_is p.limits x out' [], ap lengths (now_recorded z), lengths_append p.limits x (bare p.records) (recorded p.limits x a.chosen), flat_size p.records p.number (recorded p.limits x a.chosen), ap length m.chosen.is, length-take-le s.er er (omega (arith, w.0.2.errors, w.1.errors)))

        go : (c : Bool) → ltb s.evcap (s.ev + length q) ≡ c → ◌≡◌ {A = ℕ} (ifb c 7 0) (spill p x out' [])
        go true e = let l : s.evcap < s.ev + length q = ltb-true s.evcap (s.ev + length q) e in sym (exceeds_events p.event_room p.error_room (used p.limits x (out', [])) (omega (arith, big, m.written.room)))
        go false e = let l : s.ev + length q ≤ s.evcap = ltb-false s.evcap (s.ev + length q) e in sym (exceeds_none p.event_room p.error_room (used p.limits x (out', [])) (omega (arith, big, m.written.room)) (omega (arith, same, m.chosen.room, w.0.2.errors)))

    told_over : d.state.full ≡ over_of (told p x a) x (tell a)
    unfolding over_of
    told_over = go (ℕ_discrete s.full 0)
      where
        go : Dec (s.full ≡ 0) → d.state.full ≡ first_of (over_of p x a) (spill p x out' [])
        go (yes z) = spills z ∙ ap (λ (i : ℕ). first_of i (spill p x out' [])) (sym z ∙ t.over)
        go (no f) = u.puts.stuck f ∙ t.over ∙ sym (full_first (over_of p x a) (spill p x out' []) (λ z. f (t.over ∙ z)))

    told_means : d.state.full ≡ 0 → Means (told p x a) x (with_item s.er d.state) (bufs ev' er sc) (tell a)
    told_means z =
        let y = u.puts.room z in
        let m = t.means y in
        subst (λ (r : Whole). Means (told p x a) x (with_item s.er r) (bufs ev' er sc) (tell a)) (sym u.puts.is)
        (record {
          rest = m.rest;
          mode = m.mode;
          fuel = m.fuel;
          written = record { is = u.puts.wrote z ∙ ap (λ (l : List ℕ). l ++ q) m.written.is ∙ sym (wrote y); past = now_recorded y ∙ sym now_bare; room = m.written.room };
          want = m.want;
          unwant = m.unwant;
          chosen =
              record {
                is = m.chosen.is ∙ ap flat_records (sym (ap (λ (l : List Rec). (told p x a).records ++ of_item p.number l) (recorded_none p.limits x) ∙ append-nil (told p x a).records));
                since = sym (length-take-le s.er er (omega (arith, w.0.2.errors, w.1.errors))) ∙ ap length m.chosen.is;
                room = m.chosen.room;
                quoted = m.chosen.quoted;
                numbered = m.chosen.numbered;
                apart = tt;
              };
          cache = m.cache;
        })

  pub tells : Tells x s before after (bufs ev er sc) (bufs ev' er sc)
  tells =
      record {
        does = λ p a t n. record { over = told_over p a t n; means = told_means p a t n };
        count = λ p a t n z.
            let y = u.puts.room z in
            omega (arith, u.counted, size p a t n y, (n y).0, ap length (now_bare p a t n), length-append (bare p.records) (recorded p.limits x a.chosen), bare_length (told p x a).records, bare_length p.records, recorded_length p.limits x a.chosen);
        wf = subst (λ (r : Whole). Wf x (bufs ev' er sc) (with_item s.er r)) (sym u.puts.is) ((w.0.0, w.0.1, record { events = u.puts.fits; since = le_refl _; errors = w.0.2.errors; numbered = w.0.2.numbered }), record { events = omega (arith, w.1.events, u.puts.long); errors = w.1.errors; scratch = w.1.scratch });
        is = ap (with_item s.er) u.puts.is;
        room = u.puts.room;
        grows = u.puts.grows;
      }
