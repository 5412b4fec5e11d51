-- Error choice: a record is written, an error is added to the pending ones unless its row has one, and a choice is the definition's.
-- Assumes nothing.
use Prim.Native.Nat.{ℕ, zero, suc, ◌+◌, ◌-◌, ◌*◌, ◌≤◌, ◌<◌}
use mathlib.Core.Path.{◌≡◌, refl, sym, ap, ap₂, subst, ◌∙◌}
use mathlib.Core.List.{List, [], ◌∷◌, ◌++◌, append_assoc, append-nil}
use mathlib.Core.Bool.{Bool, true, false}
use native.Mathlib.Nat.{le_refl, le_trans}
use native.Mathlib.Omega.{arith}
use native.Mathlib.Numerals.{towards_suc}
use borrow.Author.Tests.{lt-ltb, le-ltb, ltb-true, ltb-false, lt-leb, leb-true, leb-false, ne_eqb, eqb-false}
use lib.Dec.{T, ltb, leb, eqb}
use lib.ListN.{length, get_or, take, drop, set, length-set, length-append}
use lib.Seq.{take_all, paste, take-paste, length-paste, length-take-le, take-add, take_at, drop_at, sets-eq}
use Rattle.kinds.specs.Kinds as k
use Rattle.utf8.specs.Utf8.{bad_byte}
use Rattle.shapes.specs.Shapes.{EVENT, HEAD, Rec, Owned, flat_records, of_item, bare}
use Rattle.shapes.proofs.Laws.{of_append}
use Rattle.definition.specs.Run as P
use Rattle.definition.specs.Run.{Event, Choice, Limits, wanted, unwanted}
use Rattle.definition.specs.Render.{Source, starts_at, ends_at, id_at, text_at, record_of, records, form_of, choice_names, said, held, used}
use Rattle.definition.proofs.Text.{form_9_record, other_records}
use Rattle.notes.specs.declared.names.Notes.{Notes}
use Rattle.notes.specs.Whole.{Whole, beside}
use Rattle.notes.specs.Bits.{ifb}
use Rattle.notes.specs.Change.{with_er, with_full, with_wants}
use Rattle.notes.specs.Means.{bufs, Past, Rows, Apart, recorded, Chosen, want_of, unwant_of, names_in, Means, Stands, over_of}
use Rattle.notes.specs.Did.{Placed, Ok, Wf, Counted, Errors}
use Rattle.choice.specs.Choice.{choice_of, scan, Noted, Pends, Chose}
use Rattle.notes.proofs.Rooms.{flat_append, flat_size, lengths, said_is, held_is, fits, first_of, spill, full_first, exceeds_none, exceeds_errors}
use Rattle.choice.proofs.Records.{starts, ends, starts_is, ends_is, id_is}
use Rattle.choice.proofs.Scanning.{scan_recorded}

-- A RECORD: the numbers before its names are stored
abbrev headed : List ℕ → ℕ → ℕ → ℕ → ℕ → ℕ → ℕ → List ℕ
headed l i a b c o d = set (set (set (set (set l i a) (i + 1) b) (i + 2) c) (i + 3) o) (i + 4) d

take_headed : (l : List ℕ) (i a b c o d : ℕ) → i + HEAD ≤ length l → take (i + HEAD) (headed l i a b c o d) ≡ take i l ++ (a ∷ b ∷ c ∷ o ∷ d ∷ [])
take_headed l i a b c o d h =
    let q = a ∷ b ∷ c ∷ o ∷ d ∷ [] in
    let e : headed l i a b c o d ≡ take i l ++ q ++ drop (i + HEAD) l = simp towards_suc (sets-eq q l i h ∙ simp towards_suc) in
    ap (take (i + HEAD)) e ∙ take_at (take i l ++ q) (drop (i + HEAD) l) (i + HEAD) (length-append (take i l) q ∙ omega (arith, length-take-le i l (omega arith)))

length_headed : (l : List ℕ) (i a b c o d : ℕ) → length (headed l i a b c o d) ≡ length l
length_headed l i a b c o d = simp length-set

module _ (q : List ℕ) (s : Whole) (er : List ℕ) where
  pub noted_full : s.er ≤ s.ercap → s.ercap < s.er + length q → Noted q s (with_full 8 s) er er
  noted_full h l =
      record {
        is = refl;
        filled = ap (λ (b : Bool). ifb b 8 0) (sym (lt-ltb s.ercap (s.er + length q) l));
        wrote = λ y. absurd (omega arith);
        fits = h;
        grows = le_refl _;
        long = refl;
      }

  noted_written : (n : ℕ) → n ≡ s.er + length q → n ≤ s.ercap → (er' : List ℕ) → take n er' ≡ take s.er er ++ q → length er' ≡ length er → Noted q s (with_full 0 (with_er n s)) er er'
  noted_written n e f er' w g =
      record {
        is = refl;
        filled = ap (λ (b : Bool). ifb b 8 0) (sym (le-ltb s.ercap (s.er + length q) (omega (arith, e))));
        wrote = λ y. w;
        fits = f;
        grows = omega (arith, e);
        long = g;
      }

module _ (s : Whole) (start end form item : ℕ) (names er : List ℕ) where
  abbrev numbers : List ℕ
  numbers = start ∷ end ∷ form ∷ item ∷ length names ∷ names

  pub record_full : s.er ≤ s.ercap → s.ercap - s.er < length names + HEAD → Noted numbers s (with_full 8 s) er er
  record_full h l = noted_full numbers s er h (omega arith)

  pub record_written : s.er ≤ s.ercap → length names + HEAD ≤ s.ercap - s.er → s.ercap ≤ length er → (er' : List ℕ) → er' ≡ paste (headed er s.er start end form item (length names)) (s.er + HEAD) names (length names) → Noted numbers s (with_full 0 (with_er (s.er + HEAD + length names) s)) er er'
  record_written h f l er' e =
      let count = length names in
      let q = length_headed er s.er start end form item count in
      noted_written numbers s er (s.er + HEAD + count) (omega arith) (omega arith) er'
      (ap (take (s.er + HEAD + count)) e
      ∙ take-paste (headed er s.er start end form item count) (s.er + HEAD) names count (omega (arith, q)) (le_refl _)
      ∙ ap₂ (λ (t u : List ℕ). t ++ u) (take_headed er s.er start end form item count (omega arith)) (take_all (length names) names (le_refl _))
      ∙ append_assoc (take s.er er) (start ∷ end ∷ form ∷ item ∷ count ∷ []) names)
      (ap length e ∙ length-paste (headed er s.er start end form item count) (s.er + HEAD) names count (omega (arith, q)) (le_refl _) ∙ q)

-- with a place behind the count
abbrev pub placed : List ℕ → ℕ → ℕ → ℕ → ℕ → ℕ → List ℕ
placed er i start end item place = set (headed er i start end 9 item 0) (i + HEAD) place

pub placed_written : (s : Whole) (start end item place : ℕ) (er : List ℕ) → s.er ≤ s.ercap → HEAD + 1 ≤ s.ercap - s.er → s.ercap ≤ length er → Noted (start ∷ end ∷ 9 ∷ item ∷ 0 ∷ place ∷ []) s (with_full 0 (with_er (s.er + HEAD + 1) s)) er (placed er s.er start end item place)
placed_written s start end item place er h f l =
    let q = start ∷ end ∷ 9 ∷ item ∷ 0 ∷ place ∷ [] in
    let e : placed er s.er start end item place ≡ take s.er er ++ q ++ drop (s.er + 6) er = simp towards_suc (sets-eq q er s.er (omega arith) ∙ simp towards_suc) in
    noted_written q s er (s.er + HEAD + 1) (omega arith) (omega arith) (placed er s.er start end item place)
    (ap (take (s.er + HEAD + 1)) e ∙ take_at (take s.er er ++ q) (drop (s.er + 6) er) (s.er + HEAD + 1) (length-append (take s.er er) q ∙ omega (arith, length-take-le s.er er (omega arith))))
    (simp length-set)

-- PENDING ERRORS
neither : (b c : Bool) → (elim b [ true ↦ true | false ↦ c ]) ≡ false → (b ≡ false) × (c ≡ false)
neither true c e = absurd (subst T e tt)
neither false c e = (refl, e)

module _ (m : ℕ) (c : Choice) where
  pending_more : (r : ℕ) (es : List (ℕ × Choice)) → (r ≡ m → ⊥) → P.pending r es ≡ false → P.pending r (es ++ ((m, c) ∷ [])) ≡ false
  pending_more r [] n h = ap (λ (b : Bool). elim b [ true ↦ true | false ↦ false ]) (ne_eqb r m n)
  pending_more r (e ∷ es) n h =
      let y = neither (eqb r e.0) (P.pending r es) h in
      ap₂ (λ (b d : Bool). elim b [ true ↦ true | false ↦ d ]) y.0 (pending_more r es n y.1)

  apart_more : (n : ℕ) (es : List (ℕ × Choice)) → m ≤ n → P.pending m es ≡ false → Apart n es → Apart n (es ++ ((m, c) ∷ []))
  apart_more n [] h p a = (h, refl, tt)
  apart_more n (e ∷ es) h p a =
      let y = neither (eqb m e.0) (P.pending m es) p in
      (a.0, pending_more e.0 es (λ q. eqb-false m e.0 y.0 (sym q)) a.1, apart_more n es h y.1 a.2)

  recorded_more : (L : Limits) (x : Source) (es : List (ℕ × Choice)) → recorded L x (es ++ ((m, c) ∷ [])) ≡ recorded L x es ++ (record_of L x m c ∷ [])
  unfolding recorded
  recorded_more L x [] = refl
  recorded_more L x (e ∷ es) = ap (λ (l : List Rec). record_of L x e.0 e.1 ∷ l) (recorded_more L x es)

-- the records of the item at hand
module _ {x : Source} {p : Past} {first er ercap item quote number : ℕ} {errors : List ℕ} {es : List (ℕ × Choice)} (k : Chosen x p first er ercap item quote number errors es) (i : item ≤ er) (l : er ≤ length errors) where
  -- what stands fits
  fitting : er ≤ ercap → ◌≡◌ {A = ℕ} 0 (ifb (ltb ercap (length (flat_records (p.records ++ of_item p.number (recorded p.limits x es))))) 8 0)
  fitting f = ap (λ (b : Bool). ifb b 8 0) (sym (le-ltb ercap (length (flat_records (p.records ++ of_item p.number (recorded p.limits x es)))) (omega (arith, ap length k.is, length-take-le er errors l))))

  item_part : take (er - item) (drop item errors) ≡ flat_records (of_item p.number (recorded p.limits x es))
  item_part =
      let e : item + (er - item) ≡ er = omega arith in
      sym (drop_at (take item errors) (take (er - item) (drop item errors)) item (length-take-le item errors (omega arith)))
      ∙ ap (drop item) (sym (take-add item (er - item) errors) ∙ ap (λ (j : ℕ). take j errors) e ∙ k.is ∙ flat_append p.records (of_item p.number (recorded p.limits x es)))
      ∙ drop_at (flat_records p.records) (flat_records (of_item p.number (recorded p.limits x es))) item (sym k.since)

-- AN ERROR AT A ROW
same_numbers : {a b f o c a' b' f' : ℕ} {ms ns : List ℕ} → a ≡ a' → b ≡ b' → f ≡ f' → ms ≡ ns → c ≡ length ms → a ∷ b ∷ f ∷ o ∷ c ∷ ms ≡ a' ∷ b' ∷ f' ∷ o ∷ length ns ∷ ns ++ []
same_numbers {ns = ns} h i j k l = cc (append-nil ns)

form_any : (L : Limits) (i : ℕ) (t : List ℕ) (e : Bool) (ns : List ℕ) → form_of L i t (choice_of e []) ≡ form_of L i t (choice_of e ns)
form_any L i t true ns = refl
form_any L i t false ns = refl

abbrev row : Source → ℕ → ℕ
row x at = length x.ids - at

abbrev part : Whole → List ℕ → List ℕ
part s er = take (s.er - s.item) (drop s.item er)

module _ {x : Source} (w : Rows x) (at : ℕ) (h : at ≤ length x.ids) (s : Whole) (er : List ℕ) (c : Counted s.ev s.evcap s.item s.er s.ercap s.number) (l : s.ercap ≤ length er) {start end : ℕ} (b : start ≡ starts x at) (e : end ≡ ends x at) where
  begins : start ≡ starts_at x (row x at)
  begins = b ∙ sym (starts_is w at h)

  stops : end ≡ ends_at x (row x at)
  stops = e ∙ sym (ends_is w at h)

  module _ {p : Past} {es : List (ℕ × Choice)} (k : Pends x p s er es) {y : Bool} (t : y ≡ scan start end 0 (part s er)) where
    pending_is : P.pending (row x at) es ≡ y
    pending_is =
        sym
        (t
        ∙ ap₂ (λ (i j : ℕ). scan i j 0 (part s er)) begins stops
        ∙ ap (scan (starts_at x (row x at)) (ends_at x (row x at)) 0) (item_part k c.since (le_trans c.errors l))
        ∙ scan_recorded w (row x at) (omega arith) p.limits p.number (length x.ids - s.first) (omega arith) es k.apart)

    added : (v : Choice) → P.add (row x at) v es ≡ elim y [ true ↦ es | false ↦ es ++ ((row x at, v) ∷ []) ]
    added v = ap (λ (q : Bool). elim q [ true ↦ es | false ↦ es ++ ((row x at, v) ∷ []) ]) pending_is

  -- one is pending there
  pub chose_none : (v : Choice) → true ≡ scan start end 0 (part s er) → Chose (P.add (row x at) v) x s (with_full 0 s) er er
  chose_none v t =
      record {
        is = refl;
        filled = λ p es k. fitting k c.since (le_trans c.errors l) c.errors ∙ ap (λ (q : List (ℕ × Choice)). ifb (ltb s.ercap (length (flat_records (p.records ++ of_item p.number (recorded p.limits x q))))) 8 0) (sym (added k t v));
        chosen = λ p es k y. subst (Pends x p s er) (sym (added k t v)) k;
        fits = c.errors;
        grows = le_refl _;
        long = refl;
      }

  -- what the record of the row is, by its form, where texts are quoted as the notes say
  module _ (y : Bool) (ns : List ℕ) {i form : ℕ} (o : i ≡ get_or x.ids at k.UNKNOWN) (f : (L : Limits) → L.quote ≡ s.quote → form ≡ form_of L i (take (end - start) (drop start x.bytes)) (choice_of y [])) where
    text_is : take (end - start) (drop start x.bytes) ≡ text_at x (row x at)
    text_is = ap₂ (λ (j k : ℕ). take (k - j) (drop j x.bytes)) begins stops

    formed : (L : Limits) → L.quote ≡ s.quote → form ≡ form_of L (id_at x (row x at)) (text_at x (row x at)) (choice_of y ns)
    formed L q = f L q ∙ form_any L i _ y ns ∙ ap₂ (λ (j : ℕ) (t : List ℕ). form_of L j t (choice_of y ns)) (o ∙ sym (id_is w at h)) text_is

    pub record_named : {count : ℕ} {ms : List ℕ} → (form ≡ 9 → ⊥) → ms ≡ choice_names form (choice_of y ns) → count ≡ length ms → (L : Limits) → L.quote ≡ s.quote → start ∷ end ∷ form ∷ s.number ∷ count ∷ ms ≡ flat_records ((record_of L x (row x at) (choice_of y ns), s.number) ∷ [])
    record_named n v u L q =
        same_numbers begins stops (formed L q) (v ∙ ap (λ (j : ℕ). choice_names j (choice_of y ns)) (formed L q)) u
        ∙ sym (other_records L x (row x at) (choice_of y ns) s.number (λ e. n (formed L q ∙ e)) [])

    pub record_placed : {place : ℕ} → form ≡ 9 → place ≡ start + bad_byte (take (end - start) (drop start x.bytes)) → (L : Limits) → L.quote ≡ s.quote → start ∷ end ∷ 9 ∷ s.number ∷ 0 ∷ place ∷ [] ≡ flat_records ((record_of L x (row x at) (choice_of y ns), s.number) ∷ [])
    record_placed {place} e v L q =
        ap₂ (λ (j k : ℕ). j ∷ k ∷ 9 ∷ s.number ∷ 0 ∷ place ∷ []) begins stops
        ∙ ap (λ (j : ℕ). starts_at x (row x at) ∷ ends_at x (row x at) ∷ 9 ∷ s.number ∷ 0 ∷ j ∷ []) (v ∙ ap₂ (λ (j : ℕ) (t : List ℕ). j + bad_byte t) begins text_is)
        ∙ sym (form_9_record L x (row x at) (choice_of y ns) s.number (sym (formed L q) ∙ e) [])

  -- none is, and a record is written
  module _ (y : Bool) (ns : List ℕ) {numbers-at : List ℕ} (record_is : (L : Limits) → L.quote ≡ s.quote → numbers-at ≡ flat_records ((record_of L x (row x at) (choice_of y ns), s.number) ∷ [])) where
    owned_more : (p : Past) (es : List (ℕ × Choice)) → of_item p.number (recorded p.limits x es) ++ ((record_of p.limits x (row x at) (choice_of y ns), p.number) ∷ []) ≡ of_item p.number (recorded p.limits x (es ++ ((row x at, choice_of y ns) ∷ [])))
    owned_more p es = sym (of_append p.number (recorded p.limits x es) (record_of p.limits x (row x at) (choice_of y ns) ∷ [])) ∙ ap (of_item p.number) (sym (recorded_more (row x at) (choice_of y ns) p.limits x es))

    records_are : {p : Past} {es : List (ℕ × Choice)} (k : Pends x p s er es) → false ≡ scan start end 0 (part s er) → take s.er er ++ numbers-at ≡ flat_records (p.records ++ of_item p.number (recorded p.limits x (P.add (row x at) (choice_of y ns) es)))
    records_are {p} {es} k t =
        ap₂ (λ (i j : List ℕ). i ++ j) k.is (record_is p.limits k.quoted ∙ ap (λ (i : ℕ). flat_records ((record_of p.limits x (row x at) (choice_of y ns), i) ∷ [])) (sym k.numbered))
        ∙ sym (flat_append (p.records ++ of_item p.number (recorded p.limits x es)) ((record_of p.limits x (row x at) (choice_of y ns), p.number) ∷ []))
        ∙ ap flat_records (append_assoc p.records (of_item p.number (recorded p.limits x es)) ((record_of p.limits x (row x at) (choice_of y ns), p.number) ∷ []) ∙ ap (λ (q : List Owned). p.records ++ q) (owned_more p es))
        ∙ ap (λ (q : List (ℕ × Choice)). flat_records (p.records ++ of_item p.number (recorded p.limits x q))) (sym (added k t (choice_of y ns)))

    pub chose_new : {r : Whole} {er' : List ℕ} → s.first ≤ at → Noted numbers-at s r er er' → false ≡ scan start end 0 (part s er) → Chose (P.add (row x at) (choice_of y ns)) x s r er er'
    chose_new {r} {er'} a d t =
        let n : s.er + length numbers-at ≡ length (take s.er er ++ numbers-at) = omega (arith, length-append (take s.er er) numbers-at, length-take-le s.er er (le_trans c.errors l)) in
        record {
          is = d.is;
          filled = λ p es k. d.filled ∙ ap (λ (j : ℕ). ifb (ltb s.ercap j) 8 0) (n ∙ ap length (records_are k t));
          chosen = λ p es k q.
              subst (λ (g : Whole). Pends x p g er' (P.add (row x at) (choice_of y ns) es)) (sym d.is)
              (record {
                is = d.wrote q ∙ records_are k t;
                since = k.since;
                room = k.room;
                quoted = k.quoted;
                numbered = k.numbered;
                apart = subst (Apart (length x.ids - s.first)) (sym (added k t (choice_of y ns))) (apart_more (row x at) (choice_of y ns) (length x.ids - s.first) es (omega arith) (pending_is k t) k.apart);
              });
          fits = d.fits;
          grows = d.grows;
          long = d.long;
        }

-- A CHOICE
-- the furthest row is taken; expected wins a tie
abbrev pub furthest : ℕ → ℕ → ℕ
furthest w u = ifb (leb u w) w u

module _ (n : ℕ) (l : List ℕ) (es : List (ℕ × Choice)) where
  decide_unwanted : (w u : ℕ) → w < u → u ≤ n + 1 → P.decide (want_of n w l) (unwant_of n u) es ≡ P.add (n - (u - 1)) unwanted es
  decide_unwanted w zero h g = absurd (omega arith)
  decide_unwanted zero (suc u) h g = let e : u ≡ suc u - 1 = omega arith in ap (λ (i : ℕ). P.add (n - i) unwanted es) e
  decide_unwanted (suc w) (suc u) h g =
      let e : u ≡ suc u - 1 = omega arith in
      ap (λ (b : Bool). elim b [ true ↦ P.add (n - u) unwanted es | false ↦ P.add (n - w) (wanted l) es ]) (lt-ltb (n - u) (n - w) (omega arith)) ∙ ap (λ (i : ℕ). P.add (n - i) unwanted es) e

  decide_wanted : (w u : ℕ) → u ≤ w → (w ≡ 0 → ⊥) → P.decide (want_of n w l) (unwant_of n u) es ≡ P.add (n - (w - 1)) (wanted l) es
  decide_wanted zero u h g = absurd (g refl)
  decide_wanted (suc w) zero h g = let e : w ≡ suc w - 1 = omega arith in ap (λ (i : ℕ). P.add (n - i) (wanted l) es) e
  decide_wanted (suc w) (suc u) h g =
      let e : w ≡ suc w - 1 = omega arith in
      ap (λ (b : Bool). elim b [ true ↦ P.add (n - u) unwanted es | false ↦ P.add (n - w) (wanted l) es ]) (le-ltb (n - u) (n - w) (omega arith)) ∙ ap (λ (i : ℕ). P.add (n - i) (wanted l) es) e

  decide_row : (w u : ℕ) {r : ℕ} → r ≡ furthest w u → (r ≡ 0 → ⊥) → u ≤ n + 1 → P.decide (want_of n w l) (unwant_of n u) es ≡ P.add (n - (r - 1)) (choice_of (leb u w) l) es
  decide_row w u {r} q z g = go (leb u w) refl q
    where
      go : (b : Bool) → leb u w ≡ b → r ≡ ifb b w u → P.decide (want_of n w l) (unwant_of n u) es ≡ P.add (n - (r - 1)) (choice_of b l) es
      go true e p = decide_wanted w u (leb-true u w e) (λ y. z (p ∙ y)) ∙ ap (λ (i : ℕ). P.add (n - (i - 1)) (wanted l) es) (sym p)
      go false e p = decide_unwanted w u (leb-false u w e) g ∙ ap (λ (i : ℕ). P.add (n - (i - 1)) unwanted es) (sym p)

  decide_none : (w u : ℕ) {r : ℕ} → r ≡ furthest w u → r ≡ 0 → P.decide (want_of n w l) (unwant_of n u) es ≡ es
  decide_none zero zero q z = refl
  decide_none zero (suc u) {r} q z = let e : r ≡ suc u = q ∙ ap (λ (b : Bool). ifb b 0 (suc u)) (lt-leb (suc u) 0 (omega arith)) in absurd (omega arith)
  decide_none (suc w) u {r} q z = absurd (go (leb u (suc w)) refl q)
    where
      go : (b : Bool) → leb u (suc w) ≡ b → r ≡ ifb b (suc w) u → ⊥
      go true e p = omega arith
      go false e p = omega (arith, leb-false u (suc w) e)

pub furthest_in : {n pos first far w u r : ℕ} → Placed n pos first far w u → r ≡ furthest w u → (r ≡ 0 → ⊥) → (first ≤ r - 1) × (r - 1 ≤ n)
furthest_in {n} {pos} {first} {far} {w} {u} {r} v q z = go (leb u w) q
  where
    go : (b : Bool) → r ≡ ifb b w u → (first ≤ r - 1) × (r - 1 ≤ n)
    go true p = let h : first < w = v.want_since (λ y. z (p ∙ y)) in omega (arith, v.want_in)
    go false p = let h : first < u = v.unwant_since (λ y. z (p ∙ y)) in omega (arith, v.unwant_in)

-- one moment more, at which the events fit
spilled : (p : Past) (x : Source) (o : List Event) (es : List (ℕ × Choice)) (n : ℕ) → records p.limits x o [] ≡ bare p.records → EVENT * suc (length o) ≤ p.event_room → ifb (ltb p.error_room (length (flat_records (p.records ++ of_item n (recorded p.limits x es))))) 8 0 ≡ spill p x o es
spilled p x o es n q f = ap (λ (i : ℕ). ifb (ltb p.error_room i) 8 0) taken ∙ go (ltb p.error_room (used p.limits x (o, es)).1) refl
  where
    taken : length (flat_records (p.records ++ of_item n (recorded p.limits x es))) ≡ said p.limits x o + held p.limits x es
    taken = flat_size p.records n (recorded p.limits x es) ∙ omega (arith, ap lengths q, said_is p.limits x o [], held_is p.limits x es)

    go : (b : Bool) → ltb p.error_room (used p.limits x (o, es)).1 ≡ b → ifb b 8 0 ≡ spill p x o es
    go true e = sym (exceeds_errors p.event_room p.error_room (used p.limits x (o, es)) f (ltb-true _ _ e))
    go false e = sym (exceeds_none p.event_room p.error_room (used p.limits x (o, es)) f (ltb-false _ _ e))

ok_emptied : (n : ℕ) (s : Whole) → Ok n s → Ok n (with_wants 0 0 s)
ok_emptied n s w = (record { here = w.0.here; since = w.0.since; far_in = w.0.far_in; want_in = omega arith; want_since = λ e. absurd (e refl); unwant_in = omega arith; unwant_since = λ e. absurd (e refl) }, w.1, w.2)

module _ (x : Source) (s : Whole) (er : List ℕ) (w : Ok (length x.ids) s) (l : s.ercap ≤ length er) where
  -- both are emptied, and nothing else changes but the records
  module _ (r : Whole) (er' : List ℕ) (i : r ≡ with_er r.er (with_full r.full (with_wants 0 0 s))) (f : r.er ≤ s.ercap) (g : s.er ≤ r.er) (n : length er' ≡ length er) (z : r.full ≡ 0 → s.full ≡ 0) where
    ok_chosen : Ok (length x.ids) r
    ok_chosen = subst (Ok (length x.ids)) (sym i) ((ok_emptied (length x.ids) s w).0, w.1, record { events = w.2.events; since = le_trans w.2.since g; errors = f; numbered = w.2.numbered })

    errors_chosen : ((ev sc : List ℕ) → Wf x (bufs ev er sc) s → (p : Past) (a : P.State) → Stands p x s (bufs ev er sc) a → Stands p x r (bufs ev er' sc) (P.choose a)) → Errors P.choose x s r er er'
    errors_chosen d =
        let cap : r.ercap ≡ s.ercap = ap (λ (t : Whole). t.ercap) i in
        record {
          did = λ ev sc v.
              record {
                does = d ev sc v;
                wf = (ok_chosen, record { events = subst (λ (t : Whole). t.evcap ≤ length ev) (sym i) v.1.events; errors = omega (arith, cap, v.1.errors, n); scratch = v.1.scratch });
                room = z;
                first = ap (λ (t : Whole). t.first) i;
                ahead = omega (arith, ap (λ (t : Whole). t.pos) i);
                grows = omega (arith, ap (λ (t : Whole). t.ev) i);
                kept = refl;
              };
          ok = ok_chosen;
          fits = omega (arith, cap, n);
          evcap = ap (λ (t : Whole). t.evcap) i;
          place = ap (λ (t : Whole). t.pos) i;
          still = ap (λ (t : Whole). t.ev) i;
          room = z;
        }

  -- a room is exceeded already
  exceeded_already : (s.full ≡ 0 → ⊥) → Errors P.choose x s (with_wants 0 0 s) er er
  unfolding over_of
  exceeded_already n =
      errors_chosen (with_wants 0 0 s) er refl w.2.errors (le_refl _) refl (λ z. z)
      (λ ev sc v p a t. record { over = t.over ∙ sym (full_first (over_of p x a) (spill p x a.out (P.decide a.want a.unwant a.chosen)) (λ z. n (t.over ∙ z))); means = λ z. absurd (n z) })

  choose_full : {f : ℕ} → s.full ≡ f → (f ≡ 0 → ⊥) → Errors P.choose x s (with_full f (with_wants 0 0 s)) er er
  choose_full q n = subst (λ (i : ℕ). Errors P.choose x s (with_full i (with_wants 0 0 s)) er er) q (exceeded_already (λ z. n (sym q ∙ z)))

  -- the pending errors become g of them
  choose_by : (g : List (ℕ × Choice) → List (ℕ × Choice)) {r : Whole} {er' : List ℕ} → s.full ≡ 0 → Chose g x (with_wants 0 0 s) r er er' → ((es : List (ℕ × Choice)) → P.decide (want_of (length x.ids) s.want (names_in s)) (unwant_of (length x.ids) s.unwant) es ≡ g es) → Errors P.choose x s r er er'
  unfolding over_of
  choose_by g {r} {er'} z c d = errors_chosen r er' c.is c.fits c.grows c.long (λ y. z) stands
    where
      stands : (ev sc : List ℕ) → Wf x (bufs ev er sc) s → (p : Past) (a : P.State) → Stands p x s (bufs ev er sc) a → Stands p x r (bufs ev er' sc) (P.choose a)
      stands ev sc v p a t =
          let m = t.means z in
          let e : P.decide a.want a.unwant a.chosen ≡ g a.chosen = ap₂ (λ (i : mathlib.Core.Option.Option (ℕ × List ℕ)) (j : mathlib.Core.Option.Option ℕ). P.decide i j a.chosen) m.want m.unwant ∙ d a.chosen in
          record {
            over =
                c.filled p a.chosen m.chosen
                ∙ ap (λ (i : ℕ). ifb (ltb i (length (flat_records (p.records ++ of_item p.number (recorded p.limits x (g a.chosen)))))) 8 0) (sym m.chosen.room)
                ∙ spilled p x a.out (g a.chosen) p.number m.written.past (fits v m).0
                ∙ ap₂ (λ (i : ℕ) (q : List (ℕ × Choice)). first_of i (spill p x a.out q)) (sym z ∙ t.over) (sym e);
            means = λ y.
                subst (λ (q : Whole). Means p x q (bufs ev er' sc) (P.choose a)) (sym c.is)
                (record {
                  rest = m.rest;
                  mode = m.mode;
                  fuel = m.fuel;
                  written = m.written;
                  want = refl;
                  unwant = refl;
                  chosen = subst (λ (q : Whole). Pends x p q er' (P.decide a.want a.unwant a.chosen)) c.is (subst (Pends x p r er') (sym e) (c.chosen p a.chosen m.chosen y));
                  cache = m.cache;
                });
          }

  -- nothing was expected nor unexpected
  chose_nothing : Chose (λ es. es) x (with_wants 0 0 s) (with_full 0 (with_wants 0 0 s)) er er
  chose_nothing =
      record {
        is = refl;
        filled = λ p es k. fitting k w.2.since (le_trans w.2.errors l) w.2.errors;
        chosen = λ p es k y. k;
        fits = w.2.errors;
        grows = le_refl _;
        long = refl;
      }

-- the notes with both emptied
abbrev pub without_wants : Notes → Notes
without_wants l = record { want = 0; unwant = 0; count = l.count; mask = l.mask; er = l.er; ercap = l.ercap; item = l.item; first = l.first; far = l.far; quote = l.quote; number = l.number; codes = l.codes }

-- the three ways that a choice goes, over what is noted
module _ (x : Source) (l : Notes) (s : Whole) (er : List ℕ) (w : Ok (length x.ids) (beside l s)) (c : l.ercap ≤ length er) where
  pub emptied_ok : Ok (length x.ids) (beside (without_wants l) s)
  emptied_ok = ok_emptied (length x.ids) (beside l s) w

  pub chooses_full : {f : ℕ} → s.full ≡ f → (f ≡ 0 → ⊥) → Errors P.choose x (beside l s) (with_full f (beside (without_wants l) s)) er er
  chooses_full q n = choose_full x (beside l s) er w c q n

  module _ (z : s.full ≡ 0) {r : ℕ} (q : r ≡ furthest l.want l.unwant) where
    pub chooses_none : r ≡ 0 → Errors P.choose x (beside l s) (with_full 0 (beside (without_wants l) s)) er er
    chooses_none e = choose_by x (beside l s) er w c (λ es. es) z (chose_nothing x (beside l s) er w c) (λ es. decide_none (length x.ids) (names_in (beside l s)) es l.want l.unwant q e)

    pub chooses_at : {v : Whole} {er' : List ℕ} → (r ≡ 0 → ⊥) → Chose (P.add (length x.ids - (r - 1)) (choice_of (leb l.unwant l.want) (names_in (beside (without_wants l) s)))) x (beside (without_wants l) s) v er er' → Errors P.choose x (beside l s) v er er'
    chooses_at e y =
        choose_by x (beside l s) er w c (P.add (length x.ids - (r - 1)) (choice_of (leb l.unwant l.want) (names_in (beside l s)))) z y
        (λ es. decide_row (length x.ids) (names_in (beside l s)) es l.want l.unwant q e w.0.unwant_in)
