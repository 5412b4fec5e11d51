-- What `stableglow_read` writes, `stableglow_message` tells: a record that the reader wrote for this source is never refused 11.
use Prim.Native.Nat.{ℕ, zero, suc, ◌+◌, ◌-◌, ◌≤◌, ◌<◌}
use mathlib.Core.Path.{◌≡◌, refl, sym, ap, ◌∙◌, subst}
use mathlib.Core.List.{List, [], ◌∷◌, ◌++◌, append_assoc}
use mathlib.Core.Bool.{Bool, true, false, cond, not, ◌&&◌}
use native.Mathlib.Omega.{arith}
use lib.Dec.{eqb, ltb, leb}
use lib.ListN.{length, length-append, get_or, drop, get_or-eq_default}
use lib.Seq.{drop_at}
use borrow.Author.Tests.{ltb-true, ltb-false, le-leb, lt-ltb, ne_eqb}
use Rattle.shapes.specs.Shapes.{Rec, Owned, flat_records, owned, bare}
use Rattle.shapes.proofs.Laws.{bare_owned, bare_length}
use Rattle.kinds.specs.Kinds as kinds
use Rattle.utf8.specs.Utf8.{utf8, bad_byte}
use Rattle.definition.specs.Run.{Limits, Event, opened, leaf, closed, bad, Choice, wanted, unwanted, stray, read}
use Rattle.definition.specs.Render.{Source, starts_at, id_at, text_at, form_found, form_slash, form_unknown, form_wanted, form_unwanted, form_of, choice_names, place_of, record_of, records, Reading}
use Rattle.definition.specs.Answer.{Desk, After, Answer, source_of, left_by}
use Rattle.definition.proofs.Cut.{Rows, rows_of}
use Rattle.theorems.proofs.Answered.{given_is}
use Rattle.theorems.proofs.Matched.{Fresh, Names, Row, Written, read_rowed, tile_rises, tile_within}
use Rattle.messages.specs.Record.{part, behind, counts, has, named, shows, reads, size, record_at}
use Rattle.messages.specs.Message.{message, written, messaging}
use Rattle.messages.proofs.Readable.{reads_when}
use Rattle.std.specs.Prelude.{Ok}
use Rattle.desk.specs.declared.read.Answered as code
use Rattle.desk.proofs.Demands.{Promised, read_given, read_errors}

-- NAMES, in the words of refusal 11

abbrev Apart : List ℕ → List ℕ → Type 0
Apart before [] = Unit
Apart before (n ∷ ns) = (has before n ≡ false) × Apart before ns

apart_more : (n : ℕ) (before ns : List ℕ) → Fresh ns n → Apart before ns → Apart (n ∷ before) ns
apart_more n before [] f a = tt
apart_more n before (m ∷ ns) f a =
    (ap (λ (b : Bool). cond b true (has before m)) (ne_eqb n m (λ e. f.0 (sym e))) ∙ a.0, apart_more n before ns f.1 a.1)

named_all : (before ns : List ℕ) → Names ns → Apart before ns → named before ns ≡ true
named_all before [] k a = refl
named_all before (n ∷ ns) k a =
    ap (λ (b : Bool). b && not (has before n) && named (n ∷ before) ns) (lt-ltb n 85 k.0)
    ∙ ap (λ (b : Bool). not b && named (n ∷ before) ns) a.0
    ∙ named_all (n ∷ before) ns k.2 (apart_more n before ns k.1 a.1)

nothing_before : (ns : List ℕ) → Apart [] ns
nothing_before [] = tt
nothing_before (n ∷ ns) = (refl, nothing_before ns)

-- FORMS: what a form shows of the text, where the text is UTF-8 or the form quotes nothing

record Shown (f : ℕ) (t : List ℕ) : Type 0 where
  pub least : 1 ≤ f
  pub most : f ≤ 10
  pub is : shows f t ≡ true

plain : (f : ℕ) (t : List ℕ) → 1 ≤ f → f ≤ 10 → shows f t ≡ true → Shown f t
plain f t h k e = record { least = h; most = k; is = e }

module _ (L : Limits) where
  found_shown : (t : List ℕ) → utf8 t ≡ true → Shown (form_found L t) t
  found_shown [] e = plain 3 [] (omega arith) (omega arith) refl
  found_shown (b ∷ bs) e = go (ltb L.quote (suc (length bs)))
    where
      go : (x : Bool) → Shown (elim x as (λ _. ℕ) [ true ↦ 2 | false ↦ 1 ]) (b ∷ bs)
      go true = plain 2 (b ∷ bs) (omega arith) (omega arith) refl
      go false = plain 1 (b ∷ bs) (omega arith) (omega arith) e

  slash_shown : (t bs : List ℕ) → Shown (form_slash bs) t
  slash_shown t [] = plain 8 t (omega arith) (omega arith) refl
  slash_shown t (b ∷ bs) = go (eqb b 42)
    where
      go : (x : Bool) → Shown (elim x as (λ _. ℕ) [ true ↦ 6 | false ↦ 8 ]) t
      go true = plain 6 t (omega arith) (omega arith) refl
      go false = plain 8 t (omega arith) (omega arith) refl

  unknown_shown : (t : List ℕ) → utf8 t ≡ true → Shown (form_unknown L t) t
  unknown_shown [] e = found_shown [] e
  unknown_shown (b ∷ bs) e = go (eqb b 47) (eqb b 34)
    where
      go : (x y : Bool) → Shown (elim x as (λ _. ℕ) [ true ↦ form_slash bs | false ↦ elim y as (λ _. ℕ) [ true ↦ 7 | false ↦ form_found L (b ∷ bs) ] ]) (b ∷ bs)
      go true y = slash_shown (b ∷ bs) bs
      go false true = plain 7 (b ∷ bs) (omega arith) (omega arith) refl
      go false false = found_shown (b ∷ bs) e

  wanted_shown : (i : ℕ) (t : List ℕ) → utf8 t ≡ true → Shown (form_wanted L i t) t
  wanted_shown i t e = go (eqb i kinds.UNKNOWN)
    where
      go : (x : Bool) → Shown (elim x as (λ _. ℕ) [ true ↦ form_unknown L t | false ↦ form_found L t ]) t
      go true = unknown_shown t e
      go false = found_shown t e

  unwanted_shown : (t : List ℕ) → utf8 t ≡ true → Shown (form_unwanted t) t
  unwanted_shown [] e = plain 5 [] (omega arith) (omega arith) refl
  unwanted_shown (b ∷ bs) e = plain 4 (b ∷ bs) (omega arith) (omega arith) e

  -- a text that is not UTF-8 has form 9
  judged_shown : (f : ℕ) (t : List ℕ) → (utf8 t ≡ true → Shown f t) → Shown (elim (utf8 t) as (λ _. ℕ) [ true ↦ f | false ↦ 9 ]) t
  judged_shown f t h = go (utf8 t) h
    where
      go : (x : Bool) → (x ≡ true → Shown f t) → Shown (elim x as (λ _. ℕ) [ true ↦ f | false ↦ 9 ]) t
      go true h = h refl
      go false h = plain 9 t (omega arith) (omega arith) refl

  form_shown : (i : ℕ) (t : List ℕ) (c : Choice) → Shown (form_of L i t c) t
  form_shown i t (wanted ns) = judged_shown (form_wanted L i t) t (wanted_shown i t)
  form_shown i t unwanted = judged_shown (form_unwanted t) t (unwanted_shown t)
  form_shown i t stray = plain 10 t (omega arith) (omega arith) refl

-- A RECORD, in the words of refusal 11

record Tells (bytes : List ℕ) (r : Rec) : Type 0 where
  pub forward : r.0 ≤ r.1
  pub within : r.1 ≤ length bytes
  pub shown : Shown r.2 (part bytes r.0 r.1)
  pub count : counts r.2 (length r.3) ≡ true
  pub names : named [] r.3 ≡ true
  pub placed : length r.4 ≡ behind r.2

-- form 9 has one number behind its count, the others none
place_length : (f a : ℕ) (t : List ℕ) → length (place_of f a t) ≡ behind f
place_length f a t = go (eqb f 9)
  where
    go : (b : Bool) → length {A = ℕ} (elim b [ true ↦ (a + bad_byte t) ∷ [] | false ↦ [] ]) ≡ cond b 1 0
    go true = refl
    go false = refl

-- "1 to 3: at least one; else 0"
record_counts : (L : Limits) (i n : ℕ) (t : List ℕ) (c : Choice) → Row n c → let f = form_of L i t c in counts f (length (choice_names f c)) ≡ true
record_counts L i n t (wanted ns) r = go (ltb (form_of L i t (wanted ns)) 4)
  where
    go : (x : Bool) → let m : ℕ = length {A = ℕ} (elim x as (λ _. List ℕ) [ true ↦ ns | false ↦ [] ]) in cond x (leb 1 m) (eqb m 0) ≡ true
    go true = le-leb 1 (length ns) r.0
    go false = refl
record_counts L i n t unwanted r = go (utf8 t) t
  where
    go : (x : Bool) (t : List ℕ) → counts (elim x as (λ _. ℕ) [ true ↦ form_unwanted t | false ↦ 9 ]) 0 ≡ true
    go true [] = refl
    go true (b ∷ bs) = refl
    go false t = refl
record_counts L i n t stray r = refl

record_names : (f n : ℕ) (c : Choice) → Row n c → named [] (choice_names f c) ≡ true
record_names f n (wanted ns) r = go (ltb f 4)
  where
    go : (x : Bool) → named [] (elim x as (λ _. List ℕ) [ true ↦ ns | false ↦ [] ]) ≡ true
    go true = named_all [] ns r.1 (nothing_before ns)
    go false = refl
record_names f n unwanted r = refl
record_names f n stray r = refl

-- the span of any row, and of the source's end, lies in the source
module _ (d : Desk) (r : Rows d) where
  abbrev z : ℕ
  z = length d.bytes

  end_within : (i : ℕ) → get_or d.ends i z ≤ z
  end_within i = go (ltb i (length d.ends)) refl
    where
      go : (b : Bool) → ltb i (length d.ends) ≡ b → get_or d.ends i z ≤ z
      go true e = tile_within 0 z d.starts d.ends r.tiled i (ltb-true i (length d.ends) e)
      go false e = omega (arith, get_or-eq_default d.ends z (ltb-false i (length d.ends) e))

  start_within : (i : ℕ) → get_or (0 ∷ d.ends) i z ≤ z
  start_within zero = omega arith
  start_within (suc i) = end_within i

  span_forward : (i : ℕ) → get_or (0 ∷ d.ends) i z ≤ get_or d.ends i z
  span_forward i = go (ltb i (length d.ends)) refl
    where
      go : (b : Bool) → ltb i (length d.ends) ≡ b → get_or (0 ∷ d.ends) i z ≤ get_or d.ends i z
      go true e = omega (arith, tile_rises 0 z d.starts d.ends r.tiled i (ltb-true i (length d.ends) e))
      go false e = omega (arith, get_or-eq_default d.ends z (ltb-false i (length d.ends) e), start_within i)

  record_tells : (L : Limits) (n : ℕ) (c : Choice) → Row n c → Tells d.bytes (record_of L (source_of d) n c)
  record_tells L n c w =
      let x : Source = source_of d in
      record {
        forward = span_forward (length d.ids - n);
        within = end_within (length d.ids - n);
        shown = form_shown L (id_at x n) (text_at x n) c;
        count = record_counts L (id_at x n) n (text_at x n) c w;
        names = record_names (form_of L (id_at x n) (text_at x n) c) n c w;
        placed = place_length (form_of L (id_at x n) (text_at x n) c) (starts_at x n) (text_at x n);
      }

abbrev Told : List ℕ → List Rec → Type 0
Told bytes [] = Unit
Told bytes (r ∷ rs) = Tells bytes r × Told bytes rs

records_told : (L : Limits) (d : Desk) → Rows d → (o : List Event) (l : List Rec) → Written o → Told d.bytes l → Told d.bytes (records L (source_of d) o l)
records_told L d r [] l w h = h
records_told L d r (opened n ∷ o) l w h = records_told L d r o l w h
records_told L d r (leaf a n ∷ o) l w h = records_told L d r o l w h
records_told L d r (closed a n m ∷ o) l w h = records_told L d r o l w h
records_told L d r (bad n c ∷ o) l w h = records_told L d r o (record_of L (source_of d) n c ∷ l) w.1 (record_tells d r L n c w.0, h)

-- ITS NUMBERS, with any item's

first_reads : (bytes after : List ℕ) (e : Owned) (es : List Owned) → Tells bytes e.0 → reads bytes (flat_records (e ∷ es) ++ after) ≡ true
first_reads bytes after e es t =
    let r : Rec = e.0 in
    ap (λ (l : List ℕ). reads bytes (r.0 ∷ r.1 ∷ r.2 ∷ e.1 ∷ length r.3 ∷ l)) (append_assoc r.3 (r.4 ++ flat_records es) after)
    ∙ reads_when bytes r.0 r.1 r.2 e.1 r.3 ((r.4 ++ flat_records es) ++ after) t.forward t.within t.shown.least t.shown.most t.count
    (omega (arith, t.placed, length-append (r.4 ++ flat_records es) after, length-append r.4 (flat_records es))) t.names t.shown.is

behind_first : (after : List ℕ) (e : Owned) (es : List Owned) → length e.0.4 ≡ behind e.0.2 → let l = flat_records (e ∷ es) ++ after in drop (size l) l ≡ flat_records es ++ after
behind_first after e es p =
    let r : Rec = e.0 in
    let l : List ℕ = flat_records (e ∷ es) ++ after in
    let n : size l ≡ suc (suc (suc (suc (suc (length r.3 + length r.4))))) = omega (arith, p) in
    let w : (r.3 ++ (r.4 ++ flat_records es)) ++ after ≡ (r.3 ++ r.4) ++ (flat_records es ++ after) =
    ap (λ (m : List ℕ). m ++ after) (sym (append_assoc r.3 r.4 (flat_records es))) ∙ append_assoc (r.3 ++ r.4) (flat_records es) after in
    ap (λ (k : ℕ). drop k l) n
    ∙ ap (drop (length r.3 + length r.4)) w
    ∙ drop_at (r.3 ++ r.4) (flat_records es ++ after) (length r.3 + length r.4) (length-append r.3 r.4)

each_reads : (bytes after : List ℕ) (es : List Owned) (n : ℕ) → Told bytes (bare es) → n < length es → reads bytes (record_at n (flat_records es ++ after)) ≡ true
each_reads bytes after [] n t h = absurd (omega arith)
each_reads bytes after (e ∷ es) zero t h = first_reads bytes after e es t.0
each_reads bytes after (e ∷ es) (suc n) t h =
    ap (λ (l : List ℕ). reads bytes (record_at n l)) (behind_first after e es t.0.placed) ∙ each_reads bytes after es n t.1 (omega arith)

-- THE THEOREM: as many records as the answer a counts stand in the buffer er that the reader left, and each of them reads, so it is told or there is no room for it
module _ (L : Limits) (d : Desk) (a : code.Answered) {ev er sc : List ℕ} (p : Promised L d (Ok a) ev er sc) where
  R : Reading
  R = (read_given L d a p).0

  all_told : Told d.bytes R.errors
  unfolding R
  all_told =
      let g = given_is L d (read_given L d a p).0 (read_given L d a p).1 in
      subst (Told d.bytes) (sym (ap (λ (r : Reading). r.errors) g.whole))
      (records_told L d (rows_of d g.unrefused).0 (read L d.ids d.fuel).out [] (read_rowed L d.ids d.fuel) tt)

  many : a.errors ≡ length R.errors
  unfolding R
  many = ap (λ (x : After). x.error_count) p ∙ ap (λ (x : Answer). (left_by d x).error_count) (read_given L d a p).1

  all : List Owned
  all = owned R.errors R.items

  pub written_reads : (n : ℕ) → n < a.errors → reads d.bytes (record_at n er) ≡ true
  unfolding R all
  written_reads n h =
      ap (λ (l : List ℕ). reads d.bytes (record_at n l)) (read_errors L d a p)
      ∙ each_reads d.bytes _ all n (subst (Told d.bytes) (sym (bare_owned R.errors R.items)) all_told) (omega (arith, many, bare_length all, ap length (bare_owned R.errors R.items)))

  pub never_11 : (n : ℕ) (room : List ℕ) → n < a.errors → messaging d.bytes (record_at n er) room ≡ written (message d.bytes (record_at n er)) room
  never_11 n room h =
      let r : List ℕ = record_at n er in
      ap (λ (b : Bool). cond b (written (message d.bytes r) room) (record { number = 11; count = 0; room = room })) (written_reads n h)
