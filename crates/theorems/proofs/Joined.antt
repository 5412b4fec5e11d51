-- A list that the reader wrote, handed to the merger: it is never refused 9 or 10, and the ERROR nodes that are joined stand in their order, so that the
-- surviving node runs from the first one's start to the last one's end.
use Prim.Native.Nat.{ℕ, zero, suc, ◌-◌, ◌*◌, ◌%◌, ◌≤◌, ◌<◌}
use mathlib.Core.Path.{◌≡◌, refl, ap, ap₂, sym, ◌∙◌, subst}
use mathlib.Core.List.{List, [], ◌∷◌}
use mathlib.Core.Bool.{Bool, true, false, ◌&&◌}
use lib.Dec.{eqb, ltb, leb, T, eqb→eq, eqb_refl, ltb→lt, le→leb}
use lib.ListN.{length, get_or}
use native.Mathlib.Nat.{min-eq_left, max-eq_right, le_refl}
use native.Mathlib.Omega.{arith}
use Rattle.kinds.specs.Kinds as k
use Rattle.shapes.specs.Sort as Sort
use Rattle.shapes.specs.Refusal as Refusal
use Rattle.shapes.specs.Shapes.{EVENT, Entry, flat, entries}
use Rattle.shapes.proofs.Laws.{flat_length, entries_flat}
use Rattle.definition.specs.Run.{State, Limits, Event, opened, leaf, closed, bad, read}
use Rattle.definition.specs.Render.{Source, starts_at, ends_at, span_end, bads, render, Reading}
use Rattle.definition.specs.Open.{Nest}
use Rattle.definition.specs.Answer.{Desk, tile, answer, given, source_of}
use Rattle.definition.specs.Merge.{sound, well_formed, error_of, Span, Mark, opens, joins, closes, keeps, ended, marked, marks, paired, reach, merge, finished, Merged, merged, refusing, merger}
use Rattle.definition.proofs.Every.{and_left, and_right}
use Rattle.definition.proofs.Tidy.{Ins, read_tidy}
use Rattle.theorems.proofs.Trail.{Trail, read_trail}
use Rattle.definition.proofs.Shown.{render_keeps}
use Rattle.definition.proofs.Cut.{Rows, rows_of}
use Rattle.theorems.proofs.Answered.{given_is}

-- NEIGHBOURS IN THEIR ORDER: each node that is joined starts no earlier than the one before it ends. Then the span runs from the first one's start to the
-- last one's end
abbrev pub ordered : List Mark → ℕ → Span → Type 0
ordered [] h z = z.0 ≤ z.1
ordered (opens i y ∷ ms) h z = ordered ms (suc h) z
ordered (joins y ∷ ms) zero z = (z.0 ≤ z.1) × (z.1 ≤ y.0) × (y.0 ≤ y.1) × ordered ms zero (z.0, y.1)
ordered (joins y ∷ ms) (suc h) z = ordered ms (suc h) z
ordered (closes i ∷ ms) zero z = z.0 ≤ z.1
ordered (closes i ∷ ms) (suc h) z = ordered ms h z
ordered (keeps e ∷ ms) h z = ordered ms h z

abbrev pub first_to_last : List Mark → ℕ → Span → Span
first_to_last [] h z = z
first_to_last (opens i y ∷ ms) h z = first_to_last ms (suc h) z
first_to_last (joins y ∷ ms) zero z = first_to_last ms zero (z.0, y.1)
first_to_last (joins y ∷ ms) (suc h) z = first_to_last ms (suc h) z
first_to_last (closes i ∷ ms) zero z = z
first_to_last (closes i ∷ ms) (suc h) z = first_to_last ms h z
first_to_last (keeps e ∷ ms) h z = first_to_last ms h z

pub in_order : (ms : List Mark) (h : ℕ) (z : Span) → ordered ms h z → reach ms h z ≡ first_to_last ms h z
in_order [] h z o = refl
in_order (opens i y ∷ ms) h z o = in_order ms (suc h) z o
in_order (joins y ∷ ms) zero z o =
    ap (reach ms zero) (ap₂ (λ (a b : ℕ). (a, b)) (min-eq_left (omega (arith, o.0, o.1))) (max-eq_right (omega (arith, o.1, o.2)))) ∙ in_order ms zero (z.0, y.1) o.3
in_order (joins y ∷ ms) (suc h) z o = in_order ms (suc h) z o
in_order (closes i ∷ ms) zero z o = refl
in_order (closes i ∷ ms) (suc h) z o = in_order ms h z o
in_order (keeps e ∷ ms) h z o = in_order ms h z o

-- every node that survives is so
abbrev pub Orderly : List Mark → Type 0
Orderly [] = Unit
Orderly (opens i z ∷ ms) = ordered ms 0 z × Orderly ms
Orderly (joins z ∷ ms) = Orderly ms
Orderly (closes i ∷ ms) = Orderly ms
Orderly (keeps e ∷ ms) = Orderly ms

ordered_le : (ms : List Mark) (h : ℕ) (z : Span) → ordered ms h z → z.0 ≤ z.1
ordered_le [] h z o = o
ordered_le (opens i y ∷ ms) h z o = ordered_le ms (suc h) z o
ordered_le (joins y ∷ ms) zero z o = o.0
ordered_le (joins y ∷ ms) (suc h) z o = ordered_le ms (suc h) z o
ordered_le (closes i ∷ ms) zero z o = o
ordered_le (closes i ∷ ms) (suc h) z o = ordered_le ms h z o
ordered_le (keeps e ∷ ms) h z o = ordered_le ms h z o

-- an earlier start does as well
ordered_from : (ms : List Mark) (h a b c : ℕ) → a ≤ b → ordered ms h (b, c) → ordered ms h (a, c)
ordered_from [] h a b c l o = omega (arith, l, o)
ordered_from (opens i y ∷ ms) h a b c l o = ordered_from ms (suc h) a b c l o
ordered_from (joins y ∷ ms) zero a b c l o = (omega (arith, l, o.0), o.1, o.2, ordered_from ms zero a b y.1 l o.3)
ordered_from (joins y ∷ ms) (suc h) a b c l o = ordered_from ms (suc h) a b c l o
ordered_from (closes i ∷ ms) zero a b c l o = omega (arith, l, o)
ordered_from (closes i ∷ ms) (suc h) a b c l o = ordered_from ms h a b c l o
ordered_from (keeps e ∷ ms) h a b c l o = ordered_from ms h a b c l o

-- PLACES: where a row begins, from the rows' tiling

tile_up : (q z : ℕ) (ss es : List ℕ) → T (tile q z ss es) → (i : ℕ) → i ≤ length es → q ≤ get_or (q ∷ es) i z
tile_up q z ss es t zero l = le_refl q
tile_up q z ss [] t (suc i) l = absurd (omega (arith, l))
tile_up q z [] (e ∷ es) t (suc i) l = absurd t
tile_up q z (s ∷ ss) (e ∷ es) t (suc i) l =
    let u = and_left (eqb s q && ltb s e) (tile e z ss es) t in
    let a : s ≡ q = eqb→eq s q (and_left (eqb s q) (ltb s e) u) in
    let b : s < e = ltb→lt s e (and_right (eqb s q) (ltb s e) u) in
    omega (arith, a, b, tile_up e z ss es (and_right (eqb s q && ltb s e) (tile e z ss es) t) i (omega (arith, l)))

tile_climbs : (q z : ℕ) (ss es : List ℕ) → T (tile q z ss es) → (i j : ℕ) → i ≤ j → j ≤ length es → get_or (q ∷ es) i z ≤ get_or (q ∷ es) j z
tile_climbs q z ss es t zero j h l = tile_up q z ss es t j l
tile_climbs q z ss es t (suc i) zero h l = absurd (omega (arith, h))
tile_climbs q z ss [] t (suc i) (suc j) h l = absurd (omega (arith, l))
tile_climbs q z [] (e ∷ es) t (suc i) (suc j) h l = absurd t
tile_climbs q z (s ∷ ss) (e ∷ es) t (suc i) (suc j) h l = tile_climbs e z ss es (and_right (eqb s q && ltb s e) (tile e z ss es) t) i j (omega (arith, h)) (omega (arith, l))

-- rows that tile: of two rows the one with fewer rows left begins no earlier, and a node ends where the row behind it begins
pub record Places (x : Source) : Type 0 where
  pub climbs : (n m : ℕ) → m ≤ n → n ≤ length x.ids → starts_at x n ≤ starts_at x m
  pub behind : (n m : ℕ) → m ≤ n → n ≤ length x.ids → span_end x n m ≡ starts_at x m

pub places : (d : Desk) → Rows d → Places (source_of d)
places d r = record {
  climbs = λ n m l h. tile_climbs 0 (length d.bytes) d.starts d.ends r.tiled (length d.ids - n) (length d.ids - m) (omega (arith, l)) (omega (arith, r.ends_level));
  behind = λ n m l h. by n m l h (eqb n m) refl;
}
  where
    by : (n m : ℕ) → m ≤ n → n ≤ length d.ids → (b : Bool) → eqb n m ≡ b → elim b as (λ _. ℕ) [ true ↦ starts_at (source_of d) n | false ↦ ends_at (source_of d) (suc m) ] ≡ starts_at (source_of d) m
    by n m l h true e = ap (starts_at (source_of d)) (eqb→eq n m (subst T (sym e) tt))
    by n m l h false e =
        let i : suc (length d.ids - suc m) ≡ length d.ids - m = omega (arith, l, h, differs n m e) in
        ap (λ (i : ℕ). get_or (0 ∷ d.ends) i (length d.bytes)) i
      where
        differs : (n m : ℕ) → eqb n m ≡ false → n ≡ m → ⊥
        differs n m e z = subst T e (subst (λ (i : ℕ). T (eqb n i)) z (eqb_refl n))

-- WHAT STANDS BEHIND a moment of rendering: ms are the marks of what is written behind it, st the kinds and ends of the nodes whose closing was met, rs
-- the rows that they begin at

abbrev Waiting : Bool → Type 0 → Type 0 → Type 0 → Type 0
Waiting true A B C = A × B
Waiting false A B C = C

waiting : (b : Bool) {A B C A' B' C' : Type 0} → (A → A') → (B → B') → (C → C') → Waiting b A B C → Waiting b A' B' C'
waiting true f g h w = (f w.0, g w.1)
waiting false f g h w = h w

-- the ERROR nodes among them, each with the span that its begin will have; h of them are inside
abbrev Waits : Source → List Mark → ℕ → List (ℕ × ℕ) → List ℕ → Type 0
Waits x ms h [] [] = Unit
Waits x ms h [] (n ∷ rs) = ⊥
Waits x ms h (t ∷ st) [] = ⊥
Waits x ms h (t ∷ st) (n ∷ rs) = Waiting (eqb t.0 k.ERROR) (ordered ms h (starts_at x n, t.1)) (Waits x ms (suc h) st rs) (Waits x ms h st rs)

abbrev bump : Bool → ℕ → ℕ
bump true n = suc n
bump false n = n

-- how many they are
abbrev errs : List (ℕ × ℕ) → ℕ
errs [] = 0
errs (t ∷ st) = bump (eqb t.0 k.ERROR) (errs st)

-- a node that begins right here begins at p or later
abbrev Near : List Mark → ℕ → Type 0
Near [] p = Unit
Near (opens i y ∷ ms) p = p ≤ y.0
Near (joins y ∷ ms) p = Unit
Near (closes i ∷ ms) p = Unit
Near (keeps e ∷ ms) p = Unit

record Fine (x : Source) (ms : List Mark) (q : ℕ) (st : List (ℕ × ℕ)) (rs : List ℕ) : Type 0 where
  pub near : Near ms (starts_at x q)
  pub orderly : Orderly ms
  pub waits : Waits x ms 0 st rs
  pub pairs : paired ms (errs st) ≡ true

module _ (x : Source) where
  waits_down : (i : ℕ) (ms : List Mark) (y : Span) (h : ℕ) (st : List (ℕ × ℕ)) (rs : List ℕ) → Waits x ms (suc h) st rs → Waits x (opens i y ∷ ms) h st rs
  waits_down i ms y h [] [] w = tt
  waits_down i ms y h [] (n ∷ rs) w = absurd w
  waits_down i ms y h (t ∷ st) [] w = absurd w
  waits_down i ms y h (t ∷ st) (n ∷ rs) w = waiting (eqb t.0 k.ERROR) (λ o. o) (waits_down i ms y (suc h) st rs) (waits_down i ms y h st rs) w

  waits_keep : (ms : List Mark) (e : Entry) (h : ℕ) (st : List (ℕ × ℕ)) (rs : List ℕ) → Waits x ms h st rs → Waits x (keeps e ∷ ms) h st rs
  waits_keep ms e h [] [] w = tt
  waits_keep ms e h [] (n ∷ rs) w = absurd w
  waits_keep ms e h (t ∷ st) [] w = absurd w
  waits_keep ms e h (t ∷ st) (n ∷ rs) w = waiting (eqb t.0 k.ERROR) (λ o. o) (waits_keep ms e (suc h) st rs) (waits_keep ms e h st rs) w

  ended_up : (d : ℕ) (ms : List Mark) (h : ℕ) (z : Span) → ordered ms h z → ordered (ended d ms) (suc h) z
  ended_up d [] h z o = o
  ended_up d (opens i y ∷ ms) h z o = o
  ended_up d (joins y ∷ ms) h z o = o
  ended_up d (closes i ∷ ms) h z o = o
  ended_up d (keeps e ∷ ms) h z o = o

  waits_up : (d : ℕ) (ms : List Mark) (h : ℕ) (st : List (ℕ × ℕ)) (rs : List ℕ) → Waits x ms h st rs → Waits x (ended d ms) (suc h) st rs
  waits_up d ms h [] [] w = tt
  waits_up d ms h [] (n ∷ rs) w = absurd w
  waits_up d ms h (t ∷ st) [] w = absurd w
  waits_up d ms h (t ∷ st) (n ∷ rs) w = waiting (eqb t.0 k.ERROR) (ended_up d ms h (starts_at x n, t.1)) (waits_up d ms (suc h) st rs) (waits_up d ms h st rs) w

  -- the node that ends here
  ended_here : (d : ℕ) (ms : List Mark) (z : Span) → z.0 ≤ z.1 → Near ms z.1 → Orderly ms → ordered (ended d ms) 0 z
  ended_here d [] z l n o = l
  ended_here d (opens i y ∷ ms) z l n o = let e = ordered_le ms 0 y o.0 in (l, n, e, ordered_from ms 0 z.0 y.0 y.1 (omega (arith, l, n)) o.0)
  ended_here d (joins y ∷ ms) z l n o = l
  ended_here d (closes i ∷ ms) z l n o = l
  ended_here d (keeps e ∷ ms) z l n o = l

  ended_near : (d : ℕ) (ms : List Mark) (p : ℕ) → Near (ended d ms) p
  ended_near d [] p = tt
  ended_near d (opens i y ∷ ms) p = tt
  ended_near d (joins y ∷ ms) p = tt
  ended_near d (closes i ∷ ms) p = tt
  ended_near d (keeps e ∷ ms) p = tt

  ended_orderly : (d : ℕ) (ms : List Mark) → Orderly ms → Orderly (ended d ms)
  ended_orderly d [] o = tt
  ended_orderly d (opens i y ∷ ms) o = o.1
  ended_orderly d (joins y ∷ ms) o = o
  ended_orderly d (closes i ∷ ms) o = o
  ended_orderly d (keeps e ∷ ms) o = o

  ended_pairs : (d : ℕ) (ms : List Mark) (h : ℕ) → paired ms h ≡ true → paired (ended d ms) (suc h) ≡ true
  ended_pairs d [] h e = e
  ended_pairs d (opens i y ∷ ms) h e = e
  ended_pairs d (joins y ∷ ms) h e = e
  ended_pairs d (closes i ∷ ms) h e = e
  ended_pairs d (keeps q ∷ ms) h e = e

  fine_keep : (e : Entry) (ms : List Mark) (q p : ℕ) (st : List (ℕ × ℕ)) (rs : List ℕ) → Fine x ms q st rs → Fine x (keeps e ∷ ms) p st rs
  fine_keep e ms q p st rs f = record { near = tt; orderly = f.orderly; waits = waits_keep ms e 0 st rs f.waits; pairs = f.pairs }

  -- a begin, of an ERROR node or of another
  fine_open : (i : ℕ) (t : ℕ × ℕ) (ms : List Mark) (q : ℕ) (st : List (ℕ × ℕ)) (rs : List ℕ) → Fine x ms q (t ∷ st) (q ∷ rs) → let e : Entry = (Sort.BEGIN, t.0, starts_at x q, t.1, i) in Fine x (marked (eqb t.0 k.ERROR) false e ms) q st rs
  fine_open i t ms q st rs f = go (eqb t.0 k.ERROR) f.waits f.pairs
    where
      go : (b : Bool) → Waiting b (ordered ms 0 (starts_at x q, t.1)) (Waits x ms 1 st rs) (Waits x ms 0 st rs) → paired ms (bump b (errs st)) ≡ true → Fine x (marked b false (Sort.BEGIN, t.0, starts_at x q, t.1, i) ms) q st rs
      go true w p = record { near = le_refl (starts_at x q); orderly = (w.0, f.orderly); waits = waits_down i ms (starts_at x q, t.1) 0 st rs w.1; pairs = p }
      go false w p = record { near = tt; orderly = f.orderly; waits = waits_keep ms (Sort.BEGIN, t.0, starts_at x q, t.1, i) 0 st rs w; pairs = p }

  -- an end, of an ERROR node or of another; its node begins with n rows left and ends with q
  fine_close : (d a n q e : ℕ) (ms : List Mark) (st : List (ℕ × ℕ)) (rs : List ℕ) → starts_at x n ≤ starts_at x q → e ≡ starts_at x q → Fine x ms q st rs → Fine x (marked false (eqb a k.ERROR) (Sort.END, a, starts_at x n, e, d) ms) q ((a, e) ∷ st) (n ∷ rs)
  fine_close d a n q e ms st rs l z f = go (eqb a k.ERROR) refl
    where
      go : (b : Bool) → eqb a k.ERROR ≡ b → Fine x (marked false b (Sort.END, a, starts_at x n, e, d) ms) q ((a, e) ∷ st) (n ∷ rs)
      go true i = record {
        near = ended_near d ms (starts_at x q);
        orderly = ended_orderly d ms f.orderly;
        waits = subst (λ (b : Bool). Waiting b (ordered (ended d ms) 0 (starts_at x n, e)) (Waits x (ended d ms) 1 st rs) (Waits x (ended d ms) 0 st rs)) (sym i) (ended_here d ms (starts_at x n, e) (omega (arith, l, z)) (subst (Near ms) (sym z) f.near) f.orderly, waits_up d ms 0 st rs f.waits);
        pairs = ap (λ (b : Bool). paired (ended d ms) (bump b (errs st))) i ∙ ended_pairs d ms (errs st) f.pairs;
      }
      go false i = record {
        near = tt;
        orderly = f.orderly;
        waits = subst (λ (b : Bool). Waiting b (ordered ms 0 (starts_at x n, e)) (Waits x (keeps (Sort.END, a, starts_at x n, e, d) ∷ ms) 1 st rs) (Waits x (keeps (Sort.END, a, starts_at x n, e, d) ∷ ms) 0 st rs)) (sym i) (waits_keep ms (Sort.END, a, starts_at x n, e, d) 0 st rs f.waits);
        pairs = ap (λ (b : Bool). paired ms (bump b (errs st))) i ∙ f.pairs;
      }

  ends_empty : (ms : List Mark) (h : ℕ) (st : List (ℕ × ℕ)) (rs : List ℕ) → rs ≡ [] → Waits x ms h st rs → st ≡ []
  ends_empty ms h [] rs e w = refl
  ends_empty ms h (t ∷ st) rs e w = absurd (subst (Waits x ms h (t ∷ st)) e w)

  module _ (P : Places x) where
    -- THE INDUCTION, as rendering goes: from the last event to the first
    fine_render : (w : List Event) (q p : ℕ) (st : List (ℕ × ℕ)) (rs : List ℕ) (l : List Entry) → Trail q rs w p [] → Ins (length x.ids) w → Fine x (marks l) q st rs → Orderly (marks (render x st w l)) × (paired (marks (render x st w l)) 0 ≡ true)
    fine_render [] q p st rs l t i f = (f.orderly, subst (λ (s : List (ℕ × ℕ)). paired (marks l) (errs s) ≡ true) (ends_empty (marks l) 0 st rs t.1 f.waits) f.pairs)
    fine_render (opened n ∷ w) q p st [] l t i f = absurd t
    fine_render (opened n ∷ w) q p [] (r ∷ rs) l t i f = absurd f.waits
    fine_render (opened n ∷ w) q p (a ∷ st) (r ∷ rs) l t i f =
        fine_render w q p st rs ((Sort.BEGIN, a.0, starts_at x n, a.1, suc (length st)) ∷ l) t.2 i.1
        (subst (λ (m : ℕ). Fine x (marked (eqb a.0 k.ERROR) false (Sort.BEGIN, a.0, starts_at x m, a.1, suc (length st)) (marks l)) q st rs) (sym t.0) (fine_open (suc (length st)) a (marks l) q st rs (subst (λ (m : ℕ). Fine x (marks l) q (a ∷ st) (m ∷ rs)) (t.1 ∙ t.0) f)))
    fine_render (leaf a n ∷ w) q p st rs l t i f = fine_render w n p st rs ((Sort.TOKEN, a, starts_at x n, ends_at x n, suc (length st)) ∷ l) t.1 i.1 (fine_keep (Sort.TOKEN, a, starts_at x n, ends_at x n, suc (length st)) (marks l) q n st rs f)
    fine_render (closed a n m ∷ w) q p st rs l t i f =
        let e = P.behind n m i.0.1 i.0.0 in
        let c = P.climbs n m i.0.1 i.0.0 in
        let z = ap (starts_at x) t.0 in
        fine_render w q p ((a, span_end x n m) ∷ st) (n ∷ rs) ((Sort.END, a, starts_at x n, span_end x n m, suc (length st)) ∷ l) t.1 i.1 (fine_close (suc (length st)) a n q (span_end x n m) (marks l) st rs (omega (arith, c, z)) (e ∙ z) f)
    fine_render (bad n c ∷ w) q p st rs l t i f = fine_render w q p st rs ((Sort.ERROR, bads w, starts_at x n, ends_at x n, suc (length st)) ∷ l) t i.1 (fine_keep (Sort.ERROR, bads w, starts_at x n, ends_at x n, suc (length st)) (marks l) q q st rs f)

-- THE DEPTHS ARE COUNTED: what stands behind a moment of rendering is sound where as many nodes are open as the stack holds, and SOURCE_FILE
deep_here : (h : ℕ) (b : Bool) → b ≡ true → (eqb h h && b) ≡ true
deep_here h b e = ap (λ (c : Bool). c && b) (truth (eqb h h) (eqb_refl h)) ∙ e
  where
    truth : (c : Bool) → T c → c ≡ true
    truth true t = refl
    truth false t = absurd t

sound_render : (x : Source) (st : List (ℕ × ℕ)) (w : List Event) (l : List Entry) → Nest (length st) w 0 → sound (suc (length st)) l ≡ true → sound 1 (render x st w l) ≡ true
sound_render x st [] l p e = ap (λ (h : ℕ). sound (suc h) l) (sym p) ∙ e
sound_render x [] (opened n ∷ w) l p e = absurd p
sound_render x (t ∷ st) (opened n ∷ w) l p e = sound_render x st w ((Sort.BEGIN, t.0, starts_at x n, t.1, suc (length st)) ∷ l) p (deep_here (suc (length st)) (sound (suc (suc (length st))) l) e)
sound_render x st (leaf a n ∷ w) l p e = sound_render x st w ((Sort.TOKEN, a, starts_at x n, ends_at x n, suc (length st)) ∷ l) p (deep_here (suc (length st)) (sound (suc (length st)) l) e)
sound_render x st (closed a n m ∷ w) l p e = sound_render x ((a, span_end x n m) ∷ st) w ((Sort.END, a, starts_at x n, span_end x n m, suc (length st)) ∷ l) p (deep_here (suc (suc (length st))) (sound (suc (suc (length st)) - 1) l) (ap (λ (h : ℕ). sound h l) (omega arith) ∙ e))
sound_render x st (bad n c ∷ w) l p e = sound_render x st w ((Sort.ERROR, bads w, starts_at x n, ends_at x n, suc (length st)) ∷ l) p (deep_here (suc (length st)) (sound (suc (length st)) l) e)

-- merging makes no list longer
merge_shorter : (ms : List Mark) (st : List Span) → length (merge ms st) ≤ length ms
merge_shorter [] st = le_refl 0
merge_shorter (opens i y ∷ ms) st = omega (arith, merge_shorter ms (reach ms 0 y ∷ st))
merge_shorter (joins y ∷ ms) st = omega (arith, merge_shorter ms st)
merge_shorter (closes i ∷ ms) [] = omega (arith, merge_shorter ms [])
merge_shorter (closes i ∷ ms) (z ∷ st) = omega (arith, merge_shorter ms st)
merge_shorter (keeps e ∷ ms) st = omega (arith, merge_shorter ms st)

marks_shorter : (es : List Entry) → length (marks es) ≤ length es
marks_shorter [] = le_refl 0
marks_shorter (e ∷ es) = go (error_of Sort.BEGIN e) (error_of Sort.END e) (marks es) (marks_shorter es)
  where
    end : (d : ℕ) (ms : List Mark) → length (ended d ms) ≤ suc (length ms)
    end d [] = omega arith
    end d (opens i y ∷ ms) = omega arith
    end d (joins y ∷ ms) = omega arith
    end d (closes i ∷ ms) = omega arith
    end d (keeps e ∷ ms) = omega arith

    go : (a b : Bool) (ms : List Mark) → length ms ≤ length es → length (marked a b e ms) ≤ suc (length es)
    go true b ms l = omega (arith, l)
    go false true ms l = omega (arith, l, end e.4 ms)
    go false false ms l = omega (arith, l)

-- THE READER'S LIST
module _ (L : Limits) (d : Desk) (R : Reading) (e : answer L d ≡ given R) where
  x : Source
  x = source_of d

  t : State
  t = read L d.ids d.fuel

  z : ℕ
  z = length d.bytes

  behind : List Entry
  behind = (Sort.END, k.SOURCE_FILE, 0, z, 0) ∷ []

  listed : R.events ≡ (Sort.BEGIN, k.SOURCE_FILE, 0, z, 0) ∷ render x [] t.out behind
  unfolding x t z behind
  listed = ap (λ (r : Reading). r.events) (given_is L d R e).whole ∙ ap (λ (l : List Entry). (Sort.BEGIN, k.SOURCE_FILE, 0, z, 0) ∷ l) (sym (render_keeps x [] t.out [] behind))

  read_fine : Orderly (marks R.events) × (paired (marks R.events) 0 ≡ true)
  unfolding x t z behind
  read_fine =
      let r = (rows_of d (given_is L d R e).unrefused).0 in
      let i = (read_tidy L d.ids d.fuel).0 in
      let f = fine_render x (places d r) t.out (length t.rest) (length d.ids) [] [] behind (read_trail L d.ids d.fuel) i (record { near = tt; orderly = tt; waits = tt; pairs = refl }) in
      subst (λ (l : List Entry). Orderly (marks l) × (paired (marks l) 0 ≡ true)) (sym listed) f

  -- "it equals the depth counted from the start of the list"
  pub read_sound : sound 0 R.events ≡ true
  unfolding x t z behind
  read_sound = ap (sound 0) listed ∙ sound_render x [] t.out behind (read_tidy L d.ids d.fuel).1 refl

  -- its spans are in order: where ERROR nodes are joined, each begins no earlier than the one before it ends
  pub read_in_order : Orderly (marks (entries (flat R.events)))
  read_in_order = subst (λ (l : List Entry). Orderly (marks l)) (sym (entries_flat R.events)) read_fine.0

  -- "9": event numbers not a multiple of 5, a sort outside 1..4, a depth that is not the counted one, more ends than begins
  pub read_well_formed : well_formed (flat R.events) ≡ true
  read_well_formed =
      let n : length (flat R.events) % EVENT ≡ 0 = omega (arith, flat_length R.events) in
      ap (λ (i : ℕ). eqb i 0 && sound 0 (entries (flat R.events))) n ∙ ap (sound 0) (entries_flat R.events) ∙ read_sound

  -- "10: an ERROR end with none open, or an ERROR begin never closed"
  pub read_paired : paired (marks (entries (flat R.events))) 0 ≡ true
  read_paired = ap (λ (l : List Entry). paired (marks l) 0) (entries_flat R.events) ∙ read_fine.1

  -- so the merger, handed what the reader wrote, gives 7 or its finished list, and the latter in any room that the reader's list fits in
  pub never_9_or_10 : (room : ℕ) → let l : List ℕ = flat R.events in merger l room ≡ refusing Refusal.EVENTS (leb (EVENT * length (finished l)) room) (merged (finished l))
  never_9_or_10 room =
      let l : List ℕ = flat R.events in
      let rest : Merged = refusing Refusal.EVENTS (leb (EVENT * length (finished l)) room) (merged (finished l)) in
      ap (λ (b : Bool). refusing Refusal.MALFORMED b (refusing Refusal.UNPAIRED (paired (marks (entries l)) 0) rest)) read_well_formed ∙ ap (λ (b : Bool). refusing Refusal.UNPAIRED b rest) read_paired

  pub merges_in_its_room : (room : ℕ) → EVENT * length R.events ≤ room → let l : List ℕ = flat R.events in merger l room ≡ merged (finished l)
  merges_in_its_room room h =
      let l : List ℕ = flat R.events in
      let n = merge_shorter (marks (entries l)) [] in
      let m = marks_shorter (entries l) in
      let q = ap length (entries_flat R.events) in
      never_9_or_10 room ∙ ap (λ (b : Bool). refusing Refusal.EVENTS b (merged (finished l))) (le_true (EVENT * length (finished l)) room (omega (arith, n, m, q, h)))
    where
      le_true : (a b : ℕ) → a ≤ b → leb a b ≡ true
      le_true a b h = truth (leb a b) (le→leb a b h)
        where
          truth : (b : Bool) → T b → b ≡ true
          truth true t = refl
          truth false t = absurd t
