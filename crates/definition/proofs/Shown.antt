-- Damage stays where it is, in document 01's numbers: places are shifted by where the rows that are left begin, record numbers by how many
-- records are before.
use Prim.Native.Nat.{ℕ, zero, suc, ◌+◌, ◌-◌, ◌≤◌}
use mathlib.Core.Path.{◌≡◌, refl, ap, ap₂, sym, ◌∙◌}
use mathlib.Core.List.{List, [], ◌∷◌, ◌++◌, map}
use mathlib.Core.Bool.{Bool, true, false}
use lib.Dec.{eqb}
use lib.ListN.{length, get_or, take, drop, length-append}
use native.Mathlib.Nat.{suc-add, zero-add, add-zero, add-suc}
use native.Mathlib.Omega.{arith}
use Rattle.kinds.specs.Kinds as k
use Rattle.utf8.specs.Utf8.{bad_byte}
use Rattle.shapes.specs.Sort as Sort
use Rattle.shapes.specs.Shapes.{Entry, Rec}
use Rattle.definition.specs.Run.{State, Limits, Event, opened, leaf, closed, bad, Choice, items, start, read}
use Rattle.definition.specs.Render.{Source, ends_at, starts_at, id_at, text_at, span_end, bads, render, form_of, choice_names, place_of, record_of, records, inside}
use Rattle.definition.specs.Remaining.{shifts, shift_records}
use Rattle.definition.specs.Open.{Nest}
use Rattle.definition.proofs.Every.{never}
use Rattle.definition.proofs.Order.{Running}
use Rattle.definition.proofs.Frame.{h}
use Rattle.definition.proofs.Suffix.{damage_stays}
use Rattle.definition.proofs.Tidy.{Ins, read_tidy}

abbrev pub put_off : ℕ → List ℕ → List ℕ
put_off p [] = []
put_off p (e ∷ es) = (p + e) ∷ put_off p es

-- the source y, behind rows of bytes `pre`, ids a and ends e
abbrev pub later : List ℕ → List ℕ → List ℕ → Source → Source
later pre a e y = record { bytes = pre ++ y.bytes; ids = a ++ y.ids; ends = e ++ put_off (length pre) y.ends }

pub record Before (pre a e : List ℕ) : Type 0 where
  pub level : length a ≡ length e
  pub last : get_or (0 ∷ e) (length e) 0 ≡ length pre

get_d_past : (e m : List ℕ) (j d : ℕ) → get_or (e ++ m) (length e + j) d ≡ get_or m j d
get_d_past [] m j d = ap (λ (i : ℕ). get_or m i d) (zero-add j)
get_d_past (x ∷ e) m j d = ap (λ (i : ℕ). get_or (x ∷ e ++ m) i d) (suc-add (length e) j) ∙ get_d_past e m j d

get_d_off : (p : ℕ) (l : List ℕ) (j d : ℕ) → get_or (put_off p l) j (p + d) ≡ p + get_or l j d
get_d_off p [] j d = refl
get_d_off p (x ∷ l) zero d = refl
get_d_off p (x ∷ l) (suc j) d = get_d_off p l j d

last_in : (z : ℕ) (e m : List ℕ) (d d' : ℕ) → get_or (z ∷ e ++ m) (length e) d ≡ get_or (z ∷ e) (length e) d'
last_in z [] m d d' = refl
last_in z (x ∷ e) m d d' = last_in x e m d d'

drop_past : (pre bs : List ℕ) (i : ℕ) → drop (length pre + i) (pre ++ bs) ≡ drop i bs
drop_past [] bs i = ap (λ (j : ℕ). drop j bs) (zero-add i)
drop_past (x ∷ pre) bs i = ap (λ (j : ℕ). drop j (x ∷ pre ++ bs)) (suc-add (length pre) i) ∙ drop_past pre bs i

eqb_refl : (n : ℕ) → eqb n n ≡ true
eqb_refl zero = refl
eqb_refl (suc n) = lib.Dec.eqb-suc-suc n n ∙ eqb_refl n

bads_append : (w q : List Event) → bads (w ++ q) ≡ bads w + bads q
bads_append [] q = omega arith
bads_append (opened n ∷ w) q = bads_append w q
bads_append (leaf a n ∷ w) q = bads_append w q
bads_append (closed a n m ∷ w) q = bads_append w q
bads_append (bad n c ∷ w) q = omega (arith, bads_append w q)

-- what was written stays behind
pub render_keeps : (x : Source) (st : List (ℕ × ℕ)) (w : List Event) (l l' : List Entry) → render x st w (l ++ l') ≡ render x st w l ++ l'
render_keeps x st [] l l' = refl
render_keeps x [] (opened n ∷ w) l l' = render_keeps x [] w l l'
render_keeps x (t ∷ st) (opened n ∷ w) l l' = render_keeps x st w ((Sort.BEGIN, t.0, starts_at x n, t.1, suc (length st)) ∷ l) l'
render_keeps x st (leaf a n ∷ w) l l' = render_keeps x st w ((Sort.TOKEN, a, starts_at x n, ends_at x n, suc (length st)) ∷ l) l'
render_keeps x st (closed a n m ∷ w) l l' = render_keeps x ((a, span_end x n m) ∷ st) w ((Sort.END, a, starts_at x n, span_end x n m, suc (length st)) ∷ l) l'
render_keeps x st (bad n c ∷ w) l l' = render_keeps x st w ((Sort.ERROR, bads w, starts_at x n, ends_at x n, suc (length st)) ∷ l) l'

nil_of : {A : Type 0} (l : List A) → length l ≡ 0 → l ≡ []
nil_of [] e = refl
nil_of (x ∷ l) e = absurd (omega (arith, e))

-- what is nested comes behind what was written
render_behind : (x : Source) (st : List (ℕ × ℕ)) (w q : List Event) (l : List Entry) → Nest (length st) w 0 → (z : List Entry) × (render x st (w ++ q) l ≡ render x [] q z)
render_behind x st [] q l p = (l, ap (λ (s : List (ℕ × ℕ)). render x s q l) (nil_of st p))
render_behind x [] (opened n ∷ w) q l p = absurd p
render_behind x (t ∷ st) (opened n ∷ w) q l p = render_behind x st w q _ p
render_behind x st (leaf a n ∷ w) q l p = render_behind x st w q _ p
render_behind x st (closed a n m ∷ w) q l p = render_behind x ((a, span_end x n m) ∷ st) w q _ p
render_behind x st (bad n c ∷ w) q l p = render_behind x st w q _ p

pub inside_append : (x : Source) (w q : List Event) → Nest 0 w 0 → (z : List Entry) × (inside x (w ++ q) ≡ inside x q ++ z)
inside_append x w q p = let b = render_behind x [] w q [] p in (b.0, b.1 ∙ render_keeps x [] q [] b.0)

records_append : (x : Source) (L : Limits) (w q : List Event) (l : List Rec) → records L x (w ++ q) l ≡ records L x q (records L x w l)
records_append x L [] q l = refl
records_append x L (opened n ∷ w) q l = records_append x L w q l
records_append x L (leaf k n ∷ w) q l = records_append x L w q l
records_append x L (closed k n m ∷ w) q l = records_append x L w q l
records_append x L (bad n c ∷ w) q l = records_append x L w q (record_of L x n c ∷ l)

pub records_keep : (x : Source) (L : Limits) (w : List Event) (l l' : List Rec) → records L x w (l ++ l') ≡ records L x w l ++ l'
records_keep x L [] l l' = refl
records_keep x L (opened n ∷ w) l l' = records_keep x L w l l'
records_keep x L (leaf k n ∷ w) l l' = records_keep x L w l l'
records_keep x L (closed k n m ∷ w) l l' = records_keep x L w l l'
records_keep x L (bad n c ∷ w) l l' = records_keep x L w (record_of L x n c ∷ l) l'

abbrev ups : ℕ → List (ℕ × ℕ) → List (ℕ × ℕ)
ups p [] = []
ups p (t ∷ st) = (t.0, p + t.1) ∷ ups p st

ups_length : (p : ℕ) (st : List (ℕ × ℕ)) → length (ups p st) ≡ length st
ups_length p [] = refl
ups_length p (t ∷ st) = ap suc (ups_length p st)

module _ (pre a e : List ℕ) (B : Before pre a e) (y : Source) where
  abbrev P : ℕ
  P = length pre

  abbrev N : ℕ
  N = length y.ids

  abbrev x : Source
  x = later pre a e y

  index : (n : ℕ) → n ≤ N → length x.ids - n ≡ length e + (N - n)
  index n l = omega (arith, l, length-append a y.ids, B.level)

  ends_later : (n : ℕ) → n ≤ N → ends_at x n ≡ P + ends_at y n
  ends_later n l = ap (λ (i : ℕ). get_or x.ends i (length x.bytes)) (index n l) ∙ get_d_past e (put_off P y.ends) (N - n) (length x.bytes) ∙ ap (get_or (put_off P y.ends) (N - n)) (length-append pre y.bytes) ∙ get_d_off P y.ends (N - n) (length y.bytes)

  starts_later : (n : ℕ) → n ≤ N → starts_at x n ≡ P + starts_at y n
  starts_later n l = ap (λ (i : ℕ). get_or (0 ∷ x.ends) i (length x.bytes)) (index n l) ∙ go (N - n)
    where
      go : (j : ℕ) → get_or (0 ∷ e ++ put_off P y.ends) (length e + j) (length x.bytes) ≡ P + get_or (0 ∷ y.ends) j (length y.bytes)
      go zero = ap (λ (i : ℕ). get_or (0 ∷ e ++ put_off P y.ends) i (length x.bytes)) (add-zero (length e)) ∙ last_in 0 e (put_off P y.ends) (length x.bytes) 0 ∙ B.last ∙ sym (add-zero P)
      go (suc j) = ap (λ (i : ℕ). get_or (0 ∷ e ++ put_off P y.ends) i (length x.bytes)) (add-suc (length e) j) ∙ get_d_past e (put_off P y.ends) j (length x.bytes) ∙ ap (get_or (put_off P y.ends) j) (length-append pre y.bytes) ∙ get_d_off P y.ends j (length y.bytes)

  pub id_later : (n : ℕ) → n ≤ N → id_at x n ≡ id_at y n
  id_later n l = ap (λ (i : ℕ). get_or x.ids i k.UNKNOWN) (omega (arith, l, length-append a y.ids)) ∙ get_d_past a y.ids (N - n) k.UNKNOWN

  pub text_later : (n : ℕ) → n ≤ N → text_at x n ≡ text_at y n
  text_later n l =
      ap₂ (λ (i j : ℕ). take (i - j) (drop j x.bytes)) (ends_later n l) (starts_later n l)
      ∙ ap₂ (λ (i : ℕ) (l : List ℕ). take i l) (cancel P (ends_at y n) (starts_at y n)) (drop_past pre y.bytes (starts_at y n))
    where
      cancel : (p i j : ℕ) → (p + i) - (p + j) ≡ i - j
      cancel p i j = omega arith

  span_later : (n m : ℕ) → n ≤ N → m ≤ n → span_end x n m ≡ P + span_end y n m
  span_later n m l q = go (eqb n m) refl
    where
      apart : eqb n m ≡ false → n ≡ m → ⊥
      apart f z = let c : true ≡ false = sym (eqb_refl m) ∙ ap (λ (i : ℕ). eqb i m) (sym z) ∙ f in never cc

      go : (b : Bool) → eqb n m ≡ b → elim b as (λ _. ℕ) [ true ↦ starts_at x n | false ↦ ends_at x (suc m) ] ≡ P + elim b as (λ _. ℕ) [ true ↦ starts_at y n | false ↦ ends_at y (suc m) ]
      go true f = starts_later n l
      go false f = ends_later (suc m) (less (apart f))
        where
          less : (n ≡ m → ⊥) → suc m ≤ N
          less z = omega (arith, z, l, q)

  -- form 9's place is a place, and is shifted as one
  place_later : (f a : ℕ) (t : List ℕ) → place_of f (P + a) t ≡ map (λ i. P + i) (place_of f a t)
  place_later f a t = go (eqb f 9)
    where
      go : (b : Bool) → ◌≡◌ {A = List ℕ} (elim b as (λ _. List ℕ) [ true ↦ (P + a + bad_byte t) ∷ [] | false ↦ [] ]) (map (λ i. P + i) (elim b as (λ _. List ℕ) [ true ↦ (a + bad_byte t) ∷ [] | false ↦ [] ]))
      go true = ap (λ (i : ℕ). i ∷ []) (omega arith)
      go false = refl

  record_later : (L : Limits) (n : ℕ) (c : Choice) → n ≤ N → let r : Rec = record_of L y n c in record_of L x n c ≡ (P + r.0, P + r.1, r.2, r.3, map (λ i. P + i) r.4)
  record_later L n c l =
      let f = form_of L (id_at y n) (text_at y n) c in
      ap₂ (λ (i : ℕ) (t : List ℕ). let g = form_of L i t c in let z : Rec = (starts_at x n, ends_at x n, g, choice_names g c, place_of g (starts_at x n) t) in z) (id_later n l) (text_later n l)
      ∙ ap₂ (λ (i j : ℕ). let z : Rec = (i, j, f, choice_names f c, place_of f i (text_at y n)) in z) (starts_later n l) (ends_later n l)
      ∙ ap (λ (q : List ℕ). let z : Rec = (P + starts_at y n, P + ends_at y n, f, choice_names f c, q) in z) (place_later f (starts_at y n) (text_at y n))

  -- events of the rows left, behind the events q
  shown : (w q : List Event) (st : List (ℕ × ℕ)) (l : List Entry) → Ins N w → Nest (length st) w 0 → render x (ups P st) (w ++ q) (shifts P (bads q) l) ≡ render x [] q (shifts P (bads q) (render y st w l))
  shown [] q st l i p = ap (λ (s : List (ℕ × ℕ)). render x (ups P s) q (shifts P (bads q) l)) (nil_of st p)
  shown (opened n ∷ w) q [] l i p = absurd p
  shown (opened n ∷ w) q (t ∷ st) l i p = ap₂ (λ (s h : ℕ). render x (ups P st) (w ++ q) ((Sort.BEGIN, t.0, s, P + t.1, suc h) ∷ shifts P (bads q) l)) (starts_later n i.0) (ups_length P st) ∙ shown w q st ((Sort.BEGIN, t.0, starts_at y n, t.1, suc (length st)) ∷ l) i.1 p
  shown (leaf k n ∷ w) q st l i p =
      ap (λ (h : ℕ). render x (ups P st) (w ++ q) ((Sort.TOKEN, k, starts_at x n, ends_at x n, suc h) ∷ shifts P (bads q) l)) (ups_length P st)
      ∙ ap₂ (λ (s z : ℕ). render x (ups P st) (w ++ q) ((Sort.TOKEN, k, s, z, suc (length st)) ∷ shifts P (bads q) l)) (starts_later n i.0) (ends_later n i.0)
      ∙ shown w q st ((Sort.TOKEN, k, starts_at y n, ends_at y n, suc (length st)) ∷ l) i.1 p
  shown (closed k n m ∷ w) q st l i p =
      ap (λ (h : ℕ). render x ((k, span_end x n m) ∷ ups P st) (w ++ q) ((Sort.END, k, starts_at x n, span_end x n m, suc h) ∷ shifts P (bads q) l)) (ups_length P st)
      ∙ ap₂ (λ (s z : ℕ). render x ((k, z) ∷ ups P st) (w ++ q) ((Sort.END, k, s, z, suc (length st)) ∷ shifts P (bads q) l)) (starts_later n i.0.0) (span_later n m i.0.0 i.0.1)
      ∙ shown w q ((k, span_end y n m) ∷ st) ((Sort.END, k, starts_at y n, span_end y n m, suc (length st)) ∷ l) i.1 p
  shown (bad n c ∷ w) q st l i p =
      ap₂ (λ (j h : ℕ). render x (ups P st) (w ++ q) ((Sort.ERROR, j, starts_at x n, ends_at x n, suc h) ∷ shifts P (bads q) l)) (bads_append w q) (ups_length P st)
      ∙ ap₂ (λ (s z : ℕ). render x (ups P st) (w ++ q) ((Sort.ERROR, bads w + bads q, s, z, suc (length st)) ∷ shifts P (bads q) l)) (starts_later n i.0) (ends_later n i.0)
      ∙ shown w q st ((Sort.ERROR, bads w, starts_at y n, ends_at y n, suc (length st)) ∷ l) i.1 p

  pub inside_later : (w q : List Event) → Ins N w → Nest 0 w 0 → inside x (w ++ q) ≡ inside x q ++ shifts P (bads q) (inside y w)
  inside_later w q i p = shown w q [] [] i p ∙ render_keeps x [] q [] (shifts P (bads q) (inside y w))

  records_shown : (L : Limits) (w : List Event) (l : List Rec) → Ins N w → records L x w (shift_records P l) ≡ shift_records P (records L y w l)
  records_shown L [] l i = refl
  records_shown L (opened n ∷ w) l i = records_shown L w l i.1
  records_shown L (leaf k n ∷ w) l i = records_shown L w l i.1
  records_shown L (closed k n m ∷ w) l i = records_shown L w l i.1
  records_shown L (bad n c ∷ w) l i = ap (λ (r : Rec). records L x w (r ∷ shift_records P l)) (record_later L n c i.0) ∙ records_shown L w (record_of L y n c ∷ l) i.1

  pub records_later : (L : Limits) (w q : List Event) → Ins N w → records L x (w ++ q) [] ≡ records L x q [] ++ shift_records P (records L y w [])
  records_later L w q i = records_append x L w q [] ∙ ap (records L x q) (records_shown L w [] i) ∙ records_keep x L q [] (shift_records P (records L y w []))

  -- THE THEOREM, in numbers: the reader, not stopped, stands after n items before the rows of y
  pub damage_shown : (L : Limits) (f n : ℕ) → let s : State = items L n (start x.ids f) in Running s.mode → s.rest ≡ y.ids → let t : State = read L x.ids f in let v : State = read L y.ids s.fuel in
      (t.mode ≡ v.mode) × (t.rest ≡ v.rest) × (t.fuel ≡ v.fuel) × (inside x t.out ≡ inside x s.out ++ shifts P (bads s.out) (inside y v.out)) × (records L x t.out [] ≡ records L x s.out [] ++ shift_records P (records L y v.out []))
  damage_shown L f n r q =
      let s : State = items L n (start x.ids f) in
      let v : State = read L y.ids s.fuel in
      let d = damage_stays L x.ids f n r in
      let z : read L x.ids f ≡ h 0 s.out s.begun d.0.before v = d.1 ∙ ap (λ (l : List ℕ). h 0 s.out s.begun d.0.before (read L l s.fuel)) q in
      let i = read_tidy L y.ids s.fuel in
      (ap (λ (u : State). u.mode) z, ap (λ (u : State). u.rest) z, ap (λ (u : State). u.fuel) z ∙ add-zero v.fuel, ap (λ (u : State). inside x u.out) z ∙ inside_later v.out s.out i.0 i.1, ap (λ (u : State). records L x u.out []) z ∙ records_later L v.out s.out i.0)
