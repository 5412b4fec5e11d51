-- A desk that is not refused, cut between two rows: the rows behind the cut are a file of their own, which no refusal of 1 to 6 meets.
use Prim.Native.Nat.{ℕ, zero, suc, ◌+◌, ◌-◌, ◌≤◌, ◌<◌, min, max}
use mathlib.Core.Path.{◌≡◌, refl, ap, ap₂, sym, ◌∙◌, subst}
use mathlib.Core.List.{List, [], ◌∷◌, ◌++◌}
use mathlib.Core.Bool.{Bool, true, false, ◌&&◌, ◌||◌, not}
use lib.Dec.{eqb, ltb, T, eqb→eq, eqb_refl, ltb→lt, lt→ltb, nltb→le}
use lib.ListN.{length, get_or, take, drop, take-append-drop, length-take, length-drop, length-map}
use native.Mathlib.Omega.{arith}
use Rattle.definition.specs.Run.{State}
use Rattle.definition.specs.Render.{Source}
use Rattle.definition.specs.Answer.{Desk, tile, any, no_id, words, grounds, first_of, refusal, source_of}
use Rattle.definition.specs.Remaining.{back_by, rows_before, place, remaining}
use Rattle.definition.proofs.Every.{and_left, and_right, never, both}
use Rattle.definition.proofs.Shown.{put_off, later, Before}

-- rows n on
tile_drop : (n q z : ℕ) (ss es : List ℕ) → T (tile q z ss es) → n ≤ length es → T (tile (get_or (q ∷ es) n 0) z (drop n ss) (drop n es))
tile_drop zero q z ss es t l = t
tile_drop (suc n) q z ss [] t l = absurd (omega (arith, l))
tile_drop (suc n) q z [] (e ∷ es) t l = absurd t
tile_drop (suc n) q z (s ∷ ss) (e ∷ es) t l = tile_drop n e z ss es (and_right (eqb s q && ltb s e) (tile e z ss es) t) (omega (arith, l))

-- counted from p on
tile_back : (p q z : ℕ) (ss es : List ℕ) → T (tile (p + q) z ss es) → T (tile q (z - p) (back_by p ss) (back_by p es)) × (put_off p (back_by p es) ≡ es) × (p ≤ z)
tile_back p q z [] [] t = let e = eqb→eq (p + q) z t in (subst (λ (i : ℕ). T (eqb q i)) (omega (arith, e)) (eqb_refl q), refl, omega (arith, e))
tile_back p q z [] (e ∷ es) t = absurd t
tile_back p q z (s ∷ ss) [] t = absurd t
tile_back p q z (s ∷ ss) (e ∷ es) t =
    let u = and_left (eqb s (p + q) && ltb s e) (tile e z ss es) t in
    let a : s ≡ p + q = eqb→eq s (p + q) (and_left (eqb s (p + q)) (ltb s e) u) in
    let l : s < e = ltb→lt s e (and_right (eqb s (p + q)) (ltb s e) u) in
    let k : e ≡ p + (e - p) = omega (arith, a, l) in
    let w = tile_back p (e - p) z ss es (subst (λ (i : ℕ). T (tile i z ss es)) k (and_right (eqb s (p + q) && ltb s e) (tile e z ss es) t)) in
    let here : T (eqb (s - p) q) = subst (λ (i : ℕ). T (eqb i q)) (omega (arith, a)) (eqb_refl q) in
    (both (eqb (s - p) q && ltb (s - p) (e - p)) (tile (e - p) (z - p) (back_by p ss) (back_by p es)) (both (eqb (s - p) q) (ltb (s - p) (e - p)) here (lt→ltb (s - p) (e - p) (omega (arith, a, l)))) w.0, ap₂ (λ (i : ℕ) (l : List ℕ). i ∷ l) (sym k) w.1, w.2)

-- where the rows before the cut end
last_end : (n q : ℕ) (es : List ℕ) → n ≤ length es → get_or (q ∷ take n es) (length (take n es)) 0 ≡ get_or (q ∷ es) n 0
last_end zero q es l = refl
last_end (suc n) q [] l = absurd (omega (arith, l))
last_end (suc n) q (e ∷ es) l = last_end n e es (omega (arith, l))

-- a desk's rows, from those that are not refused
pub record Rows (d : Desk) : Type 0 where
  pub short : (length d.bytes ≤ 1048576) × (length d.ids ≤ 65536)
  pub starts_level : length d.ids ≡ length d.starts
  pub ends_level : length d.ids ≡ length d.ends
  pub ids_known : any no_id d.ids ≡ false
  pub tiled : T (tile 0 (length d.bytes) d.starts d.ends)

-- none of the grounds applies
abbrev Clear : List (Bool × ℕ) → Type 0
Clear [] = Unit
Clear (c ∷ cs) = (c.0 ≡ false) × Clear cs

abbrev numbered : List (Bool × ℕ) → Bool
numbered [] = true
numbered (c ∷ cs) = ltb 0 c.1 && numbered cs

first_clear : (cs : List (Bool × ℕ)) → T (numbered cs) → first_of cs ≡ 0 → Clear cs
first_clear [] t e = tt
first_clear (c ∷ cs) t e = go c.0 (first_clear cs (and_right (ltb 0 c.1) (numbered cs) t)) e
  where
    go : (b : Bool) → (first_of cs ≡ 0 → Clear cs) → ◌≡◌ {A = ℕ} (elim b [ true ↦ c.1 | false ↦ first_of cs ]) 0 → (b ≡ false) × Clear cs
    go true H e = absurd (omega (arith, e, ltb→lt 0 c.1 (and_left (ltb 0 c.1) (numbered cs) t)))
    go false H e = (refl, H e)

clear_first : (cs : List (Bool × ℕ)) → Clear cs → first_of cs ≡ 0
clear_first [] k = refl
clear_first (c ∷ cs) k = ap (λ (b : Bool). elim b as (λ _. ℕ) [ true ↦ c.1 | false ↦ first_of cs ]) k.0 ∙ clear_first cs k.1

neither : (a b : Bool) → (a || b) ≡ false → (a ≡ false) × (b ≡ false)
neither true b e = never cc
neither false b e = (refl, e)

none_of : (a b : Bool) → a ≡ false → b ≡ false → (a || b) ≡ false
none_of true b x y = x
none_of false b x y = y

not_false : (b : Bool) → not b ≡ false → T b
not_false true e = tt
not_false false e = never cc

false_not : (b : Bool) → T b → not b ≡ false
false_not true t = refl
false_not false t = absurd t

not_less : (m n : ℕ) → ltb m n ≡ false → n ≤ m
not_less m n e = nltb→le m n (subst (λ (b : Bool). T (not b)) (sym e) tt)

at_most : (m n : ℕ) → n ≤ m → ltb m n ≡ false
at_most m n l = go (ltb m n) (ltb→lt m n)
  where
    go : (b : Bool) → (T b → m < n) → b ≡ false
    go true h = absurd (omega (arith, l, h tt))
    go false h = refl

pub rows_of : (d : Desk) → refusal d ≡ 0 → Rows d × (words (length d.ids) ≤ length d.scratch)
rows_of d e =
    let n : ℕ = length d.ids in
    let z : ℕ = length d.bytes in
    let m : ℕ = max n (max (length d.starts) (length d.ends)) in
    let k : Clear (grounds d) = first_clear (grounds d) tt e in
    let s = neither (ltb 1048576 z) (ltb 65536 m) k.0 in
    let l = not_false (eqb n (length d.starts) && eqb n (length d.ends)) k.1.0 in (
      record {
        short = (not_less 1048576 z s.0, omega (arith, not_less 65536 m s.1));
        starts_level = eqb→eq n (length d.starts) (and_left (eqb n (length d.starts)) (eqb n (length d.ends)) l);
        ends_level = eqb→eq n (length d.ends) (and_right (eqb n (length d.starts)) (eqb n (length d.ends)) l);
        ids_known = k.1.1.0;
        tiled = not_false (tile 0 z d.starts d.ends) k.1.1.1.0;
      },
      not_less (length d.scratch) (words n) k.1.1.1.1.0,
    )

pub no_refusal : (d : Desk) → Rows d → words (length d.ids) ≤ length d.scratch → refusal d ≡ 0
no_refusal d r w =
    let n : ℕ = length d.ids in
    let z : ℕ = length d.bytes in
    let m : ℕ = max n (max (length d.starts) (length d.ends)) in
    clear_first (grounds d) (
      none_of (ltb 1048576 z) (ltb 65536 m) (at_most 1048576 z r.short.0) (at_most 65536 m (omega (arith, r.short.1, r.starts_level, r.ends_level))),
      (
        false_not (eqb n (length d.starts) && eqb n (length d.ends)) (level n (length d.starts) (length d.ends) r.starts_level r.ends_level),
        (r.ids_known, (false_not (tile 0 z d.starts d.ends) r.tiled, (at_most (length d.scratch) (words n) w, tt))),
      ),
    )
  where
    level : (n a b : ℕ) → n ≡ a → n ≡ b → T (eqb n a && eqb n b)
    level n a b x y = both (eqb n a) (eqb n b) (subst (λ (i : ℕ). T (eqb n i)) x (eqb_refl n)) (subst (λ (i : ℕ). T (eqb n i)) y (eqb_refl n))

any_drop : (p : ℕ → Bool) (n : ℕ) (l : List ℕ) → any p l ≡ false → any p (drop n l) ≡ false
any_drop p zero l e = e
any_drop p (suc n) [] e = refl
any_drop p (suc n) (i ∷ l) e = any_drop p n l (later (p i) e)
  where
    later : (b : Bool) → elim b [ true ↦ true | false ↦ any p l ] ≡ false → any p l ≡ false
    later true e = never cc
    later false e = e

least : (i j : ℕ) → i ≤ j → min i j ≡ i
least i j l = omega (arith, l)

-- the desk cut where the reader stands at s
module _ (d : Desk) (s : State) (sc ev er : List ℕ) (r : Rows d) where
  abbrev n : ℕ
  n = rows_before d s

  abbrev p : ℕ
  p = place d s

  abbrev rest : Desk
  rest = remaining d s sc ev er

  few : n ≤ length d.ends
  few = omega (arith, r.ends_level)

  cut_tiled : T (tile 0 (length d.bytes - p) rest.starts rest.ends) × (put_off p rest.ends ≡ drop n d.ends) × (p ≤ length d.bytes)
  cut_tiled = tile_back p 0 (length d.bytes) (drop n d.starts) (drop n d.ends) (subst (λ (i : ℕ). T (tile i (length d.bytes) (drop n d.starts) (drop n d.ends))) (plus p) (tile_drop n 0 (length d.bytes) d.starts d.ends r.tiled few))
    where
      plus : (p : ℕ) → p ≡ p + 0
      plus p = omega arith

  pub rest_bytes : length rest.bytes ≡ length d.bytes - p
  rest_bytes = length-drop p d.bytes

  -- THE THEOREM: the remaining rows tile the remaining bytes, and no refusal of 1 to 4 meets them
  pub rest_rows : Rows rest
  rest_rows = record {
    short = (omega (arith, r.short.0, rest_bytes), omega (arith, r.short.1, length-drop n d.ids));
    starts_level = length-drop n d.ids ∙ ap (λ (i : ℕ). i - n) r.starts_level ∙ sym (length-map (drop n d.starts) (λ i. i - p) ∙ length-drop n d.starts);
    ends_level = length-drop n d.ids ∙ ap (λ (i : ℕ). i - n) r.ends_level ∙ sym (length-map (drop n d.ends) (λ i. i - p) ∙ length-drop n d.ends);
    ids_known = any_drop no_id n d.ids r.ids_known;
    tiled = subst (λ (i : ℕ). T (tile 0 i rest.starts rest.ends)) (sym rest_bytes) cut_tiled.0;
  }

  abbrev pub front : List ℕ
  front = take p d.bytes

  pub front_length : length front ≡ p
  front_length = length-take p d.bytes ∙ least p (length d.bytes) cut_tiled.2

  pub cut_before : Before front (take n d.ids) (take n d.ends)
  cut_before = record { level = length-take n d.ids ∙ ap (min n) r.ends_level ∙ sym (length-take n d.ends); last = last_end n 0 d.ends few ∙ sym front_length }

  pub cut_whole : source_of d ≡ later front (take n d.ids) (take n d.ends) (source_of rest)
  cut_whole = source (sym (take-append-drop p d.bytes)) (sym (take-append-drop n d.ids)) (sym (take-append-drop n d.ends) ∙ ap (λ (l : List ℕ). take n d.ends ++ l) (sym cut_tiled.1 ∙ ap (λ (i : ℕ). put_off i rest.ends) (sym front_length)))
    where
      source : {i i' j j' k k' : List ℕ} → i ≡ i' → j ≡ j' → k ≡ k' → ◌≡◌ {A = Source} (record { bytes = i; ids = j; ends = k }) (record { bytes = i'; ids = j'; ends = k' })
      source {i' = i'} {j = j} {j' = j'} {k = k} p q r = ap (λ (i : List ℕ). let z : Source = record { bytes = i; ids = j; ends = k } in z) p ∙ ap (λ (j : List ℕ). let z : Source = record { bytes = i'; ids = j; ends = k } in z) q ∙ ap (λ (k : List ℕ). let z : Source = record { bytes = i'; ids = j'; ends = k } in z) r
