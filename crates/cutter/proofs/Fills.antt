-- The rows from a place on, and rows written into what was lent.
use Prim.Native.Nat.{ℕ, zero, suc, ◌+◌, ◌-◌, ◌≤◌, ◌<◌}
use mathlib.Core.Path.{◌≡◌, refl, sym, ap, ap₂, ◌∙◌}
use mathlib.Core.List.{List, [], ◌∷◌, ◌++◌, map, append_assoc}
use native.Mathlib.Omega.{arith}
use native.Mathlib.Numerals.{add-one}
use lib.ListN.{length, get_or, take, drop, set, length-append, length-map, length-take, length-drop, drop_of_length-le}
use lib.Seq.{drop-cons, drop-drop, take-suc, take_all, set_at}
use Rattle.cutter.specs.Rows.{Row, row, rows, cutting, put}
use Rattle.cutter.specs.declared.place.Place.{Place}
use Rattle.cutter.specs.declared.place.Place.TheVariants.{Elsewhere}

abbrev pub Triple : Type 0
Triple = ℕ × ℕ × ℕ

-- bytes of the row taken last are passed over
skipped : (at k : ℕ) (p : Place) (xs : List ℕ) → rows at k p xs ≡ rows at 0 p (drop k xs)
skipped at zero p [] = refl
skipped at zero p (x ∷ xs) = refl
skipped at (suc k) p [] = refl
skipped at (suc k) p (x ∷ xs) = skipped at k p xs

pub taken : (at : ℕ) (p : Place) (x : ℕ) (xs : List ℕ) (r : Row) → r ≡ row p (x ∷ xs) → 0 < r.1
    → rows at 0 p (x ∷ xs) ≡ (r.0, at, at + r.1) ∷ rows (at + r.1) 0 r.2 (drop r.1 (x ∷ xs))
taken at p x xs r e h =
    ap away (sym e)
    ∙ ap (λ l. (r.0, at, at + r.1) ∷ l) (skipped (at + r.1) (r.1 - 1) r.2 xs ∙ ap (rows (at + r.1) 0 r.2) (behind r.1 h))
  where
    away : Row → List Triple
    away r = (r.0, at, at + r.1) ∷ rows (at + r.1) (r.1 - 1) r.2 xs

    behind : (n : ℕ) → 0 < n → drop (n - 1) xs ≡ drop n (x ∷ xs)
    behind zero l = absurd (omega arith)
    behind (suc n) l = let e : suc n - 1 ≡ n = omega arith in ap (λ k. drop k xs) e

pub turn : (s : List ℕ) (at : ℕ) (p : Place) (r : Row) → at < length s → r ≡ row p (drop at s) → 0 < r.1
    → rows at 0 p (drop at s) ≡ (r.0, at, at + r.1) ∷ rows (at + r.1) 0 r.2 (drop (at + r.1) s)
turn s at p r h e l =
    let d : drop at s ≡ get_or s at 0 ∷ drop (suc at) s = drop-cons s at 0 h in
    ap (rows at 0 p) d
    ∙ taken at p (get_or s at 0) (drop (suc at) s) r (e ∙ ap (row p) d) l
    ∙ ap (λ q. (r.0, at, at + r.1) ∷ rows (at + r.1) 0 r.2 q) (ap (drop r.1) (sym d) ∙ drop-drop r.1 at s)

pub over : (s : List ℕ) (at : ℕ) (p : Place) → length s ≤ at → rows at 0 p (drop at s) ≡ []
over s at p h = ap (rows at 0 p) (drop_of_length-le s h)

pub begun : (s : List ℕ) → rows 0 0 Elsewhere (drop 0 s) ≡ cutting s
unfolding cutting
begun s = refl

-- counting
pub one_more : (s : List ℕ) (at n : ℕ) (p : Place) (r : Row) → at < length s → r ≡ row p (drop at s) → 0 < r.1
    → n + length (rows at 0 p (drop at s)) ≡ length (cutting s)
    → n + 1 + length (rows (at + r.1) 0 r.2 (drop (at + r.1) s)) ≡ length (cutting s)
one_more s at n p r h e l c =
    let t : length (rows at 0 p (drop at s)) ≡ suc (length (rows (at + r.1) 0 r.2 (drop (at + r.1) s))) = ap length (turn s at p r h e l) in
    omega arith

pub counted : (s : List ℕ) (at n : ℕ) (p : Place) → length s ≤ at → n + length (rows at 0 p (drop at s)) ≡ length (cutting s) → n ≡ length (cutting s)
counted s at n p h c =
    let t : length (rows at 0 p (drop at s)) ≡ 0 = ap length (over s at p h) in
    omega arith

-- n rows written
abbrev pub wrote : (Triple → ℕ) → List Triple → ℕ → List ℕ → List ℕ
wrote f rs n d = map f (take n rs) ++ drop n d

map_append : (f : Triple → ℕ) (xs ys : List Triple) → map f (xs ++ ys) ≡ map f xs ++ map f ys
map_append f [] ys = refl
map_append f (x ∷ xs) ys = ap (λ l. f x ∷ l) (map_append f xs ys)

module _ (f : Triple → ℕ) (rs : List Triple) (d : List ℕ) (room : length rs ≤ length d) where
  pub wrote_length : (n : ℕ) → n ≤ length rs → length (wrote f rs n d) ≡ length d
  wrote_length n h = simp (length-append, length-map, length-take, length-drop) (omega arith)

  pub wrote_more : (n v : ℕ) (z : Triple) → n < length rs → f (get_or rs n z) ≡ v → set (wrote f rs n d) n v ≡ wrote f rs (n + 1) d
  wrote_more n v z h e =
      let l : length (map f (take n rs)) ≡ n = simp (length-map, length-take) (omega arith) in
      let hd : n < length d = omega arith in
      ap (λ q. set (map f (take n rs) ++ q) n v) (drop-cons d n 0 hd)
      ∙ set_at (map f (take n rs)) (get_or d n 0) (drop (suc n) d) v n l
      ∙ sym (ap₂ (λ q k. q ++ drop k d) (ap (λ k. map f (take k rs)) (add-one n) ∙ ap (map f) (take-suc rs n z h) ∙ map_append f (take n rs) (get_or rs n z ∷ []) ∙ ap (λ x. map f (take n rs) ++ (x ∷ [])) e) (add-one n)
      ∙ append_assoc (map f (take n rs)) (v ∷ []) (drop (suc n) d))

  pub wrote_all : (n : ℕ) → n ≡ length rs → wrote f rs n d ≡ put (map f rs) d
  wrote_all n e =
      ap₂ (λ q k. map f q ++ drop k d) (take_all n rs (omega arith)) (e ∙ sym (length-map rs f))

-- the row at hand is the n-th
pub nth : (rs : List Triple) (n : ℕ) (x : Triple) (xs : List Triple) → n < length rs → drop n rs ≡ x ∷ xs → (get_or rs n (0, 0, 0) ≡ x) × (drop (n + 1) rs ≡ xs)
nth rs n x xs h e =
    let d : get_or rs n (0, 0, 0) ∷ drop (suc n) rs ≡ x ∷ xs = sym (drop-cons rs n (0, 0, 0) h) ∙ e in
    let p : get_or rs n (0, 0, 0) ≡ x = cc in
    let q : drop (suc n) rs ≡ xs = cc in
    (p, ap (λ k. drop k rs) (add-one n) ∙ q)

pub below : (rs : List Triple) (n : ℕ) (x : Triple) (xs : List Triple) → drop n rs ≡ x ∷ xs → n < length rs
below rs n x xs e =
    let l : length (drop n rs) ≡ suc (length xs) = ap length e in
    let m : length (drop n rs) ≡ length rs - n = length-drop n rs in
    omega arith
