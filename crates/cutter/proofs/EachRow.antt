-- What is proved of every source's rows besides that they tile it: each is the longest match of its mode or what stands where nothing matches, and has an id.
use Prim.Native.Nat.{ℕ, zero, suc, ◌+◌, ◌-◌, ◌≤◌, ◌<◌}
use mathlib.Core.Path.{◌≡◌, refl, sym, ap, ◌∙◌, subst}
use mathlib.Core.List.{List, [], ◌∷◌}
use mathlib.Core.Bool.{Bool, true, false, cond}
use Rattle.std.specs.Prelude.{None, Some}
use mathlib.Core.Logic.{inl, inr, ⊎_elim}
use native.Mathlib.Omega.{arith}
use lib.Dec.{T, ltb, eqb, ltb→lt}
use lib.ListN.{length, drop, take, length-drop}
use Rattle.kinds.specs.Kinds as k
use Rattle.tokens.specs.Expr.{Expr, Tokens, Match, longest}
use Rattle.tokens.specs.Glyph.{glyph}
use Rattle.tokens.specs.Classes as c
use Rattle.tokens.specs.Tokens as t
use Rattle.tokens.specs.Matches.{Fits, Listed}
use Rattle.cutter.specs.Rows.{Row, same, keywords, sought, keyword, named, strange_by, strange, normal_by, normal_row, hex_by, hex_row, jump_by, jump_row, row, rows, cutting}
use Rattle.cutter.specs.Each.{Longest, Unmatched, Strange, Normal, Hex, Jump, Cuts, Each}
use Rattle.cutter.specs.Tiles.{Ids}
use Rattle.cutter.specs.declared.place.Place.{Place}
use Rattle.cutter.specs.declared.place.Place.TheVariants.{Elsewhere, Named, Equated, InHex, InJump, Unclosed}
use Rattle.tokens.proofs.Equal.{both, left, right}
use Rattle.tokens.proofs.Longest.{longest_fits, none_longer}
use Rattle.cutter.proofs.Tiling.{row_fine}
use Rattle.cutter.proofs.Fills.{taken}

-- what the matcher finds, said without it
module _ (m : ℕ) (ts : Tokens) (s : List ℕ) where
  found_longest : (i n : ℕ) → longest m ts s ≡ Some (i, n) → Longest m ts s i n
  found_longest i n e =
      record {
        fits = longest_fits m ts s i n e;
        most = λ i' n' f.
            let p = none_longer m ts s i' n' f in
            let q : ◌≡◌ {A = Match} (Some (p.0, p.1)) (Some (i, n)) = sym p.2 ∙ e in
            let w : ◌≡◌ {A = ℕ × ℕ} (p.0, p.1) (i, n) = cc in
            let z : p.1 ≡ n = ap (λ u. u.1) w in
            omega (arith, z, p.3);
      }

  found_none : longest m ts s ≡ None → Unmatched m ts s
  found_none e i n f =
      let p = none_longer m ts s i n f in
      let q : ◌≡◌ {A = Match} (Some (p.0, p.1)) None = sym p.2 ∙ e in
      let z : ◌≡◌ {A = ℕ} 0 1 = cc in
      absurd (omega arith)

-- the row at the start of the bytes
module _ (s : List ℕ) where
  strange_said : Strange s (strange s)
  unfolding strange
  strange_said = go (longest 0 t.unknown s) refl
    where
      go : (o : Match) → longest 0 t.unknown s ≡ o → Strange s (strange_by o s)
      go None e = inr (found_none 0 t.unknown s e, refl)
      go (Some x) e = inl (x.0, x.1, found_longest 0 t.unknown s x.0 x.1 e, refl)

  normal_said : (p : Place) → Normal p s (normal_row p s)
  unfolding normal_row
  normal_said p = go (longest 0 t.normal s) refl
    where
      go : (o : Match) → longest 0 t.normal s ≡ o → Normal p s (normal_by o p s)
      go None e = inr (found_none 0 t.normal s e, strange_said)
      go (Some x) e = inl (x.0, x.1, found_longest 0 t.normal s x.0 x.1 e, refl)

  hex_said : Hex s (hex_row s)
  unfolding hex_row
  hex_said = go (longest 1 t.hex s) refl
    where
      go : (o : Match) → longest 1 t.hex s ≡ o → Hex s (hex_by o s)
      go None e = inr (found_none 1 t.hex s e, normal_said Unclosed)
      go (Some x) e = inl (x.0, x.1, found_longest 1 t.hex s x.0 x.1 e, refl)

  jump_said : Jump s (jump_row s)
  unfolding jump_row
  jump_said = go (longest 2 t.jump s) refl
    where
      go : (o : Match) → longest 2 t.jump s ≡ o → Jump s (jump_by o s)
      go None e = inr (found_none 2 t.jump s e, hex_said)
      go (Some x) e = inl (x.0, x.1, found_longest 2 t.jump s x.0 x.1 e, refl)

  pub cuts : (p : Place) → Cuts p s (row p s)
  unfolding row
  cuts Elsewhere = normal_said Elsewhere
  cuts Named = normal_said Named
  cuts Equated = normal_said Equated
  cuts InHex = hex_said
  cuts InJump = jump_said
  cuts Unclosed = normal_said Unclosed

each_from : (n at : ℕ) (p : Place) (xs : List ℕ) → length xs ≤ n → Each p at xs (rows at 0 p xs)
each_from zero at p [] h = refl
each_from zero at p (x ∷ xs) h = absurd (omega arith)
each_from (suc n) at p [] h = refl
each_from (suc n) at p (x ∷ xs) h =
    let r = row p (x ∷ xs) in
    let f = row_fine (x ∷ xs) (omega arith) p in
    let l : at + r.1 - at ≡ r.1 = omega arith in
    let d : length (drop r.1 (x ∷ xs)) ≡ length (x ∷ xs) - r.1 = length-drop r.1 (x ∷ xs) in
    let rest : Each r.2 (at + r.1) (drop r.1 (x ∷ xs)) (rows (at + r.1) 0 r.2 (drop r.1 (x ∷ xs))) =
    each_from n (at + r.1) r.2 (drop r.1 (x ∷ xs)) (omega (arith, f.0, d)) in
    subst (Each p at (x ∷ xs)) (sym (taken at p x xs r refl f.0)) (
      r.2,
      subst (λ w. Cuts p (x ∷ xs) (r.0, w, r.2)) (sym l) (cuts (x ∷ xs) p),
      refl,
      subst (λ w. Each r.2 (at + r.1) (drop w (x ∷ xs)) (rows (at + r.1) 0 r.2 (drop r.1 (x ∷ xs)))) (sym l) rest,
    )

-- THE THEOREM: every row of a source is the longest match of its mode, or stands where nothing matches
pub each : (s : List ℕ) → Each Elsewhere 0 s (cutting s)
unfolding cutting
each s = each_from (length s) 0 Elsewhere s (omega arith)

-- every kind of a mode's expressions is an id
abbrev below : Tokens → Bool
below [] = true
below (x ∷ xs) = both (ltb x.0 82) (below xs)

listed_below : (ts : Tokens) (i : ℕ) (r : Expr) → T (below ts) → Listed i r ts → i < 82
listed_below [] i r t l = absurd l
listed_below (x ∷ xs) i r t l =
    ⊎_elim (λ e. subst (λ j. j < 82) (sym e.0) (ltb→lt x.0 82 (left (ltb x.0 82) (below xs) t))) (listed_below xs i r (right (ltb x.0 82) (below xs) t)) l

normal_below : T (below t.normal)
unfolding t.normal
normal_below = tt

hex_below : T (below t.hex)
unfolding t.hex
hex_below = tt

jump_below : T (below t.jump)
unfolding t.jump
jump_below = tt

fits_below : (m : ℕ) (ts : Tokens) (s : List ℕ) (i n : ℕ) → T (below ts) → Fits m ts s i n → i < 82
fits_below m ts s i n t f = listed_below ts i f.expr t f.listed

-- so is every keyword's id
sought_below : (ws : List (List ℕ)) (id : ℕ) (text : List ℕ) → id + length ws ≤ 82 → sought id ws text < 82
sought_below [] id text h = omega arith
sought_below (w ∷ ws) id text h = go (same w text) (sought_below ws (suc id) text (omega arith))
  where
    go : (b : Bool) → sought (suc id) ws text < 82 → cond b id (sought (suc id) ws text) < 82
    go true rest = omega arith
    go false rest = rest

keyword_below : (text : List ℕ) → keyword text < 82
unfolding keyword keywords
keyword_below text = sought_below keywords k.ALL_KW text (omega arith)

named_below : (i : ℕ) (text : List ℕ) → i < 82 → named i text < 82
named_below i text h = go (eqb i k.IDENT)
  where
    go : (b : Bool) → cond b (keyword text) i < 82
    go true = keyword_below text
    go false = h

module _ (s : List ℕ) (r : Row) where
  strange_id : Strange s r → r.0 < 82
  strange_id = ⊎_elim (λ x. subst (λ y. y.0 < 82) (sym x.3) (omega arith)) (λ x. subst (λ y. y.0 < 82) (sym x.1) (go (eqb (glyph 0 s).0 c.INVALID)))
    where
      go : (b : Bool) → cond b k.INVALID_UTF8 k.UNKNOWN < 82
      go true = omega arith
      go false = omega arith

  normal_id : (p : Place) → Normal p s r → r.0 < 82
  normal_id p =
      ⊎_elim (λ x. subst (λ y. y.0 < 82) (sym x.3) (named_below x.0 (take x.1 s) (fits_below 0 t.normal s x.0 x.1 normal_below x.2.fits)))
      (λ x. strange_id x.1)

  hex_id : Hex s r → r.0 < 82
  hex_id = ⊎_elim (λ x. subst (λ y. y.0 < 82) (sym x.3) (fits_below 1 t.hex s x.0 x.1 hex_below x.2.fits)) (λ x. normal_id Unclosed x.1)

  jump_id : Jump s r → r.0 < 82
  jump_id = ⊎_elim (λ x. subst (λ y. y.0 < 82) (sym x.3) (fits_below 2 t.jump s x.0 x.1 jump_below x.2.fits)) (λ x. hex_id x.1)

  cut_id : (p : Place) → Cuts p s r → r.0 < 82
  cut_id Elsewhere = normal_id Elsewhere
  cut_id Named = normal_id Named
  cut_id Equated = normal_id Equated
  cut_id InHex = hex_id
  cut_id InJump = jump_id
  cut_id Unclosed = normal_id Unclosed

ids_of : (rs : List (ℕ × ℕ × ℕ)) (p : Place) (at : ℕ) (s : List ℕ) → Each p at s rs → Ids rs
ids_of [] p at s e = tt
ids_of (r ∷ rs) p at s e = (cut_id s (r.0, r.2 - r.1, e.0) p e.1, ids_of rs e.0 r.2 (drop (r.2 - r.1) s) e.3)

-- THE THEOREM: every row's id is an id
pub ids : (s : List ℕ) → Ids (cutting s)
ids s = ids_of (cutting s) Elsewhere 0 s (each s)
