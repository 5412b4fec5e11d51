-- The code tells a character by its number, the definition by the table's ranges: the two agree.
use Prim.Native.Nat.{ℕ, zero, suc, ◌≤◌, ◌<◌}
use mathlib.Core.Path.{◌≡◌, refl, sym, ap, ◌∙◌, subst}
use mathlib.Core.Logic.{◌⊎◌, inl, inr, ⊎_elim}
use mathlib.Core.List.{List, [], ◌∷◌}
use mathlib.Core.Bool.{Bool, true, false, cond, not, ◌&&◌}
use mathlib.Core.Option.{none, some}
use Rattle.std.specs.Prelude.{None, Some}
use native.Mathlib.Omega.{arith}
use native.Mathlib.Decide.{dec_lt}
use lib.Dec.{T, leb, ltb, eqb, eqb→eq}
use lib.ListN.{length, get_or}
use borrow.Author.Tests.{leb-true, leb-false, le-leb, lt-leb, lt-ltb, le-ltb, not-true}
use Rattle.utf8.specs.Utf8.{Range, within, followers, characters, begun}
use Rattle.utf8.proofs.Laws.{steady, alike}
use Rattle.tokens.specs.Classes.{class, class_in, normal, hex, jump, INVALID, LEAD}
use Rattle.tokens.specs.Glyph.{meets, counted, two, three, four, shown, glyph}
use Rattle.tokens.specs.Decoded.{follower, plain, high, decoded, spread, told}
use Rattle.tokens.proofs.Equal.{both, left, right}
use Rattle.tokens.proofs.Chars.{parts, plain_mid, plain_high}

same : (p q : Bool) → (p ≡ true → q ≡ true) → (q ≡ true → p ≡ true) → p ≡ q
same true q f g = sym (f refl)
same false true f g = g refl
same false false f g = refl

join : {p q : Bool} → p ≡ true → q ≡ true → p && q ≡ true
join e f = rw (e, f)

-- a byte lies in a range
abbrev In : Range → ℕ → Type 0
In r b = (r.0 ≤ b) × (b ≤ r.1)

inside : (r : Range) (b : ℕ) → within r b ≡ true → In r b
inside r b e = let p = parts (leb r.0 b) (leb b r.1) e in (leb-true r.0 b p.0, leb-true b r.1 p.1)

insides : (r : Range) (b : ℕ) → In r b → within r b ≡ true
insides r b h = join (le-leb r.0 b h.0) (le-leb b r.1 h.1)

-- a follower
abbrev F : ℕ → Type 0
F b = In (0x80, 0xBF) b

-- shortest form and no surrogate, by the number
abbrev Plain : ℕ → Type 0
Plain n = (0x800 ≤ n) × ((n < 0xD800) ⊎ (0xDFFF < n))

is_plain : (n : ℕ) → plain n ≡ true → Plain n
is_plain n e =
    let p = parts (leb 0x800 n) (not (leb 0xD800 n && leb n 0xDFFF)) e in
    (leb-true 0x800 n p.0, go (leb 0xD800 n) (leb n 0xDFFF) refl refl (not-true _ p.1))
  where
    go : (x y : Bool) → leb 0xD800 n ≡ x → leb n 0xDFFF ≡ y → x && y ≡ false → (n < 0xD800) ⊎ (0xDFFF < n)
    go true true e f g = let z : ◌≡◌ {A = ℕ} 0 1 = cc in absurd (omega arith)
    go true false e f g = inr (leb-false n 0xDFFF f)
    go false y e f g = inl (leb-false 0xD800 n e)

plains : (n : ℕ) → Plain n → plain n ≡ true
plains n h = ⊎_elim (λ l. plain_mid n h.0 l) (λ g. plain_high n g) h.1

-- the tests of the code and of the table, by the row: what is due behind the first byte, whose first range is r
module _ (s : List ℕ) where
  abbrev a : ℕ
  a = get_or s 0 0

  abbrev b : ℕ
  b = get_or s 1 0

  abbrev c : ℕ
  c = get_or s 2 0

  abbrev d : ℕ
  d = get_or s 3 0

  two_row : follower b ≡ meets (followers 1) s 1
  two_row = same (follower b) (meets (followers 1) s 1) (λ e. join e refl) (λ e. (parts (follower b) true e).0)

  three_row : (r : Range) → (F b → F c → Plain (three a b c) → In r b) → (In r b → F c → F b × Plain (three a b c))
      → follower b && follower c && plain (three a b c) ≡ meets (r ∷ followers 1) s 1
  three_row r f g = same _ _ to from
    where
      to : follower b && follower c && plain (three a b c) ≡ true → meets (r ∷ followers 1) s 1 ≡ true
      to e =
          let p = parts (follower b && follower c) (plain (three a b c)) e in
          let q = parts (follower b) (follower c) p.0 in
          join (insides r b (f (inside (0x80, 0xBF) b q.0) (inside (0x80, 0xBF) c q.1) (is_plain _ p.1))) (join q.1 refl)

      from : meets (r ∷ followers 1) s 1 ≡ true → follower b && follower c && plain (three a b c) ≡ true
      from e =
          let p = parts (within r b) (follower c && true) e in
          let q = parts (follower c) true p.1 in
          let h = g (inside r b p.0) (inside (0x80, 0xBF) c q.0) in
          join (join (insides (0x80, 0xBF) b h.0) q.0) (plains _ h.1)

  abbrev High : ℕ → Type 0
  High n = In (0x10000, 0x10FFFF) n

  four_row : (r : Range) → (F b → F c → F d → High (four a b c d) → In r b) → (In r b → F c → F d → F b × High (four a b c d))
      → follower b && follower c && follower d && high (four a b c d) ≡ meets (r ∷ followers 2) s 1
  four_row r f g = same _ _ to from
    where
      to : follower b && follower c && follower d && high (four a b c d) ≡ true → meets (r ∷ followers 2) s 1 ≡ true
      to e =
          let p = parts (follower b && follower c && follower d) (high (four a b c d)) e in
          let q = parts (follower b && follower c) (follower d) p.0 in
          let t = parts (follower b) (follower c) q.0 in
          join
          (insides r b
          (f (inside (0x80, 0xBF) b t.0) (inside (0x80, 0xBF) c t.1) (inside (0x80, 0xBF) d q.1) (inside (0x10000, 0x10FFFF) _ p.1)))
          (join t.1 (join q.1 refl))

      from : meets (r ∷ followers 2) s 1 ≡ true → follower b && follower c && follower d && high (four a b c d) ≡ true
      from e =
          let p = parts (within r b) (follower c && (follower d && true)) e in
          let q = parts (follower c) (follower d && true) p.1 in
          let t = parts (follower d) true q.1 in
          let h = g (inside r b p.0) (inside (0x80, 0xBF) c q.0) (inside (0x80, 0xBF) d t.0) in
          join (join (join (insides (0x80, 0xBF) b h.0) q.0) t.0) (insides (0x10000, 0x10FFFF) _ h.1)

  -- the first byte lies from lo up to hi, hi left out, where the table begins no other row: what is due behind lo is due behind it
  begins : (lo hi : ℕ) (due : List Range) → lo ≤ a → a < hi → T (steady lo hi characters) → begun characters lo ≡ some due → (m : ℕ)
      → shown m (cond (meets due s 1) (suc (length due)) 0) s ≡ glyph m s
  unfolding glyph
  begins lo hi due l g t e m = ap (λ o. shown m (counted o s) s) (sym e ∙ alike l g characters t)

  abbrev Same : Type 0
  Same = (m : ℕ) → spread (decoded a b c d) ≡ glyph m s

  of_two : 0xC2 ≤ a → a < 0xE0 → Same
  unfolding decoded
  of_two l g m = rw (lt-ltb a 0xE0 g) (go (follower b) ∙ ap (λ t. shown m (cond t 2 0) s) two_row ∙ begins 0xC2 0xE0 (followers 1) l g tt refl m)
    where
      go : (t : Bool) → spread (cond t (Some (two a b, 2)) None) ≡ shown m (cond t 2 0) s
      go true = refl
      go false = refl

  of_three : (lo hi : ℕ) (r : Range) → 0xE0 ≤ lo → hi ≤ 0xF0 → T (steady lo hi characters) → begun characters lo ≡ some (r ∷ followers 1)
      → (lo ≤ a → a < hi → (F b → F c → Plain (three a b c) → In r b) × (In r b → F c → F b × Plain (three a b c)))
      → lo ≤ a → a < hi → Same
  unfolding decoded
  of_three lo hi r p q t e h l g m =
      rw (le-ltb a 0xE0 (omega arith), lt-ltb a 0xF0 (omega arith))
      (go (follower b && follower c && plain (three a b c))
      ∙ ap (λ t. shown m (cond t 3 0) s) (three_row r (h l g).0 (h l g).1)
      ∙ begins lo hi (r ∷ followers 1) l g t e m)
    where
      go : (t : Bool) → spread (cond t (Some (three a b c, 3)) None) ≡ shown m (cond t 3 0) s
      go true = refl
      go false = refl

  of_four : (lo hi : ℕ) (r : Range) → 0xF0 ≤ lo → T (steady lo hi characters) → begun characters lo ≡ some (r ∷ followers 2)
      → (lo ≤ a → a < hi → (F b → F c → F d → High (four a b c d) → In r b) × (In r b → F c → F d → F b × High (four a b c d)))
      → lo ≤ a → a < hi → Same
  unfolding decoded
  of_four lo hi r p t e h l g m =
      rw (le-ltb a 0xE0 (omega arith), le-ltb a 0xF0 (omega arith))
      (go (follower b && follower c && follower d && high (four a b c d))
      ∙ ap (λ t. shown m (cond t 4 0) s) (four_row r (h l g).0 (h l g).1)
      ∙ begins lo hi (r ∷ followers 2) l g t e m)
    where
      go : (t : Bool) → spread (cond t (Some (four a b c d, 4)) None) ≡ shown m (cond t 4 0) s
      go true = refl
      go false = refl

  -- either side of k
  at : (k : ℕ) → (a < k → Same) → (k ≤ a → Same) → Same
  at k f g = go (dec_lt a k)
    where
      go : Dec (a < k) → Same
      go (yes h) = f h
      go (no n) = g (omega (arith, n))

  row_E0 : 0xE0 ≤ a → a < 0xE1 → Same
  row_E0 =
      of_three 0xE0 0xE1 (0xA0, 0xBF) (omega arith) (omega arith) tt refl
      (λ l g. (λ x y z. (omega arith, omega arith), λ x y. ((omega arith, omega arith), (omega arith, inl (omega arith)))))

  row_E1 : 0xE1 ≤ a → a < 0xED → Same
  row_E1 =
      of_three 0xE1 0xED (0x80, 0xBF) (omega arith) (omega arith) tt refl
      (λ l g. (λ x y z. x, λ x y. (x, (omega arith, inl (omega arith)))))

  row_ED : 0xED ≤ a → a < 0xEE → Same
  row_ED =
      of_three 0xED 0xEE (0x80, 0x9F) (omega arith) (omega arith) tt refl
      (λ l g. (λ x y z. (omega arith, ⊎_elim (λ p. omega arith) (λ p. omega arith) z.1), λ x y. ((omega arith, omega arith), (omega arith, inl (omega arith)))))

  row_EE : 0xEE ≤ a → a < 0xF0 → Same
  row_EE =
      of_three 0xEE 0xF0 (0x80, 0xBF) (omega arith) (omega arith) tt refl
      (λ l g. (λ x y z. x, λ x y. (x, (omega arith, inr (omega arith)))))

  row_F0 : 0xF0 ≤ a → a < 0xF1 → Same
  row_F0 =
      of_four 0xF0 0xF1 (0x90, 0xBF) (omega arith) tt refl
      (λ l g. (λ x y z w. (omega arith, omega arith), λ x y z. ((omega arith, omega arith), (omega arith, omega arith))))

  row_F1 : 0xF1 ≤ a → a < 0xF4 → Same
  row_F1 = of_four 0xF1 0xF4 (0x80, 0xBF) (omega arith) tt refl (λ l g. (λ x y z w. x, λ x y z. (x, (omega arith, omega arith))))

  row_F4 : 0xF4 ≤ a → a < 0xF5 → Same
  row_F4 =
      of_four 0xF4 0xF5 (0x80, 0x8F) (omega arith) tt refl
      (λ l g. (λ x y z w. (omega arith, omega arith), λ x y z. ((omega arith, omega arith), (omega arith, omega arith))))

  lead_same : 0xC2 ≤ a → a < 0xF5 → Same
  lead_same l g =
      at 0xE0 (of_two l)
      (λ l. at 0xE1 (row_E0 l)
      (λ l. at 0xED (row_E1 l)
      (λ l. at 0xEE (row_ED l)
      (λ l. at 0xF0 (row_EE l)
      (λ l. at 0xF1 (row_F0 l)
      (λ l. at 0xF4 (row_F1 l)
      (λ l. row_F4 l g)))))))

  -- no character begins with a byte from lo up to hi
  no_first : (lo hi : ℕ) → T (steady lo hi characters) → begun characters lo ≡ none → lo ≤ a → a < hi → (m : ℕ)
      → ◌≡◌ {A = ℕ × ℕ} (INVALID, 1) (glyph m s)
  unfolding glyph
  no_first lo hi t e l g m = ap (λ o. shown m (counted o s) s) (sym e ∙ alike l g characters t)

-- the test passes for every number below n
abbrev up_to : (ℕ → Bool) → ℕ → Bool
up_to f zero = true
up_to f (suc n) = both (f n) (up_to f n)

up_to_lem : (f : ℕ → Bool) (n : ℕ) → T (up_to f n) → (b : ℕ) → b < n → T (f b)
up_to_lem f zero t b h = absurd (omega arith)
up_to_lem f (suc n) t b h = go (up_to_lem f n (right (f n) (up_to f n) t) b) (dec_lt b n)
  where
    go : (b < n → T (f b)) → Dec (b < n) → T (f b)
    go rest (yes l) = rest l
    go rest (no g) = let e : n ≡ b = omega (arith, g) in rw e at (left (f n) (up_to f n) t)

-- a byte's class: of ASCII a class of its own, of C2 to F4 LEAD, else INVALID
abbrev pub classed : ℕ → ℕ → Bool
classed k b = cond (ltb b 0x80) (both (not (eqb k LEAD)) (not (eqb k INVALID))) (cond (leb 0xC2 b && ltb b 0xF5) (eqb k LEAD) (eqb k INVALID))

-- by one computed test over all bytes, in each mode
pub first_class : (m b : ℕ) → b < 256 → T (classed (class m b) b)
unfolding class normal hex jump
first_class zero b h = up_to_lem (λ b. classed (class_in normal b) b) 256 tt b h
first_class (suc zero) b h = up_to_lem (λ b. classed (class_in hex b) b) 256 tt b h
first_class (suc (suc m)) b h = up_to_lem (λ b. classed (class_in jump b) b) 256 tt b h

pub untrue : (t : Bool) → T (not t) → t ≡ false
untrue true x = absurd x
untrue false x = refl

module _ (s : List ℕ) (byte : get_or s 0 0 < 256) (m : ℕ) where
  abbrev b₀ : ℕ
  b₀ = get_or s 0 0

  abbrev k : ℕ
  k = class m b₀

  ascii : b₀ < 0x80 → told m s ≡ glyph m s
  unfolding told
  ascii g =
      let t = rw (lt-ltb b₀ 0x80 g) at (first_class m b₀ byte) in
      rw (untrue (eqb k LEAD) (left (not (eqb k LEAD)) (not (eqb k INVALID)) t)) (begins s 0 0x80 [] (omega arith) g tt refl m)

  lead : 0xC2 ≤ b₀ → b₀ < 0xF5 → told m s ≡ glyph m s
  unfolding told
  lead l g =
      let t = rw (le-ltb b₀ 0x80 (omega arith), le-leb 0xC2 b₀ l, lt-ltb b₀ 0xF5 g) at (first_class m b₀ byte) in
      rw (eqb→eq k LEAD t) (lead_same s l g m)

  neither : 0x80 ≤ b₀ → leb 0xC2 b₀ && ltb b₀ 0xF5 ≡ false → ◌≡◌ {A = ℕ × ℕ} (INVALID, 1) (glyph m s) → told m s ≡ glyph m s
  unfolding told
  neither l e f = let t = rw (le-ltb b₀ 0x80 l, e) at (first_class m b₀ byte) in rw (eqb→eq k INVALID t) f

  pub agrees : told m s ≡ glyph m s
  agrees = go (dec_lt b₀ 0x80) (dec_lt b₀ 0xC2) (dec_lt b₀ 0xF5)
    where
      go : Dec (b₀ < 0x80) → Dec (b₀ < 0xC2) → Dec (b₀ < 0xF5) → told m s ≡ glyph m s
      go (yes g) y z = ascii g
      go (no x) (yes g) z = neither (omega (arith, x)) (rw (lt-leb 0xC2 b₀ g)) (no_first s 0x80 0xC2 tt refl (omega (arith, x)) g m)
      go (no x) (no y) (yes g) = lead (omega (arith, y)) g
      go (no x) (no y) (no z) =
          neither (omega (arith, x)) (rw (le-leb 0xC2 b₀ (omega (arith, y)), le-ltb b₀ 0xF5 (omega (arith, z)))) (no_first s 0xF5 256 tt refl (omega (arith, z)) byte m)

-- a number past every byte begins nothing
past_bytes : (m : ℕ) (s : List ℕ) → 256 ≤ get_or s 0 0 → ◌≡◌ {A = ℕ × ℕ} (INVALID, 1) (glyph m s)
past_bytes m s h = no_first s 0xF5 (suc (get_or s 0 0)) tt refl (omega arith) (omega arith) m

-- what holds of a byte by itself and of what the code tells holds of every character
pub glyph_by : (P : ℕ × ℕ → Type 0) (m : ℕ) (s : List ℕ) → P (INVALID, 1) → P (told m s) → P (glyph m s)
glyph_by P m s p q = go (dec_lt (get_or s 0 0) 256)
  where
    go : Dec (get_or s 0 0 < 256) → P (glyph m s)
    go (yes h) = subst P (agrees s h m) q
    go (no n) = subst P (past_bytes m s (omega (arith, n))) p
