-- What `cut` answers, case by case.
use Prim.Native.Nat.{ℕ, ◌≤◌, ◌<◌}
use mathlib.Core.Path.{◌≡◌, refl, sym, ap, ◌∙◌}
use mathlib.Core.List.{List, map}
use mathlib.Core.Bool.{Bool, true, false, ◌||◌}
use lib.Dec.{leb, ltb}
use lib.ListN.{length}
use native.Mathlib.Omega.{arith}
use borrow.Author.Tests.{lt-ltb, le-ltb, ltb-true, ltb-false, leb-true, leb-false}
use Rattle.std.specs.Prelude.{min}
use Rattle.cutter.specs.Rows.{After, cutting, put, refused, cut}

abbrev pub given : List ℕ → List ℕ → List ℕ → List ℕ → After
given s ids starts ends =
    let rs = cutting s in
    record {
      number = 0;
      count = length rs;
      ids = put (map (λ r. r.0) rs) ids;
      starts = put (map (λ r. r.1) rs) starts;
      ends = put (map (λ r. r.2) rs) ends;
    }

module _ (s ids starts ends : List ℕ) where
  pub too_long : 1048576 < length s → refused 1 ids starts ends ≡ cut s ids starts ends
  unfolding cut
  too_long h = rw (lt-ltb 1048576 (length s) h)

  module _ (fits : length s ≤ 1048576) where
    -- one of the lists is too short
    pub no_room : (ltb (length ids) (length (cutting s)) || ltb (length starts) (length (cutting s)) || ltb (length ends) (length (cutting s))) ≡ true
        → refused 13 ids starts ends ≡ cut s ids starts ends
    unfolding cut
    no_room h = rw (le-ltb 1048576 (length s) fits, h)

    -- none is
    pub answers : (ltb (length ids) (length (cutting s)) || ltb (length starts) (length (cutting s)) || ltb (length ends) (length (cutting s))) ≡ false
        → given s ids starts ends ≡ cut s ids starts ends
    unfolding cut
    answers h = rw (le-ltb 1048576 (length s) fits, h)

-- rows that were written as the definition has them
pub same_after : (n : ℕ) {ids starts ends : List ℕ} (a : After) → a.number ≡ 0 → n ≡ a.count → ids ≡ a.ids → starts ≡ a.starts → ends ≡ a.ends
    → record { number = 0; count = n; ids = ids; starts = starts; ends = ends } ≡ a
same_after n a z c i s e = λ j. record { number = sym z j; count = c j; ids = i j; starts = s j; ends = e j }

-- the least of three numbers is below n just where one of them is
lesser : (a b n : ℕ) → ltb (min a b) n ≡ (ltb a n || ltb b n)
lesser a b n = go (ltb a n) refl (ltb b n) refl
  where
    go : (x : Bool) → ltb a n ≡ x → (y : Bool) → ltb b n ≡ y → ltb (min a b) n ≡ (x || y)
    go true e y f = let g : a < n = ltb-true a n e in lt-ltb (min a b) n (omega arith)
    go false e true f = let g : b < n = ltb-true b n f in lt-ltb (min a b) n (omega arith)
    go false e false f = let g : n ≤ a = ltb-false a n e in let h : n ≤ b = ltb-false b n f in le-ltb (min a b) n (omega arith)

-- the least of three, and whether n rows fit into it
module _ (a b c r n : ℕ) (f : r ≡ min (min a b) c) (fit : Bool) (e : fit ≡ leb n r) where
  least : (ltb a n || ltb b n || ltb c n) ≡ ltb r n
  least = sym (ap (λ x. ltb x n) f ∙ lesser (min a b) c n ∙ ap (λ x. x || ltb c n) (lesser a b n))

  pub too_small : fit ≡ false → (ltb a n || ltb b n || ltb c n) ≡ true
  too_small z = least ∙ lt-ltb r n (leb-false n r (sym e ∙ z))

  pub enough : fit ≡ true → (ltb a n || ltb b n || ltb c n) ≡ false
  enough z = least ∙ le-ltb r n (leb-true n r (sym e ∙ z))

-- rows that fit the least room fit each list
module _ (a b c n : ℕ) where
  pub each : (ltb a n || ltb b n || ltb c n) ≡ false → (n ≤ a) × (n ≤ b) × (n ≤ c)
  each e = go (ltb a n) (ltb b n) (ltb c n) refl refl refl e
    where
      go : (x y z : Bool) → ltb a n ≡ x → ltb b n ≡ y → ltb c n ≡ z → (x || y || z) ≡ false → (n ≤ a) × (n ≤ b) × (n ≤ c)
      go false false false f g h e = (ltb-false a n f, ltb-false b n g, ltb-false c n h)
      go false false true f g h e = let w : ◌≡◌ {A = ℕ} 0 1 = cc in absurd (omega arith)
      go false true z f g h e = let w : ◌≡◌ {A = ℕ} 0 1 = cc in absurd (omega arith)
      go true y z f g h e = let w : ◌≡◌ {A = ℕ} 0 1 = cc in absurd (omega arith)
