-- A character is at least one byte and ends within the bytes, and its class is one of the expressions' classes.
use Prim.Native.Nat.{ℕ, zero, suc, ◌+◌, ◌*◌, ◌≤◌, ◌<◌}
use mathlib.Core.Path.{◌≡◌, refl, sym, ◌∙◌}
use mathlib.Core.List.{List}
use mathlib.Core.Bool.{Bool, true, false, cond, ◌&&◌}
use Rattle.std.specs.Prelude.{Option, None, Some}
use native.Mathlib.Omega.{arith}
use native.Mathlib.Decide.{dec_lt}
use lib.Dec.{ltb, eqb}
use lib.ListN.{length, get_or, get_or-eq_default}
use borrow.Author.Tests.{eq-eqb, ne_eqb, eqb-false}
use Rattle.tokens.specs.Classes.{class, normal, hex, jump, LEAD}
use Rattle.tokens.specs.Glyph.{two, three, four, glyph}
use Rattle.tokens.specs.Decoded.{follower, plain, high, decoded, spread, told}
use Rattle.tokens.specs.Table.{class_table}
use Rattle.tokens.proofs.Agrees.{agrees, glyph_by}
use Rattle.tokens.proofs.Chars.{parts}
use Rattle.tokens.proofs.Ranges.{below, wide_small}
use Rattle.tokens.proofs.Tests.{class_at}

pub by_test : {A : Type 0} (P : A → Type 0) (x y : A) (t : Bool) → (t ≡ true → P x) → (t ≡ false → P y) → P (cond t x y)
by_test P x y true f g = f refl
by_test P x y false f g = g refl

-- a follower stands within the bytes
there : (s : List ℕ) (k : ℕ) → follower (get_or s k 0) ≡ true → k < length s
there s k e = go (dec_lt k (length s))
  where
    zero_follows : follower 0 ≡ true → ◌≡◌ {A = ℕ} 0 1
    zero_follows f = cc

    go : Dec (k < length s) → k < length s
    go (yes h) = h
    go (no n) =
        let z : get_or s k 0 ≡ 0 = get_or-eq_default s 0 (omega (arith, n)) in
        let c = zero_follows (rw z at e) in
        absurd (omega arith)

module _ (s : List ℕ) (some : 0 < length s) where
  abbrev Fine : ℕ × ℕ → Type 0
  Fine u = (0 < u.1) × (u.1 ≤ length s)

  -- of a character that was decoded
  abbrev FineIf : Option (ℕ × ℕ) → Type 0
  FineIf None = Unit
  FineIf (Some u) = Fine u

  decoded_fine : FineIf (decoded (get_or s 0 0) (get_or s 1 0) (get_or s 2 0) (get_or s 3 0))
  unfolding decoded
  decoded_fine =
      let a = get_or s 0 0 in
      let b = get_or s 1 0 in
      let c = get_or s 2 0 in
      let d = get_or s 3 0 in
      by_test FineIf _ _ (ltb a 0xE0)
      (λ e. by_test FineIf (Some (two a b, 2)) None (follower b) (λ f. (omega arith, there s 1 f)) (λ f. tt))
      (λ e. by_test FineIf _ _ (ltb a 0xF0)
      (λ e'. by_test FineIf (Some (three a b c, 3)) None (follower b && follower c && plain (three a b c))
      (λ f. (omega arith, there s 2 (parts (follower b) (follower c) (parts (follower b && follower c) (plain (three a b c)) f).0).1))
      (λ f. tt))
      (λ e'. by_test FineIf (Some (four a b c d, 4)) None (follower b && follower c && follower d && high (four a b c d))
      (λ f. (omega arith, there s 3 (parts (follower b && follower c) (follower d) (parts (follower b && follower c && follower d) (high (four a b c d)) f).0).1))
      (λ f. tt)))

  spread_fine : (u : Option (ℕ × ℕ)) → FineIf u → Fine (spread u)
  spread_fine None h = (omega arith, some)
  spread_fine (Some u) h = h

  told_fine : (m : ℕ) → Fine (told m s)
  unfolding told
  told_fine m = by_test Fine _ (class m (get_or s 0 0), 1) (eqb (class m (get_or s 0 0)) LEAD) (λ e. spread_fine _ decoded_fine) (λ e. (omega arith, some))

  glyph_fine : (m : ℕ) → Fine (glyph m s)
  glyph_fine m = glyph_by Fine m s (omega arith, some) (told_fine m)

  pub glyph_some : (m : ℕ) → 0 < (glyph m s).1
  glyph_some m = (glyph_fine m).0

  pub glyph_within : (m : ℕ) → (glyph m s).1 ≤ length s
  glyph_within m = (glyph_fine m).1

class_small : (m b : ℕ) → class m b < 46
unfolding class normal hex jump
class_small zero b = below 46 normal b (omega arith) tt
class_small (suc zero) b = below 46 hex b (omega arith) tt
class_small (suc (suc m)) b = below 46 jump b (omega arith) tt

Low : ℕ × ℕ → Type 0
Low u = u.0 < 45

told_low : (m : ℕ) (s : List ℕ) → Low (told m s)
unfolding Low told
told_low m s =
    let k = class m (get_or s 0 0) in
    by_test Low _ (k, 1) (eqb k LEAD)
    (λ e. spread_low (decoded (get_or s 0 0) (get_or s 1 0) (get_or s 2 0) (get_or s 3 0)))
    (λ e. let n : k ≡ 45 → ⊥ = eqb-false k 45 e in omega (arith, class_small m (get_or s 0 0), n))
  where
    spread_low : (u : Option (ℕ × ℕ)) → Low (spread u)
    spread_low None = omega arith
    spread_low (Some u) = wide_small u.0

pub glyph_class : (m : ℕ) (s : List ℕ) → (glyph m s).0 < 45
unfolding Low
glyph_class m s = glyph_by Low m s (omega arith) (told_low m s)

module _ (m : ℕ) (s : List ℕ) (hm : m < 3) (hb : get_or s 0 0 < 256) where
  abbrev entry : ℕ
  entry = get_or class_table (m * 256 + get_or s 0 0) 0

  pub is_lead : entry ≡ 45 → glyph m s ≡ spread (decoded (get_or s 0 0) (get_or s 1 0) (get_or s 2 0) (get_or s 3 0))
  unfolding told
  is_lead e = sym (agrees s hb m) ∙ rw (eq-eqb (class m (get_or s 0 0)) 45 (sym (class_at m (get_or s 0 0) hm hb).0 ∙ e))

  pub no_lead : (entry ≡ 45 → ⊥) → ◌≡◌ {A = ℕ × ℕ} (entry, 1) (glyph m s)
  unfolding told
  no_lead e = rw ((class_at m (get_or s 0 0) hm hb).0, ne_eqb (class m (get_or s 0 0)) 45 (λ f. e ((class_at m (get_or s 0 0) hm hb).0 ∙ f))) refl ∙ agrees s hb m

pub same_bytes : {a a' b b' c c' d d' : ℕ} → a ≡ a' → b ≡ b' → c ≡ c' → d ≡ d' → decoded a b c d ≡ decoded a' b' c' d'
same_bytes e f g h = cc
