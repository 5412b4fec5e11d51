-- What a match makes of a row.
use Prim.Native.Nat.{ℕ, ◌≤◌, ◌<◌}
use mathlib.Core.Path.{◌≡◌, refl, sym, ap, ◌∙◌, subst}
use mathlib.Core.List.{List}
use mathlib.Core.Bool.{true, false, cond}
use native.Mathlib.Omega.{arith}
use Rattle.tokens.specs.States.{label, Inside}
use Rattle.tokens.proofs.Tests.{starts_hex}
use Rattle.cutter.specs.Made.{found, missed, mode_at, Known, Lost, Made}
use Rattle.cutter.specs.declared.memo.Misses.{Misses}
use Rattle.cutter.specs.declared.row.Row as d
use Rattle.std.specs.Prelude.{None, Some}
use lib.ListN.{length, take}
use borrow.Author.Tests.{eq-eqb, ne_eqb}
use Rattle.kinds.specs.Kinds as k
use Rattle.tokens.specs.Glyph.{glyph}
use Rattle.tokens.specs.Expr.{Tokens, Match, longest}
use Rattle.tokens.specs.Tokens as t
use Rattle.cutter.specs.Rows.{Row, keyword, next, strange_by, strange, normal_by, normal_row, hex_by, hex_row, jump_by, jump_row, row}
use Rattle.cutter.specs.declared.place.Place.{Place}
use Rattle.cutter.specs.declared.place.Place.TheVariants.{Elsewhere, Named, Equated, InHex, InJump, Unclosed}

module _ (s : List ℕ) where
  pub strange_some : (id len : ℕ) → Some (id, len) ≡ longest 0 t.unknown s → ◌≡◌ {A = Row} (3, len, Elsewhere) (strange s)
  unfolding strange
  strange_some id len e = ap (λ o. strange_by o s) e

  pub strange_invalid : None ≡ longest 0 t.unknown s → (glyph 0 s).0 ≡ 1 → ◌≡◌ {A = Row} (4, 1, Elsewhere) (strange s)
  unfolding strange
  strange_invalid e f = sym (ap (λ b. (cond b k.INVALID_UTF8 k.UNKNOWN, 1, Elsewhere)) (eq-eqb (glyph 0 s).0 1 f)) ∙ ap (λ o. strange_by o s) e

  pub strange_white : None ≡ longest 0 t.unknown s → ((glyph 0 s).0 ≡ 1 → ⊥) → ◌≡◌ {A = Row} (3, 1, Elsewhere) (strange s)
  unfolding strange
  strange_white e f = sym (ap (λ b. (cond b k.INVALID_UTF8 k.UNKNOWN, 1, Elsewhere)) (ne_eqb (glyph 0 s).0 1 f)) ∙ ap (λ o. strange_by o s) e

  pub normal_none : (p : Place) → None ≡ longest 0 t.normal s → strange s ≡ normal_row p s
  unfolding normal_row
  normal_none p e = ap (λ o. normal_by o p s) e

  pub normal_word : (p : Place) (id len : ℕ) → Some (id, len) ≡ longest 0 t.normal s → id ≡ 74
      → ◌≡◌ {A = Row} (keyword (take len s), len, next p id) (normal_row p s)
  unfolding normal_row
  normal_word p id len e f = sym (ap (λ b. (cond b (keyword (take len s)) id, len, next p id)) (eq-eqb id 74 f)) ∙ ap (λ o. normal_by o p s) e

  pub normal_other : (p : Place) (id len : ℕ) → Some (id, len) ≡ longest 0 t.normal s → (id ≡ 74 → ⊥)
      → ◌≡◌ {A = Row} (id, len, next p id) (normal_row p s)
  unfolding normal_row
  normal_other p id len e f = sym (ap (λ b. (cond b (keyword (take len s)) id, len, next p id)) (ne_eqb id 74 f)) ∙ ap (λ o. normal_by o p s) e

  pub hex_none : None ≡ longest 1 t.hex s → normal_row Unclosed s ≡ hex_row s
  unfolding hex_row
  hex_none e = ap (λ o. hex_by o s) e

  pub hex_bracket : (id len : ℕ) → Some (id, len) ≡ longest 1 t.hex s → id ≡ 70 → ◌≡◌ {A = Row} (id, len, InJump) (hex_row s)
  unfolding hex_row
  hex_bracket id len e f = sym (ap (λ b. (id, len, cond b InJump InHex)) (eq-eqb id 70 f)) ∙ ap (λ o. hex_by o s) e

  pub hex_other : (id len : ℕ) → Some (id, len) ≡ longest 1 t.hex s → (id ≡ 70 → ⊥) → ◌≡◌ {A = Row} (id, len, InHex) (hex_row s)
  unfolding hex_row
  hex_other id len e f = sym (ap (λ b. (id, len, cond b InJump InHex)) (ne_eqb id 70 f)) ∙ ap (λ o. hex_by o s) e

  pub jump_none : None ≡ longest 2 t.jump s → hex_row s ≡ jump_row s
  unfolding jump_row
  jump_none e = ap (λ o. jump_by o s) e

  pub jump_some : (id len : ℕ) → Some (id, len) ≡ longest 2 t.jump s → ◌≡◌ {A = Row} (id, len, InJump) (jump_row s)
  unfolding jump_row
  jump_some id len e = ap (λ o. jump_by o s) e

-- what a row says of both modes
pub known_lost : {s : List ℕ} → Lost s → Known (record { normal = true; hex = false }) s
known_lost e = record { normal = λ _. e; hex = λ f. let z : ◌≡◌ {A = ℕ} 0 1 = cc in absurd (omega arith) }

pub known_none : (s : List ℕ) → Known (record { normal = false; hex = false }) s
known_none s = record { normal = λ f. let z : ◌≡◌ {A = ℕ} 0 1 = cc in absurd (omega arith); hex = λ f. let z : ◌≡◌ {A = ℕ} 0 1 = cc in absurd (omega arith) }

pub known_astray : {s : List ℕ} (x : Misses) → Known x s → longest 1 (label 2) s ≡ None → Known (record { normal = x.normal; hex = true }) s
known_astray x k e = record { normal = k.normal; hex = λ _. e }

-- a match of what a start stands for is one of its mode's expressions
pub of_start : (m : ℕ) (s : List ℕ) {r r' : Match} {ts ts' : Tokens} → ts ≡ ts' → r ≡ longest m ts s → r ≡ r' → r' ≡ longest m ts' s
of_start m s l e f = sym f ∙ e ∙ ap (λ x. longest m x s) l

-- a match lies within the bytes
pub in_bytes : {r : Match} (n id len : ℕ) → Inside r n → r ≡ Some (id, len) → (0 < len) × (len ≤ n)
in_bytes n id len i f = subst (λ x. Inside x n) f i

-- a row that a mode matched, and one that None did
pub by_found : {x : d.Row} {want : Row} {s : List ℕ} (id len : ℕ) (p : Place) → x ≡ found id len p → (id, len, p) ≡ want → 0 < len → len ≤ length s → Made x want s
by_found {want = want} {s = s} id len p e f g h = subst (λ y. Made y want s) (sym e) (record { is = f; some = g; within = h; known = known_none s })

pub by_missed : {x : d.Row} {want : Row} {s : List ℕ} (id len : ℕ) → x ≡ missed id len → (id, len, Elsewhere) ≡ want → 0 < len → len ≤ length s → Lost s → Made x want s
by_missed {want = want} {s = s} id len e f g h k = subst (λ y. Made y want s) (sym e) (record { is = f; some = g; within = h; known = known_lost k })

-- the same bytes, by another name for the row
pub renamed : {x : d.Row} {a b : Row} {s : List ℕ} → Made x a s → a ≡ b → Made x b s
renamed {x = x} {s = s} m e = subst (λ w. Made x w s) e m

-- a row that the mode below hex made, where hex mode matched nothing
pub made_below : {x y : d.Row} {s : List ℕ} → Made x (normal_row Unclosed s) s → None ≡ longest 1 t.hex s
    → y ≡ record { id = x.id; len = x.len; place = x.place; misses = record { normal = x.misses.normal; hex = true } } → Made y (hex_row s) s
made_below {s = s} m e f =
    subst (λ z. Made z (hex_row s) s) (sym f)
    (record { is = m.is ∙ hex_none s e; some = m.some; within = m.within; known = known_astray _ m.known (ap (λ ts. longest 1 ts s) starts_hex ∙ sym e) })

-- the mode of a place
module _ (s : List ℕ) where
  pub at_hex : (p : Place) → mode_at p ≡ 1 → hex_row s ≡ row p s
  unfolding row
  at_hex Elsewhere e = absurd (omega arith)
  at_hex Named e = absurd (omega arith)
  at_hex Equated e = absurd (omega arith)
  at_hex InHex e = refl
  at_hex InJump e = absurd (omega arith)
  at_hex Unclosed e = absurd (omega arith)

  pub at_jump : (p : Place) → mode_at p ≡ 2 → jump_row s ≡ row p s
  unfolding row
  at_jump Elsewhere e = absurd (omega arith)
  at_jump Named e = absurd (omega arith)
  at_jump Equated e = absurd (omega arith)
  at_jump InHex e = absurd (omega arith)
  at_jump InJump e = refl
  at_jump Unclosed e = absurd (omega arith)

  pub at_normal : (p : Place) → mode_at p ≡ 0 → normal_row p s ≡ row p s
  unfolding row
  at_normal Elsewhere e = refl
  at_normal Named e = refl
  at_normal Equated e = refl
  at_normal InHex e = absurd (omega arith)
  at_normal InJump e = absurd (omega arith)
  at_normal Unclosed e = refl
