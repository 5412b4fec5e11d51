-- An item by the kind of its first row, read by the limits. Assumes nothing.
use Prim.Native.Nat.{ℕ}
use mathlib.Core.Path.{◌≡◌, sym, ap, ap₂, subst}
use mathlib.Core.Bool.{Bool, true, false}
use borrow.Author.Tests.{eq-eqb, ne_eqb}
use lib.Dec.{eqb}
use Rattle.kinds.specs.Kinds as k
use Rattle.definition.specs.Prog.{Prog}
use Rattle.definition.specs.Prog as G
use Rattle.definition.specs.Grammar.{rule_decl, item_of}
use Rattle.definition.specs.Run as P
use Rattle.definition.specs.Render.{Source}
use Rattle.notes.specs.Whole.{Whole}
use Rattle.notes.specs.Means.{Bufs}
use Rattle.notes.specs.Did.{Did}
use Rattle.parts.specs.Reads.{reads}
use Rattle.grammar.specs.Parts.{reach}

abbrev by_first : Bool → Bool → Prog
by_first m n = elim m [ true ↦ G.node G.IMPORT_STMT | false ↦ elim n [ true ↦ G.node G.INCLUDE_STMT | false ↦ rule_decl ] ]

module _ (a : ℕ) where
  pub starts_import : a ≡ k.IMPORT_KW → G.node G.IMPORT_STMT ≡ item_of a
  starts_import e = sym (ap (λ (m : Bool). by_first m (eqb a k.INCLUDE_KW)) (eq-eqb a k.IMPORT_KW e))

  pub starts_include : (a ≡ k.IMPORT_KW → ⊥) → a ≡ k.INCLUDE_KW → G.node G.INCLUDE_STMT ≡ item_of a
  starts_include n e = sym (ap₂ by_first (ne_eqb a k.IMPORT_KW n) (eq-eqb a k.INCLUDE_KW e))

  pub starts_rule : (a ≡ k.IMPORT_KW → ⊥) → (a ≡ k.INCLUDE_KW → ⊥) → rule_decl ≡ item_of a
  starts_rule m n = sym (ap₂ by_first (ne_eqb a k.IMPORT_KW m) (ne_eqb a k.INCLUDE_KW n))

pub is_item : (L : P.Limits) {E : Bool} {depth : ℕ} {p q : Prog} → p ≡ q → {x : Source} {s r : Whole} {b b' : Bufs} → reach L ≡ (depth, E) → Did (reads E depth false p) x s r b b' → Did (P.read_item L q) x s r b b'
unfolding P.read_item
is_item L {E} {depth} {p} {q} i {x} {s} {r} {b} {b'} e y =
    subst (λ (o : Prog). Did (reads L.entrypoint L.depth false o) x s r b b') i
    (subst (λ (w : ℕ × Bool). Did (reads w.1 w.0 false p) x s r b b') (sym e) y)
