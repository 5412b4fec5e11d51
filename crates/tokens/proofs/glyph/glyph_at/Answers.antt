-- `glyph_at` meets its contract.
use Prim.Native.Nat.{ℕ, ◌≤◌, ◌<◌}
use mathlib.Core.Path.{◌≡◌, sym, ap, ◌∙◌}
use mathlib.Core.List.{List}
use native.Mathlib.Omega.{arith}
use lib.ListN.{length, get_or}
use Rattle.tokens.specs.Glyph.{glyph}
use Rattle.tokens.specs.Decoded.{spread}
use Rattle.tokens.specs.Modes.{number}
use Rattle.tokens.specs.States.{glyph_of}
use Rattle.tokens.specs.declared.glyph.Glyph.{Glyph}
use Rattle.tokens.proofs.Tests.{lead_at, mode_low}
use Rattle.tokens.proofs.Glyphs.{glyph_some, glyph_within, glyph_class, is_lead, no_lead, same_bytes}
use Rattle.tokens.proofs.glyph.glyph_at.Goals as goal
use Rattle.tokens.proofs.glyph.glyph_at.Goals.{After-decode}

-- the rest follows from the definition
all : (m : ℕ) (s : List ℕ) (r : Glyph) → 0 < length s → glyph_of r ≡ glyph m s →
    (glyph_of r ≡ glyph m s) × (r.class < 45) × (0 < r.width) × (r.width ≤ length s)
all m s r some e =
    let w : r.width ≡ (glyph m s).1 = ap (λ u. u.1) e in
    let k : r.class ≡ (glyph m s).0 = ap (λ u. u.0) e in
    (e, omega (arith, glyph_class m s), omega (arith, glyph_some s some m), omega (arith, glyph_within s some m))

-- what was decoded is the character
spread_out : (c : After-decode) → spread c.decode.result ≡ glyph (number c.args.mode) c.args.s.now
spread_out c =
    ap spread (c.decode.ensures ∙ same_bytes c.byte.ensures.0 c.byte-2.ensures.0 c.byte-3.ensures.0 c.byte-4.ensures.0)
    ∙ sym (is_lead (number c.args.mode) c.args.s.now (mode_low c.args.mode) (omega (arith, c.type_inv.s 0)) (sym c.class_of-class.ensures ∙ c.if-class-ne-LEAD.false))

pub returns-then-class-ne-LEAD : goal.returns-then-class-ne-LEAD
returns-then-class-ne-LEAD c =
    let m = number c.args.mode in
    let e = c.class_of-class.ensures in
    all m c.args.s.now _ c.requires (ap (λ x. (x, 1)) e ∙ no_lead m c.args.s.now (mode_low c.args.mode) (omega (arith, c.type_inv.s 0)) (λ f. c.if-class-ne-LEAD.true (e ∙ f)))

pub decode-requires : goal.decode-requires
decode-requires c =
    let r = lead_at (number c.args.mode) (get_or c.args.s.now 0 0) (mode_low c.args.mode) (omega (arith, c.type_inv.s 0)) (sym c.class_of-class.ensures ∙ c.if-class-ne-LEAD.false) in
    (omega (arith, r, c.byte.ensures.0), omega (arith, r, c.byte.ensures.0))

pub returns-in_default : goal.returns-in_default
returns-in_default c = all (number c.args.mode) c.args.s.now _ c.requires (ap spread (sym c.in_default.is) ∙ spread_out (goal.at.returns-in_default c).After-decode)

pub returns : goal.returns
returns c =
    all (number c.args.mode) c.args.s.now _ c.requires
    (ap (λ x. (x, c.in-Some.width)) c.wide_class_of.ensures ∙ ap spread (sym c.in-Some.is) ∙ spread_out (goal.at.returns c).After-decode)
