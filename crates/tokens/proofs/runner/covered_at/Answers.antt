-- `covered_at` meets its contract.
use mathlib.Core.Path.{◌≡◌, sym, ap, subst, ◌∙◌}
use native.Mathlib.Omega.{arith}
use Rattle.tokens.specs.Glyph.{glyph}
use Rattle.tokens.specs.Modes.{mode}
use Rattle.tokens.specs.States.{Hop, quiet, glyph_of, covers}
use lib.Dec.{T}
use Rattle.tokens.proofs.Walks.{tail}
use Rattle.tokens.proofs.Runs as r
use Rattle.tokens.proofs.runner.covered_at.Goals as goal

pub returns-then-d-ne0 : goal.returns-then-d-ne0
returns-then-d-ne0 c = λ e.
    let m = mode c.args.start in
    let x = c.args.s.now in
    let st = c.args.start.state in
    let g = glyph_of c.glyph_at-g.result in
    let h = glyph_of c.glyph_at-h.result in
    let a₁ : c.quietly-a.result ≡ quiet c.args.old.state g.0 = c.quietly-a.ensures.0 in
    let b₁ : c.quietly-b.result ≡ quiet st g.0 = c.quietly-b.ensures.0 in
    let a₂ : c.quietly-c.result ≡ quiet (quiet c.args.old.state g.0) h.0 = c.quietly-c.ensures.0 ∙ ap (λ y. quiet y h.0) a₁ in
    let b₂ : c.quietly-d.result ≡ quiet (quiet st g.0) h.0 = c.quietly-d.ensures.0 ∙ ap (λ y. quiet y h.0) b₁ in
    let t : T (covers c.quietly-c.result c.quietly-d.result) = subst T (sym (sym c.covering.ensures ∙ e)) tt in
    let t₁ = subst (λ y. T (covers y c.quietly-d.result)) a₂ t in
    let t₂ = subst (λ y. T (covers (quiet (quiet c.args.old.state g.0) h.0) y)) b₂ t₁ in
    r.failed_hop m st x
    (r.two_deep m x c.args.old.state st g h c.requires.small c.args.start.low (omega (arith, c.if-s-eq0.false))
    c.glyph_at-g.ensures.0
    c.if-s-g.false (c.glyph_at-h.ensures.0 ∙ ap (glyph m) (tail x g.1))
    (λ y. c.if-b-eq0.false (b₁ ∙ y)) (λ y. c.if-d-ne0.true (b₂ ∙ y)) t₂
    (subst (λ k. Hop m c.args.old.state k x) c.if-old-ne0.false c.requires.hop))
