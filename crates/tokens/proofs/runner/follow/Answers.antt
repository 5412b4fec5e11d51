-- `follow` meets its contract: from `at` on the state ends no row.
use Prim.Native.Nat.{◌+◌, ◌-◌, ◌≤◌}
use mathlib.Core.Path.{◌≡◌, sym, ap, subst, ◌∙◌}
use native.Mathlib.Omega.{arith}
use lib.ListN.{length, take, drop, length-drop}
use Rattle.tokens.specs.Glyph.{glyph}
use Rattle.tokens.specs.Modes.{number}
use Rattle.tokens.specs.States.{Hop, glyph_of}
use Rattle.tokens.proofs.Walks as w
use Rattle.tokens.proofs.Runs as r
use Rattle.tokens.proofs.runner.follow.Goals as goal
use Rattle.tokens.proofs.runner.follow.Goals.{After-glyph_at-g}

fits : (g : After-glyph_at-g) → let s = g in
    g.loop-at.at + g.glyph_at-g.result.width ≤ length s.args.s.now
fits g =
    let s = g in
    let l = g.loop-at in
    let e : length (take (length s.args.s.now - l.at) (drop l.at s.args.s.now)) ≡ length s.args.s.now - l.at =
    ap length (w.tail s.args.s.now l.at) ∙ length-drop l.at s.args.s.now in
    omega (arith, g.glyph_at-g.ensures.3, g.loop-at-test.true, s.requires.0)

pub returns-then-old-eq0 : goal.returns-then-old-eq0
returns-then-old-eq0 c = record { small = omega arith; within = omega arith; hop = r.hop_zero (number c.args.mode) 0 (drop c.args.len c.args.s.now) }

pub loop-at-init : goal.loop-at-init
loop-at-init c = (c.requires.1.small, c.requires.1.within, r.hop_skip (number c.args.mode) c.args.old.state c.args.old.skip c.args.s.now c.requires.1.hop)

pub loop-at-preserved : goal.loop-at-preserved
loop-at-preserved c = let l = c.loop-at in (c.quietly-state.ensures.1, fits (goal.at.loop-at-preserved c).After-glyph_at-g, subst (λ st. Hop (number c.args.mode) st 0 (drop (l.at + c.glyph_at-g.result.width) c.args.s.now)) (sym c.quietly-state.ensures.0) (r.hop_step (number c.args.mode) c.args.s.now l.at l.state (glyph_of c.glyph_at-g.result) (omega (arith, c.requires.0, c.loop-at-test.true)) l.invariant.0 (c.glyph_at-g.ensures.0 ∙ ap (glyph (number c.args.mode)) (w.tail c.args.s.now l.at)) l.invariant.2))

pub returns : goal.returns
returns c = let l = c.loop-at in record { small = l.invariant.0; within = simp length-drop (omega (arith, l.invariant.1)); hop = r.run_end (number c.args.mode) l.state l.at c.args.len c.args.s.now c.loop-at-test.false l.invariant.2 }
